-- Passwords of eight bytes, in the order in which they arrive, and the UID, "8 bytes, lowest first".
use Rattle.std.specs.Prelude.{Bool, List, ℕ, eqb, get_or, replicate}
use Rattle.parts.specs.Pick.{pick}
use Rattle.parts.specs.Bytes.{bytes_at, agree}
use Rattle.keys.specs.declared.Password.{Password}
use Rattle.keys.specs.declared.Passwords.{Passwords}
use Rattle.keys.specs.declared.Uid.{Uid}

-- the eight bytes that stand at a place
abbrev pub password_at : List ℕ → ℕ → Password
password_at s at = record { bytes = bytes_at s at 8 }

abbrev pub uid_at : List ℕ → ℕ → Uid
uid_at s at = record { bytes = bytes_at s at 8 }

abbrev pub same_password : Password → Password → Bool
same_password one other = agree 8 one.bytes other.bytes

abbrev pub same_uid : Uid → Uid → Bool
same_uid u other = agree 8 u.bytes other.bytes

-- byte i of the UID
abbrev pub uid_byte : Uid → ℕ → ℕ
uid_byte u i = get_or u.bytes i 0

-- radio password n, 0 to 3
unfoldable pub radio_password : Passwords → ℕ → Password
radio_password p n =
    pick (eqb n 0) p.rf0
    (pick (eqb n 1) p.rf1
    (pick (eqb n 2) p.rf2
    p.rf3))

-- radio password n replaced, and the I2C password
unfoldable pub with_radio_password : ℕ → Password → Passwords → Passwords
with_radio_password n x p =
    pick (eqb n 0) (record { rf0 = x; rf1 = p.rf1; rf2 = p.rf2; rf3 = p.rf3; i2c = p.i2c })
    (pick (eqb n 1) (record { rf0 = p.rf0; rf1 = x; rf2 = p.rf2; rf3 = p.rf3; i2c = p.i2c })
    (pick (eqb n 2) (record { rf0 = p.rf0; rf1 = p.rf1; rf2 = x; rf3 = p.rf3; i2c = p.i2c })
    (pick (eqb n 3) (record { rf0 = p.rf0; rf1 = p.rf1; rf2 = p.rf2; rf3 = x; i2c = p.i2c })
    p)))

abbrev pub with_i2c_password : Password → Passwords → Passwords
with_i2c_password x p = record { rf0 = p.rf0; rf1 = p.rf1; rf2 = p.rf2; rf3 = p.rf3; i2c = x }

-- "Fresh tag: all .. passwords 0"
abbrev pub zero_password : Password
zero_password = record { bytes = replicate 8 0 }

unfoldable pub fresh_passwords : Passwords
fresh_passwords = record { rf0 = zero_password; rf1 = zero_password; rf2 = zero_password; rf3 = zero_password; i2c = zero_password }
