-- A write leg in system space.
use Rattle.std.specs.Prelude.{◌&&◌, List, ℕ, ltb, eqb, length, get_or}
use Rattle.parts.specs.Pick.{pick}
use Rattle.tag.specs.declared.WireSide.{WireSide}
use Rattle.keys.specs.Keys.{password_at, same_password, with_i2c_password}
use Rattle.tag.specs.Parts.{with_registers, with_passwords, with_wire_core}
use Rattle.written_registers.specs.Written.{written_all}
use Rattle.effect.specs.Effect.{LegResult, leg_result, side_session, programming}

-- "Code 09h presents: both halves equal to the I2C password open the session, else it closes."
-- "Code 07h writes: .. unequal halves write nothing and start no programming." "Fewer than 17: nothing."
-- (No other code comes here: it is NoAcked, and a spoiled leg has no effect.)
unfoldable pub password_written : WireSide → List ℕ → List ℕ → LegResult
password_written w m bytes =
    let first = password_at bytes 0 in
    let second = password_at bytes 9 in
    pick (ltb (length bytes) 17) (leg_result w m)
    (pick (eqb (get_or bytes 8 0) 0x09) (leg_result (side_session (same_password w.core.passwords.i2c first && same_password w.core.passwords.i2c second) w) m)
    (pick (same_password first second) (leg_result (programming (with_wire_core (with_passwords (with_i2c_password first w.core.passwords) w.core) w)) m)
    (leg_result w m)))

-- system space: the password leg, or registers
unfoldable pub system_written : WireSide → List ℕ → ℕ → List ℕ → LegResult
system_written w m first bytes =
    pick (eqb first 0x0900) (password_written w m bytes)
    (leg_result (programming (with_wire_core (with_registers (written_all w.core.registers first bytes) w.core) w)) m)
