-- "Hex is upper case, read and printed."
use Rattle.std.specs.Prelude.{Bool, true, ◌&&◌, ◌||◌, List, [], ◌∷◌, ℕ, ◌+◌, ◌-◌, ◌*◌, ◌/◌, ◌%◌, leb, ltb}
use Rattle.parts.specs.Pick.{pick}

-- 0 to 9, A to F
unfoldable pub is_hex : ℕ → Bool
is_hex x = (leb 0x30 x && leb x 0x39) || (leb 0x41 x && leb x 0x46)

unfoldable pub all_hex : List ℕ → Bool
all_hex [] = true
all_hex (x ∷ s) = is_hex x && all_hex s

-- the value of a digit; any other character counts as 0
unfoldable pub hex_value : ℕ → ℕ
hex_value x =
    pick (leb 0x30 x && leb x 0x39) (x - 0x30)
    (pick (leb 0x41 x && leb x 0x46) (x - 0x37)
    0)

-- the byte of two digits, high first
abbrev pub hex_byte : ℕ → ℕ → ℕ
hex_byte high low = hex_value high * 16 + hex_value low

-- the bytes of a list of digits, two a byte
unfoldable pub hex_bytes : List ℕ → List ℕ
hex_bytes [] = []
hex_bytes (x ∷ []) = []
hex_bytes (x ∷ y ∷ s) = hex_byte x y ∷ hex_bytes s

-- the digit of a number below 16
unfoldable pub hex_digit : ℕ → ℕ
hex_digit n = pick (ltb n 10) (0x30 + n) (0x37 + n)

-- the digits of a list of bytes
unfoldable pub hex_text : List ℕ → List ℕ
hex_text [] = []
hex_text (x ∷ s) = hex_digit (x / 16) ∷ hex_digit (x % 16) ∷ hex_text s
