-- The CRC of a frame. 01, Frames: "CRC low byte first (ISO/IEC 13239: 8408h, start FFFFh, complemented ..)". One bit at a time.
use Rattle.std.specs.Prelude.{◌≡◌, Bool, ◌&&◌, List, [], ◌∷◌, ◌++◌, ℕ, zero, suc, ◌+◌, ◌/◌, ◌%◌, ◌-◌, ◌<◌, leb, eqb, length, take, get_or}
use Rattle.std.specs.Int.Bits.{bit_xor}
use Rattle.std.proofs.lemmas.List.Edits.{sets}
use Rattle.parts.specs.Pick.{pick}

-- "8408h": the register is shifted down by one bit, and takes the polynomial where the bit shifted out is 1
unfoldable pub shifted : ℕ → ℕ → ℕ
shifted zero n = n
shifted (suc o) n = bit_xor n 0x8408

unfoldable pub bit : ℕ → ℕ
bit register = shifted (register % 2) (register / 2)

unfoldable pub bits : ℕ → ℕ → ℕ
bits zero register = register
bits (suc n) register = bits n (bit register)

-- "a sixteen-entry table": entry k is the register k after four bits
abbrev pub remainders : List ℕ → Type 0
remainders table = (k : ℕ) → k < 16 → get_or table k 0 ≡ bits 4 k

-- the register after a byte, and after a list of bytes
unfoldable pub byte : ℕ → ℕ → ℕ
byte register x = bits 8 (bit_xor register x)

unfoldable pub run : ℕ → List ℕ → ℕ
run register [] = register
run register (x ∷ s) = run (byte register x) s

-- "start FFFFh, complemented"
unfoldable pub crc_of : List ℕ → ℕ
crc_of s = bit_xor (run 0xffff s) 0xffff

-- "low byte first"
abbrev pub crc_bytes : List ℕ → List ℕ
crc_bytes s = (crc_of s % 256) ∷ (crc_of s / 256) ∷ []

-- the bytes of a frame, and its CRC after them
abbrev pub closed : List ℕ → List ℕ
closed s = s ++ crc_bytes s

-- the last two bytes of a frame are the CRC of those before; a frame under two bytes has none
unfoldable pub good_frame : List ℕ → Bool
good_frame s =
    leb 2 (length s)
    && eqb (get_or s (length s - 2) 0) (crc_of (take (length s - 2) s) % 256)
    && eqb (get_or s (length s - 2 + 1) 0) (crc_of (take (length s - 2) s) / 256)

-- a buffer with the CRC of its first n bytes stored after them; nothing is stored where n + 2 bytes do not fit
unfoldable pub closed_at : List ℕ → ℕ → List ℕ
closed_at o n = pick (leb (n + 2) (length o)) (sets o n (crc_bytes (take n o))) o
