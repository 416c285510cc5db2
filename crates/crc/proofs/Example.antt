-- 01, Pairs, 1: "CRC of ASCII 123456789 is 906Eh."
use mathlib.Core.Path.{◌≡◌, refl}
use mathlib.Core.List.{[], ◌∷◌}
use Rattle.crc.specs.Crc.{shifted, bit, bits, byte, run, crc_of}

pub example : crc_of (49 ∷ 50 ∷ 51 ∷ 52 ∷ 53 ∷ 54 ∷ 55 ∷ 56 ∷ 57 ∷ []) ≡ 0x906e
unfolding crc_of run byte bits bit shifted
example = refl
