-- The CRC of bytes is a number of sixteen bits. (Over numbers that are no bytes it need not be.)
use mathlib.Core.List.{List, [], ◌∷◌}
use Prim.Native.Nat.{ℕ, zero, suc, ◌/◌, ◌%◌, ◌<◌}
use native.Mathlib.Omega.{arith}
use lib.Bits.{bit_xor, xor_lt}
use lib.Dec.{T, ltb, ltb→lt, lit<}
use lib.Pow.{are_bytes}
use Rattle.crc.specs.Crc.{shifted, bit, bits, byte, run, crc_of}
use Rattle.crc.proofs.Table.{and_left, and_right}

xor_below : (a b : ℕ) → a < 65536 → b < 65536 → bit_xor a b < 65536
xor_below a b h k = xor_lt 16 a b h k

shifted_below : (o h : ℕ) → h < 65536 → shifted o h < 65536
unfolding shifted
shifted_below zero h k = k
shifted_below (suc o) h k = xor_below h _ k (lit< tt)

bits_below : (n c : ℕ) → c < 65536 → bits n c < 65536
unfolding bits bit
bits_below zero c k = k
bits_below (suc n) c k = bits_below n (bit c) (shifted_below (c % 2) (c / 2) (omega arith))

run_below : (s : List ℕ) (c : ℕ) → T (are_bytes s) → c < 65536 → run c s < 65536
unfolding run byte
run_below [] c t k = k
run_below (b ∷ s) c t k =
    let h : b < 256 = ltb→lt b 256 (and_left (ltb b 256) (are_bytes s) t) in
    run_below s (byte c b) (and_right (ltb b 256) (are_bytes s) t) (bits_below 8 (bit_xor c b) (xor_below c b k (omega arith)))

pub crc_below : (s : List ℕ) → T (are_bytes s) → crc_of s < 65536
unfolding crc_of
crc_below s t = xor_below (run 0xffff s) 0xffff (run_below s 0xffff t (lit< tt)) (lit< tt)
