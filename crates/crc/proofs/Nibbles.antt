-- Four bits at a time, by a table of remainders.
use mathlib.Core.Path.{◌≡◌, sym, ap, ap₂, ◌∙◌}
use mathlib.Core.Bool.{Bool}
use mathlib.Core.List.{List}
use Prim.Native.Nat.{ℕ, ◌/◌, ◌%◌, ◌<◌}
use native.Mathlib.Omega.{arith}
use lib.Bits.{bit_xor, xor_shr, xor_mod}
use lib.Dec.{T, eqb, eqb→eq}
use lib.ListN.{length, get_or, replicate}
use Rattle.crc.specs.Crc.{shifted, bit, bits, remainders}
use Rattle.crc.proofs.Linear.{bits_split}
use Rattle.crc.proofs.Table.{every, at}

-- the test of an entry and its place
unfoldable pub right : ℕ → ℕ → Bool
right k x = eqb x (bits 4 k)

-- a list of sixteen that passes the test at each entry is such a table
pub by_test : (l : List ℕ) → length l ≡ 16 → T (every right 0 l) → remainders l
unfolding right
by_test l n t k h = eqb→eq (get_or l k 0) (bits 4 k) (at right l t k (omega arith))

-- the low four bits of an entry are its place: one test over the sixteen places
unfoldable lowest : ℕ → ℕ → Bool
lowest k x = eqb (bits 4 k % 16) k

low_four : (k : ℕ) → k < 16 → bits 4 k % 16 ≡ k
unfolding lowest bits bit shifted
low_four k h = eqb→eq (bits 4 k % 16) k (at lowest (replicate 16 0) tt k h)

by_table : (l : List ℕ) (c : ℕ) → remainders l → bit_xor (c / 16) (get_or l (c % 16) 0) ≡ bits 4 c
by_table l c r = ap (bit_xor (c / 16)) (r (c % 16) (omega arith)) ∙ sym (bits_split 4 c)

quotient : (m : ℕ) → m / 256 ≡ m / 16 / 16
quotient m = omega arith

-- the entries of both halves of a byte, the second found without the first
pub by_two_lem : (l : List ℕ) (v : ℕ) → remainders l
    → bit_xor (bit_xor (v / 256) (get_or l (v % 16) 0 / 16)) (get_or l (bit_xor (v / 16) v % 16) 0) ≡ bits 8 v
unfolding bits
by_two_lem l v r =
    let x = get_or l (v % 16) 0 in
    let e : x % 16 ≡ v % 16 = ap (λ (y : ℕ). y % 16) (r (v % 16) (omega arith)) ∙ low_four (v % 16) (omega arith) in
    ap₂ bit_xor (ap (λ (h : ℕ). bit_xor h (x / 16)) (quotient v) ∙ sym (xor_shr (v / 16) x 4))
    (ap (λ (k : ℕ). get_or l k 0) (xor_mod (v / 16) v 4 ∙ ap (bit_xor (v / 16 % 16)) (sym e) ∙ sym (xor_mod (v / 16) x 4)))
    ∙ by_table l (bit_xor (v / 16) x) r
    ∙ ap (bits 4) (by_table l v r)
