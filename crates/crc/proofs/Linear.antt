-- The register's step is linear: after n bits it is what its n low digits give, and the others shifted down.
use mathlib.Core.Path.{◌≡◌, refl, sym, ap, ap₂, ◌∙◌}
use Prim.Native.Nat.{ℕ, zero, suc, ◌*◌, ◌/◌, ◌%◌, ◌^◌}
use native.Mathlib.Nat.{mod-lt, mul-one}
use lib.Pow.{pow_pos, split}
use lib.Bits.{bit_xor, differ, xor_comm, xor_self, xor_zero_r, xor_shifted, shifted_half, shifted_even}
use Rattle.crc.specs.Crc.{shifted, bit, bits}
use Rattle.crc.proofs.Xor.{digit, xor_assoc, xor_half, xor_odd}

swap : (a b p : ℕ) → bit_xor (bit_xor a b) p ≡ bit_xor (bit_xor a p) b
swap a b p = xor_assoc a b p ∙ ap (bit_xor a) (xor_comm b p) ∙ sym (xor_assoc a p b)

twice : (a b p : ℕ) → bit_xor a b ≡ bit_xor (bit_xor a p) (bit_xor b p)
twice a b p =
    ap (bit_xor a) (sym (xor_zero_r b) ∙ ap (bit_xor b) (sym (xor_self p)) ∙ sym (xor_assoc b p p) ∙ xor_comm (bit_xor b p) p)
    ∙ sym (xor_assoc a p (bit_xor b p))

shifted_xor : (m n a b : ℕ) → shifted (differ (m % 2) (n % 2)) (bit_xor a b) ≡ bit_xor (shifted (m % 2) a) (shifted (n % 2) b)
unfolding shifted
shifted_xor m n a b =
    digit (λ (x : ℕ). shifted (differ x (n % 2)) (bit_xor a b) ≡ bit_xor (shifted x a) (shifted (n % 2) b))
    (digit (λ (y : ℕ). shifted y (bit_xor a b) ≡ bit_xor a (shifted y b)) refl (xor_assoc a b _) n)
    (digit (λ (y : ℕ). shifted (differ 1 y) (bit_xor a b) ≡ bit_xor (shifted 1 a) (shifted y b)) (swap a b _) (twice a b _) n)
    m

pub bit_xor_lem : (a b : ℕ) → bit (bit_xor a b) ≡ bit_xor (bit a) (bit b)
unfolding bit
bit_xor_lem a b = ap₂ shifted (xor_odd a b) (xor_half a b) ∙ shifted_xor a b (a / 2) (b / 2)

pub bits_xor : (n a b : ℕ) → bits n (bit_xor a b) ≡ bit_xor (bits n a) (bits n b)
unfolding bits
bits_xor zero a b = refl
bits_xor (suc n) a b = ap (bits n) (bit_xor_lem a b) ∙ bits_xor n (bit a) (bit b)

pub bits_shift : (n h : ℕ) → bits n (h * 2 ^ n) ≡ h
unfolding bits bit shifted
bits_shift zero h = mul-one h
bits_shift (suc n) h = ap (bits n) (ap₂ shifted (shifted_even h n) (shifted_half h n)) ∙ bits_shift n h

-- n bits of c: those of its n low digits, and the others shifted down
pub bits_split : (n c : ℕ) → bits n c ≡ bit_xor (c / 2 ^ n) (bits n (c % 2 ^ n))
bits_split n c =
    ap (bits n) (sym (xor_shifted (c / 2 ^ n) n (c % 2 ^ n) (mod-lt c (pow_pos n)) ∙ split c n))
    ∙ bits_xor n (c / 2 ^ n * 2 ^ n) (c % 2 ^ n)
    ∙ ap (λ (x : ℕ). bit_xor x (bits n (c % 2 ^ n))) (bits_shift n (c / 2 ^ n))
