-- `bit_xor` is associative, digit by digit.
use mathlib.Core.Path.{◌≡◌, refl, sym, ap, ap₂, ◌∙◌}
use Prim.Native.Nat.{ℕ, zero, suc, ◌+◌, ◌*◌, ◌/◌, ◌%◌, ◌<◌}
use native.Mathlib.Nat.{mod-lt, zero-lt-suc, not-suc-le-zero, le_of_suc-le-suc}
use lib.Arith.{bin_ind, digits_mod}
use lib.Bits.{bit_xor, differ, xor_step, xor_shr}

-- a digit is 0 or 1
pub digit : (P : ℕ → Type 0) → P 0 → P 1 → (n : ℕ) → P (n % 2)
digit P a b n = go (n % 2) (mod-lt n (zero-lt-suc 1))
  where
    go : (m : ℕ) → m < 2 → P m
    go zero h = a
    go (suc zero) h = b
    go (suc (suc m)) h = absurd (not-suc-le-zero (le_of_suc-le-suc (le_of_suc-le-suc h)))

differ_lt : (x y : ℕ) → differ (x % 2) (y % 2) < 2
differ_lt x y =
    digit (λ (m : ℕ). differ m (y % 2) < 2) (mod-lt y (zero-lt-suc 1))
    (digit (λ (m : ℕ). differ 1 m < 2) (mod-lt 1 (zero-lt-suc 1)) (mod-lt 0 (zero-lt-suc 1)) y) x

pub xor_half : (a b : ℕ) → bit_xor a b / 2 ≡ bit_xor (a / 2) (b / 2)
xor_half a b = xor_shr a b 1

pub xor_odd : (a b : ℕ) → bit_xor a b % 2 ≡ differ (a % 2) (b % 2)
xor_odd a b = ap (λ (x : ℕ). x % 2) (xor_step a b) ∙ digits_mod (bit_xor (a / 2) (b / 2)) (differ_lt a b)

differ_assoc : (x y z : ℕ) → differ (differ (x % 2) (y % 2)) (z % 2) ≡ differ (x % 2) (differ (y % 2) (z % 2))
differ_assoc x y z =
    digit (λ (m : ℕ). differ (differ m (y % 2)) (z % 2) ≡ differ m (differ (y % 2) (z % 2))) refl
    (digit (λ (m : ℕ). differ (differ 1 m) (z % 2) ≡ differ 1 (differ m (z % 2))) refl
    (digit (λ (m : ℕ). differ 0 m ≡ differ 1 (differ 1 m)) refl refl z)
    y)
    x

pub xor_assoc : (a b c : ℕ) → bit_xor (bit_xor a b) c ≡ bit_xor a (bit_xor b c)
xor_assoc a =
    bin_ind (λ (n : ℕ). (b c : ℕ) → bit_xor (bit_xor n b) c ≡ bit_xor n (bit_xor b c)) (λ b c. refl)
    (λ n ih b c.
    xor_step (bit_xor n b) c
    ∙ ap₂ (λ (x y : ℕ). bit_xor x (c / 2) * 2 + differ y (c % 2)) (xor_half n b) (xor_odd n b)
    ∙ ap₂ (λ (x y : ℕ). x * 2 + y) (ih (b / 2) (c / 2)) (differ_assoc n b c)
    ∙ ap₂ (λ (x y : ℕ). bit_xor (n / 2) x * 2 + differ (n % 2) y) (sym (xor_half b c)) (sym (xor_odd b c))
    ∙ sym (xor_step n (bit_xor b c)))
    a
