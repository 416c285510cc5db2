-- Numbers of the layout, there and back. Assumes nothing.
use mathlib.Core.Path.{◌≡◌, refl}
use mathlib.Core.Bool.{Bool, true, false}
use mathlib.Core.List.{List}
use Prim.Native.Nat.{ℕ, zero, suc, ◌≤◌, ◌<◌, ◌/◌, ◌%◌}
use native.Mathlib.Omega.{arith}
use lib.Dec.{leb}
use lib.ListN.{get_or}
use borrow.Author.Tests.{leb-true, lt-ltb, ltb-true}
use Rattle.parts.specs.Pick.{pick}
use Rattle.parts.proofs.Below.{Below}
use Rattle.air.specs.declared.RadioState.{RadioState}
use Rattle.air.specs.declared.RadioState.TheVariants.{Ready, Quiet, Selected}
use Rattle.bus.specs.declared.Space.{Space}
use Rattle.bus.specs.declared.Space.TheVariants.{User, System}
use Rattle.state.specs.Layout.{flag_byte, is_flag, flag_of, low_byte, high_byte, word_of, radio_number, radio_state_of, space_number, space_of}
use Rattle.state.specs.Claims.{is_byte, is_word}

pub flag_fits : (b : Bool) → is_flag (flag_byte b) ≡ true
unfolding flag_byte pick
flag_fits true = refl
flag_fits false = refl

pub flag_back : (b : Bool) → flag_of (flag_byte b) ≡ b
unfolding flag_byte pick
flag_back true = refl
flag_back false = refl

flag_is : (x : ℕ) → x ≤ 1 → flag_byte (flag_of x) ≡ x
unfolding flag_byte pick
flag_is zero h = refl
flag_is (suc zero) h = refl
flag_is (suc (suc x)) h = absurd (omega arith)

pub flag_again : (x : ℕ) → is_flag x ≡ true → flag_byte (flag_of x) ≡ x
flag_again x h = flag_is x (leb-true x 1 h)

pub radio_fits : (r : RadioState) → leb (radio_number r) 2 ≡ true
unfolding radio_number
radio_fits Ready = refl
radio_fits Quiet = refl
radio_fits Selected = refl

pub radio_back : (r : RadioState) → radio_state_of (radio_number r) ≡ r
unfolding radio_number radio_state_of pick
radio_back Ready = refl
radio_back Quiet = refl
radio_back Selected = refl

radio_is : (x : ℕ) → x ≤ 2 → radio_number (radio_state_of x) ≡ x
unfolding radio_number radio_state_of pick
radio_is zero h = refl
radio_is (suc zero) h = refl
radio_is (suc (suc zero)) h = refl
radio_is (suc (suc (suc x))) h = absurd (omega arith)

pub radio_again : (x : ℕ) → leb x 2 ≡ true → radio_number (radio_state_of x) ≡ x
radio_again x h = radio_is x (leb-true x 2 h)

pub space_fits : (s : Space) → is_flag (space_number s) ≡ true
unfolding space_number
space_fits User = refl
space_fits System = refl

pub space_back : (s : Space) → space_of (space_number s) ≡ s
unfolding space_number space_of pick
space_back User = refl
space_back System = refl

space_is : (x : ℕ) → x ≤ 1 → space_number (space_of x) ≡ x
unfolding space_number space_of pick
space_is zero h = refl
space_is (suc zero) h = refl
space_is (suc (suc x)) h = absurd (omega arith)

pub space_again : (x : ℕ) → is_flag x ≡ true → space_number (space_of x) ≡ x
space_again x h = space_is x (leb-true x 1 h)

pub word_back : (n : ℕ) → word_of (low_byte n) (high_byte n) ≡ n
word_back n = omega arith

pub low_again : (x y : ℕ) → x < 256 → low_byte (word_of x y) ≡ x
low_again x y h = omega arith

pub high_again : (x y : ℕ) → x < 256 → high_byte (word_of x y) ≡ y
high_again x y h = omega arith

-- ---- each is a byte
pub flag_byte_lem : (b : Bool) → is_byte (flag_byte b) ≡ true
unfolding flag_byte pick
flag_byte_lem true = refl
flag_byte_lem false = refl

pub radio_byte : (r : RadioState) → is_byte (radio_number r) ≡ true
unfolding radio_number
radio_byte Ready = refl
radio_byte Quiet = refl
radio_byte Selected = refl

pub space_byte : (s : Space) → is_byte (space_number s) ≡ true
unfolding space_number
space_byte User = refl
space_byte System = refl

pub low_byte_lem : (n : ℕ) → is_byte (low_byte n) ≡ true
low_byte_lem n = lt-ltb (n % 256) 256 (omega arith)

pub high_byte_lem : (n : ℕ) → is_word n ≡ true → is_byte (high_byte n) ≡ true
high_byte_lem n h = lt-ltb (n / 256) 256 (omega (arith, ltb-true n 65536 h))

-- ---- bytes of a list of bytes
module _ (s : List ℕ) (h : Below s) where
  pub byte_fits : (i : ℕ) → is_byte (get_or s i 0) ≡ true
  byte_fits i = lt-ltb (get_or s i 0) 256 (h i)

  pub word_fits : (i j : ℕ) → is_word (word_of (get_or s i 0) (get_or s j 0)) ≡ true
  word_fits i j = lt-ltb (word_of (get_or s i 0) (get_or s j 0)) 65536 (omega (arith, h i, h j))
