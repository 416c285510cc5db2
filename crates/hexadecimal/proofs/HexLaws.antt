-- Laws of hex digits. Assumes nothing.
use mathlib.Core.Path.{◌≡◌, refl, sym, ap, ◌∙◌}
use mathlib.Core.Bool.{Bool, true, false, ◌&&◌}
use mathlib.Core.List.{List, [], ◌∷◌, ◌++◌}
use Prim.Native.Nat.{ℕ, suc, ◌+◌, ◌-◌, ◌*◌, ◌/◌, ◌%◌, ◌≤◌, ◌<◌, min}
use native.Mathlib.Omega.{arith}
use native.Mathlib.Numerals.{add-one}
use lib.Dec.{leb}
use borrow.Author.Tests.{leb-true, leb-false, le-leb, lt-leb}
use Rattle.parts.specs.Pick.{pick}
use lib.ListN.{length, take, drop, get_or, set, length-take, drop_of_length-le}
use lib.Seq.{sets, drop-cons, take-suc, take_all}
use Rattle.parts.proofs.Picks.{pick_case}
use Rattle.parts.proofs.Bools.{and_right}
use Rattle.parts.proofs.Lists.{sets_append}
use Rattle.hexadecimal.specs.Hex.{is_hex, hex_value, all_hex, hex_byte, hex_bytes, hex_digit, hex_text}

-- ---- digits read
all_hex_step : (s : List ℕ) (i : ℕ) → i < length s → all_hex (drop i s) ≡ (is_hex (get_or s i 0) && all_hex (drop (i + 1) s))
unfolding all_hex
all_hex_step s i h = rw (drop-cons s i 0 h, add-one i)

-- a character more, after those that were tested
pub all_hex_more : (b : Bool) (s : List ℕ) (i : ℕ) → i < length s → (b && is_hex (get_or s i 0) && all_hex (drop (i + 1) s)) ≡ (b && all_hex (drop i s))
all_hex_more true s i h = sym (all_hex_step s i h)
all_hex_more false s i h = refl

pub all_hex_end : (b : Bool) (s : List ℕ) (i : ℕ) → length s ≤ i → (b && all_hex (drop i s)) ≡ b
unfolding all_hex
all_hex_end true s i h = ap all_hex (drop_of_length-le s h)
all_hex_end false s i h = refl

-- a digit's value is below 16
pub value_small : (x : ℕ) → hex_value x < 16
unfolding hex_value
value_small x =
    pick_case (λ (n : ℕ). n < 16) (leb 0x30 x && leb x 0x39) _ _
    (λ h. omega (arith, leb-true x 0x39 (and_right (leb 0x30 x) (leb x 0x39) h)))
    (λ _. pick_case (λ (n : ℕ). n < 16) (leb 0x41 x && leb x 0x46) _ _
    (λ h. omega (arith, leb-true x 0x46 (and_right (leb 0x41 x) (leb x 0x46) h)))
    (λ _. omega arith))

-- characters told apart by their ranges
pub digit_value : (x : ℕ) → 48 ≤ x → x ≤ 57 → x - 48 ≡ hex_value x
unfolding hex_value pick
digit_value x h k = rw (le-leb 48 x h, le-leb x 57 k)

pub letter_value : (x : ℕ) → 65 ≤ x → x ≤ 70 → x - 65 + 10 ≡ hex_value x
unfolding hex_value pick
letter_value x h k = rw (lt-leb x 57 (omega arith), le-leb 65 x h, le-leb x 70 k, le-leb 48 x (omega arith)) (omega arith)

pub below_value : (x : ℕ) → x < 48 → 0 ≡ hex_value x
unfolding hex_value pick
below_value x h = rw (lt-leb 48 x h, lt-leb 65 x (omega arith))

pub between_value : (x : ℕ) → 57 < x → x < 65 → 0 ≡ hex_value x
unfolding hex_value pick
between_value x h k = rw (le-leb 48 x (omega arith), lt-leb x 57 h, lt-leb 65 x k)

pub above_value : (x : ℕ) → 70 < x → 0 ≡ hex_value x
unfolding hex_value pick
above_value x h = rw (le-leb 48 x (omega arith), lt-leb x 57 (omega arith), le-leb 65 x (omega arith), lt-leb x 70 h)

pub ruleset hex_values = (digit_value, letter_value, below_value, between_value, above_value)

-- two digits more
pub hex_bytes_step : (s : List ℕ) (i : ℕ) → 2 * i + 1 < length s
    → hex_bytes (drop (2 * i) s) ≡ hex_byte (get_or s (2 * i) 0) (get_or s (2 * i + 1) 0) ∷ hex_bytes (drop (2 * (i + 1)) s)
unfolding hex_bytes
hex_bytes_step s i h =
    let e : 2 * (i + 1) ≡ suc (suc (2 * i)) = omega arith in
    rw (e, add-one (2 * i), drop-cons s (2 * i) 0 (omega arith), drop-cons s (suc (2 * i)) 0 (omega arith))

pub hex_bytes_end : (s : List ℕ) → length s < 2 → hex_bytes s ≡ []
unfolding hex_bytes
hex_bytes_end [] h = refl
hex_bytes_end (x ∷ []) h = refl
hex_bytes_end (x ∷ y ∷ s) h = absurd (omega arith)

pub length_hex_bytes : (s : List ℕ) → length (hex_bytes s) ≡ length s / 2
unfolding hex_bytes
length_hex_bytes [] = refl
length_hex_bytes (x ∷ []) = refl
length_hex_bytes (x ∷ y ∷ s) = omega (arith, length_hex_bytes s)

-- ---- digits stored
pub length_hex_text : (s : List ℕ) → length (hex_text s) ≡ 2 * length s
unfolding hex_text
length_hex_text [] = refl
length_hex_text (x ∷ s) = omega (arith, length_hex_text s)

hex_text_append : (s t : List ℕ) → hex_text (s ++ t) ≡ hex_text s ++ hex_text t
unfolding hex_text
hex_text_append [] t = refl
hex_text_append (x ∷ s) t = ap (λ (r : List ℕ). hex_digit (x / 16) ∷ hex_digit (x % 16) ∷ r) (hex_text_append s t)

-- a byte more
pub hex_text_more : (s : List ℕ) (i : ℕ) → i < length s → hex_text (take i s) ++ hex_text (get_or s i 0 ∷ []) ≡ hex_text (take (i + 1) s)
hex_text_more s i h =
    sym (hex_text_append (take i s) (get_or s i 0 ∷ []))
    ∙ ap hex_text (sym (take-suc s i 0 h) ∙ ap (λ (n : ℕ). take n s) (sym (add-one i)))

pub hex_text_stored : (o s : List ℕ) (at i : ℕ) → i < length s
    → set (set (sets o at (hex_text (take i s))) (at + 2 * i) (hex_digit (get_or s i 0 / 16))) (at + 2 * i + 1) (hex_digit (get_or s i 0 % 16)) ≡ sets o at (hex_text (take (i + 1) s))
unfolding hex_text
hex_text_stored o s at i h =
    let p = hex_text (take i s) in
    let b = sets o at p in
    let e : at + 2 * i ≡ at + length p = omega (arith, length_hex_text (take i s), length-take i s) in
    ap (λ (k : ℕ). set (set b (at + 2 * i) (hex_digit (get_or s i 0 / 16))) k (hex_digit (get_or s i 0 % 16))) (add-one (at + 2 * i))
    ∙ ap (λ (k : ℕ). sets b k (hex_text (get_or s i 0 ∷ []))) e
    ∙ sym (sets_append p (hex_text (get_or s i 0 ∷ [])) o at)
    ∙ ap (λ (t : List ℕ). sets o at t) (hex_text_more s i h)

-- a list has no more bytes than its length
clip : (n : ℕ) (l : List ℕ) (b : Bool) → leb n (length l) ≡ b → take (min n (length l)) l ≡ take n l
clip n l true h =
    let k = leb-true n (length l) h in
    let e : min n (length l) ≡ n = omega arith in
    ap (λ (i : ℕ). take i l) e
clip n l false h =
    let k = leb-false n (length l) h in
    take_all (min n (length l)) l (omega arith) ∙ sym (take_all n l (omega arith))

pub take_clip : (n m : ℕ) (l : List ℕ) → length l ≡ m → take (min n m) l ≡ take n l
take_clip n m l e = ap (λ (k : ℕ). take (min n k) l) (sym e) ∙ clip n l (leb n (length l)) refl
