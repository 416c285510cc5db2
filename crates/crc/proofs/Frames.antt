-- Frames closed with their CRC.
use mathlib.Core.Path.{◌≡◌, refl, sym, ap, ◌∙◌}
use mathlib.Core.Bool.{Bool, true, false, ◌&&◌}
use mathlib.Core.List.{List, [], ◌∷◌}
use Prim.Native.Nat.{ℕ, suc, ◌+◌, ◌-◌, ◌/◌, ◌%◌, ◌≤◌, ◌<◌}
use native.Mathlib.Nat.{zero-add}
use native.Mathlib.Omega.{arith}
use native.Mathlib.Numerals.{add-one}
use lib.Dec.{eqb}
use lib.Pointwise.{pointwise}
use Rattle.std.proofs.Common.{nat_eq}
use lib.ListN.{length, take, drop, get_or, set, length-append, drop_of_length-le}
use lib.Seq.{sets, sets-eq, length-sets, take_at, get_or-append_seam, get_or-append-add, drop-cons}
use borrow.Author.Tests.{le-leb, lt-leb, eq-eqb}
use Rattle.parts.proofs.Picks.{pick_le, pick_not_le}
use Rattle.parts.proofs.Lists.{sets_append}
use Rattle.crc.specs.Crc.{crc_of, crc_bytes, closed, closed_at, good_frame}

-- a buffer with room for the CRC, and one without
pub closed_fits : (o : List ℕ) (n : ℕ) → n + 2 ≤ length o → closed_at o n ≡ sets o n (crc_bytes (take n o))
unfolding closed_at
closed_fits o n h = sym (pick_le _ _ _ (n + 2) (length o) h refl)

pub closed_past : (o : List ℕ) (n : ℕ) → length o < n + 2 → closed_at o n ≡ o
unfolding closed_at
closed_past o n h = sym (pick_not_le _ _ _ (n + 2) (length o) h refl)

module _ (p o : List ℕ) (n : ℕ) (l : length p ≡ n) (h : n + 2 ≤ length o) where
  take_body : take n (sets o 0 p) ≡ p
  take_body = ap (take n) (sets-eq p o 0 (omega arith)) ∙ take_at p (drop (0 + length p) o) n l

  -- a buffer that holds a body at its start, closed
  pub closed_at_lem : closed_at (sets o 0 p) n ≡ sets o 0 (closed p)
  closed_at_lem =
      closed_fits (sets o 0 p) n (omega (arith, length-sets o 0 p))
      ∙ ap (λ (b : List ℕ). sets (sets o 0 p) n (crc_bytes b)) take_body
      ∙ ap (λ (k : ℕ). sets (sets o 0 p) k (crc_bytes p)) (sym (zero-add (length p) ∙ l))
      ∙ sym (sets_append p (crc_bytes p) o 0)

-- a frame closed is good, and its body is what was closed
pub closed_body : (s : List ℕ) → take (length (closed s) - 2) (closed s) ≡ s
closed_body s = take_at s (crc_bytes s) (length (closed s) - 2) (omega (arith, length-append s (crc_bytes s)))

pub good_closed : (s : List ℕ) → good_frame (closed s) ≡ true
unfolding good_frame
good_closed s =
    let n : length (closed s) - 2 ≡ length s = omega (arith, length-append s (crc_bytes s)) in
    rw (
      le-leb 2 (length (closed s)) (omega (arith, length-append s (crc_bytes s))),
      closed_body s,
      n,
      get_or-append_seam s (crc_of s % 256) (crc_of s / 256 ∷ []) 0,
      get_or-append-add s (crc_bytes s) 1 0,
      eq-eqb (crc_of s % 256) (crc_of s % 256) refl,
      eq-eqb (crc_of s / 256) (crc_of s / 256) refl,
    )

-- the bytes of a CRC stored one by one
pub stored_crc : (o : List ℕ) (n c : ℕ) → n + 2 ≤ length o → c < 65536 → c ≡ crc_of (take n o) → set (set o n (c % 256)) (n + 1) (c / 256 % 256) ≡ closed_at o n
stored_crc o n c h l e =
    let q : c / 256 % 256 ≡ c / 256 = omega arith in
    rw (q, e, add-one n) (sym (closed_fits o n h))

-- the last two bytes compared with those of a CRC
pub frame_compared : (s body end : List ℕ) (n c : ℕ) → n ≡ 2 → body ≡ take (length s - n) s → end ≡ drop (length s - n) s → length body + n ≡ length s
    → c < 65536 → c ≡ crc_of body → pointwise nat_eq end (c % 256 ∷ c / 256 % 256 ∷ []) ≡ good_frame s
unfolding good_frame
frame_compared s body end n c two b e l small is =
    let k = length s - 2 in
    let long : 2 ≤ length s = omega arith in
    let q : c / 256 % 256 ≡ c / 256 = omega arith in
    let none : drop (suc (suc k)) s ≡ [] = drop_of_length-le s {i = suc (suc k)} (omega arith) in
    let last : end ≡ get_or s k 0 ∷ get_or s (suc k) 0 ∷ [] =
    e ∙ ap (λ (i : ℕ). drop (length s - i) s) two
    ∙ drop-cons s k 0 (omega arith)
    ∙ ap (λ (t : List ℕ). get_or s k 0 ∷ t) (drop-cons s (suc k) 0 (omega arith) ∙ ap (λ (t : List ℕ). get_or s (suc k) 0 ∷ t) none) in
    let crc_is : c ≡ crc_of (take k s) = is ∙ ap crc_of (b ∙ ap (λ (i : ℕ). take (length s - i) s) two) in
    rw (q, last, crc_is, le-leb 2 (length s) long, add-one k) (both (eqb (get_or s k 0) (crc_of (take k s) % 256)) (eqb (get_or s (suc k) 0) (crc_of (take k s) / 256)))
  where
    both : (x y : Bool) → (x && (y && true)) ≡ (x && y)
    both true true = refl
    both true false = refl
    both false true = refl
    both false false = refl

pub frame_short : (s : List ℕ) (n : ℕ) → n ≡ 2 → length s < n → false ≡ good_frame s
unfolding good_frame
frame_short s n two h = rw (lt-leb 2 (length s) (omega arith))
