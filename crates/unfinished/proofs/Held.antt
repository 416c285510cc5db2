-- Laws of the kept bytes. Assumes nothing.
use mathlib.Core.Path.{◌≡◌, refl, sym, ap, ◌∙◌}
use mathlib.Core.List.{List, ◌++◌}
use Prim.Native.Nat.{ℕ, ◌+◌, ◌-◌, ◌≤◌, min}
use native.Mathlib.Omega.{arith}
use lib.Dec.{eqb}
use borrow.Author.Tests.{ne_eqb}
use lib.ListN.{length, take, drop, length-append, length-take}
use lib.Seq.{sets, sets-eq, take_at, take-append-add}
use Rattle.parts.specs.Pick.{pick}
use Rattle.parts.specs.Bytes.{bytes_at}
use Rattle.parts.proofs.Lists.{bytes_at_part, length_bytes_at}
use Rattle.hexadecimal.proofs.HexLaws.{take_clip}
use Rattle.unfinished.specs.Kept.{kept_most, keep, kept_buffer}

-- ---- bytes added to the unfinished line
pub held : (k s : List ℕ) (have n : ℕ) → length k ≡ 1201 → have ≤ 1201 → n ≡ min (1201 - have) (length s)
    → take (have + n) (sets k have (bytes_at s 0 n)) ≡ keep (take have k ++ s)
held k s have n hk hh e =
    let v = bytes_at s 0 n in
    let lv = length_bytes_at s 0 n in
    let lk : length (take have k) ≡ have = omega (arith, length-take have k) in
    let whole : length (take have k) + (1201 - have) ≡ 1201 = omega arith in
    ap (take (have + n)) (sets-eq v k have (omega arith))
    ∙ take_at (take have k ++ v) (drop (have + length v) k) (have + n) (omega (arith, length-append (take have k) v))
    ∙ ap (λ (x : List ℕ). take have k ++ x) (bytes_at_part s 0 n (omega arith) ∙ ap (λ (j : ℕ). take j s) e ∙ take_clip (1201 - have) (length s) s refl)
    ∙ sym (take-append-add (take have k) s (1201 - have))
    ∙ ap (λ (j : ℕ). take j (take have k ++ s)) whole

-- the buffer that keeps them
pub stored : (o s : List ℕ) (have at n : ℕ) → at ≡ min have kept_most → n ≡ min (1201 - at) (length s)
    → sets o at (bytes_at s 0 n) ≡ kept_buffer o have s
stored o s have at n h e =
    ap (sets o at) (bytes_at_part s 0 n (omega arith) ∙ ap (λ (j : ℕ). take j s) e ∙ take_clip (1201 - at) (length s) s refl)
    ∙ ap (λ (j : ℕ). sets o j (take (1201 - j) s)) h

-- ---- the bytes s, or what was kept with them
pub joins : (have r : ℕ) (s x y : List ℕ) → (have ≡ 0 → ⊥) → min have kept_most ≤ r → x ≡ y → pick (eqb r 0) s x ≡ pick (eqb have 0) s y
unfolding pick
joins have r s x y z l e = rw (ne_eqb have 0 z, ne_eqb r 0 (λ n. z (omega arith))) e

-- a count past the end is the end
pub take_within : (k : List ℕ) (have n : ℕ) → n ≡ min have (length k) → take n k ≡ take have k
take_within k have n e = ap (λ (j : ℕ). take j k) e ∙ take_clip have (length k) k refl
