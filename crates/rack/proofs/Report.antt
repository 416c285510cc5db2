-- Who replied, and the lowest of them. Assumes nothing.
use mathlib.Core.Path.{◌≡◌, refl, sym, ap, ◌∙◌}
use mathlib.Core.Bool.{Bool, true, false, ◌||◌}
use mathlib.Core.List.{List, [], ◌∷◌}
use Prim.Native.Nat.{ℕ, zero, suc, ◌+◌, ◌-◌, ◌<◌, ◌≤◌}
use native.Mathlib.Omega.{arith}
use native.Mathlib.Nat.{zero-add}
use lib.Dec.{leb, eqb}
use lib.ListN.{length, get_or}
use borrow.Author.Tests.{eq-eqb, ne_eqb, le-leb}
use Rattle.parts.specs.Pick.{pick}
use Rattle.parts.proofs.Picks.{pick_case}
use Rattle.parts.proofs.Bools.{and_both, or_first}
use Rattle.calls.specs.Passed.{is_reply}
use Rattle.calls.specs.Calls.{CallAnswer}
use Rattle.rack.specs.Step.{who_replied, numbers_from, lowest_reply}
use Rattle.rack.specs.Claims.{is_among, is_rising, report_of, ReportsReplies}

or_neither : (a b : Bool) → a ≡ false → b ≡ false → (a || b) ≡ false
or_neither a b p q = rw (p, q)

-- ---- the numbers
below : (j i : ℕ) (bs : List Bool) → j < i → is_among j (numbers_from i bs) ≡ false
unfolding numbers_from is_among
below j i [] h = refl
below j i (b ∷ bs) h =
    pick_case (λ (l : List ℕ). is_among j l ≡ false) b (i ∷ numbers_from (suc i) bs) (numbers_from (suc i) bs)
    (λ _. or_neither (eqb i j) _ (ne_eqb i j (λ e. absurd (omega arith))) (below j (suc i) bs (omega arith)))
    (λ _. below j (suc i) bs (omega arith))

among : (k i : ℕ) (bs : List Bool) → is_among (i + k) (numbers_from i bs) ≡ get_or bs k false
unfolding numbers_from is_among
among k i [] = refl
among zero i (b ∷ bs) =
    let e : i ≡ i + 0 = omega arith in
    pick_case (λ (l : List ℕ). is_among (i + 0) l ≡ b) b (i ∷ numbers_from (suc i) bs) (numbers_from (suc i) bs)
    (λ h. or_first (eqb i (i + 0)) _ (eq-eqb i (i + 0) e) ∙ sym h)
    (λ h. below (i + 0) (suc i) bs (omega arith) ∙ sym h)
among (suc k) i (b ∷ bs) =
    let rest = ap (λ (n : ℕ). is_among n (numbers_from (suc i) bs)) (let e : i + suc k ≡ suc i + k = omega arith in e) ∙ among k (suc i) bs in
    pick_case (λ (l : List ℕ). is_among (i + suc k) l ≡ get_or bs k false) b (i ∷ numbers_from (suc i) bs) (numbers_from (suc i) bs)
    (λ _. ap (λ (x : Bool). x || is_among (i + suc k) (numbers_from (suc i) bs)) (ne_eqb i (i + suc k) (λ e. absurd (omega arith))) ∙ rest)
    (λ _. rest)

rises : (i j : ℕ) (bs : List Bool) → i ≤ j → is_rising i (numbers_from j bs) ≡ true
unfolding numbers_from is_rising
rises i j [] h = refl
rises i j (b ∷ bs) h =
    pick_case (λ (l : List ℕ). is_rising i l ≡ true) b (j ∷ numbers_from (suc j) bs) (numbers_from (suc j) bs)
    (λ _. and_both (leb i j) _ (le-leb i j h) (rises (suc j) (suc j) bs (omega arith)))
    (λ _. rises i (suc j) bs (omega arith))

-- ---- the first of them
from : (i j z : ℕ) (bs : List Bool) → i ≤ j → i ≤ z → i ≤ get_or (numbers_from j bs) 0 z
unfolding numbers_from
from i j z [] h k = k
from i j z (b ∷ bs) h k =
    pick_case (λ (l : List ℕ). i ≤ get_or l 0 z) b (j ∷ numbers_from (suc j) bs) (numbers_from (suc j) bs)
    (λ _. h) (λ _. from i (suc j) z bs (omega arith) k)

-- the number of the first, less the number of the list's first; past the list where there is none
abbrev first_from : ℕ → List CallAnswer → ℕ
first_from i ls = get_or (numbers_from i (who_replied ls)) 0 (i + length ls)

lowest_by : (b : Bool) (i : ℕ) (a z : CallAnswer) (ls : List CallAnswer) → lowest_reply z ls ≡ get_or ls (first_from (suc i) ls - suc i) z
    → pick b a (lowest_reply z ls)
    ≡ get_or (a ∷ ls) (get_or (pick b (i ∷ numbers_from (suc i) (who_replied ls)) (numbers_from (suc i) (who_replied ls))) 0 (i + suc (length ls)) - i) z
unfolding pick
lowest_by true i a z ls h =
    let e : 0 ≡ i - i = omega arith in
    ap (λ (n : ℕ). get_or (a ∷ ls) n z) e
lowest_by false i a z ls h =
    let m : suc i + length ls ≡ i + suc (length ls) = omega arith in
    let n = get_or (numbers_from (suc i) (who_replied ls)) 0 (i + suc (length ls)) in
    let l = from (suc i) (suc i) (i + suc (length ls)) (who_replied ls) (omega arith) (omega arith) in
    let e : suc (n - suc i) ≡ n - i = omega (arith, l) in
    h
    ∙ ap (λ (k : ℕ). get_or ls (get_or (numbers_from (suc i) (who_replied ls)) 0 k - suc i) z) m
    ∙ ap (λ (k : ℕ). get_or (a ∷ ls) k z) e

lowest_at : (ls : List CallAnswer) (i : ℕ) (z : CallAnswer) → lowest_reply z ls ≡ get_or ls (first_from i ls - i) z
unfolding lowest_reply who_replied numbers_from
lowest_at [] i z = refl
lowest_at (a ∷ ls) i z = lowest_by (is_reply a.answer) i a z ls (lowest_at ls (suc i) z)

pub who_at : (ls : List CallAnswer) (i : ℕ) (z : CallAnswer) → i < length ls → get_or (who_replied ls) i false ≡ is_reply (get_or ls i z).answer
unfolding who_replied
who_at [] i z h = absurd (omega arith)
who_at (a ∷ ls) zero z h = refl
who_at (a ∷ ls) (suc i) z h = who_at ls i z (omega arith)

pub reports_replies : ReportsReplies
reports_replies ls z =
    let e : 0 + length ls ≡ length ls = zero-add (length ls) in
    let n = get_or (report_of ls) 0 (length ls) in
    let m : n - 0 ≡ n = omega arith in
    record {
      exactly = λ i h. ap (λ (k : ℕ). is_among k (report_of ls)) (sym (zero-add i)) ∙ among i 0 (who_replied ls) ∙ who_at ls i z h;
      rising = rises 0 0 (who_replied ls) (omega arith);
      lowest = lowest_at ls 0 z ∙ ap (λ (k : ℕ). get_or ls (get_or (report_of ls) 0 k - 0) z) e ∙ ap (λ (k : ℕ). get_or ls k z) m;
    }
