-- The twelve pairs, by computation. Assumes nothing.
use mathlib.Core.Path.{◌≡◌, refl, ap, subst, ◌∙◌}
use mathlib.Core.Bool.{Bool, true, false, ◌&&◌, false≢true}
use mathlib.Core.List.{List, [], ◌∷◌}
use Prim.Native.Nat.{ℕ}
use lib.Dec.{eqb}
use borrow.Author.Tests.{eqb-true}
use Rattle.parts.proofs.Bools.{and_left, and_right}
use Rattle.tag.specs.declared.Tag.{Tag}
use Rattle.model.proofs.Kept.{fresh_fits}
use Rattle.refusals.specs.Call.{Call}
use Rattle.calls.specs.Calls.{Device, device, DeviceResult, RunResult, run_result, entry, run_by, frames_fit}
use Rattle.calls.specs.Examples.{uid}
use Rattle.refusals.specs.declared.Refusal.{Refusal}
use Rattle.refusals.specs.Refusals.{unless_refused}
use Rattle.calls.proofs.Laws.{found, Fits, acted, refusal, call_is, first_fits, rest_fits, fits_next}
use Rattle.calls.proofs.Computes.{computes}
use Rattle.pairs.specs.Pairs.{Value, value_of, values, Result, result_of, Part, Pair, crc_is, goes, HoldFrom, fresh_device, supplies, Holds, AllHold, pair1, pair2, pair3, pair4, pair4wire, pair5, pair6, pair7, pair8, pair9, pair9more, pair10, pair11, pair12, twelve, Twelve}

-- ---- from a tag in range refusals 1 and 4 never come, so no call need judge them: that is what would take long
unfoldable unranged : Device → Call → DeviceResult
unranged d c = unless_refused (found c) (λ (r : Refusal). refusal r d c) (acted d c)

record Runs (d : Device) (cs : List Call) : Type 0 where
  same : run_by entry d cs ≡ run_by unranged d cs
  fits : Fits (run_by entry d cs).device

abbrev then : DeviceResult → List Call → RunResult
then e cs = run_result (e.says ∷ (run_by unranged e.device cs).answers) (run_by unranged e.device cs).device

runs : (cs : List Call) (d : Device) → frames_fit cs ≡ true → Fits d → Runs d cs
unfolding run_by unranged
runs [] d b f = record { same = refl; fits = f }
runs (c ∷ cs) d b f =
    let r = runs cs (entry d c).device (rest_fits c cs b) (fits_next d c (first_fits c cs b) f) in
    record {
      same = ap (λ (r : RunResult). run_result ((entry d c).says ∷ r.answers) r.device) r.same ∙ ap (λ (e : DeviceResult). then e cs) (call_is d c f);
      fits = r.fits;
    }

-- ---- two lists of bytes are the same: a test, which computes faster than the lists compare
unfoldable same_bytes : List ℕ → List ℕ → Bool
same_bytes [] [] = true
same_bytes [] (y ∷ ys) = false
same_bytes (x ∷ xs) [] = false
same_bytes (x ∷ xs) (y ∷ ys) = eqb x y && same_bytes xs ys

same_bytes_lem : (xs ys : List ℕ) → same_bytes xs ys ≡ true → xs ≡ ys
unfolding same_bytes
same_bytes_lem [] [] h = refl
same_bytes_lem [] (y ∷ ys) h = absurd (false≢true h)
same_bytes_lem (x ∷ xs) [] h = absurd (false≢true h)
same_bytes_lem (x ∷ xs) (y ∷ ys) h =
    ap (λ (z : ℕ). z ∷ xs) (eqb-true x y (and_left (eqb x y) (same_bytes xs ys) h))
    ∙ ap (λ (zs : List ℕ). y ∷ zs) (same_bytes_lem xs ys (and_right (eqb x y) (same_bytes xs ys) h))

-- ---- so a part holds if it holds by these
record Seen : Type 0 where
  frames : Bool
  answers : List Value
  tag : Tag
  memory : Bool

-- what a run shows of a part, and what it should
abbrev seen_in : RunResult → Part → Seen
seen_in r p =
    record { frames = frames_fit p.calls; answers = values r.answers; tag = r.device.tag; memory = same_bytes r.device.memory p.result.leaves.memory }

abbrev Computed : Device → Part → Type 0
Computed d p =
    seen_in (run_by unranged d p.calls) p ≡ record { frames = true; answers = p.result.answers; tag = p.result.leaves.tag; memory = true }

abbrev result : List Value → Tag → List ℕ → Result
result vs t m = record { answers = vs; leaves = device t m }

frames_fit_lem : (p : Part) (d : Device) → Computed d p → frames_fit p.calls ≡ true
frames_fit_lem p d c = ap (λ (s : Seen). s.frames) c

part_holds : (p : Part) (d : Device) → Fits d → Computed d p → result_of (run_by entry d p.calls) ≡ p.result
part_holds p d f c =
    let r = run_by unranged d p.calls in
    let x = p.result in
    ap result_of (runs p.calls d (frames_fit_lem p d c) f).same
    ∙ ap (λ (s : Seen). result s.answers s.tag r.device.memory) c
    ∙ ap (λ (m : List ℕ). result x.answers x.leaves.tag m) (same_bytes_lem r.device.memory x.leaves.memory (ap (λ (s : Seen). s.memory) c))

unfoldable ComputedFrom : Device → List Part → Type 0
ComputedFrom d [] = Unit {0}
ComputedFrom d (p ∷ ps) = Computed d p × ComputedFrom p.result.leaves ps

hold_from : (ps : List Part) (d : Device) → Fits d → ComputedFrom d ps → HoldFrom d ps
unfolding HoldFrom ComputedFrom
hold_from [] d f c = tt
hold_from (p ∷ ps) d f (c, cs) =
    let e = part_holds p d f c in
    (e, hold_from ps p.result.leaves (subst Fits (ap (λ (x : Result). x.leaves) e) (runs p.calls d (frames_fit_lem p d c) f).fits) cs)

unfoldable PairComputed : Pair → Type 0
PairComputed (crc_is s n) = Holds (crc_is s n)
PairComputed (goes ps) = ComputedFrom fresh_device (supplies ∷ ps)

pair_holds : (p : Pair) → PairComputed p → Holds p
unfolding Holds PairComputed
pair_holds (crc_is s n) c = c
pair_holds (goes ps) c = hold_from (supplies ∷ ps) fresh_device (fresh_fits uid) c

infixr 20 ◌also◌
data AllComputed : List Pair → Type 0 where
  no_more : AllComputed []
  ◌also◌ : {p : Pair} {ps : List Pair} → PairComputed p → AllComputed ps → AllComputed (p ∷ ps)

all_hold : {ps : List Pair} → AllComputed ps → AllHold ps
unfolding AllHold
all_hold no_more = tt
all_hold (◌also◌ {p = p} c cs) = (pair_holds p c, all_hold cs)

-- ---- the claim: a `refl` for each part, the supplies before the others
abbrev by : (p : Pair) → PairComputed p → PairComputed p
by p c = c

all_computed : AllComputed twelve
unfolding computes value_of values unranged same_bytes Holds ComputedFrom PairComputed
all_computed =
    by pair1 refl
    also by pair2 (refl, (refl, tt))
    also by pair3 (refl, (refl, (refl, tt)))
    also by pair4 (refl, (refl, (refl, (refl, tt))))
    also by pair4wire (refl, (refl, (refl, (refl, (refl, tt)))))
    also by pair5 (refl, (refl, (refl, (refl, (refl, tt)))))
    also by pair6 (refl, (refl, tt))
    also by pair7 (refl, (refl, tt))
    also by pair8 (refl, (refl, tt))
    also by pair9 (refl, (refl, (refl, tt)))
    also by pair9more (refl, (refl, (refl, (refl, tt))))
    also by pair10 (refl, (refl, (refl, (refl, (refl, tt)))))
    also by pair11 (refl, (refl, (refl, tt)))
    also by pair12 (refl, (refl, (refl, tt)))
    also no_more

pub twelve_hold : Twelve
twelve_hold = all_hold all_computed
