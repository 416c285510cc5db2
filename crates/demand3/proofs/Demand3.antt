-- Demand 3. Assumes nothing.
use mathlib.Core.Path.{◌≡◌, refl, sym, ap, subst, ◌∙◌}
use mathlib.Core.Bool.{true, false, false≢true}
use mathlib.Core.List.{List, [], ◌∷◌, ◌++◌, append_assoc, append-nil}
use Rattle.waiting.specs.Passed.{transfer_open, CallAnswer, Device, RunResult, entry, run_by, frames_fit}
use Rattle.refusals.specs.Call.{Call}
use Rattle.waiting.specs.Waiting.{Waiting, no_transfer, inside, wait_step, wait_run}
use Rattle.demand3.specs.Demand3.{is_closed, Agrees, EveryList, Demand3, EndsAlike}
use Rattle.waiting.proofs.Passed.{Fits, first_fits, rest_fits, fits_next}
use Rattle.demand3.proofs.Struck.{judged, striking, all_shut}
use Rattle.waiting.proofs.Follow.{now, answers, Good, stepped}

-- ---- all calls
-- the waiting tag after the calls cs from w is where the tag by signals is, and gave its answers
record Follows (w : Waiting) (cs : List Call) : Type 0 where
  good : Good (wait_run w cs)
  device : now (wait_run w cs) ≡ (run_by entry (now w) cs).device
  answers : answers (wait_run w cs) ≡ answers w ++ (run_by entry (now w) cs).answers

follows : (cs : List Call) (w : Waiting) → frames_fit cs ≡ true → Good w → Fits (now w) → Follows w cs
unfolding wait_run run_by
follows [] w b g f = record { good = g; device = refl; answers = sym (append-nil _) }
follows (c ∷ cs) w b g f =
    let p = stepped w c g f in
    let e = entry (now w) c in
    let fits = subst Fits (sym p.device) (fits_next (now w) c (first_fits c cs b) f) in
    let r = follows cs (wait_step w c) (rest_fits c cs b) p.good fits in
    record {
      good = r.good;
      device = r.device ∙ ap (λ (d : Device). (run_by entry d cs).device) p.device;
      answers = r.answers
          ∙ ap (λ (l : List CallAnswer). l ++ (run_by entry (now (wait_step w c)) cs).answers) p.answers
          ∙ append_assoc (answers w) (e.says ∷ []) _
          ∙ ap (λ (d : Device). answers w ++ e.says ∷ (run_by entry d cs).answers) p.device;
    }

-- with no transfer open it has answered all
all_answered : (w : Waiting) (r : RunResult) → now w ≡ r.device → answers w ≡ r.answers → is_closed w ≡ true → w ≡ no_transfer r.answers r.device
unfolding now answers is_closed
all_answered (no_transfer out k) r d a h = ap (λ (k : Device). no_transfer out k) d ∙ ap (λ (out : List CallAnswer). no_transfer out r.device) a
all_answered (inside out k n sl) r d a h = absurd (false≢true h)

-- the theorem
pub agreed : EveryList (Agrees entry)
unfolding now answers
agreed d cs range size frames shut end =
    let f : Fits d = record { range = range; size = size } in
    let p = follows cs (no_transfer [] d) frames shut f in
    record {
      same = all_answered (wait_run (no_transfer [] d) cs) (run_by entry d cs) p.device p.answers end;
      judged = judged cs d frames f;
      striking = striking cs d frames f;
      shut = all_shut cs d.tag d frames f (λ h. absurd (false≢true (sym shut ∙ h)));
    }

pub demand_3 : Demand3 entry
demand_3 = agreed

-- ---- the end of the list
pub ends_shut : EveryList (λ (d : Device) (cs : List Call). transfer_open (run_by entry d cs).device.tag ≡ false)
unfolding now
ends_shut d cs range size frames shut end =
    let p = follows cs (no_transfer [] d) frames shut (record { range = range; size = size }) in
    subst Good (agreed d cs range size frames shut end).same p.good

is_closed_lem : (w : Waiting) (d : Device) → Good w → now w ≡ d → transfer_open d.tag ≡ false → is_closed w ≡ true
unfolding now is_closed
is_closed_lem (no_transfer out k) d g e h = refl
is_closed_lem (inside out k n sl) d g e h =
    absurd (false≢true (sym h ∙ ap (λ (d : Device). transfer_open d.tag) (sym e) ∙ g.state.bus))

pub ends_alike : EndsAlike
unfolding now
ends_alike d cs range size frames shut end =
    let f : Fits d = record { range = range; size = size } in
    let p = follows cs (no_transfer [] d) frames shut f in
    is_closed_lem (wait_run (no_transfer [] d) cs) (run_by entry d cs).device p.good p.device end
