-- One call of the rack as the tags alone have it. Assumes nothing.
use mathlib.Core.Path.{◌≡◌, refl, ap, ◌∙◌}
use mathlib.Core.Bool.{Bool, true, false}
use mathlib.Core.List.{List, [], ◌∷◌}
use Prim.Native.Nat.{ℕ, zero, suc, ◌+◌, ◌<◌}
use Rattle.std.specs.Prelude.{Ok, Err}
use native.Mathlib.Omega.{arith}
use lib.ListN.{length, get_or}
use Rattle.parts.specs.Pick.{pick}
use Rattle.refusals.specs.declared.Refusal.{Refusal}
use Rattle.refusals.specs.Refusals.{unless_refused}
use Rattle.refusals.specs.Call.{Call}
use Rattle.refusals.proofs.Laws.{judged_case}
use Rattle.demand3.specs.Passed.{StepResult, step_of}
use Rattle.demand3.proofs.Passed.{room_of}
use Rattle.rack.specs.Passed.{CallAnswer, Device, device_result_of, entry, run_by}
use Rattle.rack.specs.Rack.{RackCall, goes_to}
use Rattle.rack.specs.Step.{unreached, turn_of, turns_of, left_by, said_by}
use Rattle.rack_claims.specs.Cut.{JudgedCall, judged_call, has_call, refused_call, own_call, own_calls, of_each, next_answer, later_answers, next_of_each, later_of_each}
use Rattle.rack_claims.specs.ItsTags.{answers_alone}

abbrev pub end_alone : Device → List Call → Device
end_alone d calls = (run_by entry d calls).device

-- ---- a tag's list with one call more, if it has it
next_if : (g : Bool) (d : Device) (x : Call) (cs : List Call)
    → next_answer g x.buffer (answers_alone d (pick g (x ∷ cs) cs)) ≡ (pick g (entry d x) (unreached x d)).says
unfolding next_answer run_by pick
next_if true d x cs = refl
next_if false d x cs = refl

later_if : (g : Bool) (d : Device) (x : Call) (cs : List Call)
    → later_answers g (answers_alone d (pick g (x ∷ cs) cs)) ≡ answers_alone (pick g (entry d x) (unreached x d)).device cs
unfolding later_answers run_by pick
later_if true d x cs = refl
later_if false d x cs = refl

end_if : (g : Bool) (d : Device) (x : Call) (cs : List Call)
    → end_alone d (pick g (x ∷ cs) cs) ≡ end_alone (pick g (entry d x) (unreached x d)).device cs
unfolding run_by pick
end_if true d x cs = refl
end_if false d x cs = refl

-- ---- a call that is not refused
module _ (c : RackCall) (js : List JudgedCall) where
  abbrev served : List JudgedCall
  served = judged_call (Ok tt) c ∷ js

  pub next_served : (i : ℕ) (ds : List Device) → next_of_each (judged_call (Ok tt) c) i (of_each answers_alone served i ds) ≡ said_by (turns_of entry c i ds)
  unfolding next_of_each of_each own_calls own_call has_call unless_refused said_by turns_of turn_of
  next_served i [] = refl
  next_served i (d ∷ ds) =
      ap (λ (a : CallAnswer). a ∷ next_of_each (judged_call (Ok tt) c) (suc i) (of_each answers_alone served (suc i) ds))
      (next_if (goes_to c i) d c.handed (own_calls i js))
      ∙ ap (λ (l : List CallAnswer). (turn_of entry c i d).says ∷ l) (next_served (suc i) ds)

  pub later_served : (i : ℕ) (ds : List Device)
      → later_of_each (judged_call (Ok tt) c) i (of_each answers_alone served i ds) ≡ of_each answers_alone js i (left_by (turns_of entry c i ds))
  unfolding later_of_each of_each own_calls own_call has_call unless_refused left_by turns_of turn_of
  later_served i [] = refl
  later_served i (d ∷ ds) =
      ap (λ (a : List CallAnswer). a ∷ later_of_each (judged_call (Ok tt) c) (suc i) (of_each answers_alone served (suc i) ds))
      (later_if (goes_to c i) d c.handed (own_calls i js))
      ∙ ap (λ (l : List (List CallAnswer)). answers_alone (turn_of entry c i d).device (own_calls i js) ∷ l) (later_served (suc i) ds)

  pub end_served : (i : ℕ) (ds : List Device) → of_each end_alone served i ds ≡ of_each end_alone js i (left_by (turns_of entry c i ds))
  unfolding of_each own_calls own_call has_call unless_refused left_by turns_of turn_of
  end_served i [] = refl
  end_served i (d ∷ ds) =
      ap (λ (e : Device). e ∷ of_each end_alone served (suc i) ds) (end_if (goes_to c i) d c.handed (own_calls i js))
      ∙ ap (λ (l : List Device). end_alone (turn_of entry c i d).device (own_calls i js) ∷ l) (end_served (suc i) ds)

-- ---- a call that is: without a reply buffer a tag changes nothing
still : (d : Device) (c : Call) → (entry d (refused_call c)).device ≡ d
unfolding entry step_of
still d c =
    judged_case (λ (e : StepResult). (device_result_of e).device ≡ d) _ _ _ (λ r h. refl) λ h.
    let room = room_of d.tag d.memory (refused_call c) h in
    absurd (omega (arith, room))

module _ (r : Refusal) (c : RackCall) (js : List JudgedCall) where
  abbrev kept : List JudgedCall
  kept = judged_call (Err r) c ∷ js

  pub later_refused : (i : ℕ) (ds : List Device) → later_of_each (judged_call (Err r) c) i (of_each answers_alone kept i ds) ≡ of_each answers_alone js i ds
  unfolding later_of_each later_answers of_each own_calls own_call has_call unless_refused run_by pick
  later_refused i [] = refl
  later_refused i (d ∷ ds) =
      ap (λ (a : List CallAnswer). a ∷ later_of_each (judged_call (Err r) c) (suc i) (of_each answers_alone kept (suc i) ds))
      (ap (λ (e : Device). answers_alone e (own_calls i js)) (still d c.handed))
      ∙ ap (λ (l : List (List CallAnswer)). answers_alone d (own_calls i js) ∷ l) (later_refused (suc i) ds)

  pub end_refused : (i : ℕ) (ds : List Device) → of_each end_alone kept i ds ≡ of_each end_alone js i ds
  unfolding of_each own_calls own_call has_call unless_refused run_by pick
  end_refused i [] = refl
  end_refused i (d ∷ ds) =
      ap (λ (e : Device). e ∷ of_each end_alone kept (suc i) ds) (ap (λ (e : Device). end_alone e (own_calls i js)) (still d c.handed))
      ∙ ap (λ (l : List Device). end_alone d (own_calls i js) ∷ l) (end_refused (suc i) ds)

-- ---- an empty list
pub end_none : (i : ℕ) (ds : List Device) → ds ≡ of_each end_alone [] i ds
unfolding of_each own_calls run_by
end_none i [] = refl
end_none i (d ∷ ds) = ap (λ (l : List Device). d ∷ l) (end_none (suc i) ds)

-- ---- tag i of them
pub end_at : (i j : ℕ) (js : List JudgedCall) (ds : List Device) (z : Device) → i < length ds
    → get_or (of_each end_alone js j ds) i z ≡ end_alone (get_or ds i z) (own_calls (j + i) js)
unfolding of_each
end_at i j js [] z h = absurd (omega arith)
end_at zero j js (d ∷ ds) z h =
    let e : j ≡ j + 0 = omega arith in
    ap (λ (k : ℕ). end_alone d (own_calls k js)) e
end_at (suc i) j js (d ∷ ds) z h =
    let e : suc j + i ≡ j + suc i = omega arith in
    end_at i (suc j) js ds z (omega arith) ∙ ap (λ (k : ℕ). end_alone (get_or ds i z) (own_calls k js)) e
