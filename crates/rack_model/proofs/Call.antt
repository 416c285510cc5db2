-- One call of a rack, from what judging and hearing come to. Assumes nothing.
use mathlib.Core.Path.{◌≡◌, refl, sym, ap, subst, ◌∙◌}
use mathlib.Core.List.{List}
use Prim.Native.Nat.{ℕ, min}
use lib.ListN.{length, take, drop}
use Rattle.std.specs.Prelude.{Ok, Err}
use Rattle.tag.specs.declared.Tag.{Tag}
use Rattle.refusals.specs.declared.Refusal.{Refusal}
use Rattle.refusals.specs.Call.{handed_in}
use Rattle.refusals.specs.Refusals.{judgement, unless_refused, Judgement}
use Rattle.calls.specs.Calls.{call_answer, entry}
use Rattle.parts.specs.Pick.{pick}
use Rattle.rack.specs.Rack.{Rack, RackCall, rack_of, rack_call}
use Rattle.rack.specs.Rules.{most_tags, rack_rules}
use Rattle.rack.specs.Step.{numbers_from, rack_answer, rack_result, RackResult, rack_refused, rack_acts, rack_step, rack_entry}
use Rattle.rack_judge.proofs.Count.{count_is}
use Rattle.rack_hear.specs.declared.Heard.{Heard}
use Rattle.rack_hear.specs.Hear.{hearing_of, HeardAll, hear_all_of}
use Rattle.rack_hear.proofs.Claims.{refused_unheard, hears_racks}

-- what is left of a call is what a rack's call gives
pub record Called (n : ℕ) (tags : List Tag) (all : HeardAll) (expected : RackResult) : Type 0 where
  pub result : rack_result (rack_answer (call_answer all.answer.answer all.out) (numbers_from 0 all.answer.answered)) (rack_of (take n all.tags) all.mem) ≡ expected
  pub others : drop n all.tags ≡ drop n tags

module _ (tags : List Tag) (m o f : List ℕ) (n code value to : ℕ) where
  abbrev rack : Rack
  rack = rack_of (take n tags) m

  abbrev call : RackCall
  call = rack_call (handed_in o code value f) to

  abbrev judged : Judgement
  judged = judgement (rack_rules rack call)

  -- what the tags hear
  abbrev heard_by : Judgement → Heard
  heard_by j = hearing_of j (length (take n tags)) code value to

  abbrev left : Judgement → HeardAll
  left j = hear_all_of (length tags) tags m o f (heard_by j)

  abbrev given : Judgement → RackResult
  given j = unless_refused j (λ (refusal : Refusal). rack_result (rack_refused refusal call.handed) rack) (rack_acts entry rack call)

  by_judgement : (j : Judgement) → judged ≡ j → Called n tags (left j) (given j)
  unfolding hearing_of unless_refused numbers_from pick
  by_judgement (Ok tt) h = let law = hears_racks tags m o f n code value to h in record { result = law.result; others = law.others }
  by_judgement (Err refusal) h = subst (λ (all : HeardAll). Called n tags all (given (Err refusal))) (sym (refused_unheard (length tags) tags m o f refusal code value to)) (record { result = refl; others = refl })

  called : Called n tags (left judged) (rack_entry rack call)
  unfolding rack_step
  called = by_judgement judged refl

  -- from what the calls ensure, the tags being sixteen
  pub stepped : (j : Judgement) (k : ℕ) (start : Heard) (all : HeardAll) → length tags ≡ 16 → j ≡ judged → k ≡ min n most_tags → start ≡ hearing_of j k code value to
      → all ≡ hear_all_of 16 tags m o f start → Called n tags all (rack_entry rack call)
  stepped j k start all number judges counts hears leaves =
      let heard : start ≡ heard_by judged = hears ∙ ap (λ (x : Judgement). hearing_of x k code value to) judges ∙ ap (λ (x : ℕ). hearing_of judged x code value to) (count_is n k counts tags number) in
      let e : all ≡ left judged = leaves ∙ ap (λ (x : ℕ). hear_all_of x tags m o f start) (sym number) ∙ ap (hear_all_of (length tags) tags m o f) heard in
      subst (λ (x : HeardAll). Called n tags x (rack_entry rack call)) (sym e) called
