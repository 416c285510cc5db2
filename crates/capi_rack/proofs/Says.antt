-- What the rack answers is what a tag answers, or silence, or nothing. Assumes nothing.
use mathlib.Core.Path.{◌≡◌, refl, ap, ◌∙◌}
use mathlib.Core.Bool.{true, false}
use mathlib.Core.List.{List, [], ◌∷◌}
use Prim.Native.Nat.{ℕ, zero, suc}
use lib.Dec.{eqb}
use lib.ListN.{get_or}
use Rattle.std.specs.Prelude.{Ok}
use Rattle.parts.specs.Pick.{pick}
use Rattle.parts.proofs.Picks.{pick_case}
use Rattle.rule_list.specs.RuleList.{first_says}
use Rattle.refusals.specs.declared.Refusal.TheVariants.{ReplyShort, SignalUnknown}
use Rattle.refusals.specs.Call.{Call}
use Rattle.refusals.specs.Refusals.{number, argument_rules, judgement}
use Rattle.refusals.proofs.Laws.{NoneApplies, applies_of, no_refusal, not_refused, judged_case}
use Rattle.model.specs.declared.Answer.{Answer}
use Rattle.model.specs.declared.Answer.TheVariants.{Nothing, Silence}
use Rattle.model.specs.Step.{StepResult, is_refused}
use Rattle.model.proofs.Acts.{signal_of_call, fit_acts}
use Rattle.model.proofs.Served.{act_served}
use Rattle.replies_fit.specs.Claims.{reply_fits}
use Rattle.replies_fit.proofs.RepliesFit.{steps_fit}
use Rattle.calls.specs.Calls.{CallAnswer, Device, DeviceResult, entry}
use Rattle.rack.specs.Rack.{Rack, RackCall, devices, to_all, goes_to}
use Rattle.rack.specs.Rules.{rack_rules}
use Rattle.rack.specs.Step.{turn_of, turns_of, unreached, said_by, lowest_reply, no_reply, together, RackResult, rack_acts, rack_step, rack_entry}
use Rattle.rack.proofs.Fits.{AllFit, fit_of}

-- ---- a property of each answer
unfoldable AllSay : (Answer → Type 0) → List CallAnswer → Type 0
AllSay P [] = Unit {0}
AllSay P (x ∷ answers) = P x.answer × AllSay P answers

unfoldable EachSays : (Answer → Type 0) → Call → List Device → Type 0
EachSays P c [] = Unit {0}
EachSays P c (d ∷ ds) = P (entry d c).says.answer × EachSays P c ds

-- is one of the rack's answer
module _ (P : Answer → Type 0) (nothing : P Nothing) (silence : P Silence) (c : RackCall) where
  turn_says : (i : ℕ) (d : Device) → P (entry d c.handed).says.answer → P (turn_of entry c i d).says.answer
  unfolding turn_of
  turn_says i d h =
      pick_case (λ (r : DeviceResult). P r.says.answer) (goes_to c i) (entry d c.handed) (unreached c.handed d) (λ _. h) (λ _. nothing)

  all_say : (i : ℕ) (ds : List Device) → EachSays P c.handed ds → AllSay P (said_by (turns_of entry c i ds))
  unfolding AllSay EachSays said_by turns_of
  all_say i [] h = tt
  all_say i (d ∷ ds) h = (turn_says i d h.0, all_say (suc i) ds h.1)

  lowest_says : (other : CallAnswer) (answers : List CallAnswer) → P other.answer → AllSay P answers → P (lowest_reply other answers).answer
  unfolding AllSay lowest_reply
  lowest_says other [] o h = o
  lowest_says other (x ∷ answers) o h =
      pick_case (λ (r : CallAnswer). P r.answer) _ x (lowest_reply other answers) (λ _. h.0) (λ _. lowest_says other answers o h.1)

  named_says : (other : CallAnswer) (answers : List CallAnswer) (i : ℕ) → P other.answer → AllSay P answers → P (get_or answers i other).answer
  unfolding AllSay
  named_says other [] i o h = o
  named_says other (x ∷ answers) zero o h = h.0
  named_says other (x ∷ answers) (suc i) o h = named_says other answers i o h.1

  none_says : P (no_reply c.handed).answer
  none_says = pick_case P (eqb c.handed.code 2) Nothing Silence (λ _. nothing) (λ _. silence)

  acts_says : (r : Rack) → EachSays P c.handed (devices r) → P (rack_acts entry r c).says.says.answer
  unfolding rack_acts together
  acts_says r h =
      let answers = said_by (turns_of entry c 0 (devices r)) in
      let all = all_say 0 (devices r) h in
      pick_case (λ (r : CallAnswer). P r.answer) (to_all c.handed.code) (lowest_reply (no_reply c.handed) answers) (get_or answers c.to (no_reply c.handed))
      (λ _. lowest_says (no_reply c.handed) answers none_says all) (λ _. named_says (no_reply c.handed) answers c.to none_says all)

-- ---- the rack's reply fits its buffer
each_short : (c : Call) (ds : List Device) → EachSays (λ a. reply_fits a ≡ true) c ds
unfolding EachSays entry
each_short c [] = tt
each_short c (d ∷ ds) = (steps_fit d.tag d.memory c, each_short c ds)

pub rack_short : (r : Rack) (c : RackCall) → reply_fits (rack_entry r c).says.says.answer ≡ true
unfolding rack_step reply_fits
rack_short r c =
    judged_case (λ (result : RackResult). reply_fits result.says.says.answer ≡ true) _ _ _ (λ _ _. refl)
    (λ _. acts_says (λ a. reply_fits a ≡ true) refl refl c r (each_short c.handed (devices r)))

-- ---- a call that no rule of the rack refuses is not refused
each_served : (c : Call) (ds : List Device) → judgement (argument_rules c) ≡ Ok tt → AllFit ds → EachSays (λ a. is_refused a ≡ false) c ds
unfolding EachSays AllFit entry
each_served c [] h f = tt
each_served c (d ∷ ds) h f =
    (ap (λ (e : StepResult). is_refused e.answer) (fit_acts d.tag d.memory c f.0 h) ∙ act_served (signal_of_call c) d.tag d.memory c.buffer c.frame, each_served c ds h f.1)

arguments : (r : Rack) (c : RackCall) → judgement (rack_rules r c) ≡ Ok tt → judgement (argument_rules c.handed) ≡ Ok tt
unfolding NoneApplies applies_of first_says number pick
arguments r c h = no_refusal (argument_rules c.handed) (not_refused ReplyShort (rack_rules r c) h, (not_refused SignalUnknown (rack_rules r c) h, tt))

pub rack_served : (r : Rack) (c : RackCall) → judgement (rack_rules r c) ≡ Ok tt → is_refused (rack_acts entry r c).says.says.answer ≡ false
unfolding is_refused
rack_served r c h =
    acts_says (λ a. is_refused a ≡ false) refl refl c r (each_served c.handed (devices r) (arguments r c h) (fit_of r c h))
