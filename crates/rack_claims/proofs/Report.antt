-- Only to a frame or an end-of-frame somebody answers. Assumes nothing.
use mathlib.Core.Path.{◌≡◌, refl, sym, ap, ◌∙◌}
use mathlib.Core.Bool.{Bool, false, false≢true}
use mathlib.Core.List.{List, [], ◌∷◌}
use Prim.Native.Nat.{ℕ, suc}
use Rattle.std.specs.Prelude.{Ok, Err}
use Rattle.parts.specs.Pick.{pick}
use Rattle.parts.proofs.Picks.{pick_case}
use Rattle.tag.specs.Parts.{wire_side}
use Rattle.signal.specs.declared.WireAnswer.{WireAnswer}
use Rattle.signal.specs.declared.WireAnswer.TheVariants.{Nothing as WireNothing, Ack as WireAck, NoAck as WireNoAck, Byte as WireByte}
use Rattle.demand3.specs.Passed.{signal_of, is_reply, from_wire, act_of}
use Rattle.signal_table.specs.declared.Signal.{Signal}
use Rattle.signal_table.specs.declared.Signal.TheVariants.{Wire, Field, Frame, EndOfFrame}
use Rattle.signal_table.specs.Table.{signal_by}
use Rattle.refusals.specs.Refusals.{judgement, Judgement}
use Rattle.refusals.specs.Call.{Call}
use Rattle.rack.specs.Passed.{Device, DeviceResult, entry}
use Rattle.rack.proofs.Passed.{Fits, acted_by, call_case}
use Rattle.demand3.specs.Demand3.{is_radio}
use Rattle.rack.specs.Rack.{RackCall, devices, goes_to}
use Rattle.rack.specs.Rules.{rack_rules}
use Rattle.rack.specs.Step.{unreached, turn_of, turns_of, said_by, RackAnswer, who_replied, numbers_from, together, RackResult, rack_entry}
use Rattle.rack.proofs.Fits.{AllFit, fit_of}
use Rattle.rack.proofs.Kept.{call_refused, call_says}
use Rattle.rack_claims.specs.ItsTags.{OnlyRadioReported}

-- ---- one tag
wire_no_reply : (a : WireAnswer) → is_reply (from_wire a) ≡ false
unfolding is_reply from_wire
wire_no_reply WireNothing = refl
wire_no_reply WireAck = refl
wire_no_reply WireNoAck = refl
wire_no_reply (WireByte x) = refl

acted_no_reply : (x : Signal) (d : Device) (c : Call) → is_radio x ≡ false → is_reply (acted_by x d c).says.answer ≡ false
unfolding act_of is_radio is_reply
acted_no_reply (Wire x) d c h = wire_no_reply (signal_of (wire_side d.tag) d.tag.uid d.memory x).answer
acted_no_reply (Field on) d c h = refl
acted_no_reply Frame d c h = absurd (false≢true (sym h))
acted_no_reply EndOfFrame d c h = absurd (false≢true (sym h))

no_reply_lem : (d : Device) (c : Call) → Fits d → is_radio (signal_by c.code c.value) ≡ false → is_reply (entry d c).says.answer ≡ false
unfolding is_reply
no_reply_lem d c f h =
    call_case (λ (e : DeviceResult). is_reply e.says.answer ≡ false) d c f (λ r found. refl) (acted_no_reply (signal_by c.code c.value) d c h)

-- ---- all tags
module _ (c : RackCall) (h : is_radio (signal_by c.handed.code c.handed.value) ≡ false) where
  turn_no_reply : (i : ℕ) (d : Device) → Fits d → is_reply (turn_of entry c i d).says.answer ≡ false
  unfolding turn_of is_reply
  turn_no_reply i d f =
      pick_case (λ (e : DeviceResult). is_reply e.says.answer ≡ false) (goes_to c i) (entry d c.handed) (unreached c.handed d)
      (λ _. no_reply_lem d c.handed f h) (λ _. refl)

  none_replied : (i j : ℕ) (ds : List Device) → AllFit ds → numbers_from i (who_replied (said_by (turns_of entry c j ds))) ≡ []
  unfolding numbers_from who_replied said_by turns_of AllFit pick
  none_replied i j [] f = refl
  none_replied i j (d ∷ ds) f =
      let rest = numbers_from (suc i) (who_replied (said_by (turns_of entry c (suc j) ds))) in
      ap (λ (b : Bool). pick b (i ∷ rest) rest) (turn_no_reply j d f.0) ∙ none_replied (suc i) (suc j) ds f.1

pub only_radio_reported : OnlyRadioReported rack_entry
unfolding together
only_radio_reported r c h = by (judgement (rack_rules r c)) refl
  where
    by : (j : Judgement) → judgement (rack_rules r c) ≡ j → (rack_entry r c).says.report ≡ []
    by (Ok tt) k = ap (λ (a : RackAnswer). a.report) (call_says r c k) ∙ none_replied c h 0 0 (devices r) (fit_of r c k)
    by (Err x) k = ap (λ (e : RackResult). e.says.report) (call_refused r c x k)
