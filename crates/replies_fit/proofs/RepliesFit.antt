-- Every reply fits its buffer. Assumes nothing.
use mathlib.Core.Path.{◌≡◌, refl, sym, ap, ◌∙◌}
use mathlib.Core.Bool.{true}
use mathlib.Core.List.{List}
use Prim.Native.Nat.{ℕ, ◌≤◌}
use borrow.Author.Tests.{le-leb, leb-true}
use Rattle.parts.proofs.Bools.{and_right}
use Rattle.bus.specs.Bus.{transfer_at}
use Rattle.tag.specs.declared.Tag.{Tag}
use Rattle.keys.specs.declared.Uid.{Uid}
use Rattle.ranges.specs.Ranges.{registers_in_range, mailbox_in_range, core_in_range}
use Rattle.refusals.specs.Refusals.{tag_in_range}
use Rattle.refusals.proofs.Laws.{judged_case}
use Rattle.refusals.proofs.Ranges.{range_parts}
use Rattle.signal.specs.declared.WireAnswer.{WireAnswer}
use Rattle.signal.specs.declared.WireAnswer.TheVariants.{Nothing as WireNothing, Ack as WireAck, NoAck as WireNoAck, Byte as WireByte}
use Rattle.model.specs.Passed.{signal_of, reply_size, radio_of, next_slot_of}
use Rattle.reply.specs.Reply.{ReplyBody, nothing, body, answer_of}
use Rattle.model.proofs.Passed.{replies_fit, end_fits}
use Rattle.model.specs.declared.Answer.{Answer}
use Rattle.model.specs.declared.Answer.TheVariants.{Reply}
use Rattle.signal_table.specs.declared.Signal.{Signal}
use Rattle.signal_table.specs.declared.Signal.TheVariants.{Wire, Field, Frame, EndOfFrame}
use Rattle.model.specs.Step.{StepResult, from_wire, from_radio, act_of, step_of, FreshResult, fresh_of}
use Rattle.replies_fit.specs.Claims.{reply_fits, StepRepliesFit}
use Rattle.reply.specs.Outcome.{radio_side}
use Rattle.tag.specs.Parts.{wire_side}
use Rattle.model.proofs.Acts.{signal_of_call, range_of}

mailbox_fits : (t : Tag) (m : List ℕ) → tag_in_range t m ≡ true → mailbox_in_range t.core.mailbox ≡ true
unfolding core_in_range
mailbox_fits t m h = and_right (registers_in_range t.core.registers) (mailbox_in_range t.core.mailbox) (range_parts t m h).core

wire_fits : (a : WireAnswer) → reply_fits (from_wire a) ≡ true
unfolding reply_fits from_wire
wire_fits WireNothing = refl
wire_fits WireAck = refl
wire_fits WireNoAck = refl
wire_fits (WireByte x) = refl

radio_fits : (r : ReplyBody) → reply_size r ≤ 643 → reply_fits (from_radio (answer_of r)) ≡ true
unfolding reply_fits from_radio answer_of reply_size
radio_fits nothing h = refl
radio_fits (body b) h = le-leb _ 643 h

act_fits : (x : Signal) (t : Tag) (m o f : List ℕ) → tag_in_range t m ≡ true → reply_fits (act_of x t m o f).answer ≡ true
unfolding act_of reply_fits
act_fits (Wire x) t m o f h = wire_fits (signal_of (wire_side t) t.uid m x).answer
act_fits (Field on) t m o f h = refl
act_fits Frame t m o f h =
    radio_fits (radio_of (radio_side t) t.uid t.host.vcc (transfer_at t.host.bus) t.host.programming m f).reply
    (replies_fit (radio_side t) t.uid t.host.vcc (transfer_at t.host.bus) t.host.programming m f (mailbox_fits t m h))
act_fits EndOfFrame t m o f h =
    radio_fits (next_slot_of (radio_side t) t.uid (transfer_at t.host.bus) t.host.programming m).reply
    (end_fits (radio_side t) t.uid (transfer_at t.host.bus) t.host.programming m)

pub steps_fit : StepRepliesFit
unfolding step_of reply_fits
steps_fit t m c =
    judged_case (λ (e : StepResult). reply_fits e.answer ≡ true) _ _ _ (λ r h. refl)
    (λ h. act_fits (signal_of_call c) t m c.buffer c.frame (range_of t m c h))

pub fresh_reply_fits : (u : Uid) (m : List ℕ) → reply_fits (fresh_of u m).answer ≡ true
unfolding fresh_of reply_fits
fresh_reply_fits u m = judged_case (λ (e : FreshResult). reply_fits e.answer ≡ true) _ _ _ (λ r h. refl) (λ h. refl)

-- a reply's length
pub short : (a : Answer) (n : ℕ) → a ≡ Reply n → reply_fits a ≡ true → n ≤ 643
unfolding reply_fits
short a n e h = leb-true n 643 (sym (ap reply_fits e) ∙ h)
