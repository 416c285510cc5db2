-- What is served is not refused. Assumes nothing.
use mathlib.Core.Path.{◌≡◌, refl}
use mathlib.Core.Bool.{false}
use mathlib.Core.List.{List}
use Prim.Native.Nat.{ℕ}
use Rattle.bus.specs.Bus.{transfer_at}
use Rattle.tag.specs.declared.Tag.{Tag}
use Rattle.bus.specs.Bus.{transfer_at}
use Rattle.signal.specs.declared.WireAnswer.{WireAnswer}
use Rattle.signal.specs.declared.WireAnswer.TheVariants.{Nothing as WireNothing, Ack as WireAck, NoAck as WireNoAck, Byte as WireByte}
use Rattle.wire.specs.Wire.{signal_of}
use Rattle.reply.specs.Reply.{ReplyBody, nothing, body, answer_of}
use Rattle.radio.specs.Radio.{radio_of, next_slot_of}
use Rattle.signal_table.specs.declared.Signal.{Signal}
use Rattle.signal_table.specs.declared.Signal.TheVariants.{Wire, Field, Frame, EndOfFrame}
use Rattle.model.specs.Step.{is_refused, from_wire, from_radio, act_of}
use Rattle.reply.specs.Outcome.{radio_side}
use Rattle.tag.specs.Parts.{wire_side}

wire_served : (a : WireAnswer) → is_refused (from_wire a) ≡ false
unfolding is_refused from_wire
wire_served WireNothing = refl
wire_served WireAck = refl
wire_served WireNoAck = refl
wire_served (WireByte x) = refl

radio_served : (r : ReplyBody) → is_refused (from_radio (answer_of r)) ≡ false
unfolding is_refused from_radio answer_of
radio_served nothing = refl
radio_served (body b) = refl

pub act_served : (x : Signal) (t : Tag) (m o f : List ℕ) → is_refused (act_of x t m o f).answer ≡ false
unfolding act_of is_refused
act_served (Wire x) t m o f = wire_served (signal_of (wire_side t) t.uid m x).answer
act_served (Field on) t m o f = refl
act_served Frame t m o f = radio_served (radio_of (radio_side t) t.uid t.host.vcc (transfer_at t.host.bus) t.host.programming m f).reply
act_served EndOfFrame t m o f = radio_served (next_slot_of (radio_side t) t.uid (transfer_at t.host.bus) t.host.programming m).reply
