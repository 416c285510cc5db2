-- "What the bench hands in": the refusals, and what a call does to the tag and both lent buffers.
use Rattle.std.specs.Prelude.{Option, None, Some, Bool, true, false, List, ℕ, replicate}
use Rattle.keys.specs.declared.Uid.{Uid}
use Rattle.tag.specs.declared.Tag.{Tag}
use Rattle.tag.specs.Layout.{memory_bytes}
use Rattle.tag.specs.Parts.{with_tag_air, wire_side, with_wire}
use Rattle.bus.specs.Bus.{transfer_at, is_open}
use Rattle.air.specs.Radio.{field_at}
use Rattle.tag.specs.Supply.{fresh_tag}
use Rattle.signal_table.specs.declared.Signal.{Signal}
use Rattle.signal_table.specs.declared.Signal.TheVariants.{Wire, Field, Frame, EndOfFrame}
use Rattle.signal_table.specs.Table.{signal_by}
use Rattle.signal.specs.declared.WireAnswer.{WireAnswer}
use Rattle.signal.specs.declared.WireAnswer.TheVariants.{Nothing as WireNothing, Ack as WireAck, NoAck as WireNoAck, Byte as WireByte}
use Rattle.wire.specs.Wire.{signal_of}
use Rattle.reply.specs.Reply.{buffer_of, answer_of}
use Rattle.reply.specs.Outcome.{CommandResult, radio_side, with_radio}
use Rattle.radio.specs.Radio.{radio_of, next_slot_of}
use Rattle.refusals.specs.declared.Refusal.{Refusal}
use Rattle.refusals.specs.Call.{Call}
use Rattle.refusals.specs.Refusals.{entry_rules, fresh_rules, judgement, unless_refused}
use Rattle.model.specs.declared.Answer.{Answer}
use Rattle.model.specs.declared.Answer.TheVariants.{Refused, Nothing, Ack, NoAck, Byte, Silence, Reply}
use Rattle.model.specs.declared.Outcome.{Outcome}

-- the answer, the tag and both lent buffers after a call
pub record StepResult : Type 0 where
  pub answer : Answer
  pub tag : Tag
  pub memory : List ℕ
  pub reply : List ℕ

abbrev pub step_result : Answer → Tag → List ℕ → List ℕ → StepResult
step_result answer t m o = record { answer = answer; tag = t; memory = m; reply = o }

-- what a function over both lent buffers leaves
abbrev pub step_result_of : Outcome → List ℕ → List ℕ → StepResult
step_result_of outcome m o = step_result outcome.answer outcome.tag m o

-- ---- the answers, case by case
-- an answer is a refusal
unfoldable pub is_refused : Answer → Bool
is_refused (Refused why) = true
is_refused Nothing = false
is_refused Ack = false
is_refused NoAck = false
is_refused (Byte x) = false
is_refused Silence = false
is_refused (Reply n) = false

-- an answer is a reply, an error's too
unfoldable pub is_reply : Answer → Bool
is_reply (Refused why) = false
is_reply Nothing = false
is_reply Ack = false
is_reply NoAck = false
is_reply (Byte x) = false
is_reply Silence = false
is_reply (Reply n) = true

-- "A refusal returns the number and the state handed in; every lent byte stays."
abbrev pub refused : Refusal → Tag → List ℕ → List ℕ → StepResult
refused refusal t m o = step_result (Refused refusal) t m o

-- to a wire signal: none, Ack, NoAck or a byte
unfoldable pub from_wire : WireAnswer → Answer
from_wire WireNothing = Nothing
from_wire WireAck = Ack
from_wire WireNoAck = NoAck
from_wire (WireByte x) = Byte x

-- to a frame or an end-of-frame: silence, or a reply with its length
unfoldable pub from_radio : Option ℕ → Answer
from_radio None = Silence
from_radio (Some n) = Reply n

-- a transfer is open
abbrev pub transfer_open : Tag → Bool
transfer_open t = is_open t.host.bus

-- what a frame or an end-of-frame leaves of the tag, and its reply in the buffer o
abbrev pub by_radio : CommandResult → Tag → List ℕ → StepResult
by_radio result t o =
    step_result (from_radio (answer_of result.reply)) (with_radio result.side t) result.memory (buffer_of result.reply o)

-- ---- one signal that is not refused; f is the frame, o the reply buffer
unfoldable pub act_of : Signal → Tag → List ℕ → List ℕ → List ℕ → StepResult
act_of (Wire signal) t m o f =
    let result = signal_of (wire_side t) t.uid m signal in
    step_result (from_wire result.answer) (with_wire result.side t) result.memory o
act_of (Field on) t m o f = step_result Nothing (with_tag_air (field_at on t.air) t) m o
act_of Frame t m o f = by_radio (radio_of (radio_side t) t.uid t.host.vcc (transfer_at t.host.bus) t.host.programming m f) t o
act_of EndOfFrame t m o f = by_radio (next_slot_of (radio_side t) t.uid (transfer_at t.host.bus) t.host.programming m) t o

-- ---- the two entry points
-- one call: the refusals "in this order", then the signal
unfoldable pub step_of : Tag → List ℕ → Call → StepResult
step_of t m call =
    unless_refused (judgement (entry_rules t m call)) (λ (refusal : Refusal). refused refusal t m call.buffer)
    (act_of (signal_by call.code call.value) t m call.buffer call.frame)

-- without a reply buffer
pub record FreshResult : Type 0 where
  pub answer : Answer
  pub tag : Tag
  pub memory : List ℕ

abbrev pub fresh_result : Answer → Tag → List ℕ → FreshResult
fresh_result answer t m = record { answer = answer; tag = t; memory = m }

-- the fresh tag; "all bytes .. 0". Memory of another length is refusal 1 and stays.
unfoldable pub fresh_of : Uid → List ℕ → FreshResult
fresh_of u m =
    unless_refused (judgement (fresh_rules m)) (λ (refusal : Refusal). fresh_result (Refused refusal) (fresh_tag u) m)
    (fresh_result Nothing (fresh_tag u) (replicate memory_bytes 0))
