-- The waiting tag. "The waiting tag gets each call's arguments but, after the start, neither state nor memory;
-- it keeps a tag of its own and the open transfer's wire signals."
use Rattle.std.specs.Prelude.{Bool, true, false, not, ◌&&◌, List, [], ◌∷◌, ◌++◌, ℕ, Option, Some, None}
use Rattle.bus.specs.declared.OpenTransfer.{OpenTransfer}
use Rattle.parts.specs.Pick.{pick}
use Rattle.bus.specs.declared.Bus.{Bus}
use Rattle.bus.specs.declared.Bus.TheVariants.{Idle, Started, ReadLeg, WriteLeg, LowAddress, DataLeg}
use Rattle.bus.specs.Bus.{kept_of}
use Rattle.tag.specs.declared.Host.{Host}
use Rattle.air.specs.Radio.{field_at}
use Rattle.tag.specs.Parts.{wire_side, with_wire, with_tag_air}
use Rattle.select.specs.Select.{choose}
use Rattle.signal.specs.declared.WireAnswer.{WireAnswer}
use Rattle.signal_table.specs.declared.WireSignal.{WireSignal}
use Rattle.signal_table.specs.declared.WireSignal.TheVariants.{Start as SignalStart, Send, Fetch, Stop as SignalStop, Vcc, ProgrammingEnd}
use Rattle.transfer.specs.Legs.{Noted, NotedStart, NotedSend, NotedFetch, NotedStop, NotedVccOff, select_refused, finished}
use Rattle.transfer.specs.Whole.{transfer_of}
use Rattle.calls.specs.Passed.{radio_of, next_slot_of, Refused, Nothing, from_wire, act_of}
use Rattle.refusals.specs.declared.Refusal.{Refusal}
use Rattle.refusals.specs.Refusals.{argument_rules, judgement, unless_refused}
use Rattle.signal_table.specs.declared.Signal.{Signal}
use Rattle.signal_table.specs.declared.Signal.TheVariants.{Wire, Field, Frame, EndOfFrame}
use Rattle.signal_table.specs.Table.{signal_by}
use Rattle.reply.specs.Outcome.{radio_side}
use Rattle.refusals.specs.Call.{Call}
use Rattle.calls.specs.Calls.{call_reply, CallAnswer, call_answer, Device, device, DeviceResult, device_result_of}

-- the place of an answer: given, or waiting for the transfer's end with the reply buffer of its call
pub data Pending : Type 0 where
  given : CallAnswer → Pending
  waits : List ℕ → Pending

-- the places filled with the whole transfer's answers
unfoldable pub fill : List Pending → List WireAnswer → List CallAnswer
fill [] answers = []
fill (given answer ∷ pending) answers = answer ∷ fill pending answers
fill (waits o ∷ pending) [] = []
fill (waits o ∷ pending) (answer ∷ answers) = call_answer (from_wire answer) o ∷ fill pending answers

-- with no transfer open: what was answered, and the kept tag.
-- In a transfer: what was answered before it, the kept tag, the noted signals, and the places of the answers since the select.
pub data Waiting : Type 0 where
  no_transfer : List CallAnswer → Device → Waiting
  inside : List CallAnswer → Device → List Noted → List Pending → Waiting

-- an answer that needs no waiting; "A refused call gives its number and changes nothing."
unfoldable pub answered : Waiting → CallAnswer → Waiting
answered (no_transfer out d) answer = no_transfer (out ++ answer ∷ []) d
answered (inside out d noted pending) answer = inside out d noted (pending ++ given answer ∷ [])

-- ---- what is noted of a wire signal: "That select and each later Start, byte, fetch, Stop and VCC off are noted"
unfoldable pub notes_of : WireSignal → List Noted
notes_of SignalStart = NotedStart ∷ []
notes_of (Send x) = NotedSend x ∷ []
notes_of (Fetch ack) = NotedFetch ack ∷ []
notes_of SignalStop = NotedStop ∷ []
notes_of (Vcc false) = NotedVccOff ∷ []
notes_of (Vcc true) = []
notes_of ProgrammingEnd = []

-- ---- no transfer open
unfoldable pub is_started : Bus → Bool
is_started Idle = false
is_started (Started transfer) = true
is_started (ReadLeg kept space over last) = false
is_started (WriteLeg kept space) = false
is_started (LowAddress kept space high) = false
is_started (DataLeg kept space count spoiled) = false

-- "an Acked select": byte x, the first one sent after a Start
unfoldable pub acked_select : Host → ℕ → Bool
acked_select h x = is_started h.bus && not (select_refused (choose h.vcc h.programming x))

-- what is noted opens a transfer: it is an Acked select
unfoldable pub opens : Host → List Noted → Bool
opens h [] = false
opens h (NotedStart ∷ rest) = false
opens h (NotedSend x ∷ rest) = acked_select h x
opens h (NotedFetch ack ∷ rest) = false
opens h (NotedStop ∷ rest) = false
opens h (NotedVccOff ∷ rest) = false

-- "With no transfer open, any call but an Acked select acts as 01 says."
abbrev pub at_once : List CallAnswer → DeviceResult → Waiting
at_once out result = no_transfer (out ++ result.says ∷ []) result.device

abbrev pub acts : List CallAnswer → Device → Signal → Call → Waiting
acts out d signal call = at_once out (device_result_of (act_of signal d.tag d.memory call.buffer call.frame))

unfoldable pub when_closed : List CallAnswer → Device → Signal → Call → Waiting
when_closed out d (Wire signal) call =
    pick (opens d.tag.host (notes_of signal)) (inside out d (notes_of signal) (waits call.buffer ∷ []))
    (acts out d (Wire signal) call)
when_closed out d (Field on) call = acts out d (Field on) call
when_closed out d Frame call = acts out d Frame call
when_closed out d EndOfFrame call = acts out d EndOfFrame call

-- ---- a transfer open
-- "at the transfer's end these act on the kept tag as 2's whole transfer, which answers each"
unfoldable pub note : List CallAnswer → Device → List Noted → List Pending → Waiting
note out d noted pending =
    let result = transfer_of (wire_side d.tag) d.tag.uid d.memory noted in
    pick (finished true noted) (no_transfer (out ++ fill pending result.answers) (device (with_wire result.side d.tag) result.memory))
    (inside out d noted pending)

-- "frames are answered from the kept tag, a transfer being open"
abbrev pub as_opened : Device → Option OpenTransfer
as_opened d = Some (kept_of None d.tag.core.registers.dynamic)

unfoldable pub frame_answer : Device → Call → CallAnswer
frame_answer d call =
    let result = radio_of (radio_side d.tag) d.tag.uid d.tag.host.vcc (as_opened d) d.tag.host.programming d.memory call.frame in
    call_reply result.reply call.buffer

-- ends-of-frame like frames
unfoldable pub end_answer : Device → Call → CallAnswer
end_answer d call =
    let result = next_slot_of (radio_side d.tag) d.tag.uid (as_opened d) d.tag.host.programming d.memory in
    call_reply result.reply call.buffer

-- one more signal noted, or answered as one that does nothing
unfoldable pub notes : List CallAnswer → Device → List Noted → List Pending → List Noted → Call → Waiting
notes out d noted pending [] call = answered (inside out d noted pending) (call_answer Nothing call.buffer)
notes out d noted pending (next ∷ rest) call = note out d (noted ++ next ∷ []) (pending ++ waits call.buffer ∷ [])

-- "Until then field changes act at once and nothing else acts"
unfoldable pub when_open : List CallAnswer → Device → List Noted → List Pending → Signal → Call → Waiting
when_open out d noted pending (Wire signal) call = notes out d noted pending (notes_of signal) call
when_open out d noted pending (Field on) call =
    answered (inside out (device (with_tag_air (field_at on d.tag.air) d.tag) d.memory) noted pending) (call_answer Nothing call.buffer)
when_open out d noted pending Frame call = answered (inside out d noted pending) (frame_answer d call)
when_open out d noted pending EndOfFrame call = answered (inside out d noted pending) (end_answer d call)

-- ---- one call
unfoldable pub wait_act : Waiting → Signal → Call → Waiting
wait_act (no_transfer out d) signal call = when_closed out d signal call
wait_act (inside out d noted pending) signal call = when_open out d noted pending signal call

-- it judges the refusals that the call's own arguments tell
unfoldable pub wait_step : Waiting → Call → Waiting
wait_step waiting call =
    unless_refused (judgement (argument_rules call)) (λ (refusal : Refusal). answered waiting (call_answer (Refused refusal) call.buffer))
    (wait_act waiting (signal_by call.code call.value) call)

unfoldable pub wait_run : Waiting → List Call → Waiting
wait_run waiting [] = waiting
wait_run waiting (call ∷ calls) = wait_run (wait_step waiting call) calls
