-- Demand 2, in both directions, at the entry.
use Rattle.std.specs.Prelude.{◌≡◌, Bool, true, false, ◌&&◌, List, [], ◌∷◌, ℕ, ◌≤◌, leb, length, None}
use Rattle.bus.specs.declared.Bus.TheVariants.{Started}
use Rattle.bus.specs.Bus.{transfer_at}
use Rattle.tag.specs.declared.Tag.{Tag}
use Rattle.tag.specs.Layout.{memory_bytes, reply_bytes}
use Rattle.signal.specs.declared.WireAnswer.{WireAnswer}
use Rattle.parts.specs.Pick.{pick}
use Rattle.tag.specs.Parts.{wire_side, with_wire}
use Rattle.transfer.specs.Legs.{Noted, NotedStart, NotedSend, NotedFetch, NotedStop, NotedVccOff, finished}
use Rattle.transfer.specs.Whole.{transfer_of}
use Rattle.radio.specs.Radio.{radio_of, next_slot_of}
use Rattle.model.specs.Step.{from_wire, by_radio, step_of}
use Rattle.refusals.specs.Refusals.{tag_in_range}
use Rattle.reply.specs.Outcome.{radio_side}
use Rattle.model.specs.Claims.{Fit}
use Rattle.refusals.specs.Call.{Call, handed_in}
use Rattle.calls.specs.Calls.{CallAnswer, call_answer, Device, device, run_result, entry, run_by}

-- ---- host direction: calls that are one transfer are the whole transfer
-- a wire signal with the reply buffer and the frame that its call hands in
pub record WireCall : Type 0 where
  pub signal : Noted
  pub buffer : List ℕ
  pub frame : List ℕ

-- its call, by the codes of signal_table/specs/Table
abbrev pub call : WireCall → ℕ → ℕ → Call
call wireCall code value = handed_in wireCall.buffer code value wireCall.frame

unfoldable pub call_by : Noted → WireCall → Call
call_by NotedStart wireCall = call wireCall 3 0
call_by (NotedSend x) wireCall = call wireCall 4 x
call_by (NotedFetch ack) wireCall = call wireCall 5 (pick ack 1 0)
call_by NotedStop wireCall = call wireCall 6 0
call_by NotedVccOff wireCall = call wireCall 1 0

unfoldable pub wire_calls : List WireCall → List Call
wire_calls [] = []
wire_calls (wireCall ∷ handed) = call_by wireCall.signal wireCall ∷ wire_calls handed

unfoldable pub signals : List WireCall → List Noted
signals [] = []
signals (wireCall ∷ handed) = wireCall.signal ∷ signals handed

-- a byte sent is a byte
unfoldable pub sends_byte : Noted → Bool
sends_byte NotedStart = true
sends_byte (NotedSend x) = leb x 255
sends_byte (NotedFetch ack) = true
sends_byte NotedStop = true
sends_byte NotedVccOff = true

-- each reply buffer has at least 643 bytes, each byte sent is a byte
unfoldable pub all_served : List WireCall → Bool
all_served [] = true
all_served (wireCall ∷ handed) = leb reply_bytes (length wireCall.buffer) && sends_byte wireCall.signal && all_served handed

-- each answer with its call's reply buffer, which stays
unfoldable pub answers_of : List WireAnswer → List WireCall → List CallAnswer
answers_of [] handed = []
answers_of (answer ∷ answers) [] = []
answers_of (answer ∷ answers) (wireCall ∷ handed) = call_answer (from_wire answer) wireCall.buffer ∷ answers_of answers handed

abbrev pub TransferServed : Type 0
TransferServed = (d : Device) (handed : List WireCall)
    → tag_in_range d.tag d.memory ≡ true → length d.memory ≡ memory_bytes
    -- the bus is started and no transfer open, and a select would be Acked
    → d.tag.host.bus ≡ Started None → d.tag.host.vcc ≡ true → d.tag.host.programming ≡ false
    → finished true (signals handed) ≡ true → all_served handed ≡ true
    → run_by entry d (wire_calls handed)
    ≡ (let result = transfer_of (wire_side d.tag) d.tag.uid d.memory (signals handed) in
    run_result (answers_of result.answers handed) (device (with_wire result.side d.tag) result.memory))

-- ---- till direction: a frame's call is an inventory, or the judge and the table of commands
abbrev pub FrameServed : Type 0
FrameServed = (t : Tag) (m o f : List ℕ) → Fit t m → reply_bytes ≤ length o
    → step_of t m (handed_in o 8 0 f)
    ≡ by_radio (radio_of (radio_side t) t.uid t.host.vcc (transfer_at t.host.bus) t.host.programming m f) t o

-- an end-of-frame's call opens the next slot of an inventory
abbrev pub NextSlotServed : Type 0
NextSlotServed = (t : Tag) (m o f : List ℕ) → Fit t m → reply_bytes ≤ length o
    → step_of t m (handed_in o 9 0 f) ≡ by_radio (next_slot_of (radio_side t) t.uid (transfer_at t.host.bus) t.host.programming m) t o

-- ---- all of it
abbrev pub Demand2 : Type 0
Demand2 = TransferServed × (FrameServed × NextSlotServed)
