-- Demand 3, as one claim about a list of calls.
use Rattle.std.specs.Prelude.{◌≡◌, Bool, true, false, not, ◌&&◌, ◌||◌, List, [], ◌∷◌, ℕ, length}
use Rattle.parts.specs.Pick.{pick}
use Rattle.air.specs.declared.Air.{Air}
use Rattle.tag.specs.declared.Tag.{Tag}
use Rattle.tag.specs.Layout.{memory_bytes}
use Rattle.errors.specs.declared.RadioError.TheVariants.{ShutOut}
use Rattle.reply.specs.Reply.{ReplyBody, nothing, fault}
use Rattle.frame.specs.Fields.{inventory_flag}
use Rattle.judge.specs.Judge.{is_mute}
use Rattle.silence_rules.specs.Silence.{is_silent}
use Rattle.waiting.specs.Passed.{Answer, Refused, Nothing, Ack, NoAck, Byte, Silence, Reply as ReplyOf, is_refused, transfer_open, frames_fit, call_reply, CallAnswer, Device, Step, run_result, run_by, entry}
use Rattle.signal_table.specs.declared.Signal.{Signal}
use Rattle.signal_table.specs.declared.Signal.TheVariants.{Wire, Field, Frame, EndOfFrame}
use Rattle.signal_table.specs.Table.{signal_by}
use Rattle.refusals.specs.Refusals.{looks_at_tag, tag_in_range}
use Rattle.refusals.specs.Call.{Call}
use Rattle.waiting.specs.Waiting.{Waiting, no_transfer, inside, wait_run}

-- ---- refusals 1 and 4 never occur
unfoldable pub refused_by_state : Answer → Bool
refused_by_state (Refused refusal) = looks_at_tag refusal
refused_by_state Nothing = false
refused_by_state Ack = false
refused_by_state NoAck = false
refused_by_state (Byte x) = false
refused_by_state Silence = false
refused_by_state (ReplyOf k) = false

-- an answer of the list is refusal 1 or 4
unfoldable pub state_refused : List CallAnswer → Bool
state_refused [] = false
state_refused (answer ∷ answers) = refused_by_state answer.answer || state_refused answers

-- ---- the unrefused frames that came inside a transfer are struck out; "demand 3 strikes the signal", an end-of-frame, "like a frame"
unfoldable pub is_radio : Signal → Bool
is_radio (Wire signal) = false
is_radio (Field on) = false
is_radio Frame = true
is_radio EndOfFrame = true

unfoldable pub struck : Step → Device → Call → Bool
struck step d call = transfer_open d.tag && is_radio (signal_by call.code call.value) && not (is_refused (step d call).says.answer)

-- the calls that are left
unfoldable pub others : Step → Device → List Call → List Call
others step d [] = []
others step d (call ∷ calls) =
    let rest = others step (step d call).device calls in
    pick (struck step d call) rest (call ∷ rest)

-- the answers that those had
unfoldable pub other_answers : Step → Device → List Call → List CallAnswer
other_answers step d [] = []
other_answers step d (call ∷ calls) =
    let rest = other_answers step (step d call).device calls in
    pick (struck step d call) rest ((step d call).says ∷ rest)

-- ---- a struck frame's reply: silence or 0Fh, as 01 fixes from the frame, the tag at the transfer's start,
-- and the field and radio state when it came
abbrev pub shut_frame : Tag → Air → List ℕ → ReplyBody
shut_frame start air f =
    pick (inventory_flag f || is_silent f air start.uid start.core.registers.dynamic || is_mute f start.uid) nothing
    (fault ShutOut)

-- a struck end-of-frame's: silence
unfoldable pub shut_reply : Signal → Tag → Air → List ℕ → ReplyBody
shut_reply (Wire signal) start air f = nothing
shut_reply (Field on) start air f = nothing
shut_reply Frame start air f = shut_frame start air f
shut_reply EndOfFrame start air f = nothing

-- a struck call changed nothing
abbrev pub Unchanged : Step → Tag → Device → Call → Type 0
Unchanged step start d call = (step d call).device ≡ d

-- and its reply is that
abbrev pub RepliesShut : Step → Tag → Device → Call → Type 0
RepliesShut step start d call = (step d call).says ≡ call_reply (shut_reply (signal_by call.code call.value) start d.tag.air call.frame) call.buffer

pub record Shut (step : Step) (start : Tag) (d : Device) (call : Call) : Type 0 where
  pub unchanged : Unchanged step start d call
  pub reply : RepliesShut step start d call

-- the tag at the start of the transfer that is open; with none open, the tag itself
abbrev pub start_after : Tag → Tag → Tag
start_after start t = pick (transfer_open t) start t

-- every struck call of a list has P; `start` is the tag at the start of the transfer that is open
unfoldable pub EachStruck : Step → (Tag → Device → Call → Type 0) → Tag → Device → List Call → Type 0
EachStruck step P start d [] = Unit {0}
EachStruck step P start d (call ∷ calls) =
    (struck step d call ≡ true → P (start_after start d.tag) d call)
    × EachStruck step P (start_after start d.tag) (step d call).device calls

unfoldable pub AllShut : Step → Tag → Device → List Call → Type 0
unfolding EachStruck
AllShut step start d calls = EachStruck step (Shut step) start d calls

-- ---- the claim: from device d, the calls
-- the same answer to every call, reply bytes and refusal numbers included, and the same final tag, state and every byte
abbrev pub Same : Step → Device → List Call → Type 0
Same step d calls = wait_run (no_transfer [] d) calls ≡ no_transfer (run_by step d calls).answers (run_by step d calls).device

-- refusals 1 and 4 never occur
abbrev pub Judged : Step → Device → List Call → Type 0
Judged step d calls = state_refused (run_by step d calls).answers ≡ false

-- without the struck calls all else stays the same
abbrev pub Striking : Step → Device → List Call → Type 0
Striking step d calls = run_by step d (others step d calls) ≡ run_result (other_answers step d calls) (run_by step d calls).device

pub record Agrees (step : Step) (d : Device) (calls : List Call) : Type 0 where
  pub same : Same step d calls
  pub judged : Judged step d calls
  pub striking : Striking step d calls
  -- every struck call changed nothing, and its reply was silence or, to a frame, silence or 0Fh
  pub shut : AllShut step d.tag d calls

-- the list finishes with no transfer open: the waiting tag says so, since a wrong tag might never close its own
unfoldable pub is_closed : Waiting → Bool
is_closed (no_transfer out d) = true
is_closed (inside out d noted pending) = false

-- from any tag within 01's ranges with no transfer open, for every list of calls that finishes with none open
abbrev pub EveryList : (Device → List Call → Type 0) → Type 0
EveryList P = (d : Device) (calls : List Call)
    → tag_in_range d.tag d.memory ≡ true → length d.memory ≡ memory_bytes → frames_fit calls ≡ true
    → transfer_open d.tag ≡ false → is_closed (wait_run (no_transfer [] d) calls) ≡ true
    → P d calls

abbrev pub Demand3 : Step → Type 0
Demand3 step = EveryList (Agrees step)

-- for the entry point that is what its own tag shows: a list that it finishes with no transfer open is such a list
abbrev pub EndsAlike : Type 0
EndsAlike = (d : Device) (calls : List Call)
    → tag_in_range d.tag d.memory ≡ true → length d.memory ≡ memory_bytes → frames_fit calls ≡ true
    → transfer_open d.tag ≡ false → transfer_open (run_by entry d calls).device.tag ≡ false
    → is_closed (wait_run (no_transfer [] d) calls) ≡ true
