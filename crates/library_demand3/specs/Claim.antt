-- Demand 3 over the library's calls, as one claim about a list of calls. The waiting tag, and what is struck out, are those of waiting/specs.
use Rattle.std.specs.Prelude.{◌≡◌, Bool, true, false, not, ◌&&◌, List, [], ◌∷◌, ℕ, ltb, length}
use Rattle.parts.specs.Pick.{pick}
use Rattle.parts.specs.Bytes.{are_bytes}
use Rattle.air.specs.declared.Air.{Air}
use Rattle.tag.specs.declared.Tag.{Tag}
use Rattle.tag.specs.Layout.{memory_bytes}
use Rattle.state.specs.Layout.{bytes_of, decodes, tag_of}
use Rattle.model.specs.declared.Answer.TheVariants.{Nothing}
use Rattle.signal_table.specs.Table.{signal_by}
use Rattle.model.specs.Step.{transfer_open}
use Rattle.refusals.specs.Refusals.{tag_in_range}
use Rattle.capi.specs.Interface.{answer_number, fresh_call}
use Rattle.refusals.specs.Call.{Call}
use Rattle.calls.specs.Calls.{CallAnswer, device, frames_fit, call_reply}
use Rattle.demand3.specs.Passed.{Waiting, no_transfer, inside, wait_run}
use Rattle.demand3.specs.Demand3.{is_radio, shut_reply, start_after, is_closed}
use Rattle.library_demand3.specs.Calls.{LibraryStep, exported, LibraryAnswer, library_answer, answer_by, LibraryRunResult, library_run_result, library_run}

-- ---- the waiting tag in numbers and bytes
abbrev pub in_number : CallAnswer → LibraryAnswer
in_number answer = library_answer (answer_number answer.answer) answer.buffer

unfoldable pub in_numbers : List CallAnswer → List LibraryAnswer
in_numbers [] = []
in_numbers (answer ∷ answers) = in_number answer ∷ in_numbers answers

-- its answers, the bytes of its tag, and its memory; with a transfer open (no list of the claim ends so), as at the transfer's start
unfoldable pub in_bytes : Waiting → LibraryRunResult
in_bytes (no_transfer out d) = library_run_result (in_numbers out) (bytes_of d.tag) d.memory
in_bytes (inside out d noted pending) = library_run_result (in_numbers out) (bytes_of d.tag) d.memory

-- ---- the frames and ends-of-frame to strike out: those that came while a transfer was open and were not refused; a number below 0x100 is a refusal
unfoldable pub library_struck : LibraryStep → List ℕ → List ℕ → Call → Bool
library_struck step s m call = transfer_open (tag_of s) && is_radio (signal_by call.code call.value) && not (ltb (step s m call).number 0x100)

-- the calls that are left
unfoldable pub library_others : LibraryStep → List ℕ → List ℕ → List Call → List Call
library_others step s m [] = []
library_others step s m (call ∷ calls) =
    let rest = library_others step (step s m call).state (step s m call).memory calls in
    pick (library_struck step s m call) rest (call ∷ rest)

-- the answers that those had
unfoldable pub library_other_answers : LibraryStep → List ℕ → List ℕ → List Call → List LibraryAnswer
library_other_answers step s m [] = []
library_other_answers step s m (call ∷ calls) =
    let rest = library_other_answers step (step s m call).state (step s m call).memory calls in
    pick (library_struck step s m call) rest (answer_by (step s m call) ∷ rest)

-- ---- what each of them did: it changed no byte, and its answer was silence or error 0Fh
-- every struck frame of a list has P; `start` is the tag at the start of the transfer that is open
unfoldable pub EachLibraryStruck : LibraryStep → (Tag → List ℕ → List ℕ → Call → Type 0) → Tag → List ℕ → List ℕ → List Call → Type 0
EachLibraryStruck step P start s m [] = Unit {0}
EachLibraryStruck step P start s m (call ∷ calls) =
    (library_struck step s m call ≡ true → P (start_after start (tag_of s)) s m call)
    × EachLibraryStruck step P (start_after start (tag_of s)) (step s m call).state (step s m call).memory calls

abbrev pub shut_answer : Tag → Air → Call → LibraryAnswer
shut_answer start air call = in_number (call_reply (shut_reply (signal_by call.code call.value) start air call.frame) call.buffer)

pub record LibraryShut (step : LibraryStep) (start : Tag) (s m : List ℕ) (call : Call) : Type 0 where
  pub state : (step s m call).state ≡ s
  pub memory : (step s m call).memory ≡ m
  pub reply : answer_by (step s m call) ≡ shut_answer start (tag_of s).air call

-- ---- the claim: from state bytes s and memory m, the calls
-- each call has the waiting tag's number and, byte for byte, its reply buffer; the bytes left at the end, state and memory, are the waiting tag's
abbrev pub LibrarySame : LibraryStep → List ℕ → List ℕ → List Call → Type 0
LibrarySame step s m calls = library_run step s m calls ≡ in_bytes (wait_run (no_transfer [] (device (tag_of s) m)) calls)

-- without the struck frames the other answers, and the bytes left at the end, are the same
abbrev pub LibraryStriking : LibraryStep → List ℕ → List ℕ → List Call → Type 0
LibraryStriking step s m calls =
    library_run step s m (library_others step s m calls)
    ≡ library_run_result (library_other_answers step s m calls) (library_run step s m calls).state (library_run step s m calls).memory

pub record LibraryAgrees (step : LibraryStep) (s m : List ℕ) (calls : List Call) : Type 0 where
  pub same : LibrarySame step s m calls
  pub striking : LibraryStriking step s m calls
  pub shut : EachLibraryStruck step (LibraryShut step) (tag_of s) s m calls

-- bytes that decode to a tag in range with no transfer open, and 1,024 bytes of memory
pub record Starts (s m : List ℕ) : Type 0 where
  pub state : are_bytes s ≡ true
  pub whole : decodes s ≡ true
  pub memory : are_bytes m ≡ true
  pub size : length m ≡ memory_bytes
  pub range : tag_in_range (tag_of s) m ≡ true
  pub shut : transfer_open (tag_of s) ≡ false

-- from there every list of calls, their frames of bytes, that finishes with no transfer open: the waiting tag says so
abbrev pub EveryLibraryList : (List ℕ → List ℕ → List Call → Type 0) → Type 0
EveryLibraryList P = (s m : List ℕ) (calls : List Call) → Starts s m
    → frames_fit calls ≡ true → is_closed (wait_run (no_transfer [] (device (tag_of s) m)) calls) ≡ true
    → P s m calls

abbrev pub LibraryDemand3 : LibraryStep → Type 0
LibraryDemand3 step = EveryLibraryList (LibraryAgrees step)

-- for the exported function that is what its own bytes show: a list that leaves bytes with no transfer open is such a list
abbrev pub LibraryEndsAlike : Type 0
LibraryEndsAlike = (s m : List ℕ) (calls : List Call) → Starts s m
    → frames_fit calls ≡ true → transfer_open (tag_of (library_run exported s m calls).state) ≡ false
    → is_closed (wait_run (no_transfer [] (device (tag_of s) m)) calls) ≡ true

-- the bytes that `st25dv_fresh` leaves are such a start, where it is not refused
abbrev pub FreshStarts : Type 0
FreshStarts = (uid m s : List ℕ) → let result = fresh_call uid m s in
    are_bytes uid ≡ true → result.number ≡ answer_number Nothing → Starts result.state result.memory
