-- Lists of the library's calls, each of which gets the state's bytes and the memory that the last one left.
-- Beside these a call hands in what `Call` holds: a reply buffer of any length, a code, a value, a frame.
use Rattle.std.specs.Prelude.{List, [], ◌∷◌, ℕ}
use Rattle.capi.specs.Interface.{CallResult, step_call}
use Rattle.refusals.specs.Call.{Call}

-- of the state's bytes, the memory and a call: the number, the state's bytes, the memory and the reply buffer at the return
abbrev pub LibraryStep : Type 0
LibraryStep = List ℕ → List ℕ → Call → CallResult

-- the exported function, as the contract of its code has it; s is the state, m the memory
unfoldable pub exported : List ℕ → List ℕ → Call → CallResult
exported s m call = step_call s m call

-- the answer to a call: its number, with the whole reply buffer as the call leaves it
pub record LibraryAnswer : Type 0 where
  pub number : ℕ
  pub buffer : List ℕ

abbrev pub library_answer : ℕ → List ℕ → LibraryAnswer
library_answer n o = record { number = n; buffer = o }

abbrev pub answer_by : CallResult → LibraryAnswer
answer_by result = library_answer result.number result.reply

-- the answers to a list of calls, in their order, and the bytes that are left at its end
pub record LibraryRunResult : Type 0 where
  pub answers : List LibraryAnswer
  pub state : List ℕ
  pub memory : List ℕ

abbrev pub library_run_result : List LibraryAnswer → List ℕ → List ℕ → LibraryRunResult
library_run_result answers s m = record { answers = answers; state = s; memory = m }

unfoldable pub library_run : LibraryStep → List ℕ → List ℕ → List Call → LibraryRunResult
library_run step s m [] = library_run_result [] s m
library_run step s m (call ∷ calls) =
    let result = step s m call in
    let rest = library_run step result.state result.memory calls in
    library_run_result (answer_by result ∷ rest.answers) rest.state rest.memory
