-- Parts of the claim that follow from its other parts, for every step.
use Rattle.std.specs.Prelude.{◌≡◌, List, ℕ}
use Rattle.tag.specs.declared.Tag.{Tag}
use Rattle.state.specs.Layout.{tag_of}
use Rattle.refusals.specs.Call.{Call}
use Rattle.library_demand3.specs.Calls.{LibraryStep, answer_by}
use Rattle.library_demand3.specs.Claim.{shut_answer, EachLibraryStruck, LibraryShut, LibrarySame, LibraryStriking, EveryLibraryList}

-- where each struck frame changed no byte, the others can be called without it
abbrev pub LibraryStrikingFollows : Type 0
LibraryStrikingFollows = (step : LibraryStep) (start : Tag) (s m : List ℕ) (calls : List Call)
    → EachLibraryStruck step (LibraryShut step) start s m calls → LibraryStriking step s m calls

-- ---- of a struck frame's answer: the reply buffer follows from the number, for a step whose every list has the waiting tag's answers and bytes
abbrev pub NumberShut : LibraryStep → Tag → List ℕ → List ℕ → Call → Type 0
NumberShut step start s m call = (step s m call).number ≡ (shut_answer start (tag_of s).air call).number

abbrev pub AnswerShut : LibraryStep → Tag → List ℕ → List ℕ → Call → Type 0
AnswerShut step start s m call = answer_by (step s m call) ≡ shut_answer start (tag_of s).air call

abbrev pub BufferFollows : Type 0
BufferFollows = (step : LibraryStep) → EveryLibraryList (LibrarySame step)
    → EveryLibraryList (λ (s m : List ℕ) (calls : List Call). EachLibraryStruck step (NumberShut step) (tag_of s) s m calls → EachLibraryStruck step (AnswerShut step) (tag_of s) s m calls)
