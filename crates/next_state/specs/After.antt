-- The state's bytes after a call.
use Rattle.std.specs.Prelude.{List, ℕ, eqb, length}
use Rattle.parts.specs.Pick.{pick}
use Rattle.tag.specs.declared.Tag.{Tag}
use Rattle.state.specs.Layout.{state_bytes, bytes_of}
use Rattle.model.specs.declared.Answer.{Answer}
use Rattle.model.specs.Step.{is_refused}

-- "After any refusal every byte of every lent buffer is as before, the state's too. Otherwise the state buffer holds the next state."
unfoldable pub state_after : List ℕ → Answer → Tag → List ℕ
state_after s answer t = pick (is_refused answer) s (bytes_of t)

-- the same of any buffer: one that has not a state's length stays
unfoldable pub kept_state : List ℕ → Answer → Tag → List ℕ
kept_state s answer t = pick (eqb (length s) state_bytes) (state_after s answer t) s
