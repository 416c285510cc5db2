-- What goes from line to line: what is on the bench, the memory, the reply buffer.
use Rattle.std.specs.Prelude.{List, ℕ}
use Rattle.line_stream.specs.declared.Carried.{Carried}

pub record LineState (B M : Type 0) : Type 0 where
  pub bench : B
  pub memory : M
  pub reply : List ℕ

abbrev pub line_state : {B M : Type 0} → B → M → List ℕ → LineState B M
line_state bench memory reply = record { bench = bench; memory = memory; reply = reply }

-- what the code carries, whose memory and reply buffer are lent
abbrev pub state_of : {B M : Type 0} → Carried B M → LineState B M
state_of on = line_state on.bench on.memory.now on.reply.now
