-- The input byte by byte, with no bound on what is written: what a call, a piece and all pieces come to.
use Rattle.std.specs.Prelude.{◌≡◌, Bool, true, List, [], ◌∷◌, ◌++◌, ℕ, eqb}
use Rattle.parts.specs.Pick.{pick}
use Rattle.unfinished.specs.Kept.{keep}
use Rattle.line_stream.specs.Step.{LineProgram}

-- what a run leaves: what is carried, the unfinished line, all that was written
pub record Flow (S : Type 0) : Type 0 where
  pub carried : S
  pub held : List ℕ
  pub text : List ℕ

abbrev pub flow : {S : Type 0} → S → List ℕ → List ℕ → Flow S
flow state held text = record { carried = state; held = held; text = text }

-- the same, after a text
abbrev pub following : {S : Type 0} → List ℕ → Flow S → Flow S
following text rest = flow rest.carried rest.held (text ++ rest.text)

-- the bytes s after the unfinished line held
unfoldable pub flow_of : {S : Type 0} → LineProgram S → S → List ℕ → List ℕ → Flow S
flow_of program state held [] = flow state held []
flow_of program state held (x ∷ s) =
    let answer = program state held in
    pick (eqb x 10)
    (following answer.text (flow_of program answer.carried [] s))
    (flow_of program state (keep (held ++ x ∷ [])) s)

-- a program that goes on has come to what the rest carries, and to its unfinished line
abbrev pub Reaches : {S : Type 0} → Bool → S → List ℕ → Flow S → Type 0
Reaches more state held rest = more ≡ true → (state ≡ rest.carried) × (held ≡ rest.held)
