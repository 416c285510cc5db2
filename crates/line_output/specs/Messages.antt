-- What standard error gets where a run stops: it begins with the program's name.
use Rattle.std.specs.Prelude.{List, [], ◌∷◌, ◌++◌, ℕ, ◌⊎◌, Option, codes}
use Rattle.console.specs.Written.{AppendsStart}

abbrev pub stop_at_read : List ℕ → List ℕ
stop_at_read name = name ++ codes ": cannot read the input" ++ 10 ∷ []

abbrev pub stop_at_write : List ℕ → List ℕ
stop_at_write name = name ++ codes ": cannot write the output" ++ 10 ∷ []

-- a start of one of them, or nothing
abbrev pub TellsStop : List ℕ → Option (List ℕ) → Option (List ℕ) → Type 0
TellsStop name old new = AppendsStart old new (stop_at_read name) ⊎ AppendsStart old new (stop_at_write name)
