-- The whole output of a program that answers line by line.
use Rattle.std.specs.Prelude.{List, [], ◌∷◌, ◌++◌, ℕ}
use Rattle.line_stream.specs.Step.{LineProgram}
use Rattle.line_stream.specs.Lines.{lines_of}

-- the texts of lines, one after the other; what each hands on goes to the next
unfoldable pub texts_of : {S : Type 0} → LineProgram S → S → List (List ℕ) → List ℕ
texts_of program state [] = []
texts_of program state (s ∷ lines) = (program state s).text ++ texts_of program (program state s).carried lines

-- the output for the input s
abbrev pub output_of : {S : Type 0} → LineProgram S → S → List ℕ → List ℕ
output_of program state s = texts_of program state (lines_of s)
