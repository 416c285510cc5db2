-- What is proved of the rules of the library's rack calls.
use Rattle.std.specs.Prelude.{◌≡◌, List, [], ◌∷◌, ℕ}
use Rattle.rack.specs.Rack.{RackCall}
use Rattle.rack.specs.Claims.{refusal_numbers}
use Rattle.library_rack_refusals.specs.Rules.{rack_step_rules, rack_search_rules}

-- by their numbers; 4 has two rules
abbrev pub RackStepRefusalsInOrder : Type 0
RackStepRefusalsInOrder = (n : ℕ) (s m : List ℕ) (call : RackCall) → refusal_numbers (rack_step_rules n s m call) ≡ 1 ∷ 2 ∷ 3 ∷ 13 ∷ 4 ∷ 4 ∷ 5 ∷ 6 ∷ 7 ∷ []

abbrev pub RackSearchRefusalsInOrder : Type 0
RackSearchRefusalsInOrder = (n : ℕ) (s m o : List ℕ) → refusal_numbers (rack_search_rules n s m o) ≡ 1 ∷ 2 ∷ 13 ∷ 4 ∷ 4 ∷ 5 ∷ 7 ∷ []
