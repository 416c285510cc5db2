-- What is proved of the names.
use Rattle.std.specs.Prelude.{◌≡◌, List, [], ◌∷◌, map, ℕ, zero, suc}
use Rattle.rule_names.specs.Rules.{Rule, rule_number, rule_words}
use Rattle.rule_names.specs.Names.{all_rules, string_bytes, name_at}

-- every rule is named, by its number, with its words
abbrev pub NamedByNumber : Type 0
NamedByNumber = (rule : Rule) → name_at (rule_number rule) ≡ string_bytes (rule_words rule)

-- n numbers, from k on
unfoldable pub counted_from : ℕ → ℕ → List ℕ
counted_from k zero = []
counted_from k (suc n) = k ∷ counted_from (suc k) n

-- the rules are numbered as they are listed
abbrev pub NumberedInOrder : Type 0
NumberedInOrder = map rule_number all_rules ≡ counted_from 1 54
