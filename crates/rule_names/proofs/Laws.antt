-- What a text with a name in it needs: each name is short and plain, again by one computed test. Assumes nothing.
use mathlib.Core.Path.{◌≡◌, refl}
use mathlib.Core.Bool.{Bool, true, false, ◌&&◌}
use mathlib.Core.List.{List, [], ◌∷◌}
use Prim.Native.Nat.{ℕ, ◌≤◌}
use lib.Dec.{ltb, leb}
use borrow.Author.Tests.{ltb-true, ltb-false, leb-true}
use lib.ListN.{length}
use Rattle.parts.proofs.Bools.{and_left, and_right}
use Rattle.rule_names.specs.Rules.{silence_words, error_words, rule_words}
use Rattle.rule_names.specs.Names.{all_rules, names, string_bytes, name_at}
use Rattle.rule_names.proofs.Table.{below, below_at, count, past_last}

-- no character is a tab or ends a line
unfoldable pub plain : List ℕ → Bool
plain [] = true
plain (x ∷ rest) = leb 0x20 x && plain rest

-- a number's name has at most 37 characters, all plain
abbrev short : ℕ → Bool
short n = leb (length (name_at n)) 37

tidy : ℕ → Bool
tidy n = short n && plain (name_at n)

-- the computed test
all_tidy : below tidy count ≡ true
unfolding below tidy plain names all_rules rule_words silence_words error_words name_at string_bytes
all_tidy = refl

tidy_by : (n : ℕ) (b : Bool) → ltb n count ≡ b → tidy n ≡ true
unfolding tidy plain
tidy_by n true h = below_at tidy count n all_tidy (ltb-true n count h)
tidy_by n false h = rw (past_last n (ltb-false n count h))

tidy_at : (n : ℕ) → tidy n ≡ true
tidy_at n = tidy_by n (ltb n count) refl

pub name_length : (n : ℕ) → length (name_at n) ≤ 37
unfolding tidy
name_length n = leb-true (length (name_at n)) 37 (and_left (short n) (plain (name_at n)) (tidy_at n))

pub name_plain : (n : ℕ) → plain (name_at n) ≡ true
unfolding tidy
name_plain n = and_right (short n) (plain (name_at n)) (tidy_at n)
