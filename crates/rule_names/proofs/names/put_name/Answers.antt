use native.Mathlib.Omega.{arith}
use Rattle.rule_names.specs.Rules.{silence_words, error_words, rule_words}
use Rattle.rule_names.specs.Names.{all_rules, names, string_bytes}
use Rattle.rule_names.proofs.Table.{end_to_end, starts_from, lengths_of, piece_is, past_last, nothing_stored}
use Rattle.rule_names.proofs.names.put_name.Goals as goal

pub returns-then-i-ge-COUNT : goal.returns-then-i-ge-COUNT
returns-then-i-ge-COUNT c = rw (past_last _ c.if-i-ge-COUNT.true) (nothing_stored _ _ (omega arith))

pub returns : goal.returns
unfolding end_to_end starts_from lengths_of names all_rules rule_words silence_words error_words string_bytes
returns c =
    rw (← piece_is _ c.if-i-ge-COUNT.false) c.put_part.ensures
