use mathlib.Core.Path.{ap}
use Rattle.register_table.specs.declared.RegisterRow.{RegisterRow}
use Rattle.parts.proofs.Picks.{picks}
use Rattle.rule_list.specs.RuleList.{first_says}
use Rattle.row_rules.specs.RowErrors.{error_applies, first_applying}
use Rattle.row_errors.proofs.write_config_error.Goals as goal

pub returns-then-not-row : goal.returns-then-not-row
unfolding first_says error_applies first_applying
returns-then-not-row c dynamic busy =
    rw (← c.param-pointer.ensures, ← ap (λ (row : RegisterRow). row.radio) c.row_of-row.ensures) (search picks depth 20)

pub returns-then-lock-v : goal.returns-then-lock-v
unfolding first_says error_applies first_applying
returns-then-lock-v c dynamic busy =
    rw (← c.param-pointer.ensures, ← ap (λ (row : RegisterRow). row.radio) c.row_of-row.ensures) (search picks depth 20)

pub returns-then-not-end_allows : goal.returns-then-not-end_allows
unfolding first_says error_applies first_applying
returns-then-not-end_allows c dynamic busy =
    rw (← c.param-pointer.ensures, ← ap (λ (row : RegisterRow). row.radio) c.row_of-row.ensures, ← c.param.ensures, ← c.end_allows.ensures) (search picks depth 20)

pub returns : goal.returns
unfolding first_says error_applies first_applying
returns c dynamic busy =
    rw (← c.param-pointer.ensures, ← ap (λ (row : RegisterRow). row.radio) c.row_of-row.ensures, ← c.param.ensures, ← c.end_allows.ensures) (search picks depth 20)
