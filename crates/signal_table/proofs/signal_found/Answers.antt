use borrow.Author.Tests.{ne_eqb}
use Rattle.parts.specs.Pick.{pick}
use Rattle.rule_list.specs.RuleList.{first_says}
use Rattle.signal_table.specs.Table.{signal_table, signal_found}
use Rattle.signal_table.proofs.signal_found.Goals as goal

-- no code of the table
pub returns-in_default-10 : goal.returns-in_default-10
unfolding signal_found signal_table first_says pick
returns-in_default-10 c =
    let code = c.args.code in
    let n = c.in_default.is-0 in
    rw (ne_eqb code 9 n.1, ne_eqb code 8 n.0.1, ne_eqb code 7 n.0.0.1, ne_eqb code 6 n.0.0.0.1, ne_eqb code 5 n.0.0.0.0.1, ne_eqb code 4 n.0.0.0.0.0.1, ne_eqb code 3 n.0.0.0.0.0.0.1, ne_eqb code 2 n.0.0.0.0.0.0.0.1, ne_eqb code 1 n.0.0.0.0.0.0.0.0.1)
