use Rattle.rule_list.specs.RuleList.{first_says}
use Rattle.explanation_rules.specs.Explanation.{wire_rules, rules_for, explained, explained_number}
use Rattle.explanation.proofs.wire_rule.Goals as goal

pub returns-in-Start : goal.returns-in-Start
unfolding first_says explained explained_number rules_for wire_rules
returns-in-Start c f = rw c.in-Start.is

pub returns-in-Send : goal.returns-in-Send
returns-in-Send c f = rw c.in-Send.is (c.sent_byte.ensures f)

pub returns-in-Fetch : goal.returns-in-Fetch
unfolding first_says explained explained_number rules_for wire_rules
returns-in-Fetch c f = rw c.in-Fetch.is

pub returns-in-Stop : goal.returns-in-Stop
unfolding first_says explained explained_number rules_for wire_rules
returns-in-Stop c f = rw c.in-Stop.is

pub returns-in-Vcc : goal.returns-in-Vcc
unfolding first_says explained explained_number rules_for wire_rules
returns-in-Vcc c f = rw c.in-Vcc.is

pub returns-in-ProgrammingEnd : goal.returns-in-ProgrammingEnd
unfolding first_says explained explained_number rules_for wire_rules
returns-in-ProgrammingEnd c f = rw c.in-ProgrammingEnd.is
