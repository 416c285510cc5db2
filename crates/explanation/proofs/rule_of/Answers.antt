use Rattle.rule_list.specs.RuleList.{first_says}
use Rattle.explanation_rules.specs.Explanation.{rules_for, explained, explained_number, rule_at}
use Rattle.explanation.proofs.rule_of.Goals as goal

pub returns-in-Wire : goal.returns-in-Wire
unfolding rule_at
returns-in-Wire c =
    rw (← c.signal_by-signal.ensures, c.in-Wire.is) (c.wire_rule.ensures c.args.frame.now)

pub returns-in-Field : goal.returns-in-Field
unfolding first_says explained explained_number rules_for rule_at
returns-in-Field c =
    rw (← c.signal_by-signal.ensures, c.in-Field.is)

pub returns-in-Frame : goal.returns-in-Frame
unfolding rule_at
returns-in-Frame c =
    rw (← c.signal_by-signal.ensures, c.in-Frame.is) c.frame_rule.ensures

pub returns-in-EndOfFrame : goal.returns-in-EndOfFrame
unfolding first_says explained explained_number rules_for rule_at
returns-in-EndOfFrame c =
    rw (← c.signal_by-signal.ensures, c.in-EndOfFrame.is)
