use Prim.Native.Nat.{◌-◌}
use Rattle.script.proofs.call.Goals as goal

pub returns : goal.returns
returns c =
    rw (← c.step-o.ensures, c.put_line-length.ensures.text_after, c.put_line-length.ensures.value, c.next_line-number.ensures, c.rule_named-rule.ensures)
