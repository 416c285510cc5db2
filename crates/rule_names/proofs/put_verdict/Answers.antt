use Rattle.parts.specs.Bytes.{bytes_at}
use Rattle.rule_names.specs.Names.{string_bytes}
use Rattle.rule_names.specs.Text.{verdict_text}
use Rattle.rule_names.proofs.put_verdict.Goals as goal

pub returns-in-Ok : goal.returns-in-Ok
unfolding verdict_text string_bytes bytes_at
returns-in-Ok c =
    rw c.in-Ok.is c.put_part.ensures

pub returns-in-Err : goal.returns-in-Err
unfolding verdict_text
returns-in-Err c =
    rw c.in-Err.is c.put_reason.ensures
