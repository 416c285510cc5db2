use mathlib.Core.Path.{◌≡◌}
use lib.ListN.{length}
use Rattle.rack_hear.specs.Hear.{heard_all}
use Rattle.rack_model.proofs.Call.{stepped}
use borrow.Author.Rules.{rules}
use Rattle.rack_model.proofs.step.Goals as goal

pub returns : goal.returns
returns c =
    let a = c.args in
    let number : length a.tags ≡ 16 = search rules in
    let is = stepped a.tags a.memory.now a.out.now a.frame.now a.number a.code a.value a.to c.rack_refusal-judged.result c.tag_count-n.result
    c.hearing-start.result (heard_all c.hear_sixteen-o.result.heard c.hear_sixteen-o.result.tags c.hear_sixteen-o.new.memory c.hear_sixteen-o.new.out)
    number c.rack_refusal-judged.ensures c.tag_count-n.ensures c.hearing-start.ensures c.hear_sixteen-o.ensures
    in
    record { memory_after = is.result; tags_value = is.others }
