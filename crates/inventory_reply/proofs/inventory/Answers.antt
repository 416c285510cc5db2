use Rattle.parts.proofs.Picks.{picks}
use Rattle.reply.proofs.Finish.{silent}
use Rattle.inventory_reply.specs.Answers.{inventory_of}
use Rattle.parts.specs.Pick.{pick}
use Rattle.inventory_reply.proofs.inventory.Goals as goal

pub returns-then-is_heard : goal.returns-then-is_heard
unfolding inventory_of pick
returns-then-is_heard c =
    rw (← c.is_heard.ensures, c.if-is_heard.true, ← c.slots_after-slots.ensures, ← c.answers_now-answers.ensures) c.leave_slots.ensures

pub returns : goal.returns
unfolding inventory_of
returns c =
    let a = c.args in
    silent (inventory_of a.v a.u a.dynamic a.busy a.m.now a.f.now) (rw (← c.is_heard.ensures) (search picks depth 20))
