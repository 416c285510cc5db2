use Rattle.parts.proofs.Picks.{picks}
use Rattle.reply.proofs.Finish.{said, silent}
use Rattle.inventory_reply.specs.Answers.{inventory_reply, slots_left}
use Rattle.inventory_reply.proofs.leave_slots.Goals as goal

pub returns-then-answers : goal.returns-then-answers
returns-then-answers c =
    let a = c.args in
    said (slots_left a.v a.u a.n a.answers a.m.now) _ (inventory_reply a.v.core.registers.dsfid a.u) c.put_reply.ensures
    (rw (c.with_air-next.ensures, c.with_slots.ensures) (search picks depth 20))

pub returns : goal.returns
returns c =
    let a = c.args in
    silent (slots_left a.v a.u a.n a.answers a.m.now) (rw (c.with_air-next.ensures, c.with_slots.ensures) (search picks depth 20))
