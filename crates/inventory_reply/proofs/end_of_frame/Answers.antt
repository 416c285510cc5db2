use Rattle.parts.proofs.Picks.{picks}
use Rattle.reply.proofs.Finish.{silent}
use Rattle.inventory_reply.specs.Answers.{end_of_frame_of}
use Rattle.parts.specs.Pick.{pick}
use Rattle.inventory_reply.proofs.end_of_frame.Goals as goal

pub returns-then-takes_part : goal.returns-then-takes_part
unfolding end_of_frame_of pick
returns-then-takes_part c =
    rw (← c.takes_part.ensures, c.if-takes_part.true, ← c.saturating_sub.ensures) c.leave_slots.ensures

pub returns : goal.returns
unfolding end_of_frame_of
returns c =
    let a = c.args in
    silent (end_of_frame_of a.v a.u a.dynamic a.busy a.m.now) (rw (← c.takes_part.ensures) (search picks depth 20))
