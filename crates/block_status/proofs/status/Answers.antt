use Rattle.parts.proofs.Picks.{picks}
use Rattle.errors.specs.declared.RadioError.TheVariants.{NoSuchBlock}
use Rattle.reply.specs.Reply.{good}
use Rattle.reply.specs.Outcome.{fails}
use Rattle.reply.proofs.Finish.{said, handed_on, good_run}
use Rattle.block_status.specs.Status.{statuses_of, status_reply}
use Rattle.block_status.proofs.Statuses.{lesser, length_statuses}
use mathlib.Core.Path.{sym, ap, ◌∙◌}
use mathlib.Core.List.{List}
use Prim.Native.Nat.{ℕ, ◌+◌, ◌-◌}
use lib.Seq.{sets}
use Rattle.block_status.proofs.status.Goals as goal

pub returns-then-first-ge-BLOCKS : goal.returns-then-first-ge-BLOCKS
unfolding status_reply
returns-then-first-ge-BLOCKS c =
    let a = c.args in
    handed_on (status_reply a.v a.m.now a.first a.more) a.out.now (fails NoSuchBlock a.v a.m.now) (c.fail.ensures a.m.now) (search picks depth 20)

pub returns : goal.returns
unfolding status_reply
returns c =
    let a = c.args in
    let n = c.min-n.result in
    let statuses = statuses_of a.v.core.registers a.v.air.session a.first n in
    said (status_reply a.v a.m.now a.first a.more) _ (good statuses)
    (good_run statuses a.out.now c.put_statuses.new.out (1 + n)
    (ap (λ (k : ℕ). 1 + k) (sym (length_statuses a.v.core.registers a.v.air.session a.first n)))
    (c.put_statuses.ensures ∙ ap (λ (o : List ℕ). sets o 1 statuses) c.put.ensures)
    c.close.ensures)
    (rw (c.min-n.ensures, ← lesser (128 - a.first) (a.more + 1)) (search picks depth 20))
