use Prim.Native.Nat.{◌+◌}
use native.Mathlib.Omega.{arith}
use Rattle.parts.specs.Bytes.{bytes_at}
use Rattle.parts.proofs.Picks.{picks}
use Rattle.parts.proofs.Lists.{length_bytes_at}
use Rattle.tag.specs.Layout.{mailbox_place}
use Rattle.errors.specs.declared.RadioError.TheVariants.{MailboxDisabled, PastMessage}
use Rattle.reply.specs.Reply.{good}
use Rattle.reply.specs.Outcome.{fails}
use Rattle.reply.proofs.Finish.{said, handed_on, good_run}
use Rattle.message.specs.Message.{read_message_of}
use Rattle.message.proofs.read.Goals as goal

pub returns-then-not-b : goal.returns-then-not-b
unfolding read_message_of
returns-then-not-b c =
    let a = c.args in
    handed_on (read_message_of a.v a.m.now a.pointer a.n) a.out.now (fails MailboxDisabled a.v a.m.now) (c.fail.ensures a.m.now) (search picks depth 20)

pub returns-then-b-pointer : goal.returns-then-b-pointer
unfolding read_message_of
returns-then-b-pointer c =
    let a = c.args in
    handed_on (read_message_of a.v a.m.now a.pointer a.n) a.out.now (fails PastMessage a.v a.m.now) (c.fail-then-b-pointer.ensures a.m.now)
    (rw (← c.asked-count.ensures) (search picks depth 20))

pub overflow_cast-count-3 : goal.overflow_cast-count-3
overflow_cast-count-3 c = omega (arith, c.asked-count.type_inv)

pub overflow_add-count : goal.overflow_add-count
overflow_add-count c = omega (arith, c.asked-count.type_inv)

pub returns : goal.returns
unfolding read_message_of
returns c =
    let count = c.asked-count in
    let a = c.args in
    let bytes = bytes_at a.m.now (mailbox_place + a.pointer) count.result in
    said (read_message_of a.v a.m.now a.pointer a.n) _ (good bytes)
    (good_run bytes a.out.now c.put_bytes.new.m _ (omega (arith, length_bytes_at a.m.now (mailbox_place + a.pointer) count.result)) (rw (c.put_bytes.ensures, c.put.ensures)) c.close.ensures)
    (rw (c.with_mailbox-next.ensures, c.mailbox_after.ensures, ← count.ensures) (search (picks, c.if-b-pointer.false, c.if-not-b.false) depth 20))
