use mathlib.Core.List.{[]}
use Rattle.parts.proofs.Picks.{picks}
use Rattle.errors.specs.declared.RadioError.TheVariants.{MailboxUnavailable}
use Rattle.reply.specs.Reply.{good}
use Rattle.reply.specs.Outcome.{fails}
use Rattle.reply.proofs.Finish.{said, handed_on}
use Rattle.message_writes.specs.WriteMessage.{write_message_of}
use Rattle.message_writes.proofs.write.Goals as goal

pub returns-then-not-takes_message : goal.returns-then-not-takes_message
unfolding write_message_of
returns-then-not-takes_message c =
    let a = c.args in
    handed_on (write_message_of a.v a.m.now a.more a.frame.now a.at) a.out.now (fails MailboxUnavailable a.v a.m.now) (c.fail.ensures a.m.now)
    (rw (← c.takes_message.ensures) (search picks depth 20))

pub returns : goal.returns
unfolding write_message_of
returns c =
    let a = c.args in
    said (write_message_of a.v a.m.now a.more a.frame.now a.at) _ (good []) c.done.ensures
    (rw (c.with_mailbox-next.ensures, c.radio_put.ensures, c.put_bytes.ensures, ← c.takes_message.ensures) (search (picks, c.if-not-takes_message.false) depth 20))
