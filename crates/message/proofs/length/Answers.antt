use mathlib.Core.List.{[], ◌∷◌}
use Rattle.parts.proofs.Picks.{picks}
use Rattle.errors.specs.declared.RadioError.TheVariants.{MailboxDisabled}
use Rattle.reply.specs.Reply.{good}
use Rattle.reply.specs.Outcome.{fails}
use Rattle.reply.proofs.Finish.{said, handed_on}
use Rattle.message.specs.Message.{length_of}
use Rattle.message.proofs.length.Goals as goal

pub returns-then-not-b : goal.returns-then-not-b
unfolding length_of
returns-then-not-b c =
    let a = c.args in
    handed_on (length_of a.v a.m.now) a.out.now (fails MailboxDisabled a.v a.m.now) (c.fail.ensures a.m.now) (search picks depth 20)

pub returns : goal.returns
unfolding length_of
returns c =
    let a = c.args in
    said (length_of a.v a.m.now) _ (good (c.length_byte.result ∷ [])) c.byte.ensures
    (rw c.length_byte.ensures (search picks depth 20))
