use Rattle.parts.specs.Pick.{pick}
use Rattle.replies_fit.specs.Claims.{reply_fits}
use Rattle.capi.specs.Interface.{answer_number}
use Rattle.capi.proofs.answer_number.Goals as goal

pub returns-in-Refused : goal.returns-in-Refused
unfolding answer_number reply_fits pick
returns-in-Refused c = rw (c.number.ensures, c.in-Refused.is)

pub returns-in-Nothing : goal.returns-in-Nothing
unfolding answer_number reply_fits pick
returns-in-Nothing c = rw c.in-Nothing.is

pub returns-in-Ack : goal.returns-in-Ack
unfolding answer_number reply_fits pick
returns-in-Ack c = rw c.in-Ack.is

pub returns-in-NoAck : goal.returns-in-NoAck
unfolding answer_number reply_fits pick
returns-in-NoAck c = rw c.in-NoAck.is

pub returns-in-Byte : goal.returns-in-Byte
unfolding answer_number reply_fits pick
returns-in-Byte c = rw c.in-Byte.is

pub returns-in-Silence : goal.returns-in-Silence
unfolding answer_number reply_fits pick
returns-in-Silence c = rw c.in-Silence.is

pub returns-in-Reply : goal.returns-in-Reply
unfolding answer_number reply_fits pick
returns-in-Reply c = rw (c.reply_number.ensures, c.in-Reply.is)
