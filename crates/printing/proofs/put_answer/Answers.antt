use Rattle.printing.specs.Text.{answer_text}
use Rattle.printing.proofs.put_answer.Goals as goal

pub returns-in-Refused : goal.returns-in-Refused
unfolding answer_text
returns-in-Refused c =
    rw c.in-Refused.is c.put_mark.ensures

pub returns-in-Nothing : goal.returns-in-Nothing
unfolding answer_text
returns-in-Nothing c =
    rw c.in-Nothing.is c.put_mark-in-Nothing.ensures

pub returns-in-Ack : goal.returns-in-Ack
unfolding answer_text
returns-in-Ack c =
    rw c.in-Ack.is c.put_mark-in-Ack.ensures

pub returns-in-NoAck : goal.returns-in-NoAck
unfolding answer_text
returns-in-NoAck c =
    rw c.in-NoAck.is c.put_mark-in-NoAck.ensures

pub returns-in-Byte : goal.returns-in-Byte
unfolding answer_text
returns-in-Byte c =
    rw c.in-Byte.is c.put_byte.ensures

pub returns-in-Silence : goal.returns-in-Silence
unfolding answer_text
returns-in-Silence c =
    rw c.in-Silence.is c.put_mark-in-Silence.ensures

pub returns-in-Reply : goal.returns-in-Reply
unfolding answer_text
returns-in-Reply c =
    rw (c.in-Reply.is, ← c.shown_bytes.ensures) c.put_hex.ensures
