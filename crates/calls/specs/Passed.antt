-- What the crates above take of the crates below, so that each has to list few.
pub use Rattle.model.specs.Passed.{side_counted, busy_now, dynamic_now, Call, EqualUids, Judgement, MemoryLength, NoSuchTag, OutOfRange, RackSize, Refusal, RefusalRule, ReplyShort, refusal_rule, reply_rule, signal_rule}
unfoldable pub use Rattle.model.specs.Passed.{next_slot_of, radio_of, verdict_result, judgement, number, tag_in_range, unless_refused}
pub use Rattle.model.specs.Claims.{Fit}
pub use Rattle.model.specs.Step.{StepResult, transfer_open}
unfoldable pub use Rattle.model.specs.Step.{act_of, from_radio, from_wire, is_refused, is_reply, step_of}
pub use Rattle.model.specs.declared.Answer.{Answer}
pub use Rattle.model.specs.declared.Answer.TheVariants.{Ack, Byte, NoAck, Nothing, Refused, Reply, Silence}
