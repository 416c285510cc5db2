-- What the crates above take of the crates below, so that each has to list few.
unfoldable pub use Rattle.wire_claims.specs.Passed.{bus_in_range, page_acked}
unfoldable pub use Rattle.signal.specs.Passed.{acts_at_start, leg_written, settle}
unfoldable pub use Rattle.signal.specs.Signal.{due_of, start_at, start_of, stop_at}
unfoldable pub use Rattle.wire.specs.Passed.{data_of, select_by, send_at}
unfoldable pub use Rattle.wire.specs.Wire.{fetch_at, signal_of}
pub use Rattle.wire_claims.specs.Claims.{side_counted}
unfoldable pub use Rattle.radio.specs.Passed.{status_of, status_reply, statuses_of, block_of, blocks_of, leaves_area, read_of, lock_of, may_write_all, write_of, mailbox_after_write, read_config_of, write_config_of, written_core, present_of, write_password_of, serve_code, serve_command, serve_of}
unfoldable pub use Rattle.radio.specs.Claims.{reply_size}
pub use Rattle.radio.specs.Radio.{busy_now, dynamic_now}
unfoldable pub use Rattle.radio.specs.Radio.{next_slot_of, radio_of, verdict_result}
pub use Rattle.refusals.specs.Call.{Call, handed_in}
pub use Rattle.refusals.specs.Refusals.{RefusalRule, argument_rules, refusal_rule, reply_rule, signal_rule}
unfoldable pub use Rattle.refusals.specs.Refusals.{judgement, looks_at_tag, number, tag_in_range, unless_refused}
pub use Rattle.refusals.specs.Refusals.{Judgement}
pub use Rattle.refusals.specs.declared.Refusal.{Refusal}
pub use Rattle.refusals.specs.declared.Refusal.TheVariants.{EqualUids, MemoryLength, NoSuchTag, OutOfRange, RackSize, ReplyShort}
