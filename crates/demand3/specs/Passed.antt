-- What the crates above take of the crates below, so that each has to list few.
unfoldable pub use Rattle.waiting.specs.Passed.{signal_of, next_slot_of, radio_of, act_of, from_radio, from_wire, is_reply, step_of}
pub use Rattle.waiting.specs.Passed.{busy_now, dynamic_now, Fit, Nothing, StepResult, transfer_open}
pub use Rattle.waiting.specs.Waiting.{Waiting, inside, no_transfer}
unfoldable pub use Rattle.waiting.specs.Waiting.{acked_select, answered, end_answer, fill, frame_answer, is_started, note, notes, notes_of, opens, wait_act, wait_run, wait_step, when_closed, when_open}
