-- What the crates above take of the crates below, so that each has to list few.
unfoldable pub use Rattle.transfer.specs.Passed.{signal_of}
pub use Rattle.calls.specs.Passed.{side_counted, busy_now, dynamic_now, Ack, Answer, Byte, Fit, NoAck, Nothing, Refused, Reply, Silence, StepResult, transfer_open}
unfoldable pub use Rattle.calls.specs.Passed.{next_slot_of, radio_of, act_of, from_radio, from_wire, is_refused, is_reply, step_of}
pub use Rattle.calls.specs.Calls.{CallAnswer, Device, DeviceResult, RunResult, Step, call_reply, device_result, run_result}
unfoldable pub use Rattle.calls.specs.Calls.{entry, frames_fit, run_by}
