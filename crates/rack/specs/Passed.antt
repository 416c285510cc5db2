-- What the crates above take of the crates below, so that each has to list few.
pub use Rattle.calls.specs.Calls.{CallAnswer, Device, DeviceResult, Step, call_answer, device, device_result_of}
unfoldable pub use Rattle.calls.specs.Calls.{entry, frames_fit, run_by}
