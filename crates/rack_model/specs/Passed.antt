-- What the crates above take of the crates below, so that each has to list few.
pub use Rattle.calls.specs.Calls.{CallAnswer, Device, DeviceResult, call_answer}
unfoldable pub use Rattle.calls.specs.Calls.{entry}
pub use Rattle.rack.specs.Rack.{Rack, RackCall, devices, rack_call, rack_of}
unfoldable pub use Rattle.rack.specs.Rack.{goes_to, memory_sizes, to_all}
pub use Rattle.rack.specs.Rules.{most_tags}
pub use Rattle.rack.specs.Step.{RackAnswer, RackResult, no_reply, rack_answer, rack_entry, rack_result, unreached}
unfoldable pub use Rattle.rack.specs.Step.{lowest_reply, numbers_from, rack_acts, rack_step, said_by, together, turn_of, turns_of, who_replied}
