-- What the crates above take of the crates below, so that each has to list few.
pub use Rattle.rack.specs.Passed.{CallAnswer, Device, DeviceResult, Step, call_answer, device, device_result_of}
unfoldable pub use Rattle.rack.specs.Passed.{entry}
unfoldable pub use Rattle.rack.specs.Claims.{is_wire}
pub use Rattle.rack.specs.Rack.{Rack, RackCall, devices, no_tag, rack_call, rack_of}
unfoldable pub use Rattle.rack.specs.Rack.{device_at, goes_to, memories_of, memory_size, memory_sizes, tags_of, to_all}
pub use Rattle.rack.specs.Rules.{most_tags, rack_rules}
pub use Rattle.rack.specs.Step.{RackResult, no_reply, rack_answer, rack_result, unreached}
unfoldable pub use Rattle.rack.specs.Step.{left_by, lowest_reply, numbers_from, rack_acts, said_by, together, turn_of, turns_of, who_replied}
