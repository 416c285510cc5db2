-- What the crates above take of the crates below, so that each has to list few.
pub use Rattle.demand3.specs.Passed.{busy_now, dynamic_now}
unfoldable pub use Rattle.demand3.specs.Passed.{next_slot_of, radio_of, act_of, from_radio, is_reply}
pub use Rattle.rack.specs.Passed.{CallAnswer, Device, DeviceResult, device}
unfoldable pub use Rattle.rack.specs.Passed.{entry}
unfoldable pub use Rattle.rack.specs.Claims.{refusal_numbers}
pub use Rattle.rack.specs.Rack.{Rack, RackCall, devices, rack_call}
unfoldable pub use Rattle.rack.specs.Rack.{goes_to, to_all}
pub use Rattle.rack.specs.Rules.{rack_memory_rule, rack_range_rule, rack_rules, size_rule, uids_rule}
pub use Rattle.rack.specs.Step.{RackAnswer, RackResult, RackStep, no_reply, rack_entry}
unfoldable pub use Rattle.rack.specs.Step.{left_by, lowest_reply, numbers_from, rack_run, said_by, together, turn_of, turns_of, who_replied}
