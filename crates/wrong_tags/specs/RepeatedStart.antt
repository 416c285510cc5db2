-- Tags that take a repeated Start wrongly, or keep RF_MNGT_Dyn of another moment for the frames inside a transfer. Code 3 is a Start, 4 a byte sent.
use Rattle.std.specs.Prelude.{Bool, true, false, not, ◌&&◌, ℕ, ◌+◌, ◌-◌, ◌*◌, ◌/◌, ◌%◌, eqb, ltb, Some, None}
use Rattle.parts.specs.Pick.{pick}
use Rattle.parts.specs.Bits.{is_set}
use Rattle.register_types.specs.Types.{rf_mngt}
use Rattle.bus.specs.declared.OpenTransfer.{OpenTransfer}
use Rattle.bus.specs.declared.Bus.{Bus}
use Rattle.bus.specs.declared.Bus.TheVariants.{Idle, Started, ReadLeg, WriteLeg, LowAddress, DataLeg}
use Rattle.bus.specs.Bus.{kept_of, page_bytes}
use Rattle.tag.specs.declared.Core.{Core}
use Rattle.tag.specs.Layout.{user_bytes}
use Rattle.tag.specs.Parts.{with_tag_host}
use Rattle.dynamic.specs.Dynamic.{mailbox_first}
use Rattle.select.specs.Select.{first_of}
use Rattle.model.specs.Step.{transfer_open}
use Rattle.refusals.specs.Call.{Call}
use Rattle.calls.specs.Calls.{Device, device, DeviceResult, device_result, entry}
use Rattle.calls.specs.Examples.{on_core, on_bus, counter_at}
use Rattle.demand3.specs.Passed.{is_started}
use Rattle.demand3.specs.Demand3.{struck}
use Rattle.wrong_tags.specs.Wrong.{as_it_stands, stopping}

-- ---- what a Start writes
-- a write leg past its address
unfoldable pub is_data_leg : Bus → Bool
is_data_leg Idle = false
is_data_leg (Started transfer) = false
is_data_leg (ReadLeg kept space over last) = false
is_data_leg (WriteLeg kept space) = false
is_data_leg (LowAddress kept space high) = false
is_data_leg (DataLeg kept space count spoiled) = true

-- a Start that ends such a leg
abbrev pub ends_data : Device → Call → Bool
ends_data d call = eqb call.code 3 && is_data_leg d.tag.host.bus

-- one that drops a dynamic register's leg at a Start, as every other
unfoldable pub drops_at_start : Device → Call → DeviceResult
drops_at_start d call =
    let result = entry d call in
    pick (ends_data d call) (device_result result.says (on_core (λ (c : Core). d.tag.core) result.device))
    result

-- one that does at a Start what the Stop would do, of the legs whose first address passes
unfoldable pub acting_at_start : (ℕ → Bool) → Device → Call → DeviceResult
acting_at_start passes d call =
    let result = entry d call in
    let stopped = (entry d (stopping call)).device in
    pick (ends_data d call && passes (first_of d.tag.host.counter (page_bytes d.tag.host.bus)))
    (device_result result.says (device (with_tag_host result.device.tag.host stopped.tag) stopped.memory))
    result

-- so a message is put, and so memory is written
abbrev pub puts_at_start : Device → Call → DeviceResult
puts_at_start = acting_at_start (λ (first : ℕ). eqb first mailbox_first)

abbrev pub writes_at_start : Device → Call → DeviceResult
writes_at_start = acting_at_start (λ (first : ℕ). ltb first user_bytes)

-- ---- what a frame inside a transfer is judged by
-- by RF_MNGT_Dyn as it stands, where its b1 (sleep) is as given
unfoldable pub judging_as_it_stands : (Bool → Bool) → Device → Call → DeviceResult
judging_as_it_stands when d call =
    pick (struck entry d call && when (is_set 2 d.tag.core.registers.dynamic.bits))
    (device_result (entry (as_it_stands d) call).says d)
    (entry d call)

abbrev pub falls_asleep_at_once : Device → Call → DeviceResult
falls_asleep_at_once = judging_as_it_stands (λ (sleeps : Bool). sleeps)

abbrev pub wakes_at_once : Device → Call → DeviceResult
wakes_at_once = judging_as_it_stands not

-- ---- when RF_MNGT_Dyn is kept
-- an open transfer's bus, keeping another
unfoldable pub keeping : OpenTransfer → Bus → Bus
keeping kept Idle = Idle
keeping kept (Started transfer) = Started (Some kept)
keeping kept (ReadLeg x space over last) = ReadLeg kept space over last
keeping kept (WriteLeg x space) = WriteLeg kept space
keeping kept (LowAddress x space high) = LowAddress kept space high
keeping kept (DataLeg x space count spoiled) = DataLeg kept space count spoiled

abbrev pub keeping_on : OpenTransfer → Device → Device
keeping_on kept d = on_bus (keeping kept d.tag.host.bus) d

-- anew where the test holds of the tag before the call and after it
unfoldable pub keeping_anew : (Device → Call → Device → Bool) → Device → Call → DeviceResult
keeping_anew when d call =
    let result = entry d call in
    let after = result.device in
    pick (transfer_open after.tag && when d call after)
    (device_result result.says (keeping_on (kept_of None after.tag.core.registers.dynamic) after))
    result

-- at each select
abbrev pub keeps_at_select : Device → Call → DeviceResult
keeps_at_select = keeping_anew (λ (d : Device) (call : Call) (after : Device). eqb call.code 4 && is_started d.tag.host.bus)

-- at each Start
abbrev pub keeps_at_start : Device → Call → DeviceResult
keeps_at_start = keeping_anew (λ (d : Device) (call : Call) (after : Device). eqb call.code 3)

-- at the Start before the select that opens the transfer: from there on it holds the value above the counter's 16 bits
abbrev pub holding : ℕ → Device → Device
holding n d = counter_at (d.tag.host.counter + (n + 1) * 65536) d

abbrev pub is_holding : Device → Bool
is_holding d = ltb 65535 d.tag.host.counter

abbrev pub held : Device → ℕ
held d = d.tag.host.counter / 65536 - 1

abbrev pub not_holding : Device → Device
not_holding d = counter_at (d.tag.host.counter % 65536) d

unfoldable pub keeps_from_start : Device → Call → DeviceResult
keeps_from_start d call =
    let result = entry (not_holding d) call in
    let after = result.device in
    let waits = is_started after.tag.host.bus && not (transfer_open after.tag) in
    device_result result.says
    (pick (waits && eqb call.code 3) (holding after.tag.core.registers.dynamic.bits after)
    (pick (waits && is_holding d) (holding (held d) after)
    (pick (is_holding d) (keeping_on (kept_of None (rf_mngt (held d))) after) after)))
