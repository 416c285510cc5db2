-- The fresh tag is in range, for every UID. Assumes nothing.
use mathlib.Core.Path.{refl}
use Rattle.defined_bits.specs.Defined.{defined_to, defined_only}
use Rattle.register_table.specs.Table.{place_bits}
use Rattle.registers.specs.Fresh.{fresh_registers}
use Rattle.registers.specs.Map.{register_bytes}
use Rattle.areas.specs.Ends.{ends_in_range}
use Rattle.bus.specs.Bus.{is_open_transfer, transfer_at, is_open, is_active, page_bytes}
use Rattle.tag.specs.Supply.{fresh_tag}
use Rattle.ranges.specs.Claims.{FreshInRange}
use Rattle.ranges.specs.Ranges.{registers_in_range, air_in_range, mailbox_in_range, supplied_in_range, transfer_in_range, host_in_range, core_in_range, wire_in_range, in_range}

pub fresh_in_range : FreshInRange
unfolding in_range air_in_range wire_in_range core_in_range registers_in_range mailbox_in_range host_in_range transfer_in_range supplied_in_range ends_in_range defined_to defined_only place_bits register_bytes transfer_at is_open_transfer is_open is_active page_bytes fresh_tag fresh_registers
fresh_in_range u = refl
