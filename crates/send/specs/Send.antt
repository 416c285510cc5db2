-- What a byte sent does.
use Rattle.std.specs.Prelude.{false, List, ℕ}
use Rattle.bus.specs.declared.OpenTransfer.{OpenTransfer}
use Rattle.bus.specs.declared.Bus.{Bus}
use Rattle.bus.specs.declared.Bus.TheVariants.{Idle, Started, ReadLeg, WriteLeg, LowAddress, DataLeg}
use Rattle.tag.specs.declared.WireSide.{WireSide}
use Rattle.bus.specs.Bus.{kept_of}
use Rattle.select.specs.declared.Choice.{Choice}
use Rattle.select.specs.declared.Choice.TheVariants.{NotAcked, Reading, Writing}
use Rattle.select.specs.Select.{choose, address}
use Rattle.signal.specs.declared.WireAnswer.TheVariants.{Ack, NoAck}
use Rattle.signal.specs.Signal.{WireResult, wire_result, side_bus, side_line}
use Rattle.data_byte.specs.DataByte.{data_byte}

-- the first byte sent after a Start; "a select not Acked leaves the bus idle"
unfoldable pub select_by : Choice → OpenTransfer → WireSide → List ℕ → WireResult
select_by NotAcked kept w m = wire_result NoAck (side_bus Idle w) m
select_by (Reading space) kept w m = wire_result Ack (side_bus (ReadLeg kept space false false) w) m
select_by (Writing space) kept w m = wire_result Ack (side_bus (WriteLeg kept space) w) m

-- a byte sent; "A send with no Start is NoAcked."; "A byte sent in a read leg is NoAcked and moves nothing."
unfoldable pub send_at : Bus → WireSide → List ℕ → ℕ → WireResult
send_at Idle w m x = wire_result NoAck w m
send_at (Started transfer) w m x = select_by (choose w.host.vcc w.host.programming x) (kept_of transfer w.core.registers.dynamic) w m
send_at (ReadLeg kept space over last) w m x = wire_result NoAck w m
send_at (WriteLeg kept space) w m x = wire_result Ack (side_bus (LowAddress kept space x) w) m
send_at (LowAddress kept space high) w m x = wire_result Ack (side_line (address high x) (DataLeg kept space 0 false) w) m
send_at (DataLeg kept space count spoiled) w m x = data_byte kept space count spoiled w m x
