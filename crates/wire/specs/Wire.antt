-- What a byte fetched and a programming end do, and every signal.
use Rattle.std.specs.Prelude.{Bool, false, not, ◌||◌, List, ℕ}
use Rattle.parts.specs.Pick.{pick}
use Rattle.bus.specs.declared.Bus.{Bus}
use Rattle.bus.specs.declared.Bus.TheVariants.{Idle, Started, ReadLeg, WriteLeg, LowAddress, DataLeg}
use Rattle.tag.specs.declared.WireSide.{WireSide}
use Rattle.keys.specs.declared.Uid.{Uid}
use Rattle.tag.specs.Parts.{with_programming, with_host}
use Rattle.bus.specs.Bus.{next_address}
use Rattle.tag.specs.Supply.{vcc_at}
use Rattle.fetch.specs.Fetch.{fetched, is_last}
use Rattle.signal.specs.declared.WireAnswer.TheVariants.{Nothing, Byte}
use Rattle.signal_table.specs.declared.WireSignal.{WireSignal}
use Rattle.signal_table.specs.declared.WireSignal.TheVariants.{Start, Send, Fetch, Stop, Vcc, ProgrammingEnd}
use Rattle.signal.specs.Signal.{WireResult, wire_result, side_line, start_of, stop_at}
use Rattle.send.specs.Send.{send_at}

-- a byte fetched, with the host's Ack or not; "A fetch outside a read leg, or after the host's NoAck, gives FFh and moves nothing."
unfoldable pub fetch_at : Bus → WireSide → Uid → List ℕ → Bool → WireResult
fetch_at Idle w u m ack = wire_result (Byte 0xFF) w m
fetch_at (Started transfer) w u m ack = wire_result (Byte 0xFF) w m
fetch_at (ReadLeg kept space over last) w u m ack =
    pick over (wire_result (Byte 0xFF) w m)
    (wire_result (Byte (fetched space w.core w.host.session u m w.host.counter))
    (side_line (next_address w.host.counter) (ReadLeg kept space (not ack) (last || is_last space w.core.mailbox w.host.counter)) w) m)
fetch_at (WriteLeg kept space) w u m ack = wire_result (Byte 0xFF) w m
fetch_at (LowAddress kept space high) w u m ack = wire_result (Byte 0xFF) w m
fetch_at (DataLeg kept space count spoiled) w u m ack = wire_result (Byte 0xFF) w m

-- "a programming end with nothing under way change[s] nothing"
abbrev pub programmed : WireSide → WireSide
programmed w = with_host (with_programming false w.host) w

unfoldable pub signal_of : WireSide → Uid → List ℕ → WireSignal → WireResult
signal_of w u m Start = start_of w m
signal_of w u m (Send x) = send_at w.host.bus w m x
signal_of w u m (Fetch ack) = fetch_at w.host.bus w u m ack
signal_of w u m Stop = stop_at w.host.bus w m
signal_of w u m (Vcc on) = wire_result Nothing (vcc_at on w) m
signal_of w u m ProgrammingEnd = wire_result Nothing (programmed w) m
