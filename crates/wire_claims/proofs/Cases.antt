-- A property of what a signal does, from a case for each kind. Assumes nothing.
use mathlib.Core.Bool.{Bool, false, ◌&&◌}
use mathlib.Core.List.{List}
use Prim.Native.Nat.{ℕ}
use Rattle.tag.specs.declared.WireSide.{WireSide}
use Rattle.keys.specs.declared.Uid.{Uid}
use Rattle.tag.specs.Parts.{with_programming, with_host}
use Rattle.tag.specs.Supply.{vcc_at}
use Rattle.wire.specs.Passed.{Nothing, WireResult, wire_result, start_of, stop_at, send_at}
use Rattle.signal_table.specs.declared.WireSignal.{WireSignal}
use Rattle.signal_table.specs.declared.WireSignal.TheVariants.{Start, Send, Fetch, Stop, Vcc, ProgrammingEnd}
use Rattle.wire.specs.Wire.{fetch_at, signal_of}

-- the side with programming as it was, or ended
abbrev pub undisturbed : Bool → WireSide → WireSide
undisturbed on w = with_host (with_programming (on && w.host.programming) w.host) w

-- a signal that neither moves the bus nor the supply leaves that
pub signal_case : (P : WireSignal → WireResult → Type 0) (w : WireSide) (u : Uid) (m : List ℕ)
    → P Start (start_of w m)
    → ((x : ℕ) → P (Send x) (send_at w.host.bus w m x))
    → ((ack : Bool) → P (Fetch ack) (fetch_at w.host.bus w u m ack))
    → P Stop (stop_at w.host.bus w m)
    → ((on : Bool) → P (Vcc on) (wire_result Nothing (vcc_at on w) m))
    → ((s : WireSignal) (on : Bool) → P s (wire_result Nothing (undisturbed on w) m))
    → (s : WireSignal) → P s (signal_of w u m s)
unfolding signal_of
signal_case P w u m start send fetch stop vcc other Start = start
signal_case P w u m start send fetch stop vcc other (Send x) = send x
signal_case P w u m start send fetch stop vcc other (Fetch ack) = fetch ack
signal_case P w u m start send fetch stop vcc other Stop = stop
signal_case P w u m start send fetch stop vcc other (Vcc on) = vcc on
signal_case P w u m start send fetch stop vcc other ProgrammingEnd = other ProgrammingEnd false
