-- The result of a bus signal, and what a Start and a Stop do.
use Rattle.std.specs.Prelude.{Bool, ◌||◌, List, ℕ, eqb}
use Rattle.parts.specs.Pick.{pick}
use Rattle.bus.specs.declared.Space.{Space}
use Rattle.bus.specs.declared.Bus.{Bus}
use Rattle.bus.specs.declared.Bus.TheVariants.{Idle, Started, ReadLeg, WriteLeg, LowAddress, DataLeg}
use Rattle.tag.specs.declared.WireSide.{WireSide}
use Rattle.tag.specs.Layout.{page}
use Rattle.tag.specs.Parts.{with_counter, with_bus, with_host}
use Rattle.bus.specs.Bus.{transfer_at}
use Rattle.select.specs.Select.{first_of}
use Rattle.leg.specs.Leg.{stopped, started, Due, nothing_due, clears, writes, settle}
use Rattle.signal.specs.declared.WireAnswer.{WireAnswer}
use Rattle.signal.specs.declared.WireAnswer.TheVariants.{Nothing}

-- the answer, the wire side and the memory after a signal
pub record WireResult : Type 0 where
  pub answer : WireAnswer
  pub side : WireSide
  pub memory : List ℕ

abbrev pub wire_result : WireAnswer → WireSide → List ℕ → WireResult
wire_result answer w m = record { answer = answer; side = w; memory = m }

abbrev pub side_bus : Bus → WireSide → WireSide
side_bus b w = with_host (with_bus b w.host) w

-- the counter and the bus
abbrev pub side_line : ℕ → Bus → WireSide → WireSide
side_line counter b w = with_host (with_bus b (with_counter counter w.host)) w

-- what a write leg past its address has due at its end, with the counter and the memory.
-- "The first NoAck from the tag spoils the leg: .. it writes nothing." "A leg with no data writes nothing"
abbrev pub write_due : Space → ℕ → Bool → ℕ → List ℕ → Due
write_due space count spoiled counter m = pick (spoiled || eqb count 0) nothing_due (writes space (first_of counter count) (page count m))

-- what the bus has due
unfoldable pub due_of : Bus → ℕ → List ℕ → Due
due_of Idle counter m = nothing_due
due_of (Started transfer) counter m = nothing_due
due_of (ReadLeg kept space over last) counter m = pick last clears nothing_due
due_of (WriteLeg kept space) counter m = nothing_due
due_of (LowAddress kept space high) counter m = nothing_due
due_of (DataLeg kept space count spoiled) counter m = write_due space count spoiled counter m

-- a Start ends the leg; the bus is started, the transfer open or not as before
unfoldable pub start_at : Bus → WireSide → List ℕ → WireResult
start_at b w m =
    let result = settle started (due_of b w.host.counter m) (side_bus (Started (transfer_at b)) w) m in
    wire_result Nothing result.side result.memory

-- "Start without VCC .. change[s] nothing"
unfoldable pub start_of : WireSide → List ℕ → WireResult
start_of w m = pick w.host.vcc (start_at w.host.bus w m) (wire_result Nothing w m)

-- a Stop ends the leg; "A Stop .. leaves the bus idle."
unfoldable pub stop_at : Bus → WireSide → List ℕ → WireResult
stop_at b w m =
    let result = settle stopped (due_of b w.host.counter m) (side_bus Idle w) m in
    wire_result Nothing result.side result.memory
