-- The whole transfer is what its signals give one by one: every answer, the wire side and all 1,024 bytes.
use Rattle.std.specs.Prelude.{◌≡◌, true, false, List, [], ◌∷◌, ℕ, length, Option}
use Rattle.bus.specs.declared.OpenTransfer.{OpenTransfer}
use Rattle.bus.specs.declared.Bus.TheVariants.{Started}
use Rattle.tag.specs.declared.WireSide.{WireSide}
use Rattle.keys.specs.declared.Uid.{Uid}
use Rattle.tag.specs.Layout.{memory_bytes}
use Rattle.signal.specs.Signal.{side_bus}
use Rattle.wire.specs.Wire.{signal_of}
use Rattle.transfer.specs.Legs.{Noted, wire_signal, finished}
use Rattle.transfer.specs.Whole.{TransferResult, transfer_result, before, transfer_of}

-- a list of signals, one by one
unfoldable pub run_of : WireSide → Uid → List ℕ → List Noted → TransferResult
run_of w u m [] = transfer_result [] w m
run_of w u m (next ∷ noted) =
    let result = signal_of w u m (wire_signal next) in
    before (result.answer ∷ []) (run_of result.side u result.memory noted)

-- where a select is Acked: with VCC and nothing being programmed; and the lent memory has its length
pub record Ready (w : WireSide) (m : List ℕ) : Type 0 where
  pub vcc : w.host.vcc ≡ true
  pub still : w.host.programming ≡ false
  pub bytes : length m ≡ memory_bytes

-- what is noted comes after the first Start, up to the end of the transfer; the bus is started, a transfer open or not
abbrev pub TransferBySignals : Type 0
TransferBySignals =
    (noted : List Noted) → finished true noted ≡ true → (w : WireSide) (u : Uid) (m : List ℕ) (transfer : Option OpenTransfer) → Ready w m
    → transfer_of w u m noted ≡ run_of (side_bus (Started transfer) w) u m noted
