-- What a data byte of a write leg does.
use Rattle.std.specs.Prelude.{Bool, true, false, List, ℕ, suc, ◌+◌, set}
use Rattle.parts.specs.Pick.{pick}
use Rattle.bus.specs.declared.Space.{Space}
use Rattle.bus.specs.declared.OpenTransfer.{OpenTransfer}
use Rattle.bus.specs.declared.Bus.TheVariants.{DataLeg}
use Rattle.tag.specs.declared.WireSide.{WireSide}
use Rattle.tag.specs.Layout.{page_place, page}
use Rattle.bus.specs.Bus.{next_address}
use Rattle.select.specs.Select.{first_of}
use Rattle.rule.specs.Rule.{acked}
use Rattle.signal.specs.declared.WireAnswer.TheVariants.{Ack, NoAck}
use Rattle.signal.specs.Signal.{WireResult, wire_result, side_bus, side_line}

-- "Acked data byte k of a write leg goes to page place k"; "Each Acked data byte .. raises the counter by one"
unfoldable pub data_of : OpenTransfer → Space → ℕ → WireSide → List ℕ → ℕ → WireResult
data_of kept space k w m x =
    pick (acked space w.core w.host.session (first_of w.host.counter k) k (page k m) x)
    (wire_result Ack (side_line (next_address w.host.counter) (DataLeg kept space (suc k) false) w) (set m (page_place + k) x))
    (wire_result NoAck (side_bus (DataLeg kept space k true) w) m)

-- "The first NoAck from the tag spoils the leg: its later bytes are NoAcked"
abbrev pub data_byte : OpenTransfer → Space → ℕ → Bool → WireSide → List ℕ → ℕ → WireResult
data_byte kept space k spoiled w m x = pick spoiled (wire_result NoAck w m) (data_of kept space k w m x)
