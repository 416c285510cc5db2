-- What is proved of a signal, beside the contract of its function.
use Rattle.std.specs.Prelude.{◌≡◌, Bool, true, false, List, ◌⊎◌, ℕ, ◌<◌, length, get_or}
use Rattle.tag.specs.declared.WireSide.{WireSide}
use Rattle.keys.specs.declared.Uid.{Uid}
use Rattle.tag.specs.Layout.{memory_bytes}
use Rattle.register_types.specs.declared.RfMngt.{RfMngt}
use Rattle.registers.specs.Map.{with_dynamic}
use Rattle.mailbox.specs.declared.Mailbox.{Mailbox}
use Rattle.mailbox.specs.Mailbox.{empty_mailbox}
use Rattle.bus.specs.Bus.{counted_dynamic, transfer_at, is_open}
use Rattle.ranges.specs.Ranges.{supplied_in_range, wire_in_range}
use Rattle.page.specs.PageRange.{bus_in_range}
use Rattle.signal_table.specs.declared.WireSignal.{WireSignal}
use Rattle.signal_table.specs.declared.WireSignal.TheVariants.{Start, Send, Fetch, Stop, Vcc, ProgrammingEnd}
use Rattle.signal_table.specs.Table.{sent_byte}
use Rattle.wire.specs.Wire.{signal_of}

-- 01's ranges of the wire side, its page bytes and the lent memory
pub record InRange (w : WireSide) (m : List ℕ) : Type 0 where
  pub side : wire_in_range w ≡ true
  pub bus : bus_in_range w.host.bus w.host.counter w.core w.host.session m ≡ true
  pub size : length m ≡ memory_bytes

-- every signal keeps them
abbrev pub SignalKeepsRange : Type 0
SignalKeepsRange = (w : WireSide) (u : Uid) (m : List ℕ) (signal : WireSignal)
    → InRange w m → InRange (signal_of w u m signal).side (signal_of w u m signal).memory

-- every signal keeps the counter below 65536
abbrev pub KeepsCounter : Type 0
KeepsCounter = (w : WireSide) (u : Uid) (m : List ℕ) (signal : WireSignal) → w.host.counter < 65536 → (signal_of w u m signal).side.host.counter < 65536

-- every signal keeps the memory's bytes below 256
abbrev pub KeepsBytes : Type 0
KeepsBytes = (w : WireSide) (u : Uid) (m : List ℕ) (signal : WireSignal) → sent_byte signal < 256
    → ((i : ℕ) → get_or m i 0 < 256) → (i : ℕ) → get_or (signal_of w u m signal).memory i 0 < 256

-- ---- a signal that leaves a transfer open
abbrev pub LeavesOpen : (WireSide → WireSignal → WireSide → Type 0) → Type 0
LeavesOpen P = (w : WireSide) (u : Uid) (m : List ℕ) (signal : WireSignal) → supplied_in_range w.host w.core.mailbox.enabled ≡ true
    → is_open (signal_of w u m signal).side.host.bus ≡ true → P w signal (signal_of w u m signal).side

unfoldable pub is_start : WireSignal → Bool
is_start Start = true
is_start (Send x) = false
is_start (Fetch ack) = false
is_start Stop = false
is_start (Vcc on) = false
is_start ProgrammingEnd = false

-- MB_LEN_Dyn stays, but that "clearing [MB_EN] empties the mailbox"
abbrev pub LengthStays : Mailbox → Mailbox → Type 0
LengthStays mailbox after = (after.length ≡ mailbox.length) ⊎ (after ≡ empty_mailbox)

-- it changes no register but RF_MNGT_Dyn and MB_CTRL_Dyn
pub record OthersStay (w after : WireSide) : Type 0 where
  -- the system registers
  pub system : after.core.registers ≡ with_dynamic after.core.registers.dynamic w.core.registers
  -- I2C_SSO_Dyn
  pub session : after.host.session ≡ w.host.session
  pub message : LengthStays w.core.mailbox after.core.mailbox

abbrev pub RegistersStay : Type 0
RegistersStay = LeavesOpen (λ (w : WireSide) (signal : WireSignal) (after : WireSide). OthersStay w after)

-- and those two only at a Start; as all else that both sides share
abbrev pub OnlyAtStart : Type 0
OnlyAtStart = LeavesOpen (λ (w : WireSide) (signal : WireSignal) (after : WireSide). is_start signal ≡ false → after.core ≡ w.core)

-- RF_MNGT_Dyn as it counts for frames
abbrev pub side_counted : WireSide → RfMngt
side_counted w = counted_dynamic (transfer_at w.host.bus) w.core.registers.dynamic

-- it stays
abbrev pub CountedStays : Type 0
CountedStays = LeavesOpen (λ (w : WireSide) (signal : WireSignal) (after : WireSide). side_counted after ≡ side_counted w)
