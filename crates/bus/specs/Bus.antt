-- The bus: "idle, started (transfer open or not), or in a read or write leg (open)", and the address counter.
use Rattle.std.specs.Prelude.{ℕ, ◌+◌, ◌%◌, Bool, true, false, Option, Some, None}
use Rattle.register_types.specs.declared.RfMngt.{RfMngt}
use Rattle.bus.specs.declared.Space.{Space}
use Rattle.bus.specs.declared.OpenTransfer.{OpenTransfer}
use Rattle.bus.specs.declared.Bus.{Bus}
use Rattle.bus.specs.declared.Bus.TheVariants.{Idle, Started, ReadLeg, WriteLeg, LowAddress, DataLeg}

unfoldable pub is_open_transfer : Option OpenTransfer → Bool
is_open_transfer None = false
is_open_transfer (Some kept) = true

-- "Inside a transfer RF_MNGT_Dyn counts as at the transfer's start (house)."
unfoldable pub counted_dynamic : Option OpenTransfer → RfMngt → RfMngt
counted_dynamic None dynamic = dynamic
counted_dynamic (Some kept) dynamic = kept.dynamic

-- "A transfer is open from an Acked select": what is kept of the transfer that one opens, or finds open
unfoldable pub kept_of : Option OpenTransfer → RfMngt → OpenTransfer
kept_of None dynamic = record { dynamic = dynamic }
kept_of (Some kept) dynamic = kept

-- the transfer that is open, with what is kept of it
unfoldable pub transfer_at : Bus → Option OpenTransfer
transfer_at Idle = None
transfer_at (Started transfer) = transfer
transfer_at (ReadLeg kept space over last) = Some kept
transfer_at (WriteLeg kept space) = Some kept
transfer_at (LowAddress kept space high) = Some kept
transfer_at (DataLeg kept space count spoiled) = Some kept

-- "A transfer is open"
unfoldable pub is_open : Bus → Bool
is_open b = is_open_transfer (transfer_at b)

-- "any bus activity"
unfoldable pub is_active : Bus → Bool
is_active Idle = false
is_active (Started transfer) = true
is_active (ReadLeg kept space over last) = true
is_active (WriteLeg kept space) = true
is_active (LowAddress kept space high) = true
is_active (DataLeg kept space count spoiled) = true

-- "page bytes 0 to 256, over 0 only in a write leg past its address"
unfoldable pub page_bytes : Bus → ℕ
page_bytes Idle = 0
page_bytes (Started transfer) = 0
page_bytes (ReadLeg kept space over last) = 0
page_bytes (WriteLeg kept space) = 0
page_bytes (LowAddress kept space high) = 0
page_bytes (DataLeg kept space count spoiled) = count

-- "raises the counter by one; after FFFFh comes 0000h (house)"
abbrev pub next_address : ℕ → ℕ
next_address counter = (counter + 1) % 65536
