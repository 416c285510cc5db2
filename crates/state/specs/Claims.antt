-- The bytes and the state say the same.
use Rattle.std.specs.Prelude.{◌≡◌, Bool, true, ◌&&◌, List, ℕ, ltb, eqb, length, Option, Some, None}
use Rattle.bus.specs.declared.OpenTransfer.{OpenTransfer}
use Rattle.parts.specs.Bytes.{are_bytes}
use Rattle.bus.specs.declared.Bus.{Bus}
use Rattle.bus.specs.declared.Bus.TheVariants.{Idle, Started, ReadLeg, WriteLeg, LowAddress, DataLeg}
use Rattle.keys.specs.declared.Passwords.{Passwords}
use Rattle.tag.specs.declared.Tag.{Tag}
use Rattle.registers.specs.Map.{register_bytes}
use Rattle.bus.specs.Bus.{transfer_at}
use Rattle.state.specs.Layout.{bytes_of, decodes, tag_of}

-- ---- each number of a tag fits its type
abbrev pub is_byte : ℕ → Bool
is_byte n = ltb n 256

-- two bytes hold it
abbrev pub is_word : ℕ → Bool
is_word n = ltb n 65536

-- "eight bytes"
abbrev pub are_eight : List ℕ → Bool
are_eight s = eqb (length s) 8 && are_bytes s

-- RF_MNGT_Dyn at the start of an open transfer
unfoldable pub transfer_fits : Option OpenTransfer → Bool
transfer_fits None = true
transfer_fits (Some kept) = is_byte kept.dynamic.bits

-- the high address byte; the page bytes
unfoldable pub leg_fits : Bus → Bool
leg_fits Idle = true
leg_fits (Started transfer) = true
leg_fits (ReadLeg kept space over last) = true
leg_fits (WriteLeg kept space) = true
leg_fits (LowAddress kept space high) = is_byte high
leg_fits (DataLeg kept space count spoiled) = is_word count

unfoldable pub bus_fits : Bus → Bool
bus_fits b = transfer_fits (transfer_at b) && leg_fits b

pub record PasswordsFit (p : Passwords) : Type 0 where
  pub i2c : are_eight p.i2c.bytes ≡ true
  pub rf0 : are_eight p.rf0.bytes ≡ true
  pub rf1 : are_eight p.rf1.bytes ≡ true
  pub rf2 : are_eight p.rf2.bytes ≡ true
  pub rf3 : are_eight p.rf3.bytes ≡ true

pub record Fits (t : Tag) : Type 0 where
  pub session : is_byte t.air.session ≡ true
  pub slots : is_byte t.air.slots ≡ true
  pub counter : is_word t.host.counter ≡ true
  pub bus : bus_fits t.host.bus ≡ true
  pub registers : are_bytes (register_bytes t.core.registers) ≡ true
  pub message : is_word t.core.mailbox.length ≡ true
  pub passwords : PasswordsFit t.core.passwords
  pub uid : are_eight t.uid.bytes ≡ true

-- ---- the claims
-- a tag's bytes decode, and to that tag
abbrev pub DecodesEncoded : Type 0
DecodesEncoded = (t : Tag) → Fits t → (decodes (bytes_of t) ≡ true) × (tag_of (bytes_of t) ≡ t)

-- bytes that decode are the bytes of the tag that they decode to
abbrev pub EncodesDecoded : Type 0
EncodesDecoded = (s : List ℕ) → are_bytes s ≡ true → decodes s ≡ true → bytes_of (tag_of s) ≡ s

-- a tag's bytes are bytes
abbrev pub EncodesBytes : Type 0
EncodesBytes = (t : Tag) → Fits t → are_bytes (bytes_of t) ≡ true

-- the tag of bytes fits
abbrev pub DecodedFits : Type 0
DecodedFits = (s : List ℕ) → are_bytes s ≡ true → Fits (tag_of s)
