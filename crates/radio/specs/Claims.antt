-- What is proved of the radio side, beside the contract of its function.
use Rattle.std.specs.Prelude.{◌≡◌, Bool, true, not, ◌&&◌, ◌||◌, List, ◌⊎◌, ℕ, ◌+◌, ◌≤◌, ◌<◌, length, get_or, Option}
use Rattle.bus.specs.declared.OpenTransfer.{OpenTransfer}
use Rattle.parts.specs.Bits.{is_set}
use Rattle.ranges.specs.Ranges.{air_in_range, mailbox_in_range, core_in_range}
use Rattle.keys.specs.declared.Uid.{Uid}
use Rattle.bus.specs.Bus.{is_open_transfer, counted_dynamic}
use Rattle.tag.specs.Layout.{reply_bytes}
use Rattle.errors.specs.declared.RadioError.TheVariants.{ShutOut}
use Rattle.reply.specs.declared.RadioSide.{RadioSide}
use Rattle.reply.specs.Reply.{ReplyBody, nothing, body, fault}
use Rattle.reply.specs.Outcome.{command_result}
use Rattle.radio.specs.Radio.{radio_of, next_slot_of}

-- while shut out a frame changes nothing, and its answer is silence or 0Fh
abbrev pub ShutOutChangesNothing : Type 0
ShutOutChangesNothing = (v : RadioSide) (u : Uid) (vcc : Bool) (transfer : Option OpenTransfer) (programming : Bool) (m f : List ℕ)
    → (is_set 1 (counted_dynamic transfer v.core.registers.dynamic).bits || (is_open_transfer transfer || programming)) ≡ true
    → (radio_of v u vcc transfer programming m f ≡ command_result nothing v m) ⊎ (radio_of v u vcc transfer programming m f ≡ command_result (fault ShutOut) v m)

-- so does an end-of-frame, and it is silent
abbrev pub EndOfFrameShutOut : Type 0
EndOfFrameShutOut = (v : RadioSide) (u : Uid) (transfer : Option OpenTransfer) (programming : Bool) (m : List ℕ)
    → (is_set 1 (counted_dynamic transfer v.core.registers.dynamic).bits || (is_open_transfer transfer || programming)) ≡ true
    → next_slot_of v u transfer programming m ≡ command_result nothing v m

-- the ranges of what a request may change; MB_EN only with VCC
abbrev pub radio_in_range : RadioSide → Bool → Bool
radio_in_range v vcc = air_in_range v.air && core_in_range v.core && (vcc || not v.core.mailbox.enabled)

-- every frame keeps them, and the memory's length; a frame's bytes are below 256
abbrev pub FrameKeepsRange : Type 0
FrameKeepsRange = (v : RadioSide) (u : Uid) (vcc : Bool) (transfer : Option OpenTransfer) (programming : Bool) (m f : List ℕ)
    → ((i : ℕ) → get_or f i 0 < 256) → radio_in_range v vcc ≡ true
    → (radio_in_range (radio_of v u vcc transfer programming m f).side vcc ≡ true) × (length (radio_of v u vcc transfer programming m f).memory ≡ length m)

-- every end-of-frame does, and leaves the memory
abbrev pub EndOfFrameKeepsRange : Type 0
EndOfFrameKeepsRange = (v : RadioSide) (u : Uid) (vcc : Bool) (transfer : Option OpenTransfer) (programming : Bool) (m : List ℕ) → radio_in_range v vcc ≡ true
    → (radio_in_range (next_slot_of v u transfer programming m).side vcc ≡ true) × ((next_slot_of v u transfer programming m).memory ≡ m)

-- how many bytes a reply has, CRC included
unfoldable pub reply_size : ReplyBody → ℕ
reply_size nothing = 0
reply_size (body s) = length s + 2

-- with the mailbox in range, every reply has room in the 643 bytes of the reply buffer
abbrev pub RepliesFit : Type 0
RepliesFit = (v : RadioSide) (u : Uid) (vcc : Bool) (transfer : Option OpenTransfer) (programming : Bool) (m f : List ℕ)
    → mailbox_in_range v.core.mailbox ≡ true → reply_size (radio_of v u vcc transfer programming m f).reply ≤ reply_bytes

-- to an end-of-frame too
abbrev pub EndOfFrameFits : Type 0
EndOfFrameFits = (v : RadioSide) (u : Uid) (transfer : Option OpenTransfer) (programming : Bool) (m : List ℕ) → reply_size (next_slot_of v u transfer programming m).reply ≤ reply_bytes
