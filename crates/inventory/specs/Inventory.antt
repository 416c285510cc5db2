-- "Inventory of ISO/IEC 15693 as in 000": which frames are well-formed, which tags they ask, and in which slot a tag answers.
use Rattle.std.specs.Prelude.{Bool, true, not, ◌&&◌, ◌||◌, List, ℕ, zero, suc, ◌+◌, ◌*◌, ◌/◌, ◌%◌, ◌^◌, ltb, eqb, get_or}
use Rattle.parts.specs.Pick.{pick}
use Rattle.parts.specs.Bits.{is_set}
use Rattle.register_types.specs.declared.RfMngt.{RfMngt}
use Rattle.register_types.specs.declared.Afi.{Afi}
use Rattle.air.specs.declared.Air.{Air}
use Rattle.air.specs.Radio.{is_quiet}
use Rattle.keys.specs.declared.Uid.{Uid}
use Rattle.frame.specs.Fields.{flags, command, extension_flag, option_flag, reserved_flag, crc_place}

-- ---- the frame: flags, 01h, the AFI if its flag is set, the mask's length in bits, the mask in whole bytes, CRC
abbrev pub inventory_code : ℕ
inventory_code = 0x01

-- with the inventory flag, 10h says that there is an AFI, and 20h "one slot", else there are sixteen
abbrev pub afi_flag : List ℕ → Bool
afi_flag f = is_set 0x10 (flags f)

abbrev pub one_slot : List ℕ → Bool
one_slot f = is_set 0x20 (flags f)

abbrev pub asked_afi : List ℕ → ℕ
asked_afi f = get_or f 2 0

unfoldable pub mask_length_place : List ℕ → ℕ
mask_length_place f = pick (afi_flag f) 3 2

unfoldable pub mask_bits : List ℕ → ℕ
mask_bits f = get_or f (mask_length_place f) 0

abbrev pub mask_place : List ℕ → ℕ
mask_place f = mask_length_place f + 1

-- "a malformed inventory frame (other command or length, flag 08, 40 or 80, mask over 64 bits, with sixteen slots over 60)"
unfoldable pub is_malformed : List ℕ → Bool
is_malformed f =
    not (eqb (command f) inventory_code)
    || not (eqb (mask_place f + (mask_bits f + 7) / 8) (crc_place f))
    || extension_flag f
    || option_flag f
    || reserved_flag f
    || ltb 64 (mask_bits f)
    || (not (one_slot f) && ltb 60 (mask_bits f))

-- ---- the tags it asks
-- bit i of the bytes from a place on: the lowest of the first byte is bit 0
unfoldable pub bit_at : List ℕ → ℕ → ℕ → ℕ
bit_at s at i = get_or s (at + i / 8) 0 / 2 ^ (i % 8) % 2

-- bits 0 to n-1 of the mask are those of the UID; what the mask's last byte has above them is not read
unfoldable pub same_bits : List ℕ → ℕ → List ℕ → ℕ → Bool
same_bits f at uid zero = true
same_bits f at uid (suc n) = same_bits f at uid n && eqb (bit_at f at n) (bit_at uid 0 n)

-- ISO/IEC 15693-3: AFI 00h asks all, X0h the family X, any other the tags that have just that
unfoldable pub afi_asks : ℕ → Afi → Bool
afi_asks asked own =
    eqb asked 0
    || pick (eqb (asked % 16) 0) (eqb (asked / 16) (own.bits / 16)) (eqb asked own.bits)

unfoldable pub is_matched : List ℕ → Uid → Afi → Bool
is_matched f u own =
    (not (afi_flag f) || afi_asks (asked_afi f) own)
    && same_bits f (mask_place f) u.bytes (mask_bits f)

-- ---- the slot
-- the four bits of the UID above the mask; one slot is slot 0
unfoldable pub slot_number : List ℕ → ℕ → ℕ
slot_number uid n = bit_at uid 0 n + 2 * bit_at uid 0 (n + 1) + 4 * bit_at uid 0 (n + 2) + 8 * bit_at uid 0 (n + 3)

unfoldable pub own_slot : List ℕ → Uid → ℕ
own_slot f u = pick (one_slot f) 0 (slot_number u.bytes (mask_bits f))

-- how many ends-of-frame the frame leaves to the tag's slot; "or else an unmatched one, whose count becomes 0"
unfoldable pub slots_after : List ℕ → Uid → Afi → ℕ
slots_after f u own = pick (is_matched f u own) (own_slot f u) 0

-- the frame is answered at once
unfoldable pub answers_now : List ℕ → Uid → Afi → Bool
answers_now f u own = is_matched f u own && eqb (own_slot f u) 0

-- ---- the tag
-- it hears inventory frames and ends-of-frame: "On either a Quiet, sleeping or shut-out tag is silent and unchanged", as one out of the field is.
-- Shut out: "with RF_MNGT_Dyn b0, a transfer open or programming"
unfoldable pub takes_part : Air → RfMngt → Bool → Bool
takes_part a dynamic busy =
    a.field && not (is_set 2 dynamic.bits) && not (is_quiet a.radio) && not (is_set 1 dynamic.bits || busy)

-- "01's inventory-flag silence .. now holds only for a malformed inventory frame .., a Quiet or shut-out tag, one waiting for its slot, or else an unmatched one"
unfoldable pub inventory_silent : List ℕ → Air → Uid → Afi → RfMngt → Bool → Bool
inventory_silent f a u own dynamic busy =
    is_malformed f || is_quiet a.radio || (is_set 1 dynamic.bits || busy) || not (answers_now f u own)
