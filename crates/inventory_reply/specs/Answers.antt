-- What an inventory frame and an end-of-frame do: the tag's answer, and how many ends-of-frame are left to its slot.
use Rattle.std.specs.Prelude.{Bool, not, ◌&&◌, ◌||◌, List, ◌∷◌, ℕ, ◌-◌, ltb, eqb, length}
use Rattle.parts.specs.Pick.{pick}
use Rattle.parts.specs.Bytes.{bytes_at}
use Rattle.crc.specs.Crc.{good_frame}
use Rattle.register_types.specs.declared.RfMngt.{RfMngt}
use Rattle.register_types.specs.declared.Dsfid.{Dsfid}
use Rattle.air.specs.declared.Air.{Air}
use Rattle.air.specs.Parts.{with_slots}
use Rattle.keys.specs.declared.Uid.{Uid}
use Rattle.inventory.specs.Inventory.{is_malformed, slots_after, answers_now, takes_part}
use Rattle.reply.specs.declared.RadioSide.{RadioSide}
use Rattle.reply.specs.Reply.{ReplyBody, nothing, good}
use Rattle.reply.specs.Outcome.{CommandResult, command_result, with_air}

-- 000: "00h, DSFID, UID", the lowest byte of the UID first
abbrev pub inventory_reply : Dsfid → Uid → ReplyBody
inventory_reply dsfid u = good (dsfid.bits ∷ bytes_at u.bytes 0 8)

-- the ends-of-frame left to the slot, and an answer now or silence
abbrev pub slots_left : RadioSide → Uid → ℕ → Bool → List ℕ → CommandResult
slots_left v u n answers m =
    let next = with_air (with_slots n v.air) v in
    pick answers (command_result (inventory_reply v.core.registers.dsfid u) next m) (command_result nothing next m)

-- the tag takes part, the frame has 4 to 270 bytes and a right CRC, and is well-formed; it has the inventory flag
unfoldable pub is_heard : List ℕ → Air → RfMngt → Bool → Bool
is_heard f a dynamic busy = takes_part a dynamic busy && not (ltb (length f) 4 || ltb 270 (length f)) && good_frame f && not (is_malformed f)

-- "each well-formed inventory frame sets that anew"
unfoldable pub inventory_of : RadioSide → Uid → RfMngt → Bool → List ℕ → List ℕ → CommandResult
inventory_of v u dynamic busy m f =
    let own = v.core.registers.afi in
    pick (is_heard f v.air dynamic busy) (slots_left v u (slots_after f u own) (answers_now f u own) m)
    (command_result nothing v m)

-- "The lone end-of-frame that opens the next slot": the tag's own, if one was left
unfoldable pub end_of_frame_of : RadioSide → Uid → RfMngt → Bool → List ℕ → CommandResult
end_of_frame_of v u dynamic busy m =
    pick (takes_part v.air dynamic busy) (slots_left v u (v.air.slots - 1) (eqb v.air.slots 1) m)
    (command_result nothing v m)
