-- Racks and calls for the wrong ones. Assumes nothing.
use mathlib.Core.List.{[], ◌∷◌}
use Prim.Native.Nat.{ℕ}
use Rattle.refusals.specs.Call.{Call}
use Rattle.calls.specs.Calls.{Device, device}
use Rattle.calls.specs.Examples.{zeros, frame, powered, ◌but◌, bytes}
use Rattle.rack.specs.Rack.{Rack, racked, RackCall, rack_call}

-- a device with another UID, whose first byte is x: without a mask its slot are the low four bits of that
abbrev pub with_uid : ℕ → Device → Device
with_uid x d = device (record { air = d.tag.air; host = d.tag.host; core = d.tag.core; uid = record { bytes = x ∷ 0x02 ∷ 0x03 ∷ 0x04 ∷ 0x05 ∷ 0x24 ∷ 0x02 ∷ 0xE0 ∷ [] } }) d.memory

-- two tags in the field with VCC, in slots 1 and 2; byte 3 is 5 in the first one's memory and 6 in the second one's
abbrev pub one : Device
one = powered but with_uid 0x01 but bytes (0 ∷ 0 ∷ 0 ∷ 5 ∷ []) [] []

abbrev pub other : Device
other = powered but with_uid 0x02 but bytes (0 ∷ 0 ∷ 0 ∷ 6 ∷ []) [] []

abbrev pub two : Rack
two = racked (one ∷ other ∷ [])

-- three, two of them in slot 1 and the last in slot 9
abbrev pub three : Rack
three = racked ((powered but with_uid 0x01) ∷ (powered but with_uid 0x11) ∷ (powered but with_uid 0x09) ∷ [])

-- to all, or to the first tag
abbrev pub first : Call → RackCall
first c = rack_call c 0

-- 06 01 00: an inventory of sixteen slots, without mask
abbrev pub inventory : Call
inventory = frame (0x06 ∷ 0x01 ∷ 0x00 ∷ [])

-- 02 20 00: block 0 is read
abbrev pub read : Call
read = frame (0x02 ∷ 0x20 ∷ 0x00 ∷ [])

-- password 0 presented, all zeros
abbrev pub present : Call
present = frame (0x02 ∷ 0xB3 ∷ 0x02 ∷ 0 ∷ zeros 8)
