-- Each wrong search told by one rack. Assumes nothing.
use mathlib.Core.Path.{◌≡◌, refl, ap}
use mathlib.Core.List.{List, [], ◌∷◌}
use Prim.Native.Nat.{ℕ, ◌<◌}
use native.Mathlib.Omega.{arith}
use lib.ListN.{get_or}
use Rattle.tag.specs.Layout.{reply_bytes}
use Rattle.calls.specs.Examples.{zeros, ◌but◌, slots_are}
use Rattle.rack.specs.Rack.{Rack, racked, no_tag}
use Rattle.rack.specs.Step.{rack_entry}
use Rattle.rack_search.specs.Claims.{Searches}
use Rattle.wrong_racks.specs.WrongSearch.{goes_on, leaves_early, always_sixteen, wants_three, AllSearchesTold, WrongSearchesTold}
use Rattle.wrong_racks.proofs.Computes.{computes_search}
use Rattle.wrong_racks.proofs.Racks.{one, other, three, inventory}

-- ---- what is compared: how many ends-of-frame are left to tag i's slot
abbrev slots_of : ℕ → Rack → ℕ
slots_of i r = (get_or r.tags i no_tag).air.slots

abbrev buffer : List ℕ
buffer = zeros reply_bytes

-- the two answer in slot 1; the last tag's slot is then 8 ends-of-frame off
goes_on_told : Searches rack_entry goes_on → ⊥
unfolding computes_search
goes_on_told h =
    let f : ◌≡◌ {A = ℕ} 0 8 = ap (slots_of 2) (h three buffer inventory.frame refl).rack_left in
    omega arith

-- and it has not got the end-of-frame of slot 1
leaves_early_told : Searches rack_entry leaves_early → ⊥
unfolding computes_search
leaves_early_told h =
    let f : ◌≡◌ {A = ℕ} 9 8 = ap (slots_of 2) (h three buffer inventory.frame refl).rack_left in
    omega arith

-- a frame of three bytes; the second tag waits for its slot since an earlier one
always_sixteen_told : Searches rack_entry always_sixteen → ⊥
unfolding computes_search
always_sixteen_told h =
    let f : ◌≡◌ {A = ℕ} 0 5 = ap (slots_of 1) (h (racked (one ∷ (other but slots_are 5) ∷ [])) buffer (0x06 ∷ 0x01 ∷ 0x00 ∷ []) refl).rack_left in
    omega arith

-- slot 1 has two
wants_three_told : Searches rack_entry wants_three → ⊥
unfolding computes_search
wants_three_told h =
    let few : 2 < 2 = ((h three buffer inventory.frame refl).none refl).0 refl 1 in
    omega (arith, few)

pub wrong_searches_told : WrongSearchesTold
unfolding AllSearchesTold
wrong_searches_told = (goes_on_told, (leaves_early_told, (always_sixteen_told, (wants_three_told, tt))))
