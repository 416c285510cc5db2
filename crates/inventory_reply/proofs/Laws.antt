-- What an inventory frame and an end-of-frame come to: nothing, or a count with an answer or without. Assumes nothing.
use mathlib.Core.Path.{◌≡◌, refl}
use mathlib.Core.Bool.{Bool, true, false, not, ◌&&◌, ◌||◌}
use mathlib.Core.List.{List}
use Prim.Native.Nat.{ℕ, ◌-◌}
use lib.Dec.{ltb, eqb}
use lib.ListN.{length}
use Rattle.parts.specs.Bits.{is_set}
use Rattle.parts.proofs.Bools.{and_left}
use Rattle.parts.proofs.Picks.{pick_case, pick_false}
use Rattle.crc.specs.Crc.{good_frame}
use Rattle.register_types.specs.declared.RfMngt.{RfMngt}
use Rattle.air.specs.declared.Air.{Air}
use Rattle.keys.specs.declared.Uid.{Uid}
use Rattle.inventory.specs.Inventory.{is_malformed, slots_after, answers_now, takes_part}
use Rattle.inventory.proofs.Laws.{part_shut}
use Rattle.reply.specs.declared.RadioSide.{RadioSide}
use Rattle.reply.specs.Reply.{nothing}
use Rattle.reply.specs.Outcome.{CommandResult, command_result}
use Rattle.inventory_reply.specs.Answers.{slots_left, is_heard, inventory_of, end_of_frame_of}

-- who hears a frame takes part
pub heard_part : (f : List ℕ) (a : Air) (dynamic : RfMngt) (busy : Bool) → is_heard f a dynamic busy ≡ true → takes_part a dynamic busy ≡ true
unfolding is_heard
heard_part f a dynamic busy h =
    let part = takes_part a dynamic busy in
    let size = not (ltb (length f) 4 || ltb 270 (length f)) in
    and_left part size (and_left (part && size) (good_frame f) (and_left (part && size && good_frame f) (not (is_malformed f)) h))

-- ---- by cases
pub inventory_case : (P : CommandResult → Type 0) (v : RadioSide) (u : Uid) (dynamic : RfMngt) (busy : Bool) (m f : List ℕ)
    → (let own = v.core.registers.afi in takes_part v.air dynamic busy ≡ true → P (slots_left v u (slots_after f u own) (answers_now f u own) m))
    → P (command_result nothing v m) → P (inventory_of v u dynamic busy m f)
unfolding inventory_of
inventory_case P v u dynamic busy m f heard unheard =
    pick_case P (is_heard f v.air dynamic busy) _ _ (λ h. heard (heard_part f v.air dynamic busy h)) (λ h. unheard)

pub end_case : (P : CommandResult → Type 0) (v : RadioSide) (u : Uid) (dynamic : RfMngt) (busy : Bool) (m : List ℕ)
    → (takes_part v.air dynamic busy ≡ true → P (slots_left v u (v.air.slots - 1) (eqb v.air.slots 1) m))
    → P (command_result nothing v m) → P (end_of_frame_of v u dynamic busy m)
unfolding end_of_frame_of
end_case P v u dynamic busy m part none = pick_case P (takes_part v.air dynamic busy) _ _ part (λ h. none)

-- ---- an end-of-frame changes the air side alone
pub end_leaves : (v : RadioSide) (u : Uid) (dynamic : RfMngt) (busy : Bool) (m : List ℕ)
    → (let x = end_of_frame_of v u dynamic busy m in (x.side.core ≡ v.core) × (x.memory ≡ m))
end_leaves v u dynamic busy m =
    let K : CommandResult → Type 0 = λ x. (x.side.core ≡ v.core) × (x.memory ≡ m) in
    end_case K v u dynamic busy m (λ _. pick_case K (eqb v.air.slots 1) _ _ (λ _. (refl, refl)) (λ _. (refl, refl))) (refl, refl)

-- ---- shut out
unheard : (f : List ℕ) (a : Air) (dynamic : RfMngt) (busy : Bool) → takes_part a dynamic busy ≡ false → is_heard f a dynamic busy ≡ false
unfolding is_heard
unheard f a dynamic busy h = rw h

pub inventory_shut : (v : RadioSide) (u : Uid) (dynamic : RfMngt) (busy : Bool) (m f : List ℕ) → (is_set 1 dynamic.bits || busy) ≡ true
    → command_result nothing v m ≡ inventory_of v u dynamic busy m f
unfolding inventory_of
inventory_shut v u dynamic busy m f h =
    pick_false _ _ _ (is_heard f v.air dynamic busy) (unheard f v.air dynamic busy (part_shut v.air dynamic busy h)) refl

pub end_shut : (v : RadioSide) (u : Uid) (dynamic : RfMngt) (busy : Bool) (m : List ℕ) → (is_set 1 dynamic.bits || busy) ≡ true
    → command_result nothing v m ≡ end_of_frame_of v u dynamic busy m
unfolding end_of_frame_of
end_shut v u dynamic busy m h = pick_false _ _ _ (takes_part v.air dynamic busy) (part_shut v.air dynamic busy h) refl
