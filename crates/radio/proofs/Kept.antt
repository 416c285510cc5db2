-- Every frame keeps the ranges of what it returns, and the memory's length. Assumes nothing.
use mathlib.Core.Path.{◌≡◌, refl}
use mathlib.Core.Bool.{Bool, true, not, ◌&&◌, ◌||◌}
use Prim.Native.Nat.{◌-◌}
use native.Mathlib.Omega.{arith}
use lib.Dec.{leb, eqb}
use borrow.Author.Tests.{le-leb}
use Rattle.parts.proofs.Bools.{and_left, and_right}
use Rattle.parts.proofs.Picks.{pick_case}
use Rattle.air.specs.declared.Air.{Air}
use Rattle.ranges.specs.Ranges.{registers_in_range, air_in_range, mailbox_in_range, core_in_range}
use Rattle.ranges.proofs.AirKept.{slots_at_most, slots_kept}
use Rattle.frame.specs.Fields.{param}
use Rattle.inventory.proofs.Laws.{part_awake}
use Rattle.inventory_reply.proofs.Laws.{end_case}
use Rattle.reply.specs.declared.RadioSide.{RadioSide}
use Rattle.reply.specs.Outcome.{CommandResult, with_air}
use Rattle.radio.specs.Claims.{radio_in_range, FrameKeepsRange, EndOfFrameKeepsRange}
use Rattle.radio.specs.Radio.{dynamic_now, busy_now, next_slot_of}
use Rattle.radio.proofs.EveryCommand.{SideFits, frame_behaves}

fits : (vcc : Bool) (v : RadioSide) → radio_in_range v vcc ≡ true → SideFits vcc v
unfolding core_in_range
fits vcc v h =
    let a = air_in_range v.air in
    let r = registers_in_range v.core.registers in
    let m = mailbox_in_range v.core.mailbox in
    let s = vcc || not v.core.mailbox.enabled in
    let h2 = and_left (a && core_in_range v.core) s h in
    let c = and_right a (core_in_range v.core) h2 in
    record { air = and_left a (core_in_range v.core) h2; registers = and_left r m c; mailbox = and_right r m c; supplied = and_right (a && core_in_range v.core) s h }

in_range_lem : (vcc : Bool) (v : RadioSide) → SideFits vcc v → radio_in_range v vcc ≡ true
unfolding core_in_range
in_range_lem vcc v f = rw (f.air, f.registers, f.mailbox, f.supplied)

pub keeps : FrameKeepsRange
unfolding param
keeps v u vcc transfer programming m f b h =
    let k = frame_behaves v vcc m f u transfer programming in
    (in_range_lem vcc _ (k.range (b _) (fits vcc v h)), k.size)

-- ---- an end-of-frame
-- what may change the ends-of-frame left to the slot
slots_fit : (vcc : Bool) (v : RadioSide) (a : Air) → air_in_range a ≡ true → radio_in_range v vcc ≡ true → radio_in_range (with_air a v) vcc ≡ true
slots_fit vcc v a k h = let f = fits vcc v h in in_range_lem vcc (with_air a v) (record { air = k; registers = f.registers; mailbox = f.mailbox; supplied = f.supplied })

-- one fewer is in range too
fewer : (a : Air) → air_in_range a ≡ true → leb (a.slots - 1) 15 ≡ true
fewer a h = le-leb (a.slots - 1) 15 (omega (arith, slots_at_most a h))

pub end_keeps : EndOfFrameKeepsRange
unfolding next_slot_of
end_keeps v u vcc transfer programming m h =
    let K : CommandResult → Type 0 = λ x. (radio_in_range x.side vcc ≡ true) × (x.memory ≡ m) in
    let dynamic = dynamic_now v transfer in
    let busy = busy_now transfer programming in
    end_case K v u dynamic busy m
    (λ part.
    let air = (fits vcc v h).air in
    let next = slots_fit vcc v _ (slots_kept v.air _ (fewer v.air air) (part_awake v.air dynamic busy part) air) h in
    pick_case K (eqb v.air.slots 1) _ _ (λ _. (next, refl)) (λ _. (next, refl)))
    (h, refl)
