-- What changes the air side keeps its ranges. Assumes nothing.
use mathlib.Core.Path.{◌≡◌, refl}
use mathlib.Core.Bool.{Bool, true, false, not, ◌&&◌, ◌||◌}
use Prim.Native.Nat.{ℕ, ◌≤◌}
use lib.Dec.{leb, eqb}
use borrow.Author.Tests.{leb-true}
use Rattle.parts.proofs.Bools.{and_left, and_right, or_second}
use Rattle.parts.proofs.Picks.{pick_case}
use Rattle.air.specs.declared.RadioState.{RadioState}
use Rattle.air.specs.declared.Air.{Air}
use Rattle.air.specs.Parts.{with_state, with_radio_session, with_slots}
use Rattle.air.specs.Radio.{is_quiet, quieted, field_on, field_at}
use Rattle.ranges.specs.Ranges.{air_in_range}

-- the ranges as facts
record AirFits (a : Air) : Type 0 where
  session : leb a.session 4 ≡ true
  slots : leb a.slots 15 ≡ true
  hears : (eqb a.slots 0 || (a.field && not (is_quiet a.radio))) ≡ true

air_fits : (a : Air) → air_in_range a ≡ true → AirFits a
unfolding air_in_range
air_fits a h =
    let session = leb a.session 4 in
    let slots = leb a.slots 15 in
    let hears = eqb a.slots 0 || (a.field && not (is_quiet a.radio)) in
    let both = and_left (session && slots) hears h in
    record { session = and_left session slots both; slots = and_right session slots both; hears = and_right (session && slots) hears h }

in_range_lem : (a : Air) → AirFits a → air_in_range a ≡ true
unfolding air_in_range
in_range_lem a f = rw (f.session, f.slots, f.hears)

pub session_at_most : (a : Air) → air_in_range a ≡ true → a.session ≤ 4
session_at_most a h = leb-true a.session 4 (air_fits a h).session

pub slots_at_most : (a : Air) → air_in_range a ≡ true → a.slots ≤ 15
slots_at_most a h = leb-true a.slots 15 (air_fits a h).slots

pub session_kept : (a : Air) (n : ℕ) → leb n 4 ≡ true → air_in_range a ≡ true → air_in_range (with_radio_session n a) ≡ true
session_kept a n s h = let f = air_fits a h in in_range_lem (with_radio_session n a) (record { session = s; slots = f.slots; hears = f.hears })

-- whoever awaits a slot does so in the field and not Quiet
awake : (none field quiet : Bool) → (none || (field && not quiet)) ≡ true → (none || (field && true)) ≡ true
awake true field quiet h = refl
awake false true quiet h = refl
awake false false quiet h = h

pub state_kept : (a : Air) (x : RadioState) → is_quiet x ≡ false → air_in_range a ≡ true → air_in_range (with_state x a) ≡ true
state_kept a x q h =
    let f = air_fits a h in
    in_range_lem (with_state x a) (record { session = f.session; slots = f.slots; hears = rw q (awake (eqb a.slots 0) a.field (is_quiet a.radio) f.hears) })

pub quieted_kept : (a : Air) → air_in_range a ≡ true → air_in_range (quieted a) ≡ true
quieted_kept a h = let f = air_fits a h in in_range_lem (quieted a) (record { session = f.session; slots = refl; hears = refl })

pub slots_kept : (a : Air) (n : ℕ) → leb n 15 ≡ true → (a.field && not (is_quiet a.radio)) ≡ true → air_in_range a ≡ true → air_in_range (with_slots n a) ≡ true
slots_kept a n l t h = let f = air_fits a h in in_range_lem (with_slots n a) (record { session = f.session; slots = l; hears = or_second (eqb n 0) _ t })

in_field : (none field quiet : Bool) → (none || (field && not quiet)) ≡ true → (none || (true && not quiet)) ≡ true
in_field true field quiet h = refl
in_field false true quiet h = h
in_field false false true h = h
in_field false false false h = refl

on_kept : (a : Air) → air_in_range a ≡ true → air_in_range (field_on a) ≡ true
on_kept a h =
    let f = air_fits a h in
    in_range_lem (field_on a) (record { session = f.session; slots = f.slots; hears = in_field (eqb a.slots 0) a.field (is_quiet a.radio) f.hears })

pub field_kept : (on : Bool) (a : Air) → air_in_range a ≡ true → air_in_range (field_at on a) ≡ true
unfolding field_at air_in_range
field_kept on a h =
    pick_case (λ (x : Air). air_in_range x ≡ true) on _ _ (λ p. pick_case (λ (x : Air). air_in_range x ≡ true) a.field _ _ (λ q. h) (λ q. on_kept a h))
    (λ p. pick_case (λ (x : Air). air_in_range x ≡ true) a.field _ _ (λ q. refl) (λ q. h))
