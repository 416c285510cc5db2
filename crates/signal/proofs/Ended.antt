-- What the end of a leg leaves as it was. Assumes nothing.
use mathlib.Core.Path.{◌≡◌, refl, ap}
use mathlib.Core.Bool.{true, false, false≢true}
use mathlib.Core.Logic.{⊎_elim}
use mathlib.Core.List.{List}
use Prim.Native.Nat.{ℕ}
use native.Mathlib.Omega.{arith}
use lib.Dec.{ltb, eqb}
use lib.ListN.{length, get_or}
use borrow.Author.Tests.{eqb-true, ltb-true}
use Rattle.parts.proofs.Bools.{or_cases}
use Rattle.parts.proofs.Picks.{pick_case}
use Rattle.register_types.specs.Types.{rf_mngt}
use Rattle.tag.specs.Passed.{with_dynamic}
use Rattle.mailbox.specs.Mailbox.{controlled}
use Rattle.tag.specs.Parts.{with_registers, with_mailbox, with_wire_core}
use Rattle.dynamic.specs.Dynamic.{host_writes}
use Rattle.bus.specs.declared.Space.{Space}
use Rattle.bus.specs.declared.Space.TheVariants.{User, System}
use Rattle.bus.specs.declared.Bus.TheVariants.{Idle}
use Rattle.tag.specs.declared.WireSide.{WireSide}
use Rattle.bus.specs.Bus.{transfer_at, is_open_transfer, is_open}
use Rattle.keys.specs.Keys.{password_at, same_password}
use Rattle.effect.specs.Effect.{LegResult, leg_result}
use Rattle.leg.specs.Leg.{Due, nothing_due, clears, writes, started, stopped, settle, last_fetched, acts_at_start, leg_written}
use Rattle.leg.specs.Passed.{user_written, system_written, password_written}
use Rattle.signal.specs.Signal.{side_bus, due_of, stop_at}

-- ---- a Start: nothing is done, RF_PUT is cleared, or a byte is written to one of the two dynamic registers
module _ (P : LegResult → Type 0) (w : WireSide) (m : List ℕ)
    (stays : P (leg_result w m)) (cleared : P (leg_result (last_fetched w) m))
    (managed : (x : ℕ) → P (leg_result (with_wire_core (with_registers (with_dynamic (rf_mngt x) w.core.registers) w.core) w) m))
    (enables : (x : ℕ) → P (leg_result (with_wire_core (with_mailbox (controlled x w.core.registers.mode w.host.vcc w.core.mailbox) w.core) w) m)) where
  not_memory : (f : ℕ) → host_writes f ≡ true → ltb f 512 ≡ true → ⊥
  not_memory f h l =
      let small = ltb-true f 512 l in
      ⊎_elim (λ e. omega (arith, eqb-true f 0x2003 e, small)) (λ e. omega (arith, eqb-true f 0x2006 e, small)) (or_cases (eqb f 0x2003) (eqb f 0x2006) h)

  user_start : (f : ℕ) (bs : List ℕ) → host_writes f ≡ true → P (user_written w m f bs)
  unfolding user_written
  user_start f bs h =
      pick_case P (ltb f 512) _ _ (λ l. absurd (not_memory f h l))
      (λ l. pick_case P (eqb f 0x2003) _ _ (λ e. managed _)
      (λ n. pick_case P (eqb f 0x2006) _ _ (λ e. enables _) (λ o. absurd (false≢true (rw (n, o) at h)))))

  pub start_case : (d : Due) → P (settle started d w m)
  unfolding settle acts_at_start leg_written
  start_case nothing_due = stays
  start_case clears = cleared
  start_case (writes User f bs) = pick_case P (host_writes f) _ _ (user_start f bs) (λ h. stays)
  start_case (writes System f bs) = pick_case P false _ _ (λ h. absurd (false≢true h)) (λ h. stays)

pub start_host : (d : Due) (w : WireSide) (m : List ℕ) → (settle started d w m).side.host ≡ w.host
start_host d w m = start_case (λ (r : LegResult). r.side.host ≡ w.host) w m refl refl (λ x. refl) (λ x. refl) d

pub start_memory : (d : Due) (w : WireSide) (m : List ℕ) → (settle started d w m).memory ≡ m
start_memory d w m = start_case (λ (r : LegResult). r.memory ≡ m) w m refl refl (λ x. refl) (λ x. refl) d

-- no register changes but RF_MNGT_Dyn
pub start_registers : (d : Due) (w : WireSide) (m : List ℕ)
    → (let r = (settle started d w m).side.core.registers in r ≡ with_dynamic r.dynamic w.core.registers)
start_registers d w m =
    start_case (λ (e : LegResult). e.side.core.registers ≡ with_dynamic e.side.core.registers.dynamic w.core.registers) w m refl refl (λ x. refl) (λ x. refl) d

-- ---- a Stop: the bus and the counter
module _ (w : WireSide) (m : List ℕ) where
  abbrev pub SameLine : LegResult → Type 0
  SameLine d = (d.side.host.bus ≡ w.host.bus) × (d.side.host.counter ≡ w.host.counter)

  user_line : (f : ℕ) (bs : List ℕ) → SameLine (user_written w m f bs)
  unfolding user_written
  user_line f bs =
      pick_case SameLine (ltb f 512) _ _ (λ h. (refl, refl))
      (λ h. pick_case SameLine (eqb f 0x2003) _ _ (λ h. (refl, refl)) (λ h. pick_case SameLine (eqb f 0x2006) _ _ (λ h. (refl, refl)) (λ h. (refl, refl))))

  password_line : (bs : List ℕ) → SameLine (password_written w m bs)
  unfolding password_written
  password_line bs =
      pick_case SameLine (ltb (length bs) 17) _ _ (λ h. (refl, refl))
      (λ h. pick_case SameLine (eqb (get_or bs 8 0) 0x09) _ _ (λ h. (refl, refl))
      (λ h. pick_case SameLine (same_password (password_at bs 0) (password_at bs 9)) _ _ (λ h. (refl, refl)) (λ h. (refl, refl))))

  leg_line : (s : Space) (f : ℕ) (bs : List ℕ) → SameLine (leg_written s w m f bs)
  unfolding leg_written system_written
  leg_line User f bs = user_line f bs
  leg_line System f bs = pick_case SameLine (eqb f 0x0900) _ _ (λ h. password_line bs) (λ h. (refl, refl))

  pub stop_line : (d : Due) → SameLine (settle stopped d w m)
  unfolding settle
  stop_line nothing_due = (refl, refl)
  stop_line clears = (refl, refl)
  stop_line (writes s f bs) = leg_line s f bs

-- a Stop leaves no transfer open
pub stop_shut : (w : WireSide) (m : List ℕ) → is_open (stop_at w.host.bus w m).side.host.bus ≡ false
unfolding stop_at is_open transfer_at is_open_transfer
stop_shut w m = ap is_open (stop_line (side_bus Idle w) m (due_of w.host.bus w.host.counter m)).0
