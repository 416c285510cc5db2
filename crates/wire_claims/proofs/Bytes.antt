-- Every signal keeps the memory's bytes below 256. Assumes nothing.
use mathlib.Core.Bool.{Bool}
use mathlib.Core.List.{List}
use Prim.Native.Nat.{ℕ, ◌+◌, ◌<◌}
use lib.Dec.{ltb, eqb}
use lib.ListN.{length, get_or}
use Rattle.parts.proofs.Picks.{pick_case}
use Rattle.parts.proofs.Below.{Below, run_below, set_below, sets_below}
use Rattle.bus.specs.declared.Space.{Space}
use Rattle.bus.specs.declared.Space.TheVariants.{User, System}
use Rattle.bus.specs.declared.OpenTransfer.{OpenTransfer}
use Rattle.bus.specs.declared.Bus.{Bus}
use Rattle.bus.specs.declared.Bus.TheVariants.{Idle, Started, ReadLeg, WriteLeg, LowAddress, DataLeg}
use Rattle.tag.specs.declared.WireSide.{WireSide}
use Rattle.keys.specs.declared.Uid.{Uid}
use Rattle.bus.specs.Bus.{transfer_at}
use Rattle.keys.specs.Keys.{password_at, same_password}
use Rattle.tag.specs.Layout.{page}
use Rattle.select.specs.declared.Choice.{Choice}
use Rattle.select.specs.declared.Choice.TheVariants.{NotAcked, Reading, Writing}
use Rattle.effect.specs.Effect.{LegResult}
use Rattle.wire.specs.Passed.{Due, nothing_due, clears, started, stopped, settle, leg_written, system_written, password_written, WireResult, side_bus, due_of, start_at, start_of, stop_at, data_of, select_by, send_at}
use Rattle.user_leg.specs.UserLeg.{user_written}
use Rattle.signal_table.specs.declared.WireSignal.{WireSignal}
use Rattle.wire.proofs.Passed.{start_case}
use Rattle.wire.specs.Wire.{fetch_at}
use Rattle.signal_table.specs.Table.{sent_byte}
use Rattle.wire_claims.specs.Claims.{KeepsBytes}
use Rattle.wire_claims.proofs.Cases.{signal_case}

-- ---- the end of a leg
abbrev S : LegResult → Type 0
S d = Below d.memory

module _ (w : WireSide) (m : List ℕ) (h : Below m) where
  user_small : (f : ℕ) (bs : List ℕ) → Below bs → S (user_written w m f bs)
  unfolding user_written
  user_small f bs p =
      pick_case S (ltb f 512) _ _ (λ t. sets_below bs m f p h)
      (λ t. pick_case S (eqb f 0x2003) _ _ (λ t. h) (λ t. pick_case S (eqb f 0x2006) _ _ (λ t. h) (λ t. sets_below bs m 512 p h)))

  password_small : (bs : List ℕ) → S (password_written w m bs)
  unfolding password_written
  password_small bs =
      pick_case S (ltb (length bs) 17) _ _ (λ t. h)
      (λ t. pick_case S (eqb (get_or bs 8 0) 0x09) _ _ (λ t. h) (λ t. pick_case S (same_password (password_at bs 0) (password_at bs 9)) _ _ (λ t. h) (λ t. h)))

  leg_small : (s : Space) (f : ℕ) (bs : List ℕ) → Below bs → S (leg_written s w m f bs)
  unfolding leg_written system_written
  leg_small User f bs p = user_small f bs p
  leg_small System f bs p = pick_case S (eqb f 0x0900) _ _ (λ t. password_small bs) (λ t. h)

  start_small : (d : Due) → S (settle started d w m)
  start_small d = start_case S w m h h (λ x. h) (λ x. h) d

  due_small : (b : Bus) (c : ℕ) → S (settle stopped (due_of b c m) w m)
  unfolding due_of settle
  due_small Idle c = h
  due_small (Started o) c = h
  due_small (ReadLeg kept s over last) c = pick_case (λ (d : Due). S (settle stopped d w m)) last clears nothing_due (λ t. h) (λ t. h)
  due_small (WriteLeg kept s) c = h
  due_small (LowAddress kept s y) c = h
  due_small (DataLeg kept s n spoiled) c =
      pick_case (λ (d : Due). S (settle stopped d w m)) _ nothing_due _ (λ t. h) (λ t. leg_small s _ (page n m) (run_below m 768 n h))

-- ---- a signal
abbrev E : WireResult → Type 0
E e = Below e.memory

module _ (w : WireSide) (m : List ℕ) (h : Below m) where
  select_small : (c : Choice) (kept : OpenTransfer) → E (select_by c kept w m)
  unfolding select_by
  select_small NotAcked kept = h
  select_small (Reading s) kept = h
  select_small (Writing s) kept = h

  data_small : (kept : OpenTransfer) (s : Space) (n x : ℕ) → x < 256 → E (data_of kept s n w m x)
  unfolding data_of
  data_small kept s n x p = pick_case E _ _ _ (λ t. set_below m (768 + n) x p h) (λ t. h)

  send_small : (b : Bus) (x : ℕ) → x < 256 → E (send_at b w m x)
  unfolding send_at
  send_small Idle x p = h
  send_small (Started o) x p = select_small _ _
  send_small (ReadLeg kept s o l) x p = h
  send_small (WriteLeg kept s) x p = h
  send_small (LowAddress kept s y) x p = h
  send_small (DataLeg kept s n spoiled) x p = pick_case E spoiled _ _ (λ t. h) (λ t. data_small kept s n x p)

  fetch_small : (b : Bus) (u : Uid) (ack : Bool) → E (fetch_at b w u m ack)
  unfolding fetch_at
  fetch_small Idle u ack = h
  fetch_small (Started o) u ack = h
  fetch_small (ReadLeg kept s over last) u ack = pick_case E over _ _ (λ t. h) (λ t. h)
  fetch_small (WriteLeg kept s) u ack = h
  fetch_small (LowAddress kept s y) u ack = h
  fetch_small (DataLeg kept s n spoiled) u ack = h

pub keeps_bytes : KeepsBytes
unfolding start_of start_at stop_at sent_byte
keeps_bytes w u m s p h =
    signal_case (λ (s : WireSignal) (e : WireResult). sent_byte s < 256 → E e) w u m
    (λ _. pick_case E w.host.vcc _ _ (λ v. start_small (side_bus (Started (transfer_at w.host.bus)) w) m h (due_of w.host.bus w.host.counter m)) (λ v. h))
    (send_small w m h w.host.bus)
    (λ ack _. fetch_small w m h w.host.bus u ack)
    (λ _. due_small (side_bus Idle w) m h w.host.bus w.host.counter)
    (λ on _. h)
    (λ _ on _. h)
    s p
