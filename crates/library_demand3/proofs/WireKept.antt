-- A wire signal keeps what the ranges do not say: the high address byte and the I2C password are bytes. Assumes nothing.
use mathlib.Core.Bool.{Bool, true, false}
use mathlib.Core.List.{List}
use Prim.Native.Nat.{ℕ, ◌<◌}
use native.Mathlib.Omega.{arith}
use lib.Dec.{ltb, eqb}
use lib.ListN.{length, get_or}
use Rattle.parts.proofs.Below.{Below, run_below}
use Rattle.parts.proofs.Picks.{pick_case}
use Rattle.bus.specs.declared.Space.{Space}
use Rattle.bus.specs.declared.Space.TheVariants.{User, System}
use Rattle.bus.specs.declared.OpenTransfer.{OpenTransfer}
use Rattle.bus.specs.declared.Bus.{Bus}
use Rattle.bus.specs.declared.Bus.TheVariants.{Idle, Started, ReadLeg, WriteLeg, LowAddress, DataLeg}
use Rattle.keys.specs.declared.Passwords.{Passwords}
use Rattle.tag.specs.declared.WireSide.{WireSide}
use Rattle.keys.specs.declared.Uid.{Uid}
use Rattle.bus.specs.Bus.{kept_of, transfer_at}
use Rattle.keys.specs.Keys.{password_at, same_password, with_i2c_password}
use Rattle.tag.specs.Supply.{vcc_at}
use Rattle.select.specs.declared.Choice.{Choice}
use Rattle.select.specs.declared.Choice.TheVariants.{NotAcked, Reading, Writing}
use Rattle.effect.specs.Effect.{LegResult}
use Rattle.leg.specs.Leg.{Due, nothing_due, clears, writes, started, stopped, acts_at_start, settle, leg_written}
use Rattle.user_leg.specs.UserLeg.{user_written}
use Rattle.system_leg.specs.SystemLeg.{system_written, password_written}
use Rattle.signal_table.specs.declared.WireSignal.{WireSignal}
use Rattle.signal.specs.Signal.{WireResult, side_bus, due_of, start_at, start_of, stop_at}
use Rattle.state.specs.Claims.{PasswordsFit}
use Rattle.state.proofs.Decoded.{eight_run}
use Rattle.data_byte.specs.DataByte.{data_of}
use Rattle.send.specs.Send.{select_by, send_at}
use Rattle.wire.specs.Wire.{fetch_at, signal_of}
use Rattle.signal_table.specs.Table.{sent_byte}
use Rattle.wire_claims.proofs.Cases.{signal_case}

-- the high address byte that a write leg holds, or 0
unfoldable pub high_byte_of : Bus → ℕ
high_byte_of Idle = 0
high_byte_of (Started transfer) = 0
high_byte_of (ReadLeg kept space over last) = 0
high_byte_of (WriteLeg kept space) = 0
high_byte_of (LowAddress kept space high) = high
high_byte_of (DataLeg kept space count spoiled) = 0

pub record Sound (w : WireSide) : Type 0 where
  pub high : high_byte_of w.host.bus < 256
  pub passwords : PasswordsFit w.core.passwords

-- the I2C password replaced
i2c_fits : (p : Passwords) (s : List ℕ) (at : ℕ) → Below s → PasswordsFit p → PasswordsFit (with_i2c_password (password_at s at) p)
i2c_fits p s at h f = record { i2c = eight_run s at h; rf0 = f.rf0; rf1 = f.rf1; rf2 = f.rf2; rf3 = f.rf3 }

-- ---- what is due at a leg's end writes bytes
unfoldable DueBelow : Due → Type 0
DueBelow nothing_due = Unit {0}
DueBelow clears = Unit {0}
DueBelow (writes space at bs) = Below bs

due_below : (b : Bus) (c : ℕ) (m : List ℕ) → Below m → DueBelow (due_of b c m)
unfolding DueBelow due_of
due_below Idle c m h = tt
due_below (Started transfer) c m h = tt
due_below (ReadLeg kept s over last) c m h = pick_case DueBelow last clears nothing_due (λ t. tt) (λ t. tt)
due_below (WriteLeg kept s) c m h = tt
due_below (LowAddress kept s y) c m h = tt
due_below (DataLeg kept s n spoiled) c m h = pick_case DueBelow _ nothing_due _ (λ t. tt) (λ t. run_below m 768 n h)

-- ---- the end of a leg: the bus stays
abbrev L : LegResult → Type 0
L d = Sound d.side

module _ (w : WireSide) (m : List ℕ) (f : Sound w) where
  user_sound : (at : ℕ) (bs : List ℕ) → L (user_written w m at bs)
  unfolding user_written
  user_sound at bs =
      pick_case L (ltb at 512) _ _ (λ h. record { high = f.high; passwords = f.passwords })
      (λ h. pick_case L (eqb at 0x2003) _ _ (λ h. record { high = f.high; passwords = f.passwords })
      (λ h. pick_case L (eqb at 0x2006) _ _ (λ h. record { high = f.high; passwords = f.passwords }) (λ h. record { high = f.high; passwords = f.passwords })))

  password_sound : (bs : List ℕ) → Below bs → L (password_written w m bs)
  unfolding password_written
  password_sound bs b =
      pick_case L (ltb (length bs) 17) _ _ (λ h. f)
      (λ h. pick_case L (eqb (get_or bs 8 0) 0x09) _ _ (λ h. record { high = f.high; passwords = f.passwords })
      (λ h. pick_case L (same_password (password_at bs 0) (password_at bs 9)) _ _
      (λ h. record { high = f.high; passwords = i2c_fits w.core.passwords bs 0 b f.passwords }) (λ h. f)))

  leg_sound : (s : Space) (at : ℕ) (bs : List ℕ) → Below bs → L (leg_written s w m at bs)
  unfolding leg_written system_written
  leg_sound User at bs b = user_sound at bs
  leg_sound System at bs b = pick_case L (eqb at 0x0900) _ _ (λ h. password_sound bs b) (λ h. record { high = f.high; passwords = f.passwords })

  start_sound : (d : Due) → DueBelow d → L (settle started d w m)
  unfolding DueBelow settle
  start_sound nothing_due b = f
  start_sound clears b = record { high = f.high; passwords = f.passwords }
  start_sound (writes s at bs) b = pick_case L (acts_at_start s at) _ _ (λ t. leg_sound s at bs b) (λ t. f)

  stop_sound : (d : Due) → DueBelow d → L (settle stopped d w m)
  unfolding DueBelow settle
  stop_sound nothing_due b = f
  stop_sound clears b = record { high = f.high; passwords = f.passwords }
  stop_sound (writes s at bs) b = leg_sound s at bs b

-- ---- a signal
abbrev E : WireResult → Type 0
E e = Sound e.side

module _ (w : WireSide) (m : List ℕ) (f : Sound w) where
  -- another bus, without a high address byte
  on_bus_lem : (b : Bus) → high_byte_of b < 256 → Sound (side_bus b w)
  on_bus_lem b h = record { high = h; passwords = f.passwords }

  select_sound : (c : Choice) (kept : OpenTransfer) → E (select_by c kept w m)
  unfolding select_by high_byte_of
  select_sound NotAcked kept = on_bus_lem Idle (omega arith)
  select_sound (Reading s) kept = on_bus_lem (ReadLeg kept s false false) (omega arith)
  select_sound (Writing s) kept = on_bus_lem (WriteLeg kept s) (omega arith)

  data_sound : (kept : OpenTransfer) (s : Space) (n x : ℕ) → E (data_of kept s n w m x)
  unfolding data_of high_byte_of
  data_sound kept s n x = pick_case E _ _ _ (λ t. record { high = omega arith; passwords = f.passwords }) (λ t. on_bus_lem (DataLeg kept s n true) (omega arith))

  send_sound : (b : Bus) (x : ℕ) → x < 256 → E (send_at b w m x)
  unfolding send_at high_byte_of
  send_sound Idle x p = f
  send_sound (Started transfer) x p = select_sound _ (kept_of transfer w.core.registers.dynamic)
  send_sound (ReadLeg kept s over last) x p = f
  send_sound (WriteLeg kept s) x p = on_bus_lem (LowAddress kept s x) p
  send_sound (LowAddress kept s y) x p = record { high = omega arith; passwords = f.passwords }
  send_sound (DataLeg kept s n spoiled) x p = pick_case E spoiled _ _ (λ t. f) (λ t. data_sound kept s n x)

  fetch_sound : (b : Bus) (u : Uid) (ack : Bool) → E (fetch_at b w u m ack)
  unfolding fetch_at high_byte_of
  fetch_sound Idle u ack = f
  fetch_sound (Started transfer) u ack = f
  fetch_sound (ReadLeg kept s over last) u ack = pick_case E over _ _ (λ t. f) (λ t. record { high = omega arith; passwords = f.passwords })
  fetch_sound (WriteLeg kept s) u ack = f
  fetch_sound (LowAddress kept s y) u ack = f
  fetch_sound (DataLeg kept s n spoiled) u ack = f

  vcc_sound : (on : Bool) → Sound (vcc_at on w)
  unfolding vcc_at high_byte_of
  vcc_sound on =
      pick_case Sound on _ _ (λ t. pick_case Sound w.host.vcc _ _ (λ v. f) (λ v. record { high = f.high; passwords = f.passwords }))
      (λ t. pick_case Sound w.host.vcc _ _ (λ v. record { high = omega arith; passwords = f.passwords }) (λ v. f))

pub wire_sound : (w : WireSide) (u : Uid) (m : List ℕ) (s : WireSignal) → sent_byte s < 256 → Below m → Sound w → Sound (signal_of w u m s).side
unfolding start_of start_at stop_at sent_byte high_byte_of
wire_sound w u m s p h f =
    let b = w.host.bus in
    let d = due_of b w.host.counter m in
    let bytes = due_below b w.host.counter m h in
    signal_case (λ (s : WireSignal) (e : WireResult). sent_byte s < 256 → E e) w u m
    (λ _. pick_case E w.host.vcc _ _
    (λ v. start_sound (side_bus (Started (transfer_at b)) w) m (on_bus_lem w m f (Started (transfer_at b)) (omega arith)) d bytes) (λ v. f))
    (send_sound w m f b)
    (λ ack _. fetch_sound w m f b u ack)
    (λ _. stop_sound (side_bus Idle w) m (on_bus_lem w m f Idle (omega arith)) d bytes)
    (λ on _. vcc_sound w m f on)
    (λ _ on _. record { high = f.high; passwords = f.passwords })
    s p
