-- What a signal does to the counter, and what one that leaves a transfer open keeps. Assumes nothing.
use Rattle.std.specs.Prelude.{Option, Some, None}
use mathlib.Core.Path.{◌≡◌, refl, sym, ap, subst, ◌∙◌}
use mathlib.Core.Bool.{Bool, true, false, ◌&&◌, ◌||◌, false≢true}
use mathlib.Core.List.{List}
use mathlib.Core.Logic.{inl, inr}
use Prim.Native.Nat.{ℕ, ◌%◌, ◌<◌}
use native.Mathlib.Omega.{arith}
use Rattle.parts.specs.Bits.{is_set}
use Rattle.parts.proofs.Picks.{pick_case}
use Rattle.bus.specs.declared.Space.{Space}
use Rattle.bus.specs.declared.OpenTransfer.{OpenTransfer}
use Rattle.bus.specs.declared.Bus.{Bus}
use Rattle.bus.specs.declared.Bus.TheVariants.{Idle, Started, ReadLeg, WriteLeg, LowAddress, DataLeg}
use Rattle.register_types.specs.declared.RfMngt.{RfMngt}
use Rattle.mailbox.specs.declared.Mailbox.{Mailbox}
use Rattle.mailbox.specs.Mailbox.{enabled, controlled}
use Rattle.tag.specs.declared.Core.{Core}
use Rattle.tag.specs.declared.Host.{Host}
use Rattle.tag.specs.declared.WireSide.{WireSide}
use Rattle.keys.specs.declared.Uid.{Uid}
use Rattle.bus.specs.Bus.{is_open_transfer, counted_dynamic, kept_of, transfer_at, is_open, is_active}
use Rattle.tag.specs.Supply.{vcc_at}
use Rattle.ranges.specs.Ranges.{supplied_in_range}
use Rattle.select.specs.declared.Choice.{Choice}
use Rattle.select.specs.declared.Choice.TheVariants.{NotAcked, Reading, Writing}
use Rattle.signal_table.specs.declared.WireSignal.{WireSignal}
use Rattle.effect.specs.Effect.{LegResult}
use Rattle.wire.specs.Passed.{Due, started, settle, WireResult, side_bus, due_of, start_at, start_of, stop_at, data_of, select_by, send_at}
use Rattle.wire.proofs.Passed.{start_case, start_host, start_registers, stop_line, stop_shut}
use Rattle.wire.specs.Wire.{fetch_at}
use Rattle.wire_claims.specs.Claims.{KeepsCounter, is_start, LengthStays, OthersStay, RegistersStay, OnlyAtStart, side_counted, CountedStays}
use Rattle.wire_claims.proofs.Cases.{signal_case}
use Rattle.wire_claims.proofs.Kept.{inactive}

-- ---- the counter
below : (n : ℕ) → n % 65536 < 65536
below n = omega arith

abbrev C : WireResult → Type 0
C e = e.side.host.counter < 65536

module _ (w : WireSide) (m : List ℕ) (h : w.host.counter < 65536) where
  select_counter : (c : Choice) (kept : OpenTransfer) → C (select_by c kept w m)
  unfolding select_by
  select_counter NotAcked kept = h
  select_counter (Reading s) kept = h
  select_counter (Writing s) kept = h

  data_counter : (kept : OpenTransfer) (s : Space) (n x : ℕ) → C (data_of kept s n w m x)
  unfolding data_of
  data_counter kept s n x = pick_case C _ _ _ (λ t. below _) (λ t. h)

  send_counter : (b : Bus) (x : ℕ) → C (send_at b w m x)
  unfolding send_at
  send_counter Idle x = h
  send_counter (Started o) x = select_counter _ _
  send_counter (ReadLeg kept s o l) x = h
  send_counter (WriteLeg kept s) x = h
  send_counter (LowAddress kept s y) x = below _
  send_counter (DataLeg kept s n spoiled) x = pick_case C spoiled _ _ (λ t. h) (λ t. data_counter kept s n x)

  fetch_counter : (b : Bus) (u : Uid) (ack : Bool) → C (fetch_at b w u m ack)
  unfolding fetch_at
  fetch_counter Idle u ack = h
  fetch_counter (Started o) u ack = h
  fetch_counter (ReadLeg kept s over last) u ack = pick_case C over _ _ (λ t. h) (λ t. below _)
  fetch_counter (WriteLeg kept s) u ack = h
  fetch_counter (LowAddress kept s y) u ack = h
  fetch_counter (DataLeg kept s n spoiled) u ack = h

  vcc_counter : (on : Bool) → (vcc_at on w).host.counter < 65536
  unfolding vcc_at
  vcc_counter on =
      let P : WireSide → Type 0 = λ x. x.host.counter < 65536 in
      pick_case P on _ _ (λ t. pick_case P w.host.vcc _ _ (λ v. h) (λ v. h)) (λ t. pick_case P w.host.vcc _ _ (λ v. omega arith) (λ v. h))

  start_counter : C (start_at w.host.bus w m)
  unfolding start_at
  start_counter = subst (λ (n : ℕ). n < 65536) (sym (ap (λ (h : Host). h.counter) (start_host (due_of w.host.bus w.host.counter m) (side_bus (Started (transfer_at w.host.bus)) w) m))) h

  stop_counter : C (stop_at w.host.bus w m)
  unfolding stop_at
  stop_counter = subst (λ (n : ℕ). n < 65536) (sym (stop_line (side_bus Idle w) m (due_of w.host.bus w.host.counter m)).1) h

pub keeps_counter : KeepsCounter
unfolding start_of
keeps_counter w u m s h =
    signal_case (λ (_ : WireSignal). C) w u m
    (pick_case C w.host.vcc _ _ (λ v. start_counter w m h) (λ v. h))
    (send_counter w m h w.host.bus)
    (fetch_counter w m h w.host.bus u)
    (stop_counter w m h)
    (vcc_counter w m h)
    (λ _ on. h)
    s

-- ---- what both sides share, and the I2C session: a byte sent or fetched leaves them
module _ (w : WireSide) (m : List ℕ) where
  abbrev R : WireResult → Type 0
  R e = (e.side.core ≡ w.core) × (e.side.host.session ≡ w.host.session)

  select_leaves : (c : Choice) (kept : OpenTransfer) → R (select_by c kept w m)
  unfolding select_by
  select_leaves NotAcked kept = (refl, refl)
  select_leaves (Reading s) kept = (refl, refl)
  select_leaves (Writing s) kept = (refl, refl)

  data_leaves : (kept : OpenTransfer) (s : Space) (n x : ℕ) → R (data_of kept s n w m x)
  unfolding data_of
  data_leaves kept s n x = pick_case R _ _ _ (λ t. (refl, refl)) (λ t. (refl, refl))

  send_leaves : (b : Bus) (x : ℕ) → R (send_at b w m x)
  unfolding send_at
  send_leaves Idle x = (refl, refl)
  send_leaves (Started o) x = select_leaves _ _
  send_leaves (ReadLeg kept s o l) x = (refl, refl)
  send_leaves (WriteLeg kept s) x = (refl, refl)
  send_leaves (LowAddress kept s y) x = (refl, refl)
  send_leaves (DataLeg kept s n spoiled) x = pick_case R spoiled _ _ (λ t. (refl, refl)) (λ t. data_leaves kept s n x)

  fetch_leaves : (b : Bus) (u : Uid) (ack : Bool) → R (fetch_at b w u m ack)
  unfolding fetch_at
  fetch_leaves Idle u ack = (refl, refl)
  fetch_leaves (Started o) u ack = (refl, refl)
  fetch_leaves (ReadLeg kept s over last) u ack = pick_case R over _ _ (λ t. (refl, refl)) (λ t. (refl, refl))
  fetch_leaves (WriteLeg kept s) u ack = (refl, refl)
  fetch_leaves (LowAddress kept s y) u ack = (refl, refl)
  fetch_leaves (DataLeg kept s n spoiled) u ack = (refl, refl)

-- ---- RF_MNGT_Dyn as it counts for frames
kept_counted : (o : Option OpenTransfer) (d : RfMngt) → (kept_of o d).dynamic ≡ counted_dynamic o d
unfolding kept_of counted_dynamic
kept_counted None d = refl
kept_counted (Some kept) d = refl

-- with none open the register counts, with one open it does not
pub closed_counted : (t : Option OpenTransfer) (d : RfMngt) → is_open_transfer t ≡ false → counted_dynamic t d ≡ d
unfolding is_open_transfer counted_dynamic
closed_counted None d h = refl
closed_counted (Some kept) d h = absurd (false≢true (sym h))

counted_open : (t : Option OpenTransfer) (d e : RfMngt) → is_open_transfer t ≡ true → counted_dynamic t d ≡ counted_dynamic t e
unfolding is_open_transfer counted_dynamic
counted_open None d e h = absurd (false≢true h)
counted_open (Some kept) d e h = refl

module _ (w : WireSide) (m : List ℕ) where
  abbrev Q : WireSide → Type 0
  Q x = is_open x.host.bus ≡ true → side_counted x ≡ side_counted w

  abbrev QR : WireResult → Type 0
  QR e = Q e.side

  at_bus : (b : Bus) → w.host.bus ≡ b → counted_dynamic (transfer_at b) w.core.registers.dynamic ≡ side_counted w
  at_bus b e = ap (λ (b : Bus). counted_dynamic (transfer_at b) w.core.registers.dynamic) (sym e)

  select_counted : (o : Option OpenTransfer) → w.host.bus ≡ Started o → (c : Choice) → QR (select_by c (kept_of o w.core.registers.dynamic) w m)
  unfolding select_by is_open is_open_transfer transfer_at counted_dynamic
  select_counted o e NotAcked h = absurd (false≢true h)
  select_counted o e (Reading s) h = kept_counted o w.core.registers.dynamic ∙ at_bus (Started o) e
  select_counted o e (Writing s) h = kept_counted o w.core.registers.dynamic ∙ at_bus (Started o) e

  data_counted : (kept : OpenTransfer) (s : Space) (n x : ℕ) → kept.dynamic ≡ side_counted w → QR (data_of kept s n w m x)
  unfolding data_of transfer_at counted_dynamic
  data_counted kept s n x e = pick_case QR _ _ _ (λ t h. e) (λ t h. e)

  send_counted : (b : Bus) (x : ℕ) → w.host.bus ≡ b → QR (send_at b w m x)
  unfolding send_at transfer_at counted_dynamic
  send_counted Idle x e = λ h. refl
  send_counted (Started o) x e = select_counted o e _
  send_counted (ReadLeg kept s o l) x e = λ h. refl
  send_counted (WriteLeg kept s) x e = λ h. at_bus (WriteLeg kept s) e
  send_counted (LowAddress kept s y) x e = λ h. at_bus (LowAddress kept s y) e
  send_counted (DataLeg kept s n spoiled) x e = pick_case QR spoiled _ _ (λ t h. refl) (λ t. data_counted kept s n x (at_bus (DataLeg kept s n spoiled) e))

  fetch_counted : (b : Bus) (u : Uid) (ack : Bool) → w.host.bus ≡ b → QR (fetch_at b w u m ack)
  unfolding fetch_at transfer_at counted_dynamic
  fetch_counted Idle u ack e = λ h. refl
  fetch_counted (Started o) u ack e = λ h. refl
  fetch_counted (ReadLeg kept s over last) u ack e = pick_case QR over _ _ (λ t h. refl) (λ t h. at_bus (ReadLeg kept s over last) e)
  fetch_counted (WriteLeg kept s) u ack e = λ h. refl
  fetch_counted (LowAddress kept s y) u ack e = λ h. refl
  fetch_counted (DataLeg kept s n spoiled) u ack e = λ h. refl

  -- a Start
  abbrev after_start : WireSide
  after_start = side_bus (Started (transfer_at w.host.bus)) w

  started_counted : (d : Due) → Q (settle started d after_start m).side
  unfolding is_open transfer_at
  started_counted d h =
      let host = start_host d after_start m in
      let dynamic = (settle started d after_start m).side.core.registers.dynamic in
      ap (λ (x : Host). counted_dynamic (transfer_at x.bus) dynamic) host
      ∙ counted_open (transfer_at w.host.bus) dynamic w.core.registers.dynamic (sym (ap (λ (x : Host). is_open x.bus) host) ∙ h)

  start_counted : QR (start_of w m)
  unfolding start_of start_at
  start_counted = pick_case QR w.host.vcc _ _ (λ v. started_counted (due_of w.host.bus w.host.counter m)) (λ v h. refl)

-- ---- VCC off leaves no transfer open; and VCC on from off finds none
open_active : (b : Bus) → is_open b ≡ true → is_active b ≡ true
unfolding is_open transfer_at is_open_transfer is_active
open_active Idle h = h
open_active (Started o) h = refl
open_active (ReadLeg kept s over last) h = refl
open_active (WriteLeg kept s) h = refl
open_active (LowAddress kept s y) h = refl
open_active (DataLeg kept s n spoiled) h = refl

module _ (w : WireSide) (m : List ℕ) where
  off_shut : supplied_in_range w.host w.core.mailbox.enabled ≡ true → w.host.vcc ≡ false → is_active w.host.bus ≡ false
  unfolding supplied_in_range
  off_shut s v = inactive w.host.vcc (w.core.mailbox.enabled || w.host.session || w.host.programming) (is_active w.host.bus) s v

  abbrev Same : WireSide → Type 0
  Same x = is_open x.host.bus ≡ true → x ≡ w

  vcc_same : (on : Bool) → supplied_in_range w.host w.core.mailbox.enabled ≡ true → Same (vcc_at on w)
  unfolding vcc_at is_open transfer_at is_open_transfer
  vcc_same on s =
      pick_case Same on _ _
      (λ t. pick_case Same w.host.vcc _ _ (λ v o. refl) (λ v o. absurd (false≢true (sym (off_shut s v) ∙ open_active w.host.bus o))))
      (λ t. pick_case Same w.host.vcc _ _ (λ v o. absurd (false≢true o)) (λ v o. refl))

-- ---- the claims
-- of each signal but a Start
pub only_at_start : OnlyAtStart
unfolding is_start
only_at_start w u m x s =
    signal_case (λ (x : WireSignal) (e : WireResult). is_open e.side.host.bus ≡ true → is_start x ≡ false → e.side.core ≡ w.core) w u m
    (λ o n. absurd (false≢true (sym n)))
    (λ x o n. (send_leaves w m w.host.bus x).0)
    (λ ack o n. (fetch_leaves w m w.host.bus u ack).0)
    (λ o. absurd (false≢true (sym (stop_shut w m) ∙ o)))
    (λ on o n. ap (λ (x : WireSide). x.core) (vcc_same w m on s o))
    (λ _ on o n. refl)
    x

-- with the core and the session as they were, the registers are
as_it_was : (w x : WireSide) → (x.core ≡ w.core) × (x.host.session ≡ w.host.session) → OthersStay w x
as_it_was w x (c, h) = record { system = rw c; session = h; message = inl (ap (λ (c : Core). c.mailbox.length) c) }

-- at a Start
module _ (w : WireSide) (m : List ℕ) where
  abbrev Lasts : Mailbox → Type 0
  Lasts b = LengthStays w.core.mailbox b

  start_message : (d : Due) → Lasts (settle started d (after_start w m) m).side.core.mailbox
  unfolding controlled enabled
  start_message d =
      start_case (λ (r : LegResult). Lasts r.side.core.mailbox) (after_start w m) m (inl refl) (inl refl) (λ x. inl refl)
      (λ x. pick_case Lasts (is_set 1 x) _ _ (λ t. pick_case Lasts (is_set 1 w.core.registers.mode.bits && w.host.vcc) _ _ (λ t. inl refl) (λ t. inl refl)) (λ t. inr refl))
      d

  start_others : OthersStay w (start_of w m).side
  unfolding start_of start_at
  start_others =
      let due = due_of w.host.bus w.host.counter m in
      pick_case (λ (e : WireResult). OthersStay w e.side) w.host.vcc _ _
      (λ v. record {
        system = start_registers due (after_start w m) m;
        session = ap (λ (h : Host). h.session) (start_host due (after_start w m) m);
        message = start_message due;
      })
      (λ v. as_it_was w w (refl, refl))

pub registers_stay : RegistersStay
registers_stay w u m x s =
    signal_case (λ (x : WireSignal) (e : WireResult). is_open e.side.host.bus ≡ true → OthersStay w e.side) w u m
    (λ o. start_others w m)
    (λ x o. as_it_was w _ (send_leaves w m w.host.bus x))
    (λ ack o. as_it_was w _ (fetch_leaves w m w.host.bus u ack))
    (λ o. absurd (false≢true (sym (stop_shut w m) ∙ o)))
    (λ on o. let same = vcc_same w m on s o in as_it_was w _ (ap (λ (x : WireSide). x.core) same, ap (λ (x : WireSide). x.host.session) same))
    (λ _ on o. as_it_was w _ (refl, refl))
    x

pub counted_stays : CountedStays
counted_stays w u m x s =
    signal_case (λ (x : WireSignal) (e : WireResult). QR w m e) w u m
    (start_counted w m)
    (λ x. send_counted w m w.host.bus x refl)
    (λ ack. fetch_counted w m w.host.bus u ack refl)
    (λ o. absurd (false≢true (sym (stop_shut w m) ∙ o)))
    (λ on o. ap side_counted (vcc_same w m on s o))
    (λ _ on o. refl)
    x
