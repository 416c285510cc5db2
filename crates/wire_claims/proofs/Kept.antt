-- Every signal keeps the ranges. Assumes nothing.
use Rattle.std.specs.Prelude.{Option, Some, None}
use mathlib.Core.Path.{◌≡◌, refl, ap, subst, ◌∙◌}
use mathlib.Core.Bool.{Bool, true, false, not, ◌&&◌, ◌||◌, and-false, true≢false, false≢true}
use mathlib.Core.List.{List}
use Prim.Native.Nat.{ℕ, zero, suc, ◌+◌, ◌<◌}
use native.Mathlib.Omega.{arith}
use lib.Dec.{leb, ltb, eqb}
use lib.ListN.{length, get_or, set, length-set}
use lib.Seq.{sets, length-sets}
use borrow.Author.Tests.{le-leb, not-false}
use Rattle.parts.proofs.Bools.{and_left, and_right, and_both}
use Rattle.parts.proofs.Picks.{pick_case}
use Rattle.parts.proofs.Lists.{length_bytes_at}
use Rattle.registers.specs.declared.Registers.{Registers}
use Rattle.register_types.specs.Types.{rf_mngt}
use Rattle.registers.specs.Map.{with_dynamic}
use Rattle.bus.specs.declared.Space.{Space}
use Rattle.bus.specs.declared.Space.TheVariants.{User, System}
use Rattle.bus.specs.declared.OpenTransfer.{OpenTransfer}
use Rattle.mailbox.specs.declared.Mailbox.{Mailbox}
use Rattle.bus.specs.declared.Bus.{Bus}
use Rattle.bus.specs.declared.Bus.TheVariants.{Idle, Started, ReadLeg, WriteLeg, LowAddress, DataLeg}
use Rattle.tag.specs.declared.Core.{Core}
use Rattle.tag.specs.declared.WireSide.{WireSide}
use Rattle.keys.specs.declared.Uid.{Uid}
use Rattle.bus.specs.Bus.{kept_of, transfer_at, is_open_transfer, is_open, is_active, page_bytes, next_address}
use Rattle.mailbox.specs.Mailbox.{controlled, host_put, host_read}
use Rattle.keys.specs.Keys.{password_at, same_password, with_i2c_password}
use Rattle.tag.specs.Supply.{vcc_off, vcc_on, vcc_at}
use Rattle.tag.specs.Layout.{page}
use Rattle.tag.specs.Parts.{with_registers, with_mailbox, with_passwords, with_wire_core}
use Rattle.ranges.specs.Ranges.{registers_in_range, mailbox_in_range, core_in_range, host_in_range, supplied_in_range, transfer_in_range, wire_in_range}
use Rattle.ranges.proofs.MailboxKept.{empty_kept, host_read_kept, host_put_kept, controlled_kept}
use Rattle.ranges.proofs.RegistersKept.{dynamic_kept, dynamic_defined, reload_kept}
use Rattle.select.specs.declared.Choice.{Choice}
use Rattle.select.specs.declared.Choice.TheVariants.{NotAcked, Reading, Writing}
use Rattle.select.specs.Select.{choose, select_of, first_of}
use Rattle.page.specs.Passed.{mailbox_acked, user_acked, space_acked, acked}
use Rattle.written_registers.specs.Written.{written_all}
use Rattle.page.proofs.Passed.{acked_room, acked_space}
use Rattle.select.proofs.First.{first_next}
use Rattle.page.specs.PageRange.{page_acked, bus_in_range}
use Rattle.page.proofs.Acks.{page_last}
use Rattle.effect.specs.Effect.{LegResult, leg_result, side_session, programming}
use Rattle.wire.specs.Passed.{Due, nothing_due, clears, writes, started, stopped, settle, leg_written, system_written, password_written, WireResult, side_bus, side_line, due_of, start_at, start_of, stop_at, data_of, select_by, send_at}
use Rattle.user_leg.specs.UserLeg.{user_written}
use Rattle.signal_table.specs.declared.WireSignal.{WireSignal}
use Rattle.wire.proofs.Passed.{start_case}
use Rattle.wire.specs.Wire.{fetch_at, programmed, signal_of}
use Rattle.wire_claims.specs.Claims.{SignalKeepsRange}
use Rattle.wire_claims.proofs.Cases.{undisturbed, signal_case}
use Rattle.wire_claims.proofs.Page.{page_more, of_mailbox, free, registers_kept}

-- ---- the tests of supply: v is VCC
quieter : (v a b : Bool) → (v || not (a || b)) ≡ true → (v || not (a || false)) ≡ true
quieter true a b h = refl
quieter false true b h = h
quieter false false b h = refl

less : (v a p b : Bool) → (v || not (a || p || b)) ≡ true → (v || not (a || false || b)) ≡ true
less true a p b h = refl
less false true p b h = h
less false false false b h = h
less false false true true h = h
less false false true false h = refl

powered : (v a b : Bool) → (v || not (a || b)) ≡ true → b ≡ true → v ≡ true
powered true a b h q = refl
powered false true b h q = h
powered false false true h q = h
powered false false false h q = q

pub inactive : (v a b : Bool) → (v || not (a || b)) ≡ true → v ≡ false → b ≡ false
inactive v a false h q = refl
inactive true a true h q = absurd (true≢false q)
inactive false true true h q = absurd (false≢true h)
inactive false false true h q = absurd (false≢true h)

-- never programming and a transfer open together
apart : (p o : Bool) → not (p && o) ≡ true → o ≡ true → p ≡ false
apart false o h q = refl
apart true true h q = absurd (false≢true h)
apart true false h q = absurd (false≢true q)

neither : (a b : Bool) → (a || b) ≡ false → (a ≡ false) × (b ≡ false)
neither false b h = (refl, h)
neither true b h = absurd (true≢false h)

-- ---- the ranges as facts
record Fits (w : WireSide) : Type 0 where
  registers : registers_in_range w.core.registers ≡ true
  mailbox : mailbox_in_range w.core.mailbox ≡ true
  room : leb (page_bytes w.host.bus) 256 ≡ true
  alone : not (w.host.programming && is_open w.host.bus) ≡ true
  kept : transfer_in_range (transfer_at w.host.bus) ≡ true
  supplied : (w.host.vcc || not (w.core.mailbox.enabled || w.host.session || w.host.programming || is_active w.host.bus)) ≡ true

fits : (w : WireSide) → wire_in_range w ≡ true → Fits w
unfolding wire_in_range core_in_range host_in_range supplied_in_range
fits w e =
    let r = registers_in_range w.core.registers in
    let b = mailbox_in_range w.core.mailbox in
    let n = leb (page_bytes w.host.bus) 256 in
    let a = not (w.host.programming && is_open w.host.bus) in
    let t = transfer_in_range (transfer_at w.host.bus) in
    let s = supplied_in_range w.host w.core.mailbox.enabled in
    let both = and_left (core_in_range w.core && host_in_range w.host) s e in
    let c = and_left (core_in_range w.core) (host_in_range w.host) both in
    let h = and_right (core_in_range w.core) (host_in_range w.host) both in
    let line = and_left (n && a) t h in
    record { registers = and_left r b c; mailbox = and_right r b c; room = and_left n a line; alone = and_right n a line; kept = and_right (n && a) t h; supplied = and_right (core_in_range w.core && host_in_range w.host) s e }

in_range_lem : (w : WireSide) → Fits w → wire_in_range w ≡ true
unfolding wire_in_range core_in_range host_in_range supplied_in_range
in_range_lem w f =
    and_both (core_in_range w.core && host_in_range w.host) (supplied_in_range w.host w.core.mailbox.enabled)
    (and_both (core_in_range w.core) (host_in_range w.host) (and_both _ _ f.registers f.mailbox) (and_both _ _ (and_both _ _ f.room f.alone) f.kept)) f.supplied

record Kept (w : WireSide) (m : List ℕ) : Type 0 where
  side : Fits w
  bus : bus_in_range w.host.bus w.host.counter w.core w.host.session m ≡ true
  size : length m ≡ 1024

-- in a leg: VCC, and nothing being programmed
record Leg (w : WireSide) : Type 0 where
  vcc : w.host.vcc ≡ true
  still : w.host.programming ≡ false

module _ (w : WireSide) (f : Fits w) where
  active : is_active w.host.bus ≡ true → w.host.vcc ≡ true
  active a = powered w.host.vcc (w.core.mailbox.enabled || w.host.session || w.host.programming) (is_active w.host.bus) f.supplied a

  in_leg : is_open w.host.bus ≡ true → is_active w.host.bus ≡ true → Leg w
  in_leg o a = record { vcc = active a; still = apart w.host.programming (is_open w.host.bus) f.alone o }

  idle_fits : Fits (side_bus Idle w)
  unfolding is_open transfer_at is_open_transfer is_active page_bytes transfer_in_range
  idle_fits = record {
    registers = f.registers;
    mailbox = f.mailbox;
    room = refl;
    alone = ap not (and-false w.host.programming);
    kept = refl;
    supplied = quieter w.host.vcc (w.core.mailbox.enabled || w.host.session || w.host.programming) (is_active w.host.bus) f.supplied;
  }

  line_fits : Leg w → (c : ℕ) (b : Bus) → leb (page_bytes b) 256 ≡ true → transfer_in_range (transfer_at b) ≡ true → Fits (side_line c b w)
  line_fits l c b r t = record { registers = f.registers; mailbox = f.mailbox; room = r; alone = rw l.still; kept = t; supplied = rw l.vcc }

  started_fits : w.host.vcc ≡ true → Fits (side_bus (Started (transfer_at w.host.bus)) w)
  unfolding is_open transfer_at is_open_transfer page_bytes
  started_fits v = record { registers = f.registers; mailbox = f.mailbox; room = refl; alone = f.alone; kept = f.kept; supplied = rw v }

  -- what an Acked select after a Start keeps
  select_keeps : (o : Option OpenTransfer) → w.host.bus ≡ Started o → transfer_in_range (Some (kept_of o w.core.registers.dynamic)) ≡ true
  unfolding kept_of transfer_at transfer_in_range
  select_keeps None e = dynamic_defined w.core.registers f.registers
  select_keeps (Some x) e = subst (λ (b : Bus). transfer_in_range (transfer_at b) ≡ true) e f.kept

  -- RF_PUT cleared
  read_fits : Fits (with_wire_core (with_mailbox (host_read w.core.mailbox) w.core) w)
  read_fits = record { registers = f.registers; mailbox = host_read_kept w.core.mailbox f.mailbox; room = f.room; alone = f.alone; kept = f.kept; supplied = f.supplied }

-- ---- a leg's writes, on a side with an idle bus and VCC
abbrev L : LegResult → Type 0
L d = Kept d.side d.memory

module _ (w₀ : WireSide) (m : List ℕ) (g : Fits (side_bus Idle w₀)) (size : length m ≡ 1024) (v : w₀.host.vcc ≡ true) where
  abbrev w : WireSide
  w = side_bus Idle w₀

  -- programming starts, the registers and the I2C password as they may be
  programs : (c : Core) (m' : List ℕ) → registers_in_range c.registers ≡ true → mailbox_in_range c.mailbox ≡ true → length m' ≡ 1024
      → L (leg_result (programming (with_wire_core c w)) m')
  unfolding is_open transfer_at is_open_transfer page_bytes bus_in_range transfer_in_range
  programs c m' r b l =
      record { side = record { registers = r; mailbox = b; room = refl; alone = refl; kept = refl; supplied = rw v }; bus = refl; size = l }

  -- the core changed, the host side not but for the session
  changes : (o : Bool) (c : Core) (m' : List ℕ) → registers_in_range c.registers ≡ true → mailbox_in_range c.mailbox ≡ true → length m' ≡ 1024
      → L (leg_result (side_session o (with_wire_core c w)) m')
  unfolding is_open transfer_at is_open_transfer page_bytes bus_in_range transfer_in_range
  changes o c m' r b l =
      record { side = record { registers = r; mailbox = b; room = refl; alone = g.alone; kept = refl; supplied = rw v }; bus = refl; size = l }

  abbrev r₀ : Registers
  r₀ = w₀.core.registers

  abbrev b₀ : Mailbox
  b₀ = w₀.core.mailbox

  put_kept : (n f : ℕ) (bs : List ℕ) → length bs ≡ suc n → n < 256 → mailbox_acked b₀ f ≡ true
      → L (leg_result (with_wire_core (with_mailbox (host_put (length bs) b₀) w₀.core) w) (sets m 512 bs))
  put_kept n f bs e l a =
      let q = free b₀ f a in
      changes w₀.host.session (with_mailbox (host_put (length bs) b₀) w₀.core) (sets m 512 bs) g.registers
      (host_put_kept b₀ (length bs) q.on (omega (arith, e)) (omega (arith, e, l)) q.rf) (length-sets m 512 bs ∙ size)

  -- user space
  user_kept : (n f : ℕ) (bs : List ℕ) → length bs ≡ suc n → n < 256 → user_acked w₀.core w₀.host.session f n ≡ true → L (user_written w m f bs)
  unfolding user_written
  user_kept n f bs e l a =
      pick_case L (ltb f 512) _ _ (λ h. programs w₀.core (sets m f bs) g.registers g.mailbox (length-sets m f bs ∙ size))
      (λ h1. pick_case L (eqb f 0x2003) _ _
      (λ h. changes w₀.host.session (with_registers (with_dynamic (rf_mngt (get_or bs 0 0)) r₀) w₀.core) m (dynamic_kept r₀ (get_or bs 0 0) g.registers) g.mailbox size)
      (λ h2. pick_case L (eqb f 0x2006) _ _
      (λ h. changes w₀.host.session (with_mailbox (controlled (get_or bs 0 0) r₀.mode w₀.host.vcc b₀) w₀.core) m g.registers
      (controlled_kept (get_or bs 0 0) r₀.mode w₀.host.vcc b₀ g.mailbox) size)
      (λ h3. put_kept n f bs e l (of_mailbox w₀.core w₀.host.session f n h1 h2 h3 a))))

  -- the password leg
  same_kept : L (leg_result w m)
  same_kept = changes w₀.host.session w₀.core m g.registers g.mailbox size

  password_kept : (bs : List ℕ) → L (password_written w m bs)
  unfolding password_written
  password_kept bs =
      pick_case L (ltb (length bs) 17) _ _ (λ h. same_kept)
      (λ h. pick_case L (eqb (get_or bs 8 0) 0x09) _ _ (λ h. changes _ w₀.core m g.registers g.mailbox size)
      (λ h. pick_case L (same_password (password_at bs 0) (password_at bs 9)) _ _
      (λ h. programs (with_passwords (with_i2c_password (password_at bs 0) w₀.core.passwords) w₀.core) m g.registers g.mailbox size) (λ h. same_kept)))

  -- system space
  system_kept : (k f : ℕ) → page_acked System w₀.core w₀.host.session f m k ≡ true → L (system_written w m f (page k m))
  unfolding system_written
  system_kept k f a =
      pick_case L (eqb f 0x0900) _ _ (λ h. password_kept (page k m))
      (λ h. programs (with_registers (written_all r₀ f (page k m)) w₀.core) m (registers_kept w₀.core w₀.host.session f m h g.registers k a) g.mailbox size)

  leg_kept : (s : Space) (n f : ℕ) → page_acked s w₀.core w₀.host.session f m (suc n) ≡ true → L (leg_written s w m f (page (suc n) m))
  unfolding leg_written space_acked
  leg_kept User n f a =
      let t = page_last User w₀.core w₀.host.session f m n a in
      user_kept n f (page (suc n) m) (length_bytes_at m 768 (suc n)) (acked_room User w₀.core w₀.host.session f n (page n m) (get_or m (768 + n) 0) t)
      (acked_space User w₀.core w₀.host.session f n (page n m) (get_or m (768 + n) 0) t)
  leg_kept System n f a = system_kept (suc n) f a

-- ---- a signal
abbrev K : WireResult → Type 0
K e = Kept e.side e.memory

module _ (w : WireSide) (m : List ℕ) (k : Kept w m) where
  idle : Kept (side_bus Idle w) m
  unfolding bus_in_range
  idle = record { side = idle_fits w k.side; bus = refl; size = k.size }

  moved : Leg w → (c : ℕ) (b : Bus) → leb (page_bytes b) 256 ≡ true → transfer_in_range (transfer_at b) ≡ true
      → bus_in_range b c w.core w.host.session m ≡ true → Kept (side_line c b w) m
  moved l c b r t h = record { side = line_fits w k.side l c b r t; bus = h; size = k.size }

  -- what is kept of the transfer is in range
  kept_at : (b : Bus) → w.host.bus ≡ b → transfer_in_range (transfer_at b) ≡ true
  kept_at b e = subst (λ (b : Bus). transfer_in_range (transfer_at b) ≡ true) e k.side.kept

  -- a Start
  abbrev after_start : WireSide
  after_start = side_bus (Started (transfer_at w.host.bus)) w

  after_start_kept : w.host.vcc ≡ true → (c : Core) → registers_in_range c.registers ≡ true → mailbox_in_range c.mailbox ≡ true
      → L (leg_result (with_wire_core c after_start) m)
  unfolding bus_in_range
  after_start_kept v c r b =
      let f = started_fits w k.side v in
      record { side = record { registers = r; mailbox = b; room = f.room; alone = f.alone; kept = f.kept; supplied = rw v }; bus = refl; size = k.size }

  start_kept : w.host.vcc ≡ true → (d : Due) → L (settle started d after_start m)
  start_kept v d =
      let f = k.side in
      let c = w.core in
      start_case L after_start m
      (after_start_kept v c f.registers f.mailbox)
      (after_start_kept v (with_mailbox (host_read c.mailbox) c) f.registers (host_read_kept c.mailbox f.mailbox))
      (λ x. after_start_kept v (with_registers (with_dynamic (rf_mngt x) c.registers) c) (dynamic_kept c.registers x f.registers) f.mailbox)
      (λ x. after_start_kept v (with_mailbox (controlled x c.registers.mode w.host.vcc c.mailbox) c) f.registers
      (controlled_kept x c.registers.mode w.host.vcc c.mailbox f.mailbox))
      d

  -- a select
  select_by_lem : Leg w → (kept : OpenTransfer) → transfer_in_range (Some kept) ≡ true → (c : Choice) → K (select_by c kept w m)
  unfolding select_by page_bytes transfer_at bus_in_range
  select_by_lem l kept t NotAcked = idle
  select_by_lem l kept t (Reading s) = moved l w.host.counter (ReadLeg kept s false false) refl t refl
  select_by_lem l kept t (Writing s) = moved l w.host.counter (WriteLeg kept s) refl t refl

  select_kept : (x : ℕ) (kept : OpenTransfer) → transfer_in_range (Some kept) ≡ true → K (select_by (choose w.host.vcc w.host.programming x) kept w m)
  unfolding choose select_by
  select_kept x kept t =
      pick_case (λ (c : Choice). K (select_by c kept w m)) (w.host.programming || not w.host.vcc) NotAcked (select_of x) (λ h. idle)
      (λ h.
      let n = neither w.host.programming (not w.host.vcc) h in
      select_by_lem (record { vcc = not-false w.host.vcc n.1; still = n.0 }) kept t (select_of x))

  -- a data byte
  module _ (kept : OpenTransfer) (s : Space) (n : ℕ) (spoiled : Bool) (e : w.host.bus ≡ DataLeg kept s n spoiled) where
    leg_is : Leg w
    unfolding is_open transfer_at is_open_transfer is_active
    leg_is = in_leg w k.side (ap is_open e) (ap is_active e)

    kept_is : transfer_in_range (Some kept) ≡ true
    unfolding transfer_at
    kept_is = kept_at (DataLeg kept s n spoiled) e

    room_is : leb n 256 ≡ true
    unfolding page_bytes
    room_is = subst (λ (b : Bus). leb (page_bytes b) 256 ≡ true) e k.side.room

    page_is : page_acked s w.core w.host.session (first_of w.host.counter n) m n ≡ true
    unfolding bus_in_range
    page_is = subst (λ (b : Bus). bus_in_range b w.host.counter w.core w.host.session m ≡ true) e k.bus

    taken : (x : ℕ) → acked s w.core w.host.session (first_of w.host.counter n) n (page n m) x ≡ true
        → Kept (side_line (next_address w.host.counter) (DataLeg kept s (suc n) false) w) (set m (768 + n) x)
    unfolding page_bytes transfer_at bus_in_range
    taken x a =
        let r = acked_room s w.core w.host.session (first_of w.host.counter n) n (page n m) x a in
        record {
          side = line_fits w k.side leg_is (next_address w.host.counter) (DataLeg kept s (suc n) false) (le-leb (suc n) 256 (omega (arith, r))) kept_is;
          bus = rw (first_next w.host.counter n r) (page_more s w.core w.host.session (first_of w.host.counter n) m n x k.size page_is a);
          size = length-set m (768 + n) x ∙ k.size;
        }

    data_kept : (x : ℕ) → K (data_of kept s n w m x)
    unfolding data_of page_bytes transfer_at bus_in_range
    data_kept x =
        pick_case K (acked s w.core w.host.session (first_of w.host.counter n) n (page n m) x) _ _ (λ h. taken x h)
        (λ h. moved leg_is w.host.counter (DataLeg kept s n true) room_is kept_is page_is)

  send_kept : (b : Bus) (x : ℕ) → w.host.bus ≡ b → K (send_at b w m x)
  unfolding send_at is_open transfer_at is_open_transfer is_active page_bytes page_acked bus_in_range
  send_kept Idle x e = k
  send_kept (Started o) x e = select_kept x (kept_of o w.core.registers.dynamic) (select_keeps w k.side o e)
  send_kept (ReadLeg kept s o l) x e = k
  send_kept (WriteLeg kept s) x e = moved (in_leg w k.side (ap is_open e) (ap is_active e)) w.host.counter (LowAddress kept s x) refl (kept_at (WriteLeg kept s) e) refl
  send_kept (LowAddress kept s h) x e = moved (in_leg w k.side (ap is_open e) (ap is_active e)) _ (DataLeg kept s 0 false) refl (kept_at (LowAddress kept s h) e) refl
  send_kept (DataLeg kept s n spoiled) x e = pick_case K spoiled _ _ (λ h. k) (λ h. data_kept kept s n spoiled e x)

  -- a fetch
  fetch_kept : (b : Bus) (u : Uid) (ack : Bool) → w.host.bus ≡ b → K (fetch_at b w u m ack)
  unfolding fetch_at is_open transfer_at is_open_transfer is_active page_bytes bus_in_range
  fetch_kept Idle u ack e = k
  fetch_kept (Started o) u ack e = k
  fetch_kept (ReadLeg kept s over last) u ack e =
      pick_case K over _ _ (λ h. k) (λ h. moved (in_leg w k.side (ap is_open e) (ap is_active e)) _ (ReadLeg kept s _ _) refl (kept_at (ReadLeg kept s over last) e) refl)
  fetch_kept (WriteLeg kept s) u ack e = k
  fetch_kept (LowAddress kept s h) u ack e = k
  fetch_kept (DataLeg kept s n spoiled) u ack e = k

  -- a Stop
  writes_kept : (s : Space) (n f : ℕ) → w.host.vcc ≡ true → eqb n 0 ≡ false → page_acked s w.core w.host.session f m n ≡ true
      → L (settle stopped (writes s f (page n m)) (side_bus Idle w) m)
  unfolding settle
  writes_kept s zero f v z a = absurd (true≢false z)
  writes_kept s (suc n) f v z a = leg_kept w m (idle_fits w k.side) k.size v s n f a

  nothing_due_lem : L (settle stopped nothing_due (side_bus Idle w) m)
  unfolding settle bus_in_range
  nothing_due_lem = record { side = idle_fits w k.side; bus = refl; size = k.size }

  clear_due : L (settle stopped clears (side_bus Idle w) m)
  unfolding settle bus_in_range
  clear_due = record { side = read_fits _ (idle_fits w k.side); bus = refl; size = k.size }

  due_kept : (b : Bus) → w.host.bus ≡ b → L (settle stopped (due_of b w.host.counter m) (side_bus Idle w) m)
  unfolding due_of
  due_kept Idle e = nothing_due_lem
  due_kept (Started o) e = nothing_due_lem
  due_kept (ReadLeg kept s over last) e = pick_case (λ (d : Due). L (settle stopped d (side_bus Idle w) m)) last clears nothing_due (λ h. clear_due) (λ h. nothing_due_lem)
  due_kept (WriteLeg kept s) e = nothing_due_lem
  due_kept (LowAddress kept s h) e = nothing_due_lem
  due_kept (DataLeg kept s n spoiled) e =
      pick_case (λ (d : Due). L (settle stopped d (side_bus Idle w) m)) (spoiled || eqb n 0) nothing_due _ (λ h. nothing_due_lem)
      (λ h. writes_kept s n _ (leg_is kept s n spoiled e).vcc (neither spoiled (eqb n 0) h).1 (page_is kept s n spoiled e))

  -- supply
  quiet_bus : (b : Bus) (c : ℕ) (r : Core) (o : Bool) → is_active b ≡ false → bus_in_range b c r o m ≡ true
  unfolding is_active bus_in_range
  quiet_bus Idle c r o h = refl
  quiet_bus (Started t) c r o h = refl
  quiet_bus (ReadLeg kept s over last) c r o h = refl
  quiet_bus (WriteLeg kept s) c r o h = refl
  quiet_bus (LowAddress kept s x) c r o h = refl
  quiet_bus (DataLeg kept s n spoiled) c r o h = absurd (true≢false h)

  on_kept : w.host.vcc ≡ false → Kept (vcc_on w) m
  on_kept v =
      let f = k.side in
      record {
        side = record { registers = reload_kept w.core.registers f.registers; mailbox = f.mailbox; room = f.room; alone = f.alone; kept = f.kept; supplied = refl };
        bus = quiet_bus w.host.bus _ _ _ (inactive w.host.vcc (w.core.mailbox.enabled || w.host.session || w.host.programming) (is_active w.host.bus) f.supplied v);
        size = k.size;
      }

  off_kept : Kept (vcc_off w) m
  unfolding is_open transfer_at is_open_transfer is_active page_bytes bus_in_range transfer_in_range
  off_kept =
      record {
        side = record { registers = reload_kept w.core.registers k.side.registers; mailbox = empty_kept; room = refl; alone = refl; kept = refl; supplied = refl };
        bus = refl;
        size = k.size;
      }

  vcc_kept : (on : Bool) → Kept (vcc_at on w) m
  unfolding vcc_at
  vcc_kept on =
      let P : WireSide → Type 0 = λ x. Kept x m in
      pick_case P on _ _ (λ h. pick_case P w.host.vcc _ _ (λ v. k) (λ v. on_kept v)) (λ h. pick_case P w.host.vcc _ _ (λ v. off_kept) (λ v. k))

  programmed_kept : Kept (programmed w) m
  programmed_kept =
      let f = k.side in
      record {
        side = record { registers = f.registers; mailbox = f.mailbox; room = f.room; alone = refl; kept = f.kept; supplied = less w.host.vcc (w.core.mailbox.enabled || w.host.session) w.host.programming (is_active w.host.bus) f.supplied };
        bus = k.bus;
        size = k.size;
      }

  undisturbed_kept : (on : Bool) → Kept (undisturbed on w) m
  undisturbed_kept true = k
  undisturbed_kept false = programmed_kept

  signal_kept : (u : Uid) (s : WireSignal) → K (signal_of w u m s)
  unfolding start_of start_at stop_at
  signal_kept u s =
      signal_case (λ (_ : WireSignal). K) w u m
      (pick_case K w.host.vcc _ _ (λ v. start_kept v (due_of w.host.bus w.host.counter m)) (λ v. k))
      (λ x. send_kept w.host.bus x refl)
      (λ ack. fetch_kept w.host.bus u ack refl)
      (due_kept w.host.bus refl)
      vcc_kept
      (λ _ on. undisturbed_kept on)
      s

pub keeps : SignalKeepsRange
keeps w u m s r =
    let k = signal_kept w m (record { side = fits w r.side; bus = r.bus; size = r.size }) u s in
    record { side = in_range_lem _ k.side; bus = k.bus; size = k.size }
