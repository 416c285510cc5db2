-- What is done to the mailbox keeps it in range. Assumes nothing.
use mathlib.Core.Path.{◌≡◌, refl}
use mathlib.Core.Bool.{Bool, true, false, not, ◌&&◌, ◌||◌}
use Prim.Native.Nat.{ℕ, ◌≤◌, ◌<◌}
use lib.Dec.{leb, ltb, eqb}
use borrow.Author.Tests.{le-leb, lt-ltb}
use Rattle.parts.specs.Bits.{is_set}
use Rattle.parts.proofs.Bools.{and_left, and_right, or_first, or_second}
use Rattle.parts.proofs.Picks.{pick_case}
use Rattle.register_types.specs.declared.MbMode.{MbMode}
use Rattle.mailbox.specs.declared.Mailbox.{Mailbox}
use Rattle.mailbox.specs.Parts.{with_enabled}
use Rattle.mailbox.specs.Mailbox.{empty_mailbox, disabled, enabled, controlled, host_put, radio_put, host_read, radio_read}
use Rattle.ranges.specs.Ranges.{mailbox_in_range}

-- the range as facts: length, MB_EN, and PUT and CURRENT of host and radio
record Fits (n : ℕ) (en hp hc rp rc : Bool) : Type 0 where
  size : leb n 256 ≡ true
  one : not (hc && rc) ≡ true
  host : (not hp || hc) ≡ true
  radio : (not rp || rc) ≡ true
  exact : ((ltb 0 n && (hc || rc)) || (eqb n 0 && not (hc || rc))) ≡ true
  on : (eqb n 0 || en) ≡ true

abbrev fitting : Mailbox → Type 0
fitting m = Fits m.length m.enabled m.host.put m.host.current m.rf.put m.rf.current

fits : (m : Mailbox) → mailbox_in_range m ≡ true → fitting m
unfolding mailbox_in_range
fits m h =
    let n = m.length in
    let hc = m.host.current in
    let rc = m.rf.current in
    let t1 = leb n 256 in
    let t2 = not (hc && rc) in
    let t3 = not m.host.put || hc in
    let t4 = not m.rf.put || rc in
    let t5 = (ltb 0 n && (hc || rc)) || (eqb n 0 && not (hc || rc)) in
    let t6 = eqb n 0 || m.enabled in
    let h5 = and_left (t1 && t2 && t3 && t4 && t5) t6 h in
    let h4 = and_left (t1 && t2 && t3 && t4) t5 h5 in
    let h3 = and_left (t1 && t2 && t3) t4 h4 in
    let h2 = and_left (t1 && t2) t3 h3 in
    record { size = and_left t1 t2 h2; one = and_right t1 t2 h2; host = and_right (t1 && t2) t3 h3; radio = and_right (t1 && t2 && t3) t4 h4; exact = and_right (t1 && t2 && t3 && t4) t5 h5; on = and_right (t1 && t2 && t3 && t4 && t5) t6 h }

in_range_lem : (m : Mailbox) → fitting m → mailbox_in_range m ≡ true
unfolding mailbox_in_range
in_range_lem m f = rw (f.size, f.one, f.host, f.radio, f.exact, f.on)

pub empty_kept : mailbox_in_range empty_mailbox ≡ true
unfolding mailbox_in_range
empty_kept = refl

pub host_read_kept : (m : Mailbox) → mailbox_in_range m ≡ true → mailbox_in_range (host_read m) ≡ true
host_read_kept m h =
    let f = fits m h in
    in_range_lem (host_read m) (record { size = f.size; one = f.one; host = f.host; radio = refl; exact = f.exact; on = f.on })

pub radio_read_kept : (m : Mailbox) → mailbox_in_range m ≡ true → mailbox_in_range (radio_read m) ≡ true
radio_read_kept m h =
    let f = fits m h in
    in_range_lem (radio_read m) (record { size = f.size; one = f.one; host = refl; radio = f.radio; exact = f.exact; on = f.on })

pub enabled_kept : (mode : MbMode) (vcc : Bool) (m : Mailbox) → mailbox_in_range m ≡ true → mailbox_in_range (enabled mode vcc m) ≡ true
unfolding enabled
enabled_kept mode vcc m h =
    pick_case (λ (b : Mailbox). mailbox_in_range b ≡ true) (is_set 1 mode.bits && vcc) _ m
    (λ t.
    let f = fits m h in
    in_range_lem (with_enabled true m)
    (record { size = f.size; one = f.one; host = f.host; radio = f.radio; exact = f.exact; on = or_second (eqb m.length 0) true refl }))
    (λ t. h)

pub controlled_kept : (x : ℕ) (mode : MbMode) (vcc : Bool) (m : Mailbox) → mailbox_in_range m ≡ true → mailbox_in_range (controlled x mode vcc m) ≡ true
unfolding controlled
controlled_kept x mode vcc m h =
    pick_case (λ (b : Mailbox). mailbox_in_range b ≡ true) (is_set 1 x) (enabled mode vcc m) (disabled m) (λ t. enabled_kept mode vcc m h) (λ t. empty_kept)

-- a put into an enabled mailbox with no PUT set, of 1 to 256 bytes
module _ (m : Mailbox) (n : ℕ) (on : m.enabled ≡ true) (some : 0 < n) (room : n ≤ 256) where
  exactly : ((ltb 0 n && true) || (eqb n 0 && false)) ≡ true
  exactly = rw (lt-ltb 0 n some)

  pub host_put_kept : m.rf.put ≡ false → mailbox_in_range (host_put n m) ≡ true
  host_put_kept none =
      in_range_lem (host_put n m)
      (record { size = le-leb n 256 room; one = refl; host = refl; radio = or_first (not m.rf.put) false (rw none); exact = exactly; on = or_second (eqb n 0) m.enabled on })

  pub radio_put_kept : m.host.put ≡ false → mailbox_in_range (radio_put n m) ≡ true
  radio_put_kept none =
      in_range_lem (radio_put n m)
      (record { size = le-leb n 256 room; one = refl; host = or_first (not m.host.put) false (rw none); radio = refl; exact = exactly; on = or_second (eqb n 0) m.enabled on })
