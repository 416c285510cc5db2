-- What the ranges say of a tag's numbers. Assumes nothing.
use Rattle.std.specs.Prelude.{Option, Some, None}
use Rattle.bus.specs.declared.OpenTransfer.{OpenTransfer}
use mathlib.Core.Path.{◌≡◌, refl, sym, subst}
use mathlib.Core.Bool.{Bool, true, false, not, ◌&&◌, ◌||◌}
use mathlib.Core.List.{List}
use Prim.Native.Nat.{ℕ, ◌%◌, ◌^◌, ◌≤◌, ◌<◌}
use native.Mathlib.Nat.{mod-lt}
use native.Mathlib.Omega.{arith}
use lib.Dec.{leb, ltb, eqb}
use lib.ListN.{get_or, get_or-eq_default}
use lib.Pow.{pow_pos, pow_mono}
use borrow.Author.Tests.{eqb-true, leb-true, ltb-true, ltb-false, lt-ltb}
use Rattle.parts.specs.Bytes.{are_bytes}
use Rattle.parts.proofs.Below.{are_below}
use Rattle.parts.proofs.Bools.{and_left, and_right, and_both}
use Rattle.registers.specs.declared.Registers.{Registers}
use Rattle.register_types.specs.Types.{rf_mngt_bits}
use Rattle.register_table.specs.Table.{register_count, place_bits}
use Rattle.register_table.proofs.Rows.{eight_bits}
use Rattle.defined_bits.specs.Defined.{only_bits, defined_to, defined_only}
use Rattle.defined_bits.proofs.Defined.{defined_at}
use Rattle.areas.specs.Ends.{ends_in_range}
use Rattle.bus.specs.declared.Bus.{Bus}
use Rattle.bus.specs.declared.Bus.TheVariants.{Idle, Started, ReadLeg, WriteLeg, LowAddress, DataLeg}
use Rattle.mailbox.specs.declared.Mailbox.{Mailbox}
use Rattle.tag.specs.declared.Tag.{Tag}
use Rattle.bus.specs.Bus.{transfer_at, is_open, page_bytes}
use Rattle.tag.specs.Parts.{wire_side}
use Rattle.ranges.proofs.AirKept.{session_at_most, slots_at_most}
use Rattle.ranges.specs.Ranges.{registers_in_range, air_in_range, put_current, mailbox_in_range, supplied_in_range, transfer_in_range, host_in_range, core_in_range, wire_in_range, in_range}
use Rattle.page.specs.PageRange.{bus_in_range}
use Rattle.refusals.specs.Refusals.{tag_in_range}
use Rattle.registers.specs.Map.{register_bytes}
use Rattle.registers.proofs.Bytes.{bytes_count}
use Rattle.state.specs.Claims.{is_word, transfer_fits, leg_fits, bus_fits, PasswordsFit, are_eight, Fits}
use Rattle.library_demand3.proofs.WireKept.{high_byte_of}

-- ---- registers
-- a number of at most eight bits
bits_below : (n x : ℕ) → n ≤ 8 → only_bits n x ≡ true → x < 256
bits_below n x h e = omega (arith, eqb-true (x % 2 ^ n) x e, mod-lt x (pow_pos n), pow_mono h)

registers_are : (r : Registers) → registers_in_range r ≡ true → are_bytes (register_bytes r) ≡ true
unfolding registers_in_range defined_only
registers_are r h = are_below (register_bytes r) (λ i. at i (ltb i register_count) refl)
  where
    d : defined_to register_count (register_bytes r) ≡ true
    d = and_right (ends_in_range r.ends) (defined_only r) h

    at : (i : ℕ) (b : Bool) → ltb i register_count ≡ b → get_or (register_bytes r) i 0 < 256
    at i true l = bits_below (get_or place_bits i 0) (get_or (register_bytes r) i 0) (eight_bits i) (defined_at register_count (register_bytes r) d i (ltb-true i register_count l))
    at i false l = subst (λ (x : ℕ). x < 256) (sym (get_or-eq_default (register_bytes r) 0 {n = i} (omega (arith, bytes_count r, ltb-false i register_count l)))) (omega arith)

-- ---- the message's length, the bus
message_is : (b : Mailbox) → mailbox_in_range b ≡ true → is_word b.length ≡ true
unfolding mailbox_in_range
message_is b h =
    let n = leb b.length 256 in
    let c = not (b.host.current && b.rf.current) in
    let p = put_current b.host in
    let q = put_current b.rf in
    let l = (ltb 0 b.length && (b.host.current || b.rf.current)) || (eqb b.length 0 && not (b.host.current || b.rf.current)) in
    let e = eqb b.length 0 || b.enabled in
    let small = and_left n c (and_left (n && c) p (and_left (n && c && p) q (and_left (n && c && p && q) l (and_left (n && c && p && q && l) e h)))) in
    lt-ltb b.length 65536 (omega (arith, leb-true b.length 256 small))

transfer_is : (transfer : Option OpenTransfer) → transfer_in_range transfer ≡ true → transfer_fits transfer ≡ true
unfolding transfer_in_range transfer_fits
transfer_is None h = refl
transfer_is (Some kept) h = lt-ltb kept.dynamic.bits 256 (bits_below rf_mngt_bits kept.dynamic.bits (omega arith) h)

leg_is : (b : Bus) → leb (page_bytes b) 256 ≡ true → high_byte_of b < 256 → leg_fits b ≡ true
unfolding page_bytes high_byte_of leg_fits
leg_is Idle h x = refl
leg_is (Started transfer) h x = refl
leg_is (ReadLeg kept space over last) h x = refl
leg_is (WriteLeg kept space) h x = refl
leg_is (LowAddress kept space high) h x = lt-ltb high 256 x
leg_is (DataLeg kept space count spoiled) h x = lt-ltb count 65536 (omega (arith, leb-true count 256 h))

bus_is : (b : Bus) → leb (page_bytes b) 256 ≡ true → transfer_in_range (transfer_at b) ≡ true → high_byte_of b < 256 → bus_fits b ≡ true
unfolding bus_fits
bus_is b h k x = and_both (transfer_fits (transfer_at b)) (leg_fits b) (transfer_is (transfer_at b) k) (leg_is b h x)

-- ---- a tag in range fits, if what the ranges do not say does
pub fits_in_range : (t : Tag) (m : List ℕ) → tag_in_range t m ≡ true → t.host.counter < 65536 → high_byte_of t.host.bus < 256
    → PasswordsFit t.core.passwords → are_eight t.uid.bytes ≡ true → Fits t
unfolding tag_in_range in_range wire_in_range core_in_range host_in_range
fits_in_range t m h counter high passwords uid =
    let all = and_left (in_range t) (bus_in_range t.host.bus t.host.counter t.core t.host.session m) h in
    let a = air_in_range t.air in
    let air = and_left a (wire_in_range (wire_side t)) all in
    let wire = and_right a (wire_in_range (wire_side t)) all in
    let c = core_in_range t.core in
    let k = host_in_range t.host in
    let both = and_left (c && k) (supplied_in_range t.host t.core.mailbox.enabled) wire in
    let core = and_left c k both in
    let host = and_right c k both in
    let r = registers_in_range t.core.registers in
    let b = mailbox_in_range t.core.mailbox in
    let n = leb (page_bytes t.host.bus) 256 in
    let o = not (t.host.programming && is_open t.host.bus) in
    let x = transfer_in_range (transfer_at t.host.bus) in
    record {
      session = lt-ltb t.air.session 256 (omega (arith, session_at_most t.air air));
      slots = lt-ltb t.air.slots 256 (omega (arith, slots_at_most t.air air));
      counter = lt-ltb t.host.counter 65536 counter;
      bus = bus_is t.host.bus (and_left n o (and_left (n && o) x host)) (and_right (n && o) x host) high;
      registers = registers_are t.core.registers (and_left r b core);
      message = message_is t.core.mailbox (and_right r b core);
      passwords = passwords;
      uid = uid;
    }

-- and one that fits has that
leg_below : (b : Bus) → leg_fits b ≡ true → high_byte_of b < 256
unfolding high_byte_of leg_fits
leg_below Idle h = omega arith
leg_below (Started transfer) h = omega arith
leg_below (ReadLeg kept space over last) h = omega arith
leg_below (WriteLeg kept space) h = omega arith
leg_below (LowAddress kept space high) h = ltb-true high 256 h
leg_below (DataLeg kept space count spoiled) h = omega arith

pub high_below : (b : Bus) → bus_fits b ≡ true → high_byte_of b < 256
unfolding bus_fits
high_below b h = leg_below b (and_right (transfer_fits (transfer_at b)) (leg_fits b) h)
