-- Every call keeps the tag in range, and the fresh tag is. Assumes nothing.
use Rattle.std.specs.Prelude.{Option}
use Rattle.bus.specs.declared.OpenTransfer.{OpenTransfer}
use mathlib.Core.Path.{◌≡◌, refl, ap, ◌∙◌}
use mathlib.Core.Bool.{Bool, true, false, not, ◌&&◌, ◌||◌, false≢true}
use mathlib.Core.List.{List}
use mathlib.Core.Logic.{⊎_elim}
use Prim.Native.Nat.{ℕ, ◌<◌}
use lib.ListN.{length, get_or}
use Rattle.parts.specs.Bytes.{are_bytes}
use Rattle.parts.specs.Bits.{is_set}
use Rattle.parts.proofs.Below.{bytes_below}
use Rattle.parts.proofs.Bools.{and_left, and_right, and_both, or_first, or_second}
use Rattle.bus.specs.declared.Bus.{Bus}
use Rattle.bus.specs.declared.Bus.TheVariants.{Idle, Started, ReadLeg, WriteLeg, LowAddress, DataLeg}
use Rattle.tag.specs.declared.Core.{Core}
use Rattle.tag.specs.declared.Tag.{Tag}
use Rattle.bus.specs.Bus.{counted_dynamic, transfer_at, is_open_transfer, is_open, is_active}
use Rattle.air.specs.Radio.{field_at}
use Rattle.tag.specs.Supply.{fresh_tag}
use Rattle.tag.specs.Parts.{wire_side, with_tag_air}
use Rattle.wire_claims.specs.Passed.{air_in_range, core_in_range, supplied_in_range, wire_in_range, in_range, bus_in_range}
use Rattle.wire_claims.proofs.Passed.{field_kept as air-kept, fresh_in_range}
use Rattle.refusals.proofs.Laws.{judged_case}
use Rattle.refusals.proofs.Ranges.{RangeParts, range_parts}
use Rattle.signal_table.specs.declared.WireSignal.{WireSignal}
use Rattle.wire_claims.proofs.Kept.{keeps as wire-keeps}
use Rattle.reply.specs.declared.RadioSide.{RadioSide}
use Rattle.reply.specs.Outcome.{CommandResult, radio_side, with_radio}
use Rattle.radio.specs.Radio.{radio_of, next_slot_of}
use Rattle.radio.specs.Claims.{radio_in_range}
use Rattle.radio.proofs.Kept.{keeps as radio-keeps, end_keeps}
use Rattle.radio.proofs.ShutOut.{shut_out_lem, end_of_frame_shut}
use Rattle.signal_table.specs.declared.Signal.{Signal}
use Rattle.signal_table.specs.declared.Signal.TheVariants.{Wire, Field, Frame, EndOfFrame}
use Rattle.model.specs.Step.{StepResult, transfer_open, act_of, step_of}
use Rattle.refusals.specs.Refusals.{tag_in_range}
use Rattle.model.specs.Claims.{Fit, StepKeepsFit, FreshFits}
use Rattle.model.proofs.Acts.{signal_of_call}

-- ---- the test of supply: v is VCC, e MB_EN, s session, p programming, a bus activity
supplied_first : (v e s p a : Bool) → (v || not (e || s || p || a)) ≡ true → (v || not e) ≡ true
supplied_first true e s p a h = refl
supplied_first false false s p a h = refl
supplied_first false true s p a h = h

supplied_as : (v e e' s p a : Bool) → (v || not (e || s || p || a)) ≡ true → (v || not e') ≡ true → (v || not (e' || s || p || a)) ≡ true
supplied_as true e e' s p a h k = refl
supplied_as false e true s p a h k = k
supplied_as false false false s p a h k = h
supplied_as false true false s p a h k = absurd (false≢true h)

-- ---- the ranges as facts
record Fits (t : Tag) (m : List ℕ) : Type 0 where
  parts : RangeParts t m
  size : length m ≡ 1024

fits : (t : Tag) (m : List ℕ) → Fit t m → Fits t m
fits t m f = record { parts = range_parts t m f.range; size = f.size }

fit : (t : Tag) (m : List ℕ) → Fits t m → Fit t m
unfolding tag_in_range in_range wire_in_range
fit t m f = record { range = rw (f.parts.air, f.parts.core, f.parts.host, f.parts.supplied, f.parts.bus); size = f.size }

abbrev pub F : StepResult → Type 0
F e = Fit e.tag e.memory

-- ---- a wire signal
wire_kept : (x : WireSignal) (t : Tag) (m o s : List ℕ) → Fits t m → F (act_of (Wire x) t m o s)
unfolding act_of tag_in_range in_range wire_in_range
wire_kept x t m o s f =
    let k = wire-keeps (wire_side t) t.uid m x (record { side = rw (f.parts.core, f.parts.host, f.parts.supplied); bus = f.parts.bus; size = f.size }) in
    record { range = rw (f.parts.air, k.side, k.bus); size = k.size }

pub wire_fit : (x : WireSignal) (t : Tag) (m o s : List ℕ) → Fit t m → F (act_of (Wire x) t m o s)
wire_fit x t m o s f = wire_kept x t m o s (fits t m f)

-- ---- a field change
field_kept : (on : Bool) (t : Tag) (m o s : List ℕ) → Fits t m → F (act_of (Field on) t m o s)
unfolding act_of
field_kept on t m o s f =
    fit (with_tag_air (field_at on t.air) t) m
    (record { parts = record { air = air-kept on t.air f.parts.air; core = f.parts.core; host = f.parts.host; supplied = f.parts.supplied; bus = f.parts.bus }; size = f.size })

-- ---- a frame
-- the page bytes stay Acked: with a transfer open nothing changes, else there are none
bus_kept : (b : Bus) (n : ℕ) (c c' : Core) (o : Bool) (m m' : List ℕ) → (is_open b ≡ true → (c' ≡ c) × (m' ≡ m))
    → bus_in_range b n c o m ≡ true → bus_in_range b n c' o m' ≡ true
unfolding bus_in_range is_open transfer_at is_open_transfer
bus_kept Idle n c c' o m m' e h = refl
bus_kept (Started t) n c c' o m m' e h = refl
bus_kept (ReadLeg kept s over last) n c c' o m m' e h = refl
bus_kept (WriteLeg kept s) n c c' o m m' e h = refl
bus_kept (LowAddress kept s x) n c c' o m m' e h = refl
bus_kept (DataLeg kept s k spoiled) n c c' o m m' e h = rw ((e refl).0, (e refl).1) h

module _ (t : Tag) (m : List ℕ) (f : Fits t m) where
  abbrev side_ranged : RadioSide → Type 0
  side_ranged v = radio_in_range v t.host.vcc ≡ true

  ranged : side_ranged (radio_side t)
  unfolding supplied_in_range
  ranged =
      rw (f.parts.air, f.parts.core, supplied_first t.host.vcc t.core.mailbox.enabled t.host.session t.host.programming (is_active t.host.bus) f.parts.supplied)

  -- a result that keeps the ranges and the memory's length, and with a transfer open what both sides share and the memory
  radio_kept : (r : CommandResult) → side_ranged r.side → length r.memory ≡ length m → (transfer_open t ≡ true → (r.side.core ≡ t.core) × (r.memory ≡ m))
      → Fits (with_radio r.side t) r.memory
  unfolding supplied_in_range
  radio_kept r k l same =
      let v = t.host.vcc in
      let a = air_in_range r.side.air in
      let c = core_in_range r.side.core in
      let e = r.side.core.mailbox.enabled in
      let ac = and_left (a && c) (v || not e) k in
      record {
        parts = record {
          air = and_left a c ac;
          core = and_right a c ac;
          host = f.parts.host;
          supplied = supplied_as v t.core.mailbox.enabled e t.host.session t.host.programming (is_active t.host.bus) f.parts.supplied (and_right (a && c) (v || not e) k);
          bus = bus_kept t.host.bus t.host.counter t.core r.side.core t.host.session m r.memory same f.parts.bus;
        };
        size = l ∙ f.size;
      }

  abbrev transfer : Option OpenTransfer
  transfer = transfer_at t.host.bus

  abbrev Same : CommandResult → Type 0
  Same d = (d.side.core ≡ t.core) × (d.memory ≡ m)

  -- with a transfer open the tag is shut out
  is_shut : transfer_open t ≡ true → (is_set 1 (counted_dynamic transfer t.core.registers.dynamic).bits || (is_open_transfer transfer || t.host.programming)) ≡ true
  unfolding is_open
  is_shut h = or_second (is_set 1 (counted_dynamic transfer t.core.registers.dynamic).bits) (transfer_open t || t.host.programming) (or_first (transfer_open t) t.host.programming h)

  abbrev framed : List ℕ → CommandResult
  framed s = radio_of (radio_side t) t.uid t.host.vcc transfer t.host.programming m s

  abbrev slotted : CommandResult
  slotted = next_slot_of (radio_side t) t.uid transfer t.host.programming m

  frame_kept : (s : List ℕ) → ((i : ℕ) → get_or s i 0 < 256) → Fits (with_radio (framed s).side t) (framed s).memory
  frame_kept s b =
      let k = radio-keeps (radio_side t) t.uid t.host.vcc transfer t.host.programming m s b ranged in
      radio_kept (framed s) k.0 k.1
      (λ h.
      ⊎_elim (λ e. (ap (λ (d : CommandResult). d.side.core) e, ap (λ (d : CommandResult). d.memory) e)) (λ e. (ap (λ (d : CommandResult). d.side.core) e, ap (λ (d : CommandResult). d.memory) e))
      (shut_out_lem (radio_side t) t.uid t.host.vcc transfer t.host.programming m s (is_shut h)))

  end_kept : Fits (with_radio slotted.side t) slotted.memory
  end_kept =
      let k = end_keeps (radio_side t) t.uid t.host.vcc transfer t.host.programming m ranged in
      radio_kept slotted k.0 (ap length k.1)
      (λ h.
      let e = end_of_frame_shut (radio_side t) t.uid transfer t.host.programming m (is_shut h) in
      (ap (λ (d : CommandResult). d.side.core) e, ap (λ (d : CommandResult). d.memory) e))

-- ---- a call
act_kept : (x : Signal) (t : Tag) (m o s : List ℕ) → are_bytes s ≡ true → Fits t m → F (act_of x t m o s)
unfolding act_of
act_kept (Wire x) t m o s b f = wire_kept x t m o s f
act_kept (Field on) t m o s b f = field_kept on t m o s f
act_kept Frame t m o s b f = fit _ _ (frame_kept t m f s (bytes_below s b))
act_kept EndOfFrame t m o s b f = fit _ _ (end_kept t m f)

pub keeps : StepKeepsFit
unfolding step_of
keeps t m c b f = judged_case F _ _ _ (λ r h. f) (λ h. act_kept (signal_of_call c) t m c.buffer c.frame b (fits t m f))

-- ---- the fresh tag
pub fresh_fits : FreshFits
unfolding tag_in_range fresh_tag bus_in_range
fresh_fits u = record { range = and_both (in_range (fresh_tag u)) true (fresh_in_range u) refl; size = refl }
