-- Every call leaves a tag whose numbers fit, and bytes. Assumes nothing.
use mathlib.Core.Path.{◌≡◌, sym, subst}
use mathlib.Core.Bool.{true}
use mathlib.Core.List.{List}
use Prim.Native.Nat.{ℕ, ◌<◌}
use borrow.Author.Tests.{ltb-true}
use Rattle.parts.specs.Bytes.{are_bytes}
use Rattle.parts.proofs.Below.{Below, bytes_below, are_below}
use Rattle.tag.specs.declared.Core.{Core}
use Rattle.tag.specs.declared.Tag.{Tag}
use Rattle.bus.specs.Bus.{transfer_at}
use Rattle.tag.specs.Parts.{wire_side}
use Rattle.reply.specs.Outcome.{radio_side}
use Rattle.signal_table.specs.declared.Signal.{Signal}
use Rattle.signal_table.specs.declared.Signal.TheVariants.{Wire, Field, Frame, EndOfFrame}
use Rattle.signal_table.proofs.Laws.{sent, sent_below}
use Rattle.model.specs.Step.{StepResult, act_of, step_of}
use Rattle.model.specs.Claims.{Fit}
use Rattle.refusals.proofs.Laws.{judged_case}
use Rattle.model.proofs.Acts.{signal_of_call, size_of, range_of, acts}
use Rattle.model.proofs.Kept.{keeps}
use Rattle.state.specs.Claims.{PasswordsFit, Fits}
use Rattle.inventory_reply.proofs.Laws.{end_leaves}
use Rattle.radio.specs.Radio.{dynamic_now, busy_now, next_slot_of}
use Rattle.wire_claims.proofs.Line.{keeps_counter}
use Rattle.wire_claims.proofs.Bytes.{keeps_bytes}
use Rattle.library_demand3.specs.Kept.{KeepsFits}
use Rattle.library_demand3.proofs.WireKept.{high_byte_of, wire_sound}
use Rattle.library_demand3.proofs.RadioKept.{radio_sound}
use Rattle.library_demand3.proofs.InRange.{fits_in_range, high_below}

-- ---- a signal that acts
abbrev F : StepResult → Type 0
F e = (Fits e.tag) × (are_bytes e.memory ≡ true)

module _ (t : Tag) (m o f : List ℕ) (fits : Fits t) (h : Below m) where
  counter : t.host.counter < 65536
  counter = ltb-true t.host.counter 65536 fits.counter

  high : high_byte_of t.host.bus < 256
  high = high_below t.host.bus fits.bus

  act_fits : (x : Signal) → sent x < 256 → Below f → Fit (act_of x t m o f).tag (act_of x t m o f).memory → F (act_of x t m o f)
  unfolding act_of sent next_slot_of
  act_fits (Wire x) s b k =
      let w = wire_sound (wire_side t) t.uid m x s h (record { high = high; passwords = fits.passwords }) in (
        fits_in_range _ _ k.range (keeps_counter (wire_side t) t.uid m x counter) w.high w.passwords fits.uid,
        are_below _ (keeps_bytes (wire_side t) t.uid m x s h),
      )
  act_fits (Field on) s b k = (fits_in_range _ _ k.range counter high fits.passwords fits.uid, are_below m h)
  act_fits Frame s b k =
      let r = radio_sound (radio_side t) t.uid t.host.vcc (transfer_at t.host.bus) t.host.programming m f fits.passwords h b in
      (fits_in_range _ _ k.range counter high r.passwords fits.uid, are_below _ r.memory)
  act_fits EndOfFrame s b k =
      let transfer = transfer_at t.host.bus in
      let e = end_leaves (radio_side t) t.uid (dynamic_now (radio_side t) transfer) (busy_now transfer t.host.programming) m in
      (fits_in_range _ _ k.range counter high (subst (λ (c : Core). PasswordsFit c.passwords) (sym e.0) fits.passwords) fits.uid, subst (λ (l : List ℕ). are_bytes l ≡ true) (sym e.1) (are_below m h))

-- ---- a call
pub keeps_fits : KeepsFits
unfolding step_of
keeps_fits t m c fits are frame =
    judged_case F _ _ _ (λ r _. (fits, are))
    (λ none.
    let fit : Fit t m = record { range = range_of t m c none; size = size_of t m c none } in
    act_fits t m c.buffer c.frame fits (bytes_below m are) (signal_of_call c) (sent_below c.code c.value) (bytes_below c.frame frame)
    (subst (λ (e : StepResult). Fit e.tag e.memory) (acts t m c none) (keeps t m c frame fit)))
