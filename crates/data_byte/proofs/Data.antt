-- A data byte by the yes or no of its verdict. Assumes nothing.
use mathlib.Core.Path.{◌≡◌, sym, ap, ◌∙◌}
use mathlib.Core.Bool.{Bool, true, false, not, ◌&&◌}
use mathlib.Core.List.{List}
use Prim.Native.Nat.{ℕ, suc, ◌+◌, ◌<◌}
use lib.ListN.{set}
use borrow.Author.Tests.{not-true}
use Rattle.std.specs.Prelude.{⊤, Result, is_ok}
use Rattle.parts.specs.Pick.{pick}
use Rattle.parts.proofs.Bools.{and_left, and_right}
use Rattle.bus.specs.declared.Space.{Space}
use Rattle.bus.specs.declared.OpenTransfer.{OpenTransfer}
use Rattle.bus.specs.declared.Bus.TheVariants.{DataLeg}
use Rattle.bus.specs.Bus.{next_address}
use Rattle.tag.specs.declared.WireSide.{WireSide}
use Rattle.tag.specs.Layout.{page_place, page}
use Rattle.select.specs.Select.{first_of}
use Rattle.write_reasons.specs.declared.WriteAsked.{WriteAsked}
use Rattle.write_reasons.specs.Asked.{asked_byte}
use Rattle.write_reasons.specs.declared.WriteReason.{WriteReason}
use Rattle.write_verdict.specs.Passed.{situation_of, write_verdict}
use Rattle.rule.specs.Rule.{acked}
use Rattle.rule.proofs.AckedByte.{acked_room}
use Rattle.rule.proofs.Agree.{byte_agrees}
use Rattle.signal.specs.declared.WireAnswer.TheVariants.{Ack, NoAck}
use Rattle.signal.specs.Signal.{wire_result, side_bus, side_line}
use Rattle.data_byte.specs.DataByte.{data_of, data_byte}

module _ (kept : OpenTransfer) (space : Space) (k : ℕ) (spoiled : Bool) (w : WireSide) (m : List ℕ) (x : ℕ) where
  abbrev Judged : Bool → Type 0
  Judged b = (not spoiled && acked space w.core w.host.session (first_of w.host.counter k) k (page k m) x) ≡ b

  byte_acked : Judged true → acked space w.core w.host.session (first_of w.host.counter k) k (page k m) x ≡ true
  byte_acked h = and_right (not spoiled) (acked space w.core w.host.session (first_of w.host.counter k) k (page k m) x) h

  pub room : Judged true → k < 256
  room h = acked_room space w.core w.host.session (first_of w.host.counter k) k (page k m) x (byte_acked h)

  pub taken : Judged true → wire_result Ack (side_line (next_address w.host.counter) (DataLeg kept space (suc k) false) w) (set m (page_place + k) x)
      ≡ data_byte kept space k spoiled w m x
  unfolding data_of pick
  taken h = rw (not-true spoiled (and_left (not spoiled) (acked space w.core w.host.session (first_of w.host.counter k) k (page k m) x) h), byte_acked h)

  pub in_spoiled : spoiled ≡ true → wire_result NoAck w m ≡ data_byte kept space k spoiled w m x
  unfolding pick
  in_spoiled h = rw h

  pub spoils : Judged false → spoiled ≡ false → wire_result NoAck (side_bus (DataLeg kept space k true) w) m ≡ data_byte kept space k spoiled w m x
  unfolding data_of pick
  spoils h g = rw (g, rw g at h)

  pub judged : (asked : WriteAsked) (v : Result ⊤ WriteReason) (b : Bool) → asked ≡ asked_byte w.host.session spoiled space (first_of w.host.counter k) k x
      → v ≡ write_verdict (situation_of w.core m asked) → b ≡ is_ok v → Judged b
  judged asked v b e f g =
      sym (g ∙ ap is_ok f ∙ ap (λ (a : WriteAsked). is_ok (write_verdict (situation_of w.core m a))) e
      ∙ byte_agrees space w.core w.host.session spoiled (first_of w.host.counter k) k (page k m) x)
