-- The data of a write leg. Assumes nothing.
use mathlib.Core.Path.{◌≡◌, refl, sym, ap, ◌∙◌}
use mathlib.Core.Bool.{Bool, true, false}
use mathlib.Core.List.{List, [], ◌∷◌, ◌++◌}
use Prim.Native.Nat.{ℕ, suc, ◌+◌, ◌<◌}
use native.Mathlib.Omega.{arith}
use native.Mathlib.Nat.{add-zero}
use lib.Dec.{ltb, leb-suc-suc}
use borrow.Author.Tests.{lt-ltb}
use lib.ListN.{length, take, set, length-set, length-append}
use lib.Seq.{sets}
use Rattle.parts.specs.Pick.{pick}
use Rattle.parts.proofs.Picks.{pick_true, pick_false}
use Rattle.bus.specs.declared.Space.{Space}
use Rattle.bus.specs.declared.OpenTransfer.{OpenTransfer}
use Rattle.bus.specs.declared.Bus.TheVariants.{DataLeg}
use Rattle.tag.specs.declared.WireSide.{WireSide}
use Rattle.keys.specs.declared.Uid.{Uid}
use Rattle.bus.specs.Bus.{next_address}
use Rattle.tag.specs.Layout.{page}
use Rattle.select.specs.Select.{first_of}
use Rattle.rule.specs.Rule.{acked}
use Rattle.rule.proofs.AckedByte.{acked_room}
use Rattle.select.proofs.First.{first_next}
use Rattle.signal.specs.declared.WireAnswer.TheVariants.{Ack, NoAck}
use Rattle.signal.specs.Signal.{wire_result, side_line}
use Rattle.wire.specs.Passed.{data_of, send_at}
use Rattle.wire.specs.Wire.{fetch_at, signal_of}
use Rattle.transfer.specs.Legs.{NotedSend, NotedFetch, wire_signal, Move, move_send, move_fetch}
use Rattle.transfer.specs.Whole.{TransferResult, transfer_result, before, bytes_sent, replies, onward, accepted}
use Rattle.transfer.specs.Claim.{run_of}
use Rattle.transfer.proofs.Page.{page_set}
use Rattle.transfer.proofs.Run.{step_of, signals, first_then, still}

module _ (w : WireSide) (u : Uid) (kept : OpenTransfer) (s : Space) (f : ℕ) where
  -- byte x is Acked, after the bytes e
  abbrev pub takes : ℕ → List ℕ → ℕ → Bool
  takes k e x = acked s w.core w.host.session f k e x

  -- a leg with k bytes on the page, which are e
  pub record Has (m : List ℕ) (c k : ℕ) (e : List ℕ) : Type 0 where
    pub bytes : length m ≡ 1024
    pub count : length e ≡ k
    pub page_is : page k m ≡ e
    pub first : first_of c k ≡ f

  -- a byte that is judged
  module _ (m : List ℕ) (c k : ℕ) (e : List ℕ) (x : ℕ) (g : Has m c k e) where
    judged : (b : Bool) → takes k e x ≡ b → acked s w.core w.host.session (first_of c k) k (page k m) x ≡ b
    judged b h = rw (g.page_is, g.first) h

    send_data : step_of (side_line c (DataLeg kept s k false) w) u m (NotedSend x) ≡ data_of kept s k (side_line c (DataLeg kept s k false) w) m x
    unfolding signal_of wire_signal send_at pick
    send_data = refl

    taken : takes k e x ≡ true
        → step_of (side_line c (DataLeg kept s k false) w) u m (NotedSend x) ≡ wire_result Ack (side_line (next_address c) (DataLeg kept s (suc k) false) w) (set m (768 + k) x)
    unfolding data_of
    taken h = send_data ∙ sym (pick_true _ _ _ _ (judged true h) refl)

    spoils : takes k e x ≡ false
        → step_of (side_line c (DataLeg kept s k false) w) u m (NotedSend x) ≡ wire_result NoAck (side_line c (DataLeg kept s k true) w) m
    unfolding data_of
    spoils h = send_data ∙ sym (pick_false _ _ _ _ (judged false h) refl)

    has_more : k < 256 → Has (set m (768 + k) x) (next_address c) (suc k) (e ++ x ∷ [])
    has_more r = record {
      bytes = length-set m (768 + k) x ∙ g.bytes;
      count = omega (arith, length-append e (x ∷ []), g.count);
      page_is = page_set m k x g.bytes r ∙ ap (λ (e : List ℕ). e ++ x ∷ []) g.page_is;
      first = first_next c k r ∙ g.first;
    }

  -- j of the bytes in ms are Acked, with k on the page
  abbrev pub data_ran : List ℕ → ℕ → ℕ → List Move → ℕ → TransferResult
  data_ran m c k ms j =
      transfer_result (replies j [] ms) (side_line (onward j c) (DataLeg kept s (k + j) (ltb j (length (bytes_sent ms)))) w) (sets m (768 + k) (take j (bytes_sent ms)))

  one_more : (m : List ℕ) (c k x : ℕ) (ms : List Move) (j : ℕ)
      → before (Ack ∷ []) (data_ran (set m (768 + k) x) (next_address c) (suc k) ms j) ≡ data_ran m c k (move_send x ∷ ms) (suc j)
  unfolding bytes_sent replies onward
  one_more m c k x ms j =
      let a : suc k + j ≡ k + suc j = omega arith in
      let b : 768 + suc k ≡ suc (768 + k) = omega arith in
      rw (a, b, leb-suc-suc (suc j) (length (bytes_sent ms)))

  abbrev pub Law : List Move → Type 0
  Law ms = (m : List ℕ) (c k : ℕ) (e : List ℕ) → Has m c k e
      → run_of (side_line c (DataLeg kept s k false) w) u m (signals ms) ≡ data_ran m c k ms (accepted s w f e (bytes_sent ms))

  data_more : (x : ℕ) (ms : List Move) → Law ms → (m : List ℕ) (c k : ℕ) (e : List ℕ) → Has m c k e
      → (b : Bool) → takes k e x ≡ b
      → run_of (side_line c (DataLeg kept s k false) w) u m (signals (move_send x ∷ ms))
      ≡ data_ran m c k (move_send x ∷ ms) (pick b (suc (accepted s w f (e ++ x ∷ []) (bytes_sent ms))) 0)
  unfolding signals bytes_sent pick replies onward signal_of wire_signal send_at fetch_at
  data_more x ms ih m c k e g true q =
      first_then _ u m (NotedSend x) (signals ms) _ _ (taken m c k e x g q)
      (ih (set m (768 + k) x) (next_address c) (suc k) (e ++ x ∷ []) (has_more m c k e x g (acked_room s w.core w.host.session f k e x q)))
      ∙ one_more m c k x ms _
  data_more x ms ih m c k e g false q =
      first_then _ u m (NotedSend x) (signals ms) _ _ (spoils m c k e x g q) (still _ u m (λ x. refl) (λ a. refl) ms)
      ∙ rw (add-zero, lt-ltb 0 (suc (length (bytes_sent ms))) (omega arith))

  pub data_run : (ms : List Move) → Law ms
  unfolding run_of signals bytes_sent accepted replies onward signal_of wire_signal fetch_at
  data_run [] m c k e g = rw add-zero
  data_run (move_send x ∷ ms) m c k e g = data_more x ms (data_run ms) m c k e g (takes k e x) refl ∙ rw g.count
  data_run (move_fetch a ∷ ms) m c k e g =
      first_then (side_line c (DataLeg kept s k false) w) u m (NotedFetch a) (signals ms) _ _ refl (data_run ms m c k e g)
