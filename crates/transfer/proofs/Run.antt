-- Runs of signals. Assumes nothing.
use mathlib.Core.Path.{◌≡◌, refl, ap, ◌∙◌}
use mathlib.Core.Bool.{Bool}
use mathlib.Core.List.{List, [], ◌∷◌, ◌++◌}
use Prim.Native.Nat.{ℕ}
use Rattle.tag.specs.declared.WireSide.{WireSide}
use Rattle.keys.specs.declared.Uid.{Uid}
use Rattle.signal.specs.declared.WireAnswer.TheVariants.{NoAck, Byte}
use Rattle.signal.specs.Signal.{WireResult, wire_result}
use Rattle.wire.specs.Wire.{signal_of}
use Rattle.transfer.specs.Legs.{Noted, NotedSend, NotedFetch, wire_signal, Move, move_send, move_fetch}
use Rattle.transfer.specs.Whole.{TransferResult, transfer_result, before, replies}
use Rattle.transfer.specs.Claim.{run_of}

abbrev pub step_of : WireSide → Uid → List ℕ → Noted → WireResult
step_of w u m s = signal_of w u m (wire_signal s)

-- the signals of a leg's moves
unfoldable pub signals : List Move → List Noted
signals [] = []
signals (move_send x ∷ ms) = NotedSend x ∷ signals ms
signals (move_fetch a ∷ ms) = NotedFetch a ∷ signals ms

pub run_append : (a b : List Noted) (w : WireSide) (u : Uid) (m : List ℕ)
    → run_of w u m (a ++ b) ≡ before (run_of w u m a).answers (run_of (run_of w u m a).side u (run_of w u m a).memory b)
unfolding run_of
run_append [] b w u m = refl
run_append (s ∷ a) b w u m = rw (run_append a b (step_of w u m s).side u (step_of w u m s).memory)

-- a run after a run that is known
pub run_then : (a b : List Noted) (w : WireSide) (u : Uid) (m : List ℕ) (r : TransferResult) → run_of w u m a ≡ r
    → run_of w u m (a ++ b) ≡ before r.answers (run_of r.side u r.memory b)
run_then a b w u m r h = run_append a b w u m ∙ ap (λ (q : TransferResult). before q.answers (run_of q.side u q.memory b)) h

-- a run whose first step is known
pub first : (w : WireSide) (u : Uid) (m : List ℕ) (s : Noted) (n : List Noted) (e : WireResult) → step_of w u m s ≡ e
    → run_of w u m (s ∷ n) ≡ before (e.answer ∷ []) (run_of e.side u e.memory n)
unfolding run_of
first w u m s n e h = ap (λ (e : WireResult). before (e.answer ∷ []) (run_of e.side u e.memory n)) h

-- .. and the rest of it too
pub first_then : (w : WireSide) (u : Uid) (m : List ℕ) (s : Noted) (n : List Noted) (e : WireResult) (r : TransferResult) → step_of w u m s ≡ e
    → run_of e.side u e.memory n ≡ r → run_of w u m (s ∷ n) ≡ before (e.answer ∷ []) r
first_then w u m s n e r h k = first w u m s n e h ∙ ap (before (e.answer ∷ [])) k

-- nothing moves
pub still : (w : WireSide) (u : Uid) (m : List ℕ) → ((x : ℕ) → step_of w u m (NotedSend x) ≡ wire_result NoAck w m)
    → ((a : Bool) → step_of w u m (NotedFetch a) ≡ wire_result (Byte 0xFF) w m)
    → (ms : List Move) → run_of w u m (signals ms) ≡ transfer_result (replies 0 [] ms) w m
unfolding run_of signals replies
still w u m p q [] = refl
still w u m p q (move_send x ∷ ms) = first_then w u m (NotedSend x) (signals ms) _ _ (p x) (still w u m p q ms)
still w u m p q (move_fetch a ∷ ms) = first_then w u m (NotedFetch a) (signals ms) _ _ (q a) (still w u m p q ms)
