-- A read leg past its select. Assumes nothing.
use mathlib.Core.Path.{◌≡◌, refl, ◌∙◌}
use mathlib.Core.Bool.{Bool, true, false, not, ◌||◌, or-false, or_assoc}
use mathlib.Core.List.{List, [], ◌∷◌}
use Prim.Native.Nat.{ℕ}
use Rattle.parts.specs.Pick.{pick}
use Rattle.bus.specs.declared.Space.{Space}
use Rattle.bus.specs.declared.OpenTransfer.{OpenTransfer}
use Rattle.bus.specs.declared.Bus.TheVariants.{ReadLeg}
use Rattle.tag.specs.declared.WireSide.{WireSide}
use Rattle.keys.specs.declared.Uid.{Uid}
use Rattle.bus.specs.Bus.{next_address}
use Rattle.fetch.specs.Fetch.{fetched, is_last}
use Rattle.signal.specs.declared.WireAnswer.TheVariants.{Byte}
use Rattle.signal.specs.Signal.{wire_result, side_line}
use Rattle.wire.specs.Passed.{send_at}
use Rattle.wire.specs.Wire.{fetch_at, signal_of}
use Rattle.transfer.specs.Legs.{NotedSend, NotedFetch, wire_signal, Move, move_send, move_fetch}
use Rattle.transfer.specs.Whole.{transfer_result, served, replies, onward, bytes_fetched, last_among}
use Rattle.transfer.specs.Claim.{run_of}
use Rattle.transfer.proofs.Run.{step_of, signals, first_then, still}

-- the host has NoAcked
unfoldable pub over : List Move → Bool
over [] = false
over (move_send x ∷ ms) = over ms
over (move_fetch true ∷ ms) = over ms
over (move_fetch false ∷ ms) = true

fetch_step : (kept : OpenTransfer) (s : Space) (l : Bool) (c : ℕ) (w : WireSide) (u : Uid) (m : List ℕ) (a : Bool)
    → step_of (side_line c (ReadLeg kept s false l) w) u m (NotedFetch a)
    ≡ wire_result (Byte (fetched s w.core w.host.session u m c)) (side_line (next_address c) (ReadLeg kept s (not a) (l || is_last s w.core.mailbox c)) w) m
unfolding signal_of wire_signal fetch_at pick
fetch_step kept s l c w u m a = refl

pub fetch_run : (ms : List Move) (w : WireSide) (u : Uid) (m : List ℕ) (kept : OpenTransfer) (s : Space) (c : ℕ) (l : Bool)
    → run_of (side_line c (ReadLeg kept s false l) w) u m (signals ms)
    ≡ transfer_result (replies 0 (bytes_fetched s w u m c (served ms)) ms) (side_line (onward (served ms) c) (ReadLeg kept s (over ms) (l || last_among s w c (served ms))) w) m
unfolding run_of signals replies served onward bytes_fetched last_among over signal_of wire_signal send_at fetch_at pick
fetch_run [] w u m kept s c l = rw or-false
fetch_run (move_send x ∷ ms) w u m kept s c l =
    first_then (side_line c (ReadLeg kept s false l) w) u m (NotedSend x) (signals ms) _ _ refl (fetch_run ms w u m kept s c l)
fetch_run (move_fetch true ∷ ms) w u m kept s c l =
    first_then (side_line c (ReadLeg kept s false l) w) u m (NotedFetch true) (signals ms) _ _ (fetch_step kept s l c w u m true)
    (fetch_run ms w u m kept s (next_address c) (l || is_last s w.core.mailbox c))
    ∙ rw (or_assoc l (is_last s w.core.mailbox c))
fetch_run (move_fetch false ∷ ms) w u m kept s c l =
    first_then (side_line c (ReadLeg kept s false l) w) u m (NotedFetch false) (signals ms) _ _ (fetch_step kept s l c w u m false)
    (still _ u m (λ x. refl) (λ a. refl) ms)
    ∙ rw or-false
