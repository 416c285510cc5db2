-- The whole transfer is what its signals give one by one. Assumes nothing.
use Rattle.std.specs.Prelude.{Option}
use Rattle.bus.specs.declared.OpenTransfer.{OpenTransfer}
use mathlib.Core.Path.{◌≡◌, refl, sym, ap, ◌∙◌}
use mathlib.Core.Bool.{Bool, true, false, false≢true}
use mathlib.Core.List.{List, [], ◌∷◌, ◌++◌, append-nil, append_assoc}
use Prim.Native.Nat.{ℕ}
use lib.ListN.{length}
use lib.Seq.{length-sets}
use Rattle.parts.specs.Pick.{pick}
use Rattle.parts.proofs.Picks.{pick_true, pick_false, pick_map}
use Rattle.bus.specs.declared.Space.TheVariants.{User, System}
use Rattle.bus.specs.declared.Bus.{Bus}
use Rattle.bus.specs.declared.Bus.TheVariants.{Idle, Started}
use Rattle.tag.specs.declared.Host.{Host}
use Rattle.tag.specs.declared.WireSide.{WireSide}
use Rattle.keys.specs.declared.Uid.{Uid}
use Rattle.bus.specs.Bus.{transfer_at, kept_of}
use Rattle.tag.specs.Supply.{vcc_off, vcc_at}
use Rattle.select.specs.declared.Choice.{Choice}
use Rattle.select.specs.declared.Choice.TheVariants.{NotAcked, Reading, Writing}
use Rattle.select.specs.Select.{select_of, choose}
use Rattle.effect.specs.Effect.{LegResult, leg_result}
use Rattle.leg.specs.Leg.{stopped, started, power_lost, Due, nothing_due, clears, writes, acts_at_start, leg_written, settle}
use Rattle.dynamic.specs.Dynamic.{host_writes}
use Rattle.user_leg.specs.UserLeg.{user_written}
use Rattle.signal.specs.declared.WireAnswer.TheVariants.{Nothing, NoAck}
use Rattle.signal.specs.Signal.{WireResult, wire_result, side_bus, due_of, start_at, start_of, stop_at}
use Rattle.signal.proofs.Ended.{start_host, start_memory}
use Rattle.wire.specs.Passed.{select_by, send_at}
use Rattle.wire.specs.Wire.{fetch_at, signal_of}
use Rattle.transfer.specs.Legs.{Noted, NotedStart, NotedSend, NotedFetch, NotedStop, NotedVccOff, wire_signal, select_refused, Move, move_send, move_fetch, Finish, at_stop, at_vcc_off, at_refusal, Legs, leg, last, parse}
use Rattle.transfer.specs.Whole.{TransferResult, transfer_result, before, Leg, selected_leg, leg_of, counting, filled, last_leg, legs_of, transfer_of}
use Rattle.transfer.specs.Claim.{run_of, Ready, TransferBySignals}
use Rattle.transfer.proofs.Run.{step_of, signals, run_then, first_then, still}
use Rattle.transfer.proofs.LegRun.{Goes, leg_goes}
use Rattle.transfer.proofs.Parse.{end_signals, render, refuses, done, parted}

-- ---- the end of a leg, by what is due
-- the same with another bus
abbrev on_bus : Bus → LegResult → LegResult
on_bus b r = leg_result (side_bus b r.side) r.memory

picks_on : (F : LegResult → LegResult) (p q r : Bool) (x y z t : LegResult)
    → pick p (F x) (pick q (F y) (pick r (F z) (F t))) ≡ F (pick p x (pick q y (pick r z t)))
unfolding pick
picks_on F true q r x y z t = refl
picks_on F false true r x y z t = refl
picks_on F false false true x y z t = refl
picks_on F false false false x y z t = refl

user_bus : (b : Bus) (w : WireSide) (m : List ℕ) (f : ℕ) (xs : List ℕ) → user_written (side_bus b w) m f xs ≡ on_bus b (user_written w m f xs)
unfolding user_written
user_bus b w m f xs = picks_on (on_bus b) _ _ _ _ _ _ _

start_bus : (d : Due) (b : Bus) (w : WireSide) (m : List ℕ) → settle started d (side_bus b w) m ≡ on_bus b (settle started d w m)
unfolding settle acts_at_start leg_written pick
start_bus nothing_due b w m = refl
start_bus clears b w m = refl
start_bus (writes User f xs) b w m =
    ap (λ (r : LegResult). pick (host_writes f) r (leg_result (side_bus b w) m)) (user_bus b w m f xs)
    ∙ sym (pick_map (on_bus b) (host_writes f) (user_written w m f xs) (leg_result w m))
start_bus (writes System f xs) b w m = refl

off_any : (d : Due) (b : Bus) (w : WireSide) (m : List ℕ)
    → leg_result (vcc_off (side_bus b w)) m ≡ leg_result (vcc_off (settle power_lost d w m).side) (settle power_lost d w m).memory
unfolding settle
off_any nothing_due b w m = refl
off_any clears b w m = refl
off_any (writes s f xs) b w m = refl

-- what a signal gives that answers nothing
abbrev pub quiet : LegResult → WireResult
quiet r = wire_result Nothing r.side r.memory

starts : (b : Bus) (w : WireSide) (u : Uid) (m : List ℕ) (d : Due) → w.host.vcc ≡ true → due_of b w.host.counter m ≡ d
    → step_of (side_bus b w) u m NotedStart ≡ wire_result Nothing (side_bus (Started (transfer_at b)) (settle started d w m).side) (settle started d w m).memory
unfolding signal_of wire_signal start_of start_at
starts b w u m d v h =
    sym (pick_true _ _ _ w.host.vcc v
    (sym (ap (λ (d : Due). quiet (settle started d (side_bus (Started (transfer_at b)) w) m)) h ∙ ap quiet (start_bus d (Started (transfer_at b)) w m))))

stops : (b : Bus) (w : WireSide) (u : Uid) (m : List ℕ) (d : Due) → due_of b w.host.counter m ≡ d
    → step_of (side_bus b w) u m NotedStop ≡ quiet (settle stopped d (side_bus Idle w) m)
unfolding signal_of wire_signal stop_at
stops b w u m d h = ap (λ (d : Due). quiet (settle stopped d (side_bus Idle w) m)) h

off_at : (w : WireSide) → w.host.vcc ≡ true → vcc_at false w ≡ vcc_off w
unfolding vcc_at
off_at w v = sym (pick_false _ _ _ false refl (pick_true _ _ _ w.host.vcc v refl))

offs : (b : Bus) (w : WireSide) (u : Uid) (m : List ℕ) (d : Due) → w.host.vcc ≡ true
    → step_of (side_bus b w) u m NotedVccOff ≡ wire_result Nothing (vcc_off (settle power_lost d w m).side) (settle power_lost d w m).memory
unfolding signal_of wire_signal
offs b w u m d v = ap (λ (x : WireSide). wire_result Nothing x m) (off_at (side_bus b w) v) ∙ ap quiet (off_any d b w m)

-- ---- a leg whose select is not Acked
refused_by : (c : Choice) → select_refused c ≡ true → c ≡ NotAcked
unfolding select_refused
refused_by NotAcked h = refl
refused_by (Reading s) h = absurd (false≢true h)
refused_by (Writing s) h = absurd (false≢true h)

choose_ready : (x : ℕ) (v p : Bool) → v ≡ true → p ≡ false → choose v p x ≡ select_of x
unfolding choose pick
choose_ready x v p h k = rw (h, k)

refused_run : (w : WireSide) (u : Uid) (m : List ℕ) (o : Option OpenTransfer) (x : ℕ) (ms : List Move) (c : Choice)
    → choose w.host.vcc w.host.programming x ≡ c → c ≡ NotAcked
    → run_of (side_bus (Started o) w) u m (NotedSend x ∷ signals ms) ≡ transfer_result (selected_leg c w u m ms).answers (side_bus Idle w) m
unfolding selected_leg select_by signal_of wire_signal send_at fetch_at
refused_run w u m o x ms c q h =
    first_then (side_bus (Started o) w) u m (NotedSend x) (signals ms) (wire_result NoAck (side_bus Idle w) m) _
    (ap (λ (c : Choice). select_by c (kept_of o w.core.registers.dynamic) (side_bus (Started o) w) m) (q ∙ h)) (still (side_bus Idle w) u m (λ x. refl) (λ a. refl) ms)
    ∙ ap (λ (c : Choice). transfer_result (selected_leg c w u m ms).answers (side_bus Idle w) m) (sym h)

refused_leg : (w : WireSide) (u : Uid) (m : List ℕ) (o : Option OpenTransfer) → Ready w m → (ms : List Move) → refuses true ms ≡ true
    → run_of (side_bus (Started o) w) u m (signals ms) ≡ transfer_result (leg_of w u m ms).answers (side_bus Idle w) m
unfolding refuses leg_of signals signal_of wire_signal fetch_at
refused_leg w u m o y [] h = absurd (false≢true h)
refused_leg w u m o y (move_fetch a ∷ ms) h = first_then (side_bus (Started o) w) u m (NotedFetch a) (signals ms) _ _ refl (refused_leg w u m o y ms h)
refused_leg w u m o y (move_send x ∷ ms) h =
    refused_run w u m o x ms (choose w.host.vcc w.host.programming x) refl
    (choose_ready x w.host.vcc w.host.programming y.vcc y.still ∙ refused_by _ h)

-- ---- the last leg
last_stop : (w : WireSide) (u : Uid) (m : List ℕ) (e : Leg) (n : List Noted) (v : WireSide) → Goes w m (run_of v u m n) e
    → run_of v u m (n ++ NotedStop ∷ []) ≡ last_leg at_stop e w m
unfolding last_leg run_of
last_stop w u m e n v g =
    run_then n (NotedStop ∷ []) v u m _ g.run
    ∙ ap (λ (x : WireResult). transfer_result (e.answers ++ x.answer ∷ []) x.side x.memory) (stops g.bus (counting e w) u (filled e m) e.due g.due)

last_off : (w : WireSide) (u : Uid) (m : List ℕ) (e : Leg) (n : List Noted) (v : WireSide) → w.host.vcc ≡ true → Goes w m (run_of v u m n) e
    → run_of v u m (n ++ NotedVccOff ∷ []) ≡ last_leg at_vcc_off e w m
unfolding last_leg run_of
last_off w u m e n v h g =
    run_then n (NotedVccOff ∷ []) v u m _ g.run
    ∙ ap (λ (x : WireResult). transfer_result (e.answers ++ x.answer ∷ []) x.side x.memory) (offs g.bus (counting e w) u (filled e m) e.due h)

last_refused : (w : WireSide) (u : Uid) (m : List ℕ) (o : Option OpenTransfer) → Ready w m → (ms : List Move) → refuses true ms ≡ true
    → run_of (side_bus (Started o) w) u m (signals ms ++ []) ≡ last_leg at_refusal (leg_of w u m ms) w m
unfolding last_leg
last_refused w u m o y ms h = ap (run_of (side_bus (Started o) w) u m) (append-nil (signals ms)) ∙ refused_leg w u m o y ms h

last_run : (w : WireSide) (u : Uid) (m : List ℕ) (o : Option OpenTransfer) → Ready w m → (ms : List Move) (end : Finish) → done true (last ms end) ≡ true
    → run_of (side_bus (Started o) w) u m (signals ms ++ end_signals end) ≡ last_leg end (leg_of w u m ms) w m
unfolding done end_signals
last_run w u m o y ms at_stop h = last_stop w u m (leg_of w u m ms) (signals ms) (side_bus (Started o) w) (leg_goes w u m y.bytes o ms)
last_run w u m o y ms at_vcc_off h = last_off w u m (leg_of w u m ms) (signals ms) (side_bus (Started o) w) y.vcc (leg_goes w u m y.bytes o ms)
last_run w u m o y ms at_refusal h = last_refused w u m o y ms h

-- ---- a leg, a Start and the rest
start_ready : (w : WireSide) (m : List ℕ) (e : Leg) → Ready w m
    → Ready (settle started e.due (counting e w) (filled e m)).side (settle started e.due (counting e w) (filled e m)).memory
start_ready w m e y = record {
  vcc = ap (λ (h : Host). h.vcc) (start_host e.due (counting e w) (filled e m)) ∙ y.vcc;
  still = ap (λ (h : Host). h.programming) (start_host e.due (counting e w) (filled e m)) ∙ y.still;
  bytes = ap (λ (m : List ℕ). length m) (start_memory e.due (counting e w) (filled e m)) ∙ length-sets m 768 e.page ∙ y.bytes;
}

leg_run : (w : WireSide) (u : Uid) (m : List ℕ) (o : Option OpenTransfer) → Ready w m → (ms : List Move) (n : List Noted) (rest : WireSide → List ℕ → TransferResult)
    → ((w : WireSide) (m : List ℕ) (o : Option OpenTransfer) → Ready w m → run_of (side_bus (Started o) w) u m n ≡ rest w m)
    → (e : Leg) → Goes w m (run_of (side_bus (Started o) w) u m (signals ms)) e
    → run_of (side_bus (Started o) w) u m (signals ms ++ NotedStart ∷ n)
    ≡ before (e.answers ++ Nothing ∷ [])
    (rest (settle started e.due (counting e w) (filled e m)).side (settle started e.due (counting e w) (filled e m)).memory)
leg_run w u m o y ms n rest ih e g =
    let r = settle started e.due (counting e w) (filled e m) in
    run_then (signals ms) (NotedStart ∷ n) (side_bus (Started o) w) u m _ g.run
    ∙ ap (before e.answers) (first_then (side_bus g.bus (counting e w)) u (filled e m) NotedStart n _ _
    (starts g.bus (counting e w) u (filled e m) e.due y.vcc g.due)
    (ih r.side r.memory (transfer_at g.bus) (start_ready w m e y)))
    ∙ rw (append_assoc e.answers (Nothing ∷ []))

pub legs_run : (l : Legs) → done true l ≡ true → (u : Uid) (w : WireSide) (m : List ℕ) (o : Option OpenTransfer) → Ready w m
    → run_of (side_bus (Started o) w) u m (render l) ≡ legs_of w u m l
unfolding render done legs_of
legs_run (last ms end) h u w m o y = last_run w u m o y ms end h
legs_run (leg ms l) h u w m o y =
    leg_run w u m o y ms (render l) (λ (w : WireSide) (m : List ℕ). legs_of w u m l) (legs_run l h u) (leg_of w u m ms) (leg_goes w u m y.bytes o ms)

-- the theorem
pub transfer_by_signals : TransferBySignals
unfolding transfer_of
transfer_by_signals n h w u m o y =
    let p = parted n true h in
    sym (ap (run_of (side_bus (Started o) w) u m) (sym p.same) ∙ legs_run (parse n) p.ends u w m o y)
