-- A leg, from its Start to its end. Assumes nothing.
use Rattle.std.specs.Prelude.{Option}
use mathlib.Core.Path.{◌≡◌, refl, sym, ap, ◌∙◌}
use mathlib.Core.Bool.{Bool, true, false, ◌||◌}
use mathlib.Core.List.{List, [], ◌∷◌, ◌++◌}
use Prim.Native.Nat.{ℕ, zero, suc, ◌+◌, ◌≤◌, ◌<◌}
use native.Mathlib.Omega.{arith}
use native.Mathlib.Nat.{zero-add, add-zero}
use lib.Dec.{ltb, eqb}
use borrow.Author.Tests.{ltb-false}
use lib.ListN.{length, take, length-append}
use lib.Seq.{sets, take_all, length-take-le}
use Rattle.parts.specs.Pick.{pick}
use Rattle.parts.specs.Bytes.{bytes_at}
use Rattle.bus.specs.declared.Space.{Space}
use Rattle.bus.specs.declared.OpenTransfer.{OpenTransfer}
use Rattle.bus.specs.declared.Bus.{Bus}
use Rattle.bus.specs.declared.Bus.TheVariants.{Idle, Started, ReadLeg, WriteLeg, LowAddress, DataLeg}
use Rattle.tag.specs.declared.WireSide.{WireSide}
use Rattle.keys.specs.declared.Uid.{Uid}
use Rattle.bus.specs.Bus.{kept_of, next_address}
use Rattle.tag.specs.Layout.{page}
use Rattle.select.specs.declared.Choice.{Choice}
use Rattle.select.specs.declared.Choice.TheVariants.{NotAcked, Reading, Writing}
use Rattle.select.specs.Select.{choose, address, first_of}
use Rattle.rule.specs.Rule.{acked}
use Rattle.rule.proofs.AckedByte.{acked_room}
use Rattle.select.proofs.First.{first_next}
use Rattle.leg.specs.Leg.{nothing_due, writes}
use Rattle.signal.specs.declared.WireAnswer.TheVariants.{Ack, NoAck, Byte}
use Rattle.signal.specs.Signal.{WireResult, wire_result, side_bus, side_line, due_of}
use Rattle.wire.specs.Passed.{select_by, send_at}
use Rattle.wire.specs.Wire.{fetch_at, signal_of}
use Rattle.transfer.specs.Legs.{Noted, NotedSend, NotedFetch, wire_signal, Move, move_send, move_fetch}
use Rattle.transfer.specs.Whole.{TransferResult, transfer_result, bytes_sent, served, replies, onward, last_among, accepted, Leg, answering, idle_leg, read_leg, data_leg, write_leg, selected_leg, leg_of, filled}
use Rattle.transfer.specs.Claim.{run_of}
use Rattle.transfer.proofs.Page.{page_sets}
use Rattle.transfer.proofs.Run.{step_of, signals, first_then, still}
use Rattle.transfer.proofs.FetchRun.{over, fetch_run}
use Rattle.transfer.proofs.DataRun.{data_run}

-- the run r is the leg e, from wire side w and bytes m
pub record Goes (w : WireSide) (m : List ℕ) (r : TransferResult) (e : Leg) : Type 0 where
  pub bus : Bus
  pub run : r ≡ transfer_result e.answers (side_line e.counter bus w) (filled e m)
  pub due : due_of bus e.counter (filled e m) ≡ e.due

more : (w : WireSide) (u : Uid) (m : List ℕ) (v : WireSide) (s : Noted) (n : List Noted) (x : WireResult) (e : Leg) → step_of v u m s ≡ x → x.memory ≡ m
    → Goes w m (run_of x.side u m n) e → Goes w m (run_of v u m (s ∷ n)) (answering x.answer e)
more w u m v s n x e h k g =
    record { bus = g.bus; run = first_then v u m s n x _ h (ap (λ (m : List ℕ). run_of x.side u m n) k ∙ g.run); due = g.due }

-- ---- the page holds the bytes that were Acked
abbrev pub Room : Space → WireSide → ℕ → List ℕ → List ℕ → Type 0
Room s w f e xs = length e ≤ 256 → (length e + accepted s w f e xs ≤ 256) × (accepted s w f e xs ≤ length xs)

accepted_more : (s : Space) (w : WireSide) (f : ℕ) (e : List ℕ) (x : ℕ) (xs : List ℕ) → Room s w f (e ++ x ∷ []) xs
    → length e ≤ 256 → (b : Bool) → acked s w.core w.host.session f (length e) e x ≡ b
    → (length e + pick b (suc (accepted s w f (e ++ x ∷ []) xs)) 0 ≤ 256) × (pick b (suc (accepted s w f (e ++ x ∷ []) xs)) 0 ≤ suc (length xs))
unfolding pick
accepted_more s w f e x xs ih h true q =
    let r = acked_room s w.core w.host.session f (length e) e x q in
    let a = length-append e (x ∷ []) in
    let i = ih (omega arith) in
    (omega arith, omega arith)
accepted_more s w f e x xs ih h false q = (omega arith, omega arith)

accepted_room : (s : Space) (w : WireSide) (f : ℕ) (xs e : List ℕ) → Room s w f e xs
unfolding accepted
accepted_room s w f [] e h = (omega arith, omega arith)
accepted_room s w f (x ∷ xs) e h =
    accepted_more s w f e x xs (accepted_room s w f xs (e ++ x ∷ [])) h (acked s w.core w.host.session f (length e) e x) refl

first_onward : (j c k : ℕ) → k + j ≤ 256 → first_of (onward j c) (k + j) ≡ first_of c k
unfolding onward
first_onward zero c k h = rw add-zero
first_onward (suc j) c k h =
    let a : k + suc j ≡ suc k + j = omega arith in
    rw a (first_onward j (next_address c) (suc k) (omega arith) ∙ first_next c k (omega arith))

first_there : (f : ℕ) → f < 65536 → first_of f 0 ≡ f
unfolding first_of
first_there f h = omega arith

due_data : (s : Space) (f g : ℕ) (m xs : List ℕ) (j : ℕ) → g ≡ f → length m ≡ 1024 → j ≤ 256 → j ≤ length xs
    → (b : Bool) → ltb j (length xs) ≡ b
    → pick (b || eqb j 0) nothing_due (writes s g (page j (sets m 768 (take j xs)))) ≡ pick (b || eqb j 0) nothing_due (writes s f xs)
unfolding pick
due_data s f g m xs j v h r l true q = refl
due_data s f g m xs j v h r l false q =
    let a : length xs ≤ j = ltb-false j (length xs) q in
    rw (v, page_sets m (take j xs) j h (length-take-le j xs l) r, take_all j xs a)

module _ (w : WireSide) (u : Uid) (m : List ℕ) (whole : length m ≡ 1024) (kept : OpenTransfer) where
  -- past the address
  data_goes : (s : Space) (f : ℕ) → f < 65536 → (ms : List Move)
      → Goes w m (run_of (side_line f (DataLeg kept s 0 false) w) u m (signals ms))
      (data_leg s f (bytes_sent ms) (accepted s w f [] (bytes_sent ms)) (accepted s w f [] (bytes_sent ms)) ms)
  unfolding due_of bytes_at
  data_goes s f z ms =
      let j = accepted s w f [] (bytes_sent ms) in
      let start : 768 + 0 ≡ 768 = refl in
      let r = accepted_room s w f (bytes_sent ms) [] (omega arith) in
      let v : first_of (onward j f) j ≡ first_of f 0 = ap (first_of (onward j f)) (sym (zero-add j)) ∙ first_onward j f 0 (omega arith) in
      record {
        bus = DataLeg kept s j (ltb j (length (bytes_sent ms)));
        run = data_run w u kept s f ms m f 0 [] (record { bytes = whole; count = refl; page_is = refl; first = first_there f z }) ∙ rw (zero-add j, start);
        due = due_data s f (first_of (onward j f) j) m (bytes_sent ms) j (v ∙ first_there f z) whole (omega arith) r.1 (ltb j (length (bytes_sent ms))) refl;
      }

  -- past one byte of the address
  unfoldable low_leg : Space → ℕ → List ℕ → List Move → Leg
  low_leg s h [] ms = idle_leg 0 w ms
  low_leg s h (l ∷ xs) ms = data_leg s (address h l) xs (accepted s w (address h l) [] xs) (suc (accepted s w (address h l) [] xs)) ms

  low_fetch : (s : Space) (h : ℕ) (xs : List ℕ) (a : Bool) (ms : List Move) → low_leg s h xs (move_fetch a ∷ ms) ≡ answering (Byte 0xFF) (low_leg s h xs ms)
  unfolding low_leg replies
  low_fetch s h [] a ms = refl
  low_fetch s h (l ∷ xs) a ms = refl

  low_goes_nil : (s : Space) (h : ℕ) → Goes w m (run_of (side_bus (LowAddress kept s h) w) u m []) (low_leg s h [] [])
  unfolding run_of low_leg replies due_of
  low_goes_nil s h = record { bus = LowAddress kept s h; run = refl; due = refl }

  low_goes_fetch : (s : Space) (h : ℕ) (xs : List ℕ) (a : Bool) (ms : List Move)
      → Goes w m (run_of (side_bus (LowAddress kept s h) w) u m (signals ms)) (low_leg s h xs ms)
      → Goes w m (run_of (side_bus (LowAddress kept s h) w) u m (NotedFetch a ∷ signals ms)) (low_leg s h xs (move_fetch a ∷ ms))
  unfolding signal_of wire_signal fetch_at
  low_goes_fetch s h xs a ms g =
      rw (low_fetch s h xs a ms) (more w u m (side_bus (LowAddress kept s h) w) (NotedFetch a) (signals ms) _ _ refl refl g)

  low_goes_sent : (s : Space) (h l : ℕ) (ms : List Move)
      → Goes w m (run_of (side_bus (LowAddress kept s h) w) u m (NotedSend l ∷ signals ms)) (low_leg s h (l ∷ bytes_sent ms) (move_send l ∷ ms))
  unfolding low_leg replies signal_of wire_signal send_at
  low_goes_sent s h l ms =
      more w u m (side_bus (LowAddress kept s h) w) (NotedSend l) (signals ms) _ _ refl refl (data_goes s (address h l) (omega arith) ms)

  low_goes : (s : Space) (h : ℕ) (ms : List Move) → Goes w m (run_of (side_bus (LowAddress kept s h) w) u m (signals ms)) (low_leg s h (bytes_sent ms) ms)
  unfolding signals bytes_sent
  low_goes s h [] = low_goes_nil s h
  low_goes s h (move_fetch a ∷ ms) = low_goes_fetch s h (bytes_sent ms) a ms (low_goes s h ms)
  low_goes s h (move_send l ∷ ms) = low_goes_sent s h l ms

  -- past a write select
  write_fetch : (s : Space) (xs : List ℕ) (a : Bool) (ms : List Move) → write_leg s w xs (move_fetch a ∷ ms) ≡ answering (Byte 0xFF) (write_leg s w xs ms)
  unfolding write_leg replies
  write_fetch s [] a ms = refl
  write_fetch s (h ∷ []) a ms = refl
  write_fetch s (h ∷ l ∷ xs) a ms = refl

  write_sent : (s : Space) (h : ℕ) (xs : List ℕ) (ms : List Move) → write_leg s w (h ∷ xs) (move_send h ∷ ms) ≡ answering Ack (low_leg s h xs ms)
  unfolding write_leg low_leg replies
  write_sent s h [] ms = refl
  write_sent s h (l ∷ xs) ms = refl

  write_goes_nil : (s : Space) → Goes w m (run_of (side_bus (WriteLeg kept s) w) u m []) (write_leg s w [] [])
  unfolding run_of write_leg replies due_of
  write_goes_nil s = record { bus = WriteLeg kept s; run = refl; due = refl }

  write_goes_fetch : (s : Space) (xs : List ℕ) (a : Bool) (ms : List Move)
      → Goes w m (run_of (side_bus (WriteLeg kept s) w) u m (signals ms)) (write_leg s w xs ms)
      → Goes w m (run_of (side_bus (WriteLeg kept s) w) u m (NotedFetch a ∷ signals ms)) (write_leg s w xs (move_fetch a ∷ ms))
  unfolding signal_of wire_signal fetch_at
  write_goes_fetch s xs a ms g = rw (write_fetch s xs a ms) (more w u m (side_bus (WriteLeg kept s) w) (NotedFetch a) (signals ms) _ _ refl refl g)

  write_goes_sent : (s : Space) (h : ℕ) (ms : List Move)
      → Goes w m (run_of (side_bus (WriteLeg kept s) w) u m (NotedSend h ∷ signals ms)) (write_leg s w (h ∷ bytes_sent ms) (move_send h ∷ ms))
  unfolding signal_of wire_signal send_at
  write_goes_sent s h ms =
      rw (write_sent s h (bytes_sent ms) ms) (more w u m (side_bus (WriteLeg kept s) w) (NotedSend h) (signals ms) _ _ refl refl (low_goes s h ms))

  write_goes : (s : Space) (ms : List Move) → Goes w m (run_of (side_bus (WriteLeg kept s) w) u m (signals ms)) (write_leg s w (bytes_sent ms) ms)
  unfolding signals bytes_sent
  write_goes s [] = write_goes_nil s
  write_goes s (move_fetch a ∷ ms) = write_goes_fetch s (bytes_sent ms) a ms (write_goes s ms)
  write_goes s (move_send h ∷ ms) = write_goes_sent s h ms

  -- past a read select
  read_goes : (s : Space) (ms : List Move) → Goes w m (run_of (side_bus (ReadLeg kept s false false) w) u m (signals ms)) (read_leg s w u m (served ms) ms)
  unfolding due_of
  read_goes s ms = record {
    bus = ReadLeg kept s (over ms) (last_among s w w.host.counter (served ms));
    run = fetch_run ms w u m kept s w.host.counter false;
    due = refl;
  }

module _ (w : WireSide) (u : Uid) (m : List ℕ) (whole : length m ≡ 1024) where
  -- what an Acked select keeps
  abbrev kept : Option OpenTransfer → OpenTransfer
  kept o = kept_of o w.core.registers.dynamic

  select_goes : (o : Option OpenTransfer) (x : ℕ) (ms : List Move) (c : Choice) → choose w.host.vcc w.host.programming x ≡ c
      → Goes w m (run_of (side_bus (Started o) w) u m (NotedSend x ∷ signals ms)) (selected_leg c w u m ms)
  unfolding selected_leg select_by due_of signal_of wire_signal send_at fetch_at
  select_goes o x ms NotAcked h =
      more w u m (side_bus (Started o) w) (NotedSend x) (signals ms) (wire_result NoAck (side_bus Idle w) m) _
      (ap (λ (c : Choice). select_by c (kept o) (side_bus (Started o) w) m) h) refl
      (record { bus = Idle; run = still (side_bus Idle w) u m (λ x. refl) (λ a. refl) ms; due = refl })
  select_goes o x ms (Reading s) h =
      more w u m (side_bus (Started o) w) (NotedSend x) (signals ms) (wire_result Ack (side_bus (ReadLeg (kept o) s false false) w) m) _
      (ap (λ (c : Choice). select_by c (kept o) (side_bus (Started o) w) m) h) refl (read_goes w u m whole (kept o) s ms)
  select_goes o x ms (Writing s) h =
      more w u m (side_bus (Started o) w) (NotedSend x) (signals ms) (wire_result Ack (side_bus (WriteLeg (kept o) s) w) m) _
      (ap (λ (c : Choice). select_by c (kept o) (side_bus (Started o) w) m) h) refl (write_goes w u m whole (kept o) s ms)

  -- the leg
  pub leg_goes : (o : Option OpenTransfer) (ms : List Move) → Goes w m (run_of (side_bus (Started o) w) u m (signals ms)) (leg_of w u m ms)
  unfolding run_of signals replies leg_of due_of signal_of wire_signal fetch_at
  leg_goes o [] = record { bus = Started o; run = refl; due = refl }
  leg_goes o (move_fetch a ∷ ms) = more w u m (side_bus (Started o) w) (NotedFetch a) (signals ms) _ _ refl refl (leg_goes o ms)
  leg_goes o (move_send x ∷ ms) = select_goes o x ms (choose w.host.vcc w.host.programming x) refl
