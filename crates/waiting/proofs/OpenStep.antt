-- What one noted signal does to an open transfer, and that only an Acked select opens one. Assumes nothing.
use Rattle.std.specs.Prelude.{Option}
use mathlib.Core.Path.{◌≡◌, refl, sym, ap, subst, ◌∙◌}
use mathlib.Core.Bool.{Bool, true, false, not, ◌&&◌, false≢true}
use mathlib.Core.List.{List, [], ◌∷◌}
use Prim.Native.Nat.{ℕ}
use borrow.Author.Tests.{not-true}
use Rattle.parts.specs.Pick.{pick}
use Rattle.parts.proofs.Picks.{pick_true, pick_false, pick_case}
use Rattle.bus.specs.declared.Space.{Space}
use Rattle.bus.specs.declared.OpenTransfer.{OpenTransfer}
use Rattle.bus.specs.declared.Bus.{Bus}
use Rattle.bus.specs.declared.Bus.TheVariants.{Idle, Started, ReadLeg, WriteLeg, LowAddress, DataLeg}
use Rattle.tag.specs.declared.Host.{Host}
use Rattle.tag.specs.declared.WireSide.{WireSide}
use Rattle.keys.specs.declared.Uid.{Uid}
use Rattle.bus.specs.Bus.{transfer_at, is_open_transfer, is_open}
use Rattle.tag.specs.Supply.{vcc_at}
use Rattle.tag.specs.Parts.{with_programming, with_host}
use Rattle.select.specs.declared.Choice.{Choice}
use Rattle.select.specs.declared.Choice.TheVariants.{NotAcked, Reading, Writing}
use Rattle.select.specs.Select.{select_of, choose}
use Rattle.signal_table.specs.declared.WireSignal.{WireSignal}
use Rattle.signal_table.specs.declared.WireSignal.TheVariants.{Start as SignalStart, Send, Fetch, Stop as SignalStop, Vcc, ProgrammingEnd}
use Rattle.signal.specs.declared.WireAnswer.TheVariants.{Nothing}
use Rattle.signal.specs.Signal.{WireResult, wire_result, side_bus, due_of, start_at, start_of}
use Rattle.signal.proofs.Ended.{start_host, stop_shut}
use Rattle.transfer.specs.Passed.{data_of, select_by, send_at, fetch_at, programmed, signal_of}
use Rattle.calls.proofs.Passed.{signal_case}
use Rattle.transfer.specs.Legs.{Noted, NotedStart, NotedSend, NotedFetch, NotedStop, NotedVccOff, wire_signal, select_refused, ends, fresher}
use Rattle.waiting.specs.Waiting.{notes_of, is_started, acked_select, opens}

-- a transfer is open: VCC is on and nothing is being programmed
pub record Open (h : Host) : Type 0 where
  pub vcc : h.vcc ≡ true
  pub still : h.programming ≡ false
  pub bus : is_open h.bus ≡ true

-- the host side after a signal: the transfer is over, or goes on
pub record Going (fresh : Bool) (s : Noted) (h : Host) : Type 0 where
  pub over : is_open h.bus ≡ not (ends fresh s)
  pub vcc : ends fresh s ≡ false → h.vcc ≡ true
  pub still : ends fresh s ≡ false → h.programming ≡ false
  pub fresh_is : ends fresh s ≡ false → is_started h.bus ≡ fresher fresh s

-- it ended
over_at : (fresh : Bool) (s : Noted) (h : Host) → ends fresh s ≡ true → is_open h.bus ≡ false → Going fresh s h
over_at fresh s h e o = record {
  over = o ∙ ap not (sym e);
  vcc = λ n. absurd (false≢true (sym n ∙ e));
  still = λ n. absurd (false≢true (sym n ∙ e));
  fresh_is = λ n. absurd (false≢true (sym n ∙ e));
}

-- it goes on
on_at : (fresh : Bool) (s : Noted) (h : Host) → ends fresh s ≡ false → Open h → is_started h.bus ≡ fresher fresh s → Going fresh s h
on_at fresh s h e o f = record { over = o.bus ∙ ap not (sym e); vcc = λ n. o.vcc; still = λ n. o.still; fresh_is = λ n. f }

-- ---- a select
by_choice : (x : ℕ) (c : Choice) (kept : OpenTransfer) (w : WireSide) (m : List ℕ) → select_of x ≡ c → w.host.vcc ≡ true → w.host.programming ≡ false
    → Going true (NotedSend x) (select_by c kept w m).side.host
unfolding select_by ends fresher is_open transfer_at is_open_transfer is_started select_refused
by_choice x NotAcked kept w m q v p = over_at true (NotedSend x) _ (ap select_refused q) refl
by_choice x (Reading s) kept w m q v p = on_at true (NotedSend x) _ (ap select_refused q) (record { vcc = v; still = p; bus = refl }) refl
by_choice x (Writing s) kept w m q v p = on_at true (NotedSend x) _ (ap select_refused q) (record { vcc = v; still = p; bus = refl }) refl

choose_ready : (x : ℕ) (v p : Bool) → v ≡ true → p ≡ false → choose v p x ≡ select_of x
unfolding choose
choose_ready x v p h k = sym (pick_false _ _ _ _ (rw (h, k)) refl)

-- ---- a byte sent, a byte fetched
by_data : (kept : OpenTransfer) (s : Space) (k : ℕ) (w : WireSide) (m : List ℕ) (x : ℕ) → Open w.host → Going false (NotedSend x) (data_of kept s k w m x).side.host
unfolding data_of ends fresher is_open transfer_at is_open_transfer is_started
by_data kept s k w m x o =
    pick_case (λ (r : WireResult). Going false (NotedSend x) r.side.host) _ _ _
    (λ t. on_at false (NotedSend x) _ refl (record { vcc = o.vcc; still = o.still; bus = refl }) refl)
    (λ t. on_at false (NotedSend x) _ refl (record { vcc = o.vcc; still = o.still; bus = refl }) refl)

by_send : (b : Bus) (w : WireSide) (m : List ℕ) (x : ℕ) → w.host.bus ≡ b → Open w.host → Going (is_started b) (NotedSend x) (send_at b w m x).side.host
unfolding send_at ends fresher is_open transfer_at is_open_transfer is_started
by_send Idle w m x e o = absurd (false≢true (sym (ap is_open e) ∙ o.bus))
by_send (Started t) w m x e o =
    by_choice x (choose w.host.vcc w.host.programming x) _ w m (sym (choose_ready x w.host.vcc w.host.programming o.vcc o.still)) o.vcc o.still
by_send (ReadLeg kept s over last) w m x e o = on_at false (NotedSend x) _ refl o (ap is_started e)
by_send (WriteLeg kept s) w m x e o = on_at false (NotedSend x) _ refl (record { vcc = o.vcc; still = o.still; bus = refl }) refl
by_send (LowAddress kept s h) w m x e o = on_at false (NotedSend x) _ refl (record { vcc = o.vcc; still = o.still; bus = refl }) refl
by_send (DataLeg kept s k spoiled) w m x e o =
    pick_case (λ (r : WireResult). Going false (NotedSend x) r.side.host) spoiled _ _
    (λ t. on_at false (NotedSend x) _ refl o (ap is_started e)) (λ t. by_data kept s k w m x o)

by_fetch : (b : Bus) (w : WireSide) (u : Uid) (m : List ℕ) (a : Bool) → w.host.bus ≡ b → Open w.host
    → Going (is_started b) (NotedFetch a) (fetch_at b w u m a).side.host
unfolding fetch_at ends fresher is_open transfer_at is_open_transfer is_started
by_fetch Idle w u m a e o = absurd (false≢true (sym (ap is_open e) ∙ o.bus))
by_fetch (Started t) w u m a e o = on_at true (NotedFetch a) _ refl o (ap is_started e)
by_fetch (ReadLeg kept s over last) w u m a e o =
    pick_case (λ (r : WireResult). Going false (NotedFetch a) r.side.host) over _ _
    (λ t. on_at false (NotedFetch a) _ refl o (ap is_started e))
    (λ t. on_at false (NotedFetch a) _ refl (record { vcc = o.vcc; still = o.still; bus = refl }) refl)
by_fetch (WriteLeg kept s) w u m a e o = on_at false (NotedFetch a) _ refl o (ap is_started e)
by_fetch (LowAddress kept s h) w u m a e o = on_at false (NotedFetch a) _ refl o (ap is_started e)
by_fetch (DataLeg kept s k spoiled) w u m a e o = on_at false (NotedFetch a) _ refl o (ap is_started e)

-- ---- a Start
started_host : (w : WireSide) (m : List ℕ) → (start_at w.host.bus w m).side.host ≡ (side_bus (Started (transfer_at w.host.bus)) w).host
unfolding start_at
started_host w m = start_host (due_of w.host.bus w.host.counter m) (side_bus (Started (transfer_at w.host.bus)) w) m

by_start : (w : WireSide) (m : List ℕ) → Open w.host → Going (is_started w.host.bus) NotedStart (start_of w m).side.host
unfolding start_of ends fresher is_open transfer_at is_open_transfer is_started
by_start w m o =
    pick_case (λ (r : WireResult). Going (is_started w.host.bus) NotedStart r.side.host) w.host.vcc _ _
    (λ t. subst (Going (is_started w.host.bus) NotedStart) (sym (started_host w m))
    (on_at (is_started w.host.bus) NotedStart _ refl (record { vcc = o.vcc; still = o.still; bus = o.bus }) refl))
    (λ t. absurd (false≢true (sym t ∙ o.vcc)))

-- ---- VCC off
off_shut : (w : WireSide) → w.host.vcc ≡ true → is_open (vcc_at false w).host.bus ≡ false
unfolding vcc_at is_open transfer_at is_open_transfer
off_shut w v =
    let P : WireSide → Type 0 = λ x. is_open x.host.bus ≡ false in
    pick_case P false _ _ (λ t. absurd (false≢true t)) (λ t. pick_case P w.host.vcc _ _ (λ y. refl) (λ n. absurd (false≢true (sym n ∙ v))))

-- one signal in an open transfer
pub going : (w : WireSide) (u : Uid) (m : List ℕ) (s : Noted) → Open w.host
    → Going (is_started w.host.bus) s (signal_of w u m (wire_signal s)).side.host
unfolding signal_of wire_signal ends
going w u m NotedStart o = by_start w m o
going w u m (NotedSend x) o = by_send w.host.bus w m x refl o
going w u m (NotedFetch a) o = by_fetch w.host.bus w u m a refl o
going w u m NotedStop o = over_at _ NotedStop _ refl (stop_shut w m)
going w u m NotedVccOff o = over_at _ NotedVccOff _ refl (off_shut w o.vcc)

-- ---- no transfer open
shut_start : (w : WireSide) (m : List ℕ) → is_open w.host.bus ≡ false → is_open (start_of w m).side.host.bus ≡ false
unfolding start_of is_open transfer_at is_open_transfer
shut_start w m h =
    pick_case (λ (r : WireResult). is_open r.side.host.bus ≡ false) w.host.vcc _ _
    (λ t. ap (λ (x : Host). is_open x.bus) (started_host w m) ∙ h) (λ t. h)

shut_select : (c : Choice) (kept : OpenTransfer) (w : WireSide) (m : List ℕ) → not (select_refused c) ≡ false → is_open (select_by c kept w m).side.host.bus ≡ false
unfolding select_by select_refused is_open transfer_at is_open_transfer
shut_select NotAcked kept w m h = refl
shut_select (Reading s) kept w m h = absurd (false≢true (sym h))
shut_select (Writing s) kept w m h = absurd (false≢true (sym h))

shut_send : (b : Bus) (w : WireSide) (m : List ℕ) (x : ℕ) → w.host.bus ≡ b → is_open b ≡ false
    → (is_started b && not (select_refused (choose w.host.vcc w.host.programming x))) ≡ false
    → is_open (send_at b w m x).side.host.bus ≡ false
unfolding send_at is_started is_open transfer_at is_open_transfer
shut_send Idle w m x e h q = ap is_open e
shut_send (Started t) w m x e h q = shut_select (choose w.host.vcc w.host.programming x) _ w m q
shut_send (ReadLeg kept s over last) w m x e h q = absurd (false≢true (sym h))
shut_send (WriteLeg kept s) w m x e h q = absurd (false≢true (sym h))
shut_send (LowAddress kept s y) w m x e h q = absurd (false≢true (sym h))
shut_send (DataLeg kept s k spoiled) w m x e h q = absurd (false≢true (sym h))

shut_fetch : (b : Bus) (w : WireSide) (u : Uid) (m : List ℕ) (a : Bool) → w.host.bus ≡ b → is_open b ≡ false
    → is_open (fetch_at b w u m a).side.host.bus ≡ false
unfolding fetch_at is_open transfer_at is_open_transfer
shut_fetch Idle w u m a e h = ap is_open e
shut_fetch (Started t) w u m a e h = ap is_open e ∙ h
shut_fetch (ReadLeg kept s over last) w u m a e h = absurd (false≢true (sym h))
shut_fetch (WriteLeg kept s) w u m a e h = absurd (false≢true (sym h))
shut_fetch (LowAddress kept s y) w u m a e h = absurd (false≢true (sym h))
shut_fetch (DataLeg kept s k spoiled) w u m a e h = absurd (false≢true (sym h))

shut_vcc : (on : Bool) (w : WireSide) → is_open w.host.bus ≡ false → is_open (vcc_at on w).host.bus ≡ false
unfolding vcc_at is_open transfer_at is_open_transfer
shut_vcc on w h =
    let P : WireSide → Type 0 = λ x. is_open x.host.bus ≡ false in
    pick_case P on _ _ (λ t. pick_case P w.host.vcc _ _ (λ v. h) (λ v. h)) (λ t. pick_case P w.host.vcc _ _ (λ v. refl) (λ v. h))

-- nothing else opens one
pub stays_shut : (w : WireSide) (u : Uid) (m : List ℕ) (s : WireSignal) → is_open w.host.bus ≡ false → opens w.host (notes_of s) ≡ false
    → is_open (signal_of w u m s).side.host.bus ≡ false
unfolding notes_of opens acked_select
stays_shut w u m s h =
    signal_case (λ (s : WireSignal) (r : WireResult). opens w.host (notes_of s) ≡ false → is_open r.side.host.bus ≡ false) w u m
    (λ _. shut_start w m h)
    (λ x q. shut_send w.host.bus w m x refl h q)
    (λ ack _. shut_fetch w.host.bus w u m ack refl h)
    (λ _. stop_shut w m)
    (λ on _. shut_vcc on w h)
    (λ _ on _. h)
    s

-- ---- a signal of which nothing is noted does nothing in an open transfer
vcc_again : (w : WireSide) → w.host.vcc ≡ true → vcc_at true w ≡ w
unfolding vcc_at
vcc_again w v = sym (pick_true _ _ _ true refl (pick_true _ _ _ w.host.vcc v refl))

programmed_again : (w : WireSide) → w.host.programming ≡ false → programmed w ≡ w
programmed_again w p =
    ap (λ (b : Bool). with_host (with_programming b w.host) w) (sym p)

abbrev Idles : WireSignal → Type 0
Idles s = (w : WireSide) (u : Uid) (m : List ℕ) → Open w.host → signal_of w u m s ≡ wire_result Nothing w m

vcc_idles : Idles (Vcc true)
unfolding signal_of
vcc_idles w u m o = ap (λ (x : WireSide). wire_result Nothing x m) (vcc_again w o.vcc)

programming_idles : Idles ProgrammingEnd
unfolding signal_of
programming_idles w u m o = ap (λ (x : WireSide). wire_result Nothing x m) (programmed_again w o.still)

-- of each signal: what is noted, or that nothing is
pub data NotedAs (s : WireSignal) : Type 0 where
  is_noted : (n : Noted) → notes_of s ≡ n ∷ [] → wire_signal n ≡ s → NotedAs s
  is_idle : notes_of s ≡ [] → Idles s → NotedAs s

pub noted_as : (s : WireSignal) → NotedAs s
unfolding notes_of wire_signal
noted_as SignalStart = is_noted NotedStart refl refl
noted_as (Send x) = is_noted (NotedSend x) refl refl
noted_as (Fetch ack) = is_noted (NotedFetch ack) refl refl
noted_as SignalStop = is_noted NotedStop refl refl
noted_as (Vcc false) = is_noted NotedVccOff refl refl
noted_as (Vcc true) = is_idle refl vcc_idles
noted_as ProgrammingEnd = is_idle refl programming_idles

-- an Acked select finds the bus started, VCC on and nothing being programmed
pub record Selects (h : Host) (x : ℕ) : Type 0 where
  pub before : Option OpenTransfer
  pub at : h.bus ≡ Started before
  pub vcc : h.vcc ≡ true
  pub still : h.programming ≡ false
  pub goes : ends true (NotedSend x) ≡ false

on_choice : (x : ℕ) (v p : Bool) → not (select_refused (choose v p x)) ≡ true → (v ≡ true) × ((p ≡ false) × (select_refused (select_of x) ≡ false))
unfolding choose select_refused pick
on_choice x true false h = (refl, (refl, not-true (select_refused (select_of x)) h))
on_choice x true true h = absurd (false≢true h)
on_choice x false false h = absurd (false≢true h)
on_choice x false true h = absurd (false≢true h)

by_started : (b : Bus) (h : Host) (x : ℕ) → h.bus ≡ b → (is_started b && not (select_refused (choose h.vcc h.programming x))) ≡ true → Selects h x
unfolding is_started ends
by_started Idle h x e q = absurd (false≢true q)
by_started (Started t) h x e q =
    let c = on_choice x h.vcc h.programming q in
    record { before = t; at = e; vcc = c.0; still = c.1.0; goes = c.1.1 }
by_started (ReadLeg kept s over last) h x e q = absurd (false≢true q)
by_started (WriteLeg kept s) h x e q = absurd (false≢true q)
by_started (LowAddress kept s y) h x e q = absurd (false≢true q)
by_started (DataLeg kept s k spoiled) h x e q = absurd (false≢true q)

pub selects : (h : Host) (x : ℕ) → acked_select h x ≡ true → Selects h x
unfolding acked_select
selects h x q = by_started h.bus h x refl q

-- after it a transfer is open
pub first_goes : (w : WireSide) (u : Uid) (m : List ℕ) (x : ℕ) → Selects w.host x → Going true (NotedSend x) (signal_of w u m (Send x)).side.host
unfolding signal_of send_at
first_goes w u m x s =
    subst (λ (b : Bus). Going true (NotedSend x) (send_at b w m x).side.host) (sym s.at)
    (by_choice x (choose w.host.vcc w.host.programming x) _ w m
    (sym (choose_ready x w.host.vcc w.host.programming s.vcc s.still)) s.vcc s.still)
