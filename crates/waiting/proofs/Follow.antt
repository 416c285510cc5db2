-- The waiting tag follows the tag by signals, call by call. Assumes nothing.
use Rattle.std.specs.Prelude.{Option}
use Rattle.bus.specs.declared.OpenTransfer.{OpenTransfer}
use mathlib.Core.Path.{◌≡◌, refl, sym, ap, subst, ◌∙◌}
use mathlib.Core.Bool.{Bool, true, false, not, false≢true}
use mathlib.Core.List.{List, [], ◌∷◌, ◌++◌, append_assoc}
use Prim.Native.Nat.{ℕ}
use Rattle.std.specs.Prelude.{Ok, Err}
use native.Mathlib.Omega.{arith}
use lib.ListN.{length, length-append}
use Rattle.parts.proofs.Picks.{pick_case}
use Rattle.register_types.specs.declared.RfMngt.{RfMngt}
use Rattle.air.specs.declared.Air.{Air}
use Rattle.bus.specs.declared.Bus.{Bus}
use Rattle.bus.specs.declared.Bus.TheVariants.{Started}
use Rattle.tag.specs.declared.Host.{Host}
use Rattle.bus.specs.Bus.{transfer_at, is_open}
use Rattle.air.specs.Radio.{field_at}
use Rattle.tag.specs.Parts.{wire_side, with_wire, with_tag_air}
use Rattle.signal_table.specs.declared.WireSignal.{WireSignal}
use Rattle.signal_table.specs.declared.WireSignal.TheVariants.{Send}
use Rattle.signal.specs.declared.WireAnswer.TheVariants.{Nothing as WireNothing}
use Rattle.signal.specs.Signal.{WireResult, wire_result, side_bus}
use Rattle.transfer.specs.Passed.{signal_of}
use Rattle.calls.specs.Passed.{side_counted, Refused, Nothing, from_wire, transfer_open, act_of}
use Rattle.calls.proofs.Passed.{closed_counted, counted_stays}
use Rattle.transfer.specs.Legs.{Noted, NotedStart, NotedSend, NotedFetch, NotedStop, NotedVccOff, wire_signal, ends, finished}
use Rattle.transfer.specs.Whole.{TransferResult, transfer_result, transfer_of}
use Rattle.transfer.specs.Claim.{run_of, Ready}
use Rattle.transfer.proofs.Transfer.{transfer_by_signals}
use Rattle.refusals.specs.declared.Refusal.{Refusal}
use Rattle.refusals.specs.Refusals.{unless_refused, Judgement}
use Rattle.signal_table.specs.declared.Signal.{Signal}
use Rattle.signal_table.specs.declared.Signal.TheVariants.{Wire, Field, Frame, EndOfFrame}
use Rattle.signal_table.specs.Table.{signal_by}
use Rattle.refusals.specs.Call.{Call}
use Rattle.calls.specs.Calls.{CallAnswer, call_answer, Device, device, DeviceResult, device_result, entry, call_reply}
use Rattle.waiting.specs.Waiting.{Pending, given, waits, fill, Waiting, no_transfer, inside, answered, notes_of, is_started, opens, at_once, acts, when_closed, note, frame_answer, end_answer, notes, when_open, wait_act, wait_step}
use Rattle.waiting.proofs.OpenStep.{Open, Going, going, stays_shut, NotedAs, is_noted, is_idle, noted_as, Selects, selects, first_goes}
use Rattle.waiting.proofs.Lists.{run_snoc, run_length, On, here, more, on_snoc, on_finished, waiting, waiting_waits, waiting_given, fill_waits, fill_given}
use Rattle.calls.proofs.Laws.{found, Fits, call_is, acted_by, supplied}
use Rattle.waiting.proofs.Frames.{shut_by, frame_shut, frame_waits, end_shut, end_waits}

-- ---- where the tag by signals stands
abbrev pub running : Device → List Noted → TransferResult
running k n = run_of (wire_side k.tag) k.tag.uid k.memory n

-- the kept tag with a wire side and memory
abbrev pub after : Device → TransferResult → Device
after k r = device (with_wire r.side k.tag) r.memory

unfoldable pub now : Waiting → Device
now (no_transfer out k) = k
now (inside out k n sl) = after k (running k n)

-- what it answered, the answers that still wait being those of the run
unfoldable pub answers : Waiting → List CallAnswer
answers (no_transfer out k) = out
answers (inside out k n sl) = out ++ fill sl (running k n).answers

-- in a transfer: the kept tag stood before an Acked select, a place waits for each noted signal, none of which ended the transfer,
-- and RF_MNGT_Dyn counts as it stands in the kept tag
pub record Inside (k : Device) (n : List Noted) (sl : List Pending) : Type 0 where
  pub ready : Ready (wire_side k.tag) k.memory
  pub before : Option OpenTransfer
  pub at : k.tag.host.bus ≡ Started before
  pub places : waiting sl ≡ length n
  pub state : Open (running k n).side.host
  pub on : On true n (is_started (running k n).side.host.bus)
  pub counted : side_counted (running k n).side ≡ k.tag.core.registers.dynamic

-- what holds of the waiting tag at every call
abbrev pub Good : Waiting → Type 0
Good (no_transfer out k) = transfer_open k.tag ≡ false
Good (inside out k n sl) = Inside k n sl

-- w' is w after a call that leaves e
pub record Stepped (w w' : Waiting) (e : DeviceResult) : Type 0 where
  pub good : Good w'
  pub device : now w' ≡ e.device
  pub answers : answers w' ≡ answers w ++ e.says ∷ []

-- after a signal that does not end it, the transfer is open
open_still : (fresh : Bool) (s : Noted) (h : Host) → Going fresh s h → ends fresh s ≡ false → Open h
open_still fresh s h g e = record { vcc = g.vcc e; still = g.still e; bus = g.over ∙ ap not e }

-- ---- no transfer open
at_once_lem : (out : List CallAnswer) (k : Device) (e : DeviceResult) → transfer_open e.device.tag ≡ false → Stepped (no_transfer out k) (at_once out e) e
unfolding now answers
at_once_lem out k e h = record { good = h; device = refl; answers = refl }

acts_shut : (x : WireSignal) (out : List CallAnswer) (k : Device) (c : Call) → transfer_open k.tag ≡ false → opens k.tag.host (notes_of x) ≡ false
    → Stepped (no_transfer out k) (acts out k (Wire x) c) (acted_by (Wire x) k c)
unfolding act_of
acts_shut x out k c h q = at_once_lem out k (acted_by (Wire x) k c) (stays_shut (wire_side k.tag) k.tag.uid k.memory x h q)

-- an Acked select
first_inside : (k : Device) (o : List ℕ) (x : ℕ) → Fits k → transfer_open k.tag ≡ false → Selects k.tag.host x → Inside k (NotedSend x ∷ []) (waits o ∷ [])
unfolding run_of wire_signal waiting is_open
first_inside k o x f h s =
    let g = first_goes (wire_side k.tag) k.tag.uid k.memory x s in
    let opened = open_still true (NotedSend x) _ g s.goes in
    record {
      ready = record { vcc = s.vcc; still = s.still; bytes = f.size };
      before = s.before;
      at = s.at;
      places = refl;
      state = opened;
      on = subst (On true (NotedSend x ∷ [])) (sym (g.fresh_is s.goes)) (more s.goes here);
      counted = counted_stays (wire_side k.tag) k.tag.uid k.memory (Send x) (supplied k.tag k.memory f) opened.bus
          ∙ closed_counted (transfer_at k.tag.host.bus) k.tag.core.registers.dynamic h;
    }

from_select : (out : List CallAnswer) (k : Device) (c : Call) (x : ℕ) → Fits k → transfer_open k.tag ≡ false → Selects k.tag.host x
    → Stepped (no_transfer out k) (inside out k (NotedSend x ∷ []) (waits c.buffer ∷ [])) (acted_by (Wire (Send x)) k c)
unfolding now answers act_of run_of wire_signal fill
from_select out k c x f h s = record { good = first_inside k c.buffer x f h s; device = refl; answers = refl }

-- the noted signal is one
by_note : (out : List CallAnswer) (k : Device) (c : Call) (n : Noted) → Fits k → transfer_open k.tag ≡ false → opens k.tag.host (n ∷ []) ≡ true
    → Stepped (no_transfer out k) (inside out k (n ∷ []) (waits c.buffer ∷ [])) (acted_by (Wire (wire_signal n)) k c)
unfolding opens wire_signal
by_note out k c NotedStart f h t = absurd (false≢true t)
by_note out k c (NotedSend x) f h t = from_select out k c x f h (selects k.tag.host x t)
by_note out k c (NotedFetch ack) f h t = absurd (false≢true t)
by_note out k c NotedStop f h t = absurd (false≢true t)
by_note out k c NotedVccOff f h t = absurd (false≢true t)

opening : (out : List CallAnswer) (k : Device) (c : Call) (x : WireSignal) → Fits k → transfer_open k.tag ≡ false → NotedAs x → opens k.tag.host (notes_of x) ≡ true
    → Stepped (no_transfer out k) (inside out k (notes_of x) (waits c.buffer ∷ [])) (acted_by (Wire x) k c)
unfolding opens
opening out k c x f h (is_idle e i) t = absurd (false≢true (sym (ap (opens k.tag.host) e) ∙ t))
opening out k c x f h (is_noted n e q) t =
    subst (λ (l : List Noted). Stepped (no_transfer out k) (inside out k l (waits c.buffer ∷ [])) (acted_by (Wire x) k c)) (sym e)
    (subst (λ (x : WireSignal). Stepped (no_transfer out k) (inside out k (n ∷ []) (waits c.buffer ∷ [])) (acted_by (Wire x) k c)) q
    (by_note out k c n f h (ap (opens k.tag.host) (sym e) ∙ t)))

by_wire_lem : (out : List CallAnswer) (k : Device) (c : Call) (x : WireSignal) → Fits k → transfer_open k.tag ≡ false
    → Stepped (no_transfer out k) (when_closed out k (Wire x) c) (acted_by (Wire x) k c)
unfolding when_closed
by_wire_lem out k c x f h =
    pick_case (λ (w : Waiting). Stepped (no_transfer out k) w (acted_by (Wire x) k c)) (opens k.tag.host (notes_of x)) _ _
    (opening out k c x f h (noted_as x)) (acts_shut x out k c h)

by_air : (out : List CallAnswer) (k : Device) (c : Call) (on : Bool) → transfer_open k.tag ≡ false
    → Stepped (no_transfer out k) (acts out k (Field on) c) (acted_by (Field on) k c)
unfolding act_of
by_air out k c on h = at_once_lem out k (acted_by (Field on) k c) h

by_frame : (out : List CallAnswer) (k : Device) (c : Call) → transfer_open k.tag ≡ false → Stepped (no_transfer out k) (acts out k Frame c) (acted_by Frame k c)
unfolding act_of
by_frame out k c h = at_once_lem out k (acted_by Frame k c) h

by_end : (out : List CallAnswer) (k : Device) (c : Call) → transfer_open k.tag ≡ false → Stepped (no_transfer out k) (acts out k EndOfFrame c) (acted_by EndOfFrame k c)
unfolding act_of
by_end out k c h = at_once_lem out k (acted_by EndOfFrame k c) h

from_closed : (out : List CallAnswer) (k : Device) (x : Signal) (c : Call) → Fits k → transfer_open k.tag ≡ false
    → Stepped (no_transfer out k) (when_closed out k x c) (acted_by x k c)
unfolding when_closed
from_closed out k (Wire x) c f h = by_wire_lem out k c x f h
from_closed out k (Field on) c f h = by_air out k c on h
from_closed out k Frame c f h = by_frame out k c h
from_closed out k EndOfFrame c f h = by_end out k c h

-- ---- a transfer open
module _ (out : List CallAnswer) (k : Device) (n : List Noted) (sl : List Pending) (g : Inside k n sl) where
  -- the signal s after those of the list
  abbrev next : Noted → WireResult
  next s = signal_of (running k n).side k.tag.uid (running k n).memory (wire_signal s)

  filled : waiting sl ≡ length (running k n).answers
  filled = g.places ∙ sym (run_length n (wire_side k.tag) k.tag.uid k.memory)

  snoc : (s : Noted) → running k (n ++ s ∷ []) ≡ transfer_result ((running k n).answers ++ (next s).answer ∷ []) (next s).side (next s).memory
  snoc s = run_snoc (wire_side k.tag) k.tag.uid k.memory n s

  grown : (s : Noted) (o : List ℕ) (r : TransferResult) → r ≡ running k (n ++ s ∷ [])
      → out ++ fill (sl ++ waits o ∷ []) r.answers ≡ out ++ fill sl (running k n).answers ++ call_answer (from_wire (next s).answer) o ∷ []
  grown s o r h =
      ap (λ (r : TransferResult). out ++ fill (sl ++ waits o ∷ []) r.answers) (h ∙ snoc s)
      ∙ ap (λ (l : List CallAnswer). out ++ l) (fill_waits sl (running k n).answers o (next s).answer filled)
      ∙ sym (append_assoc out _ _)

  whole_here : (s : Noted) → finished true (n ++ s ∷ []) ≡ true
      → transfer_of (wire_side k.tag) k.tag.uid k.memory (n ++ s ∷ []) ≡ running k (n ++ s ∷ [])
  whole_here s h =
      transfer_by_signals (n ++ s ∷ []) h (wire_side k.tag) k.tag.uid k.memory g.before g.ready
      ∙ ap (λ (b : Bus). run_of (side_bus b (wire_side k.tag)) k.tag.uid k.memory (n ++ s ∷ [])) (sym g.at)

  -- the signal ends the transfer
  ended : (s : Noted) (c : Call) → finished true (n ++ s ∷ []) ≡ true
      → (let r = transfer_of (wire_side k.tag) k.tag.uid k.memory (n ++ s ∷ []) in
      Stepped (inside out k n sl) (no_transfer (out ++ fill (sl ++ waits c.buffer ∷ []) r.answers) (after k r))
      (acted_by (Wire (wire_signal s)) (now (inside out k n sl)) c))
  unfolding now answers act_of
  ended s c q =
      let e = going (running k n).side k.tag.uid (running k n).memory s g.state in
      record {
        good = ap (λ (r : TransferResult). is_open r.side.host.bus) (whole_here s q ∙ snoc s) ∙ e.over ∙ ap not (sym (on_finished g.on s) ∙ q);
        device = ap (after k) (whole_here s q ∙ snoc s);
        answers = grown s c.buffer _ (whole_here s q);
      }

  -- .. or leaves it open
  went : (s : Noted) (o : List ℕ) → Fits (now (inside out k n sl)) → finished true (n ++ s ∷ []) ≡ false → Inside k (n ++ s ∷ []) (sl ++ waits o ∷ [])
  unfolding now
  went s o f q =
      let e = going (running k n).side k.tag.uid (running k n).memory s g.state in
      let z = sym (on_finished g.on s) ∙ q in
      let opened = open_still _ s _ e z in
      record {
        ready = g.ready;
        before = g.before;
        at = g.at;
        places = waiting_waits sl o ∙ omega (arith, g.places, length-append n (s ∷ []));
        state = subst (λ (r : TransferResult). Open r.side.host) (sym (snoc s)) opened;
        on = subst (λ (r : TransferResult). On true (n ++ s ∷ []) (is_started r.side.host.bus)) (sym (snoc s))
            (subst (On true (n ++ s ∷ [])) (sym (e.fresh_is z)) (on_snoc g.on s z));
        counted = ap (λ (r : TransferResult). side_counted r.side) (snoc s)
            ∙ counted_stays (running k n).side k.tag.uid (running k n).memory (wire_signal s) (supplied _ _ f) opened.bus
            ∙ g.counted;
      }

  goes_on_lem : (s : Noted) (c : Call) → Fits (now (inside out k n sl)) → finished true (n ++ s ∷ []) ≡ false
      → Stepped (inside out k n sl) (inside out k (n ++ s ∷ []) (sl ++ waits c.buffer ∷ [])) (acted_by (Wire (wire_signal s)) (now (inside out k n sl)) c)
  unfolding now answers act_of
  goes_on_lem s c f q = record { good = went s c.buffer f q; device = ap (after k) (snoc s); answers = grown s c.buffer _ refl }

  noted : (s : Noted) (c : Call) → Fits (now (inside out k n sl))
      → Stepped (inside out k n sl) (notes out k n sl (s ∷ []) c) (acted_by (Wire (wire_signal s)) (now (inside out k n sl)) c)
  unfolding notes note
  noted s c f =
      pick_case (λ (w : Waiting). Stepped (inside out k n sl) w (acted_by (Wire (wire_signal s)) (now (inside out k n sl)) c)) (finished true (n ++ s ∷ [])) _ _
      (λ t. ended s c t) (λ t. goes_on_lem s c f t)

  -- a call that changes the air at most, and is answered at once
  given_at_once : (a : Air) (x : CallAnswer)
      → Stepped (inside out k n sl) (inside out (device (with_tag_air a k.tag) k.memory) n (sl ++ given x ∷ []))
      (device_result x (after (device (with_tag_air a k.tag) k.memory) (running k n)))
  unfolding now answers
  given_at_once a x = record {
    good = record { ready = g.ready; before = g.before; at = g.at; places = waiting_given sl x ∙ g.places; state = g.state; on = g.on; counted = g.counted };
    device = refl;
    answers = ap (λ (l : List CallAnswer). out ++ l) (fill_given sl (running k n).answers x filled) ∙ sym (append_assoc out _ _);
  }

  -- .. by the entry point too
  given_as : (x : CallAnswer) (e : DeviceResult) → e ≡ device_result x (now (inside out k n sl)) → Stepped (inside out k n sl) (answered (inside out k n sl) x) e
  unfolding now answered
  given_as x e h = subst (Stepped (inside out k n sl) (inside out k n (sl ++ given x ∷ []))) (sym h) (given_at_once k.tag.air x)

  field : (on : Bool) (c : Call)
      → Stepped (inside out k n sl) (when_open out k n sl (Field on) c) (acted_by (Field on) (now (inside out k n sl)) c)
  unfolding when_open answered now act_of
  field on c = given_at_once (field_at on k.tag.air) (call_answer Nothing c.buffer)

  idle : (x : WireSignal) (c : Call)
      → signal_of (running k n).side k.tag.uid (running k n).memory x ≡ wire_result WireNothing (running k n).side (running k n).memory
      → acted_by (Wire x) (now (inside out k n sl)) c ≡ device_result (call_answer Nothing c.buffer) (now (inside out k n sl))
  unfolding now act_of from_wire
  idle x c h =
      ap (λ (r : WireResult). device_result (call_answer (from_wire r.answer) c.buffer) (device (with_wire r.side k.tag) r.memory)) h

  wire : (x : WireSignal) (c : Call) → NotedAs x → Fits (now (inside out k n sl))
      → Stepped (inside out k n sl) (notes out k n sl (notes_of x) c) (acted_by (Wire x) (now (inside out k n sl)) c)
  unfolding notes
  wire x c (is_noted s e q) f =
      subst (λ (l : List Noted). Stepped (inside out k n sl) (notes out k n sl l c) (acted_by (Wire x) (now (inside out k n sl)) c)) (sym e)
      (subst (λ (x : WireSignal). Stepped (inside out k n sl) (notes out k n sl (s ∷ []) c) (acted_by (Wire x) (now (inside out k n sl)) c)) q (noted s c f))
  wire x c (is_idle e i) f =
      subst (λ (l : List Noted). Stepped (inside out k n sl) (notes out k n sl l c) (acted_by (Wire x) (now (inside out k n sl)) c)) (sym e)
      (given_as (call_answer Nothing c.buffer) _ (idle x c (i (running k n).side k.tag.uid (running k n).memory g.state)))

  -- RF_MNGT_Dyn is the kept tag's
  frame : (c : Call) → acted_by Frame (now (inside out k n sl)) c ≡ device_result (frame_answer k c) (now (inside out k n sl))
  unfolding now
  frame c =
      frame_shut (after k (running k n)) c g.state.bus
      ∙ ap (λ (d : RfMngt). device_result (call_reply (shut_by c.frame k.tag.air k.tag.uid d) c.buffer) (after k (running k n))) g.counted
      ∙ ap (λ (x : CallAnswer). device_result x (after k (running k n))) (sym (frame_waits k c))

  end : (c : Call) → acted_by EndOfFrame (now (inside out k n sl)) c ≡ device_result (end_answer k c) (now (inside out k n sl))
  unfolding now
  end c =
      end_shut (after k (running k n)) c g.state.bus
      ∙ ap (λ (x : CallAnswer). device_result x (after k (running k n))) (sym (end_waits k c))

  from_inside : (x : Signal) (c : Call) → Fits (now (inside out k n sl))
      → Stepped (inside out k n sl) (when_open out k n sl x c) (acted_by x (now (inside out k n sl)) c)
  unfolding when_open
  from_inside (Wire x) c f = wire x c (noted_as x) f
  from_inside (Field on) c f = field on c
  from_inside Frame c f = given_as (frame_answer k c) _ (frame c)
  from_inside EndOfFrame c f = given_as (end_answer k c) _ (end c)

-- ---- one call
at_signal : (w : Waiting) (x : Signal) (c : Call) → Good w → Fits (now w) → Stepped w (wait_act w x c) (acted_by x (now w) c)
unfolding wait_act now
at_signal (no_transfer out k) x c g f = from_closed out k x c f g
at_signal (inside out k n sl) x c g f = from_inside out k n sl g x c f

at_refusal_lem : (w : Waiting) (a : CallAnswer) → Good w → Stepped w (answered w a) (device_result a (now w))
unfolding answered now
at_refusal_lem (no_transfer out k) a g = at_once_lem out k (device_result a k) g
at_refusal_lem (inside out k n sl) a g = given_at_once out k n sl g k.tag.air a

-- both judge alike
both : (w : Waiting) (j : Judgement) (x : Refusal → Waiting) (y : Waiting) (d : Refusal → DeviceResult) (e : DeviceResult)
    → ((r : Refusal) → Stepped w (x r) (d r)) → Stepped w y e → Stepped w (unless_refused j x y) (unless_refused j d e)
unfolding unless_refused
both w (Ok tt) x y d e p q = q
both w (Err r) x y d e p q = p r

pub stepped : (w : Waiting) (c : Call) → Good w → Fits (now w) → Stepped w (wait_step w c) (entry (now w) c)
unfolding wait_step
stepped w c g f =
    subst (Stepped w (wait_step w c)) (sym (call_is (now w) c f))
    (both w (found c) _ _ _ _ (λ r. at_refusal_lem w (call_answer (Refused r) c.buffer) g) (at_signal w (signal_by c.code c.value) c g f))
