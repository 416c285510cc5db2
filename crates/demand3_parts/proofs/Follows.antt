-- What follows from the first part of the claim, for every step. Assumes nothing.
use mathlib.Core.Path.{◌≡◌, refl, sym, ap, ◌∙◌}
use mathlib.Core.Bool.{Bool, true, false, not, ◌&&◌}
use mathlib.Core.List.{List, [], ◌∷◌, ◌++◌}
use Prim.Native.Nat.{ℕ}
use native.Mathlib.Omega.{arith}
use lib.ListN.{get_or, drop}
use Rattle.parts.specs.Pick.{pick}
use Rattle.parts.specs.Bytes.{are_bytes}
use Rattle.parts.proofs.Picks.{pick_case}
use Rattle.parts.proofs.Bools.{and_left, and_right, and_both}
use Rattle.tag.specs.declared.Tag.{Tag}
use Rattle.errors.specs.declared.RadioError.TheVariants.{ShutOut}
use Rattle.reply.specs.Reply.{nothing, fault, answer_of}
use Rattle.model.specs.declared.Answer.{Answer}
use Rattle.model.specs.declared.Answer.TheVariants.{Refused, Nothing, Ack, NoAck, Byte, Silence, Reply}
use Rattle.signal_table.specs.Table.{signal_by}
use Rattle.model.specs.Step.{from_radio, transfer_open, is_refused}
use Rattle.refusals.specs.Call.{Call}
use Rattle.calls.specs.Calls.{CallAnswer, Device, DeviceResult, device_result, Step, RunResult, run_result, entry, run_by, frames_fit, call_reply}
use Rattle.demand3.specs.Demand3.{state_refused, is_radio, struck, others, other_answers, shut_reply, start_after, EachStruck, Same, EveryList, RepliesShut}
use Rattle.demand3_parts.specs.Follows.{JudgedFollows, StrikingFollows, AnswersShut, BytesFollow}
use Rattle.calls.proofs.Laws.{frames_first, Fits, first_fits, rest_fits, fits_next}
use Rattle.register_types.specs.declared.RfMngt.{RfMngt}
use Rattle.air.specs.declared.Air.{Air}
use Rattle.keys.specs.declared.Uid.{Uid}
use Rattle.signal_table.specs.declared.Signal.{Signal}
use Rattle.signal_table.specs.declared.Signal.TheVariants.{Wire, Field, Frame, EndOfFrame}
use Rattle.demand3.proofs.OneCall.{tag_counted, shut_of, struck_is}
use Rattle.demand3.proofs.Struck.{RunsTo, by_test}
use Rattle.waiting.proofs.Follow.{now, answers}
use Rattle.demand3.proofs.Demand3.{agreed, ends_shut, ends_alike}

-- ---- two tags that answer as the waiting tag does answer alike
record Alike (step : Step) (d : Device) (cs : List Call) : Type 0 where
  answers : (run_by step d cs).answers ≡ (run_by entry d cs).answers
  device : (run_by step d cs).device ≡ (run_by entry d cs).device

alike : (step : Step) → EveryList (Same step) → EveryList (Alike step)
unfolding now answers
alike step all d cs range size frames shut end =
    let e = sym (all d cs range size frames shut end) ∙ (agreed d cs range size frames shut end).same in
    record { answers = ap answers e; device = ap now e }

pub judged_follows : JudgedFollows
judged_follows step all d cs range size frames shut end =
    ap state_refused (alike step all d cs range size frames shut end).answers ∙ (agreed d cs range size frames shut end).judged

-- ---- of silence and error 0Fh the answer decides the bytes
unfoldable reply_length : Answer → ℕ
reply_length (Refused why) = 0
reply_length Nothing = 0
reply_length Ack = 0
reply_length NoAck = 0
reply_length (Byte x) = 0
reply_length Silence = 0
reply_length (Reply n) = n

by_answer : (a b : Bool) (o : List ℕ)
    → (call_reply (pick a nothing (fault ShutOut)) o).answer ≡ (call_reply (pick b nothing (fault ShutOut)) o).answer
    → call_reply (pick a nothing (fault ShutOut)) o ≡ call_reply (pick b nothing (fault ShutOut)) o
unfolding pick answer_of from_radio reply_length
by_answer true true o h = refl
by_answer true false o h = let f : ◌≡◌ {A = ℕ} 0 4 = ap reply_length h in absurd (omega arith)
by_answer false true o h = let f : ◌≡◌ {A = ℕ} 4 0 = ap reply_length h in absurd (omega arith)
by_answer false false o h = refl

-- to every struck signal
by_signal : (x : Signal) (f : List ℕ) (a b : Air) (u : Uid) (dynamic : RfMngt) (start : Tag) (o : List ℕ)
    → (call_reply (shut_of x f a u dynamic) o).answer ≡ (call_reply (shut_reply x start b f) o).answer
    → call_reply (shut_of x f a u dynamic) o ≡ call_reply (shut_reply x start b f) o
unfolding shut_of shut_reply
by_signal (Wire s) f a b u dynamic start o h = refl
by_signal (Field on) f a b u dynamic start o h = refl
by_signal Frame f a b u dynamic start o h = by_answer _ _ o h
by_signal EndOfFrame f a b u dynamic start o h = refl

-- ---- such a step beside the entry point, call by call: s is its device, d the entry point's
module _ (step : Step) where
  -- where the entry point has no transfer open, the two devices are the same
  record Beside (s d : Device) (cs : List Call) : Type 0 where
    fits : Fits d
    frames : frames_fit cs ≡ true
    answers : (run_by step s cs).answers ≡ (run_by entry d cs).answers
    shut : (p q : List Call) → p ++ q ≡ cs → transfer_open (run_by entry d p).device.tag ≡ false → (run_by step s p).device ≡ (run_by entry d p).device

  at_first : EveryList (Same step) → EveryList (λ (d : Device) (cs : List Call). Beside d d cs)
  at_first all d cs range size frames shut end = record {
    fits = record { range = range; size = size };
    frames = frames;
    answers = (alike step all d cs range size frames shut end).answers;
    shut = λ p q e h.
        let f = frames_first p q (ap frames_fit e ∙ frames) in
        (alike step all d p range size f shut (ends_alike d p range size f shut h)).device;
  }

  next : (c : Call) (cs : List Call) (s d : Device) → Beside s d (c ∷ cs) → Beside (step s c).device (entry d c).device cs
  unfolding run_by
  next c cs s d b = record {
    fits = fits_next d c (first_fits c cs b.frames) b.fits;
    frames = rest_fits c cs b.frames;
    answers = ap (λ (l : List CallAnswer). drop 1 l) b.answers;
    shut = λ p q e h. b.shut (c ∷ p) q (ap (λ (l : List Call). c ∷ l) e) h;
  }

  says : (c : Call) (cs : List Call) (s d : Device) → Beside s d (c ∷ cs) → (step s c).says ≡ (entry d c).says
  unfolding run_by
  says c cs s d b = ap (λ (l : List CallAnswer). get_or l 0 (step s c).says) b.answers

  opened : (c : Call) (cs : List Call) (s d : Device) → Beside s d (c ∷ cs) → transfer_open s.tag ≡ true → transfer_open d.tag ≡ true
  unfolding run_by
  opened c cs s d b h = by_open (transfer_open d.tag) refl
    where
      by_open : (o : Bool) → transfer_open d.tag ≡ o → transfer_open d.tag ≡ true
      by_open true e = e
      by_open false e = ap (λ (x : Device). transfer_open x.tag) (sym (b.shut [] (c ∷ cs) refl e)) ∙ h

  -- what it strikes out the entry point strikes out
  is_struck : (c : Call) (cs : List Call) (s d : Device) → Beside s d (c ∷ cs) → struck step s c ≡ true → struck entry d c ≡ true
  unfolding struck
  is_struck c cs s d b h =
      let frame = is_radio (signal_by c.code c.value) in
      let unrefused = not (is_refused (step s c).says.answer) in
      let both = and_left (transfer_open s.tag && frame) unrefused h in
      and_both (transfer_open d.tag && frame) (not (is_refused (entry d c).says.answer))
      (and_both (transfer_open d.tag) frame (opened c cs s d b (and_left (transfer_open s.tag) frame both)) (and_right (transfer_open s.tag) frame both))
      (ap (λ (a : CallAnswer). not (is_refused a.answer)) (sym (says c cs s d b)) ∙ and_right (transfer_open s.tag && frame) unrefused h)

  struck_call : (c : Call) (cs : List Call) (s d : Device) → Beside s d (c ∷ cs) → struck step s c ≡ true
      → entry d c ≡ device_result (call_reply (shut_of (signal_by c.code c.value) c.frame d.tag.air d.tag.uid (tag_counted d.tag)) c.buffer) d
  struck_call c cs s d b h = struck_is d c b.fits (is_struck c cs s d b h)

  -- ---- frames may be struck out
  strikes : (cs : List Call) (s d : Device) → Beside s d cs → RunsTo d (others step s cs) (other_answers step s cs) (run_by entry d cs).device
  unfolding others other_answers run_by
  strikes [] s d b = refl
  strikes (c ∷ cs) s d b =
      let s2 = (step s c).device in
      let d2 = (entry d c).device in
      let test = struck step s c in
      let rest = others step s2 cs in
      let call_answer = other_answers step s2 cs in
      by_test test d c rest call_answer (run_by entry d2 cs).device (λ h. ap (λ (e : DeviceResult). e.device) (struck_call c cs s d b h)) (strikes cs s2 d2 (next c cs s d b))
      ∙ ap (λ (a : CallAnswer). run_result (pick test call_answer (a ∷ call_answer)) (run_by entry d2 cs).device) (sym (says c cs s d b))

  others_fit : (cs : List Call) (s : Device) → frames_fit cs ≡ true → frames_fit (others step s cs) ≡ true
  unfolding others frames_fit
  others_fit [] s h = refl
  others_fit (c ∷ cs) s h =
      let rest = others step (step s c).device cs in
      let fit = others_fit cs (step s c).device (rest_fits c cs h) in
      pick_case (λ (l : List Call). frames_fit l ≡ true) (struck step s c) rest (c ∷ rest) (λ t. fit) (λ t. and_both (are_bytes c.frame) (frames_fit rest) (first_fits c cs h) fit)

  -- ---- a struck frame's bytes
  bytes : (cs : List Call) (start : Tag) (s d : Device) → Beside s d cs
      → EachStruck step (AnswersShut step) start s cs → EachStruck step (RepliesShut step) start s cs
  unfolding EachStruck
  bytes [] start s d b h = tt
  bytes (c ∷ cs) start s d b (h, hs) = (
    λ t.
        let e = says c cs s d b ∙ ap (λ (e : DeviceResult). e.says) (struck_call c cs s d b t) in
        e ∙ by_signal (signal_by c.code c.value) c.frame d.tag.air s.tag.air d.tag.uid (tag_counted d.tag) (start_after start s.tag) c.buffer (ap (λ (a : CallAnswer). a.answer) (sym e) ∙ h t),
    bytes cs (start_after start s.tag) (step s c).device (entry d c).device (next c cs s d b) hs,
  )

pub striking_follows : StrikingFollows
striking_follows step all d cs range size frames shut end =
    let rest = others step d cs in
    let b = at_first step all d cs range size frames shut end in
    let e = strikes step cs d d b in
    let f = others_fit step cs d frames in
    let open-not = ap (λ (r : RunResult). transfer_open r.device.tag) e ∙ ends_shut d cs range size frames shut end in
    let left = alike step all d rest range size f shut (ends_alike d rest range size f shut open-not) in
    ap (λ (l : List CallAnswer). run_result l (run_by step d rest).device) left.answers
    ∙ ap (λ (x : Device). run_result (run_by entry d rest).answers x) left.device
    ∙ e
    ∙ ap (λ (x : Device). run_result (other_answers step d cs) x) (sym (alike step all d cs range size frames shut end).device)

pub bytes_follow : BytesFollow
bytes_follow step all d cs range size frames shut end h =
    bytes step cs d.tag d d (at_first step all d cs range size frames shut end) h
