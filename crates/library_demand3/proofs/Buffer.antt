-- A struck frame's reply buffer follows from its number. Assumes nothing.
use mathlib.Core.Path.{◌≡◌, refl, sym, ap, ◌∙◌}
use mathlib.Core.Bool.{Bool, true, false, not, ◌&&◌, ◌||◌}
use mathlib.Core.List.{List, [], ◌∷◌, ◌++◌}
use Prim.Native.Nat.{ℕ, ◌+◌}
use native.Mathlib.Omega.{arith}
use lib.Dec.{ltb}
use lib.ListN.{length, get_or, drop}
use Rattle.parts.specs.Pick.{pick}
use Rattle.parts.proofs.Bools.{and_left, and_right, and_both}
use Rattle.register_types.specs.declared.RfMngt.{RfMngt}
use Rattle.air.specs.declared.Air.{Air}
use Rattle.keys.specs.declared.Uid.{Uid}
use Rattle.tag.specs.declared.Tag.{Tag}
use Rattle.state.specs.Layout.{bytes_of, tag_of}
use Rattle.errors.specs.declared.RadioError.TheVariants.{ShutOut}
use Rattle.reply.specs.Reply.{ReplyBody, nothing, body, fault, answer_of}
use Rattle.frame.specs.Fields.{inventory_flag}
use Rattle.silence_rules.specs.Silence.{is_silent}
use Rattle.judge.specs.Judge.{is_mute}
use Rattle.signal_table.specs.declared.Signal.{Signal}
use Rattle.signal_table.specs.declared.Signal.TheVariants.{Wire, Field, Frame, EndOfFrame}
use Rattle.signal_table.specs.Table.{signal_by}
use Rattle.model.specs.Step.{from_radio, transfer_open, is_refused}
use Rattle.capi.specs.Interface.{answer_number}
use Rattle.refusals.specs.Call.{Call}
use Rattle.calls.specs.Calls.{Device, device, DeviceResult, entry, run_by, frames_fit, call_reply}
use Rattle.demand3.specs.Passed.{no_transfer, wait_run}
use Rattle.demand3.specs.Demand3.{is_closed, is_radio, struck, shut_reply, start_after}
use Rattle.calls.proofs.Laws.{first_fits, rest_fits, frames_first, Fits, fits_next}
use Rattle.demand3.proofs.OneCall.{tag_counted, shut_of, struck_is}
use Rattle.demand3.proofs.Demand3.{demand_3, ends_alike}
use Rattle.library_demand3.specs.Calls.{LibraryStep, LibraryAnswer, answer_by, LibraryRunResult, library_run}
use Rattle.library_demand3.specs.Claim.{in_number, in_numbers, in_bytes, library_struck, EachLibraryStruck, LibrarySame, EveryLibraryList}
use Rattle.library_demand3.specs.Follows.{NumberShut, AnswerShut, BufferFollows}
use Rattle.library_demand3.proofs.Demand3.{good}
use Rattle.library_demand3.proofs.Lists.{Good, good_next, in_library, refusal_number, decoded}

-- ---- of silence and one reply the number decides the buffer
by_number_lem : (a b : Bool) (r o : List ℕ)
    → (in_number (call_reply (pick a nothing (body r)) o)).number ≡ (in_number (call_reply (pick b nothing (body r)) o)).number
    → in_number (call_reply (pick a nothing (body r)) o) ≡ in_number (call_reply (pick b nothing (body r)) o)
unfolding pick answer_of from_radio answer_number
by_number_lem true true r o h = refl
by_number_lem true false r o h = let f : 0x103 ≡ 0x1000 + (length r + 2) = h in absurd (omega arith)
by_number_lem false true r o h = let f : 0x1000 + (length r + 2) ≡ 0x103 = h in absurd (omega arith)
by_number_lem false false r o h = refl

-- ---- what a struck call is answered with is silence or one reply
is_hushed : Signal → List ℕ → Air → Uid → RfMngt → Bool
is_hushed (Wire s) f a u dynamic = true
is_hushed (Field on) f a u dynamic = true
is_hushed Frame f a u dynamic = inventory_flag f || is_silent f a u dynamic || is_mute f u
is_hushed EndOfFrame f a u dynamic = true

abbrev hushed_reply : Signal → List ℕ → Air → Uid → RfMngt → ReplyBody
hushed_reply x f a u dynamic = pick (is_hushed x f a u dynamic) nothing (fault ShutOut)

hushed_is : (x : Signal) (f : List ℕ) (a : Air) (u : Uid) (dynamic : RfMngt) → shut_of x f a u dynamic ≡ hushed_reply x f a u dynamic
unfolding shut_of is_hushed pick
hushed_is (Wire s) f a u dynamic = refl
hushed_is (Field on) f a u dynamic = refl
hushed_is Frame f a u dynamic = refl
hushed_is EndOfFrame f a u dynamic = refl

hushed_start : (x : Signal) (start : Tag) (a : Air) (f : List ℕ) → shut_reply x start a f ≡ hushed_reply x f a start.uid start.core.registers.dynamic
unfolding shut_reply is_hushed pick
hushed_start (Wire s) start a f = refl
hushed_start (Field on) start a f = refl
hushed_start Frame start a f = refl
hushed_start EndOfFrame start a f = refl

-- ---- a step beside the entry point, call by call: s and m are its bytes, d is the entry point's tag
module _ (step : LibraryStep) where
  -- where the entry point has no transfer open, the state's bytes are its tag's
  record Beside (s m : List ℕ) (d : Device) (cs : List Call) : Type 0 where
    good : Good d
    fits : Fits d
    frames : frames_fit cs ≡ true
    answers : (library_run step s m cs).answers ≡ in_numbers (run_by entry d cs).answers
    shut : (p q : List Call) → p ++ q ≡ cs → transfer_open (run_by entry d p).device.tag ≡ false
        → (library_run step s m p).state ≡ bytes_of (run_by entry d p).device.tag

  at_first : EveryLibraryList (LibrarySame step) → EveryLibraryList (λ (s m : List ℕ) (cs : List Call). Beside s m (device (tag_of s) m) cs)
  unfolding in_bytes
  at_first all s m cs t frames end =
      let d = device (tag_of s) m in
      let same : (p : List Call) → frames_fit p ≡ true → is_closed (wait_run (no_transfer [] d) p) ≡ true → library_run step s m p ≡ in_library (run_by entry d p) =
      λ p f e. all s m p t f e ∙ ap in_bytes (demand_3 d p t.range t.size f t.shut e).same in
      record {
        good = good s m t;
        fits = record { range = t.range; size = t.size };
        frames = frames;
        answers = ap (λ (x : LibraryRunResult). x.answers) (same cs frames end);
        shut = λ p q e h.
            let f = frames_first p q (ap frames_fit e ∙ frames) in
            ap (λ (x : LibraryRunResult). x.state) (same p f (ends_alike d p t.range t.size f t.shut h));
      }

  module _ (c : Call) (cs : List Call) (s m : List ℕ) (d : Device) (b : Beside s m d (c ∷ cs)) where
    next : Beside (step s m c).state (step s m c).memory (entry d c).device cs
    unfolding library_run run_by in_numbers
    next = record {
      good = good_next d c (first_fits c cs b.frames) b.good;
      fits = fits_next d c (first_fits c cs b.frames) b.fits;
      frames = rest_fits c cs b.frames;
      answers = ap (λ (l : List LibraryAnswer). drop 1 l) b.answers;
      shut = λ p q e h. b.shut (c ∷ p) q (ap (λ (l : List Call). c ∷ l) e) h;
    }

    answer_is : answer_by (step s m c) ≡ in_number (entry d c).says
    unfolding library_run run_by in_numbers
    answer_is = ap (λ (l : List LibraryAnswer). get_or l 0 (answer_by (step s m c))) b.answers

    by_open : (o : Bool) → transfer_open d.tag ≡ o → transfer_open (tag_of s) ≡ true → transfer_open d.tag ≡ true
    unfolding library_run run_by
    by_open true e h = e
    by_open false e h =
        ap transfer_open (sym (decoded d.tag b.good.fits)) ∙ ap (λ (x : List ℕ). transfer_open (tag_of x)) (sym (b.shut [] (c ∷ cs) refl e)) ∙ h

    -- what it strikes out the entry point strikes out
    is_struck : library_struck step s m c ≡ true → struck entry d c ≡ true
    unfolding library_struck struck
    is_struck h =
        let frame = is_radio (signal_by c.code c.value) in
        let unrefused = not (ltb (step s m c).number 0x100) in
        let both = and_left (transfer_open (tag_of s) && frame) unrefused h in
        and_both (transfer_open d.tag && frame) (not (is_refused (entry d c).says.answer))
        (and_both (transfer_open d.tag) frame (by_open (transfer_open d.tag) refl (and_left (transfer_open (tag_of s)) frame both)) (and_right (transfer_open (tag_of s)) frame both))
        (ap not (sym (refusal_number d c)) ∙ ap (λ (a : LibraryAnswer). not (ltb a.number 0x100)) (sym answer_is)
        ∙ and_right (transfer_open (tag_of s) && frame) unrefused h)

    -- and answers with silence or error 0Fh
    record ShutAnswer : Type 0 where
      silent : Bool
      is : answer_by (step s m c) ≡ in_number (call_reply (pick silent nothing (fault ShutOut)) c.buffer)

    shut_answer_lem : library_struck step s m c ≡ true → ShutAnswer
    shut_answer_lem h =
        let x = signal_by c.code c.value in
        record {
          silent = is_hushed x c.frame d.tag.air d.tag.uid (tag_counted d.tag);
          is = answer_is
              ∙ ap (λ (e : DeviceResult). in_number e.says) (struck_is d c b.fits (is_struck h))
              ∙ ap (λ (reply : ReplyBody). in_number (call_reply reply c.buffer)) (hushed_is x c.frame d.tag.air d.tag.uid (tag_counted d.tag));
        }

  buffers : (cs : List Call) (start : Tag) (s m : List ℕ) (d : Device) → Beside s m d cs
      → EachLibraryStruck step (NumberShut step) start s m cs → EachLibraryStruck step (AnswerShut step) start s m cs
  unfolding EachLibraryStruck
  buffers [] start s m d b h = tt
  buffers (c ∷ cs) start s m d b (h, hs) = (
    λ t.
        let e = shut_answer_lem c cs s m d b t in
        let r = hushed_start (signal_by c.code c.value) (start_after start (tag_of s)) (tag_of s).air c.frame in
        e.is
        ∙ by_number_lem e.silent _ _ c.buffer
        (ap (λ (a : LibraryAnswer). a.number) (sym e.is) ∙ h t ∙ ap (λ (reply : ReplyBody). (in_number (call_reply reply c.buffer)).number) r)
        ∙ ap (λ (reply : ReplyBody). in_number (call_reply reply c.buffer)) (sym r),
    buffers cs (start_after start (tag_of s)) (step s m c).state (step s m c).memory (entry d c).device (next c cs s m d b) hs,
  )

pub buffer_follows : BufferFollows
buffer_follows step all s m cs t frames end h = buffers step cs (tag_of s) s m (device (tag_of s) m) (at_first step all s m cs t frames end) h
