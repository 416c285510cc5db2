-- The search over bytes and numbers. Assumes nothing.
use mathlib.Core.Path.{◌≡◌, refl, sym, ap, ◌∙◌}
use mathlib.Core.Bool.{true}
use mathlib.Core.List.{List, [], ◌∷◌}
use Prim.Native.Nat.{ℕ, zero, suc, ◌+◌, ◌<◌}
use Rattle.std.specs.Prelude.{Ok, Err, Some, None}
use native.Mathlib.Omega.{arith}
use lib.Dec.{eqb}
use lib.ListN.{length}
use Rattle.parts.specs.Pick.{pick}
use Rattle.parts.specs.Bytes.{are_bytes}
use Rattle.parts.proofs.Bools.{and_both}
use Rattle.refusals.specs.declared.Refusal.{Refusal}
use Rattle.refusals.specs.declared.Refusal.TheVariants.{MemoryLength, ReplyShort, SignalUnknown, OutOfRange, RackSize, NoSuchTag, EqualUids, StateLength, UidLength}
use Rattle.refusals.specs.Refusals.{number}
use Rattle.library_demand3.specs.Passed.{CallResult}
use Rattle.rack.specs.Rack.{Rack, RackCall}
use Rattle.rack.specs.Step.{RackAnswer, rack_entry, rack_run}
use Rattle.wrong_racks.specs.Passed.{rack_frames_fit, SearchAnswer, sends_frame, sends_next, search_entry, sent_calls, slots_opened, buffer_after}
use Rattle.wrong_racks.proofs.Passed.{searches}
use Rattle.rack_states.specs.States.{states_of, tags_at}
use Rattle.rack_states.proofs.States.{tags_number}
use Rattle.library_rack_refusals.specs.Rules.{rack_at}
use Rattle.capi_rack.specs.RackInterface.{search_number, search_called}
use Rattle.capi_rack.proofs.Racks.{searches_the_rack}
use Rattle.library_rack.specs.Calls.{exported_rack, exported_search, LibraryRackRunResult}
use Rattle.library_rack.specs.Claims.{in_rack_numbers, RackStarts, reply_after, calls_sent, LibrarySearches}
use Rattle.library_rack.proofs.States.{all_fit, starts_back}
use Rattle.library_rack.proofs.Runs.{good, library_runs_rack}

-- ---- a number is one refusal's, one slot's or that of none
small : (x : Refusal) → number x < 0x100
unfolding number
small MemoryLength = omega arith
small ReplyShort = omega arith
small SignalUnknown = omega arith
small OutOfRange = omega arith
small RackSize = omega arith
small NoSuchTag = omega arith
small EqualUids = omega arith
small StateLength = omega arith
small UidLength = omega arith

unfoldable numbered : ℕ → Refusal
numbered n =
    pick (eqb n 1) MemoryLength (pick (eqb n 2) ReplyShort (pick (eqb n 3) SignalUnknown (pick (eqb n 4) OutOfRange
    (pick (eqb n 5) RackSize (pick (eqb n 6) NoSuchTag (pick (eqb n 7) EqualUids (pick (eqb n 13) StateLength UidLength)))))))

number_back : (x : Refusal) → numbered (number x) ≡ x
unfolding numbered number pick
number_back MemoryLength = refl
number_back ReplyShort = refl
number_back SignalUnknown = refl
number_back OutOfRange = refl
number_back RackSize = refl
number_back NoSuchTag = refl
number_back EqualUids = refl
number_back StateLength = refl
number_back UidLength = refl

refused_only : (a : SearchAnswer) (x : Refusal) → search_number a ≡ number x → a ≡ Err x
unfolding search_number
refused_only (Err y) x h = ap Err (sym (number_back y) ∙ ap numbered h ∙ number_back x)
refused_only (Ok None) x h = let s = small x in absurd (omega (arith, h, s))
refused_only (Ok (Some k)) x h = let s = small x in absurd (omega (arith, h, s))

collision_only : (a : SearchAnswer) (k : ℕ) → search_number a ≡ 0x400 + k → a ≡ Ok (Some k)
unfolding search_number
collision_only (Err y) k h = let s = small y in absurd (omega (arith, h, s))
collision_only (Ok None) k h = absurd (omega (arith, h))
collision_only (Ok (Some j)) k h = let e : j ≡ k = omega (arith, h) in ap (λ (i : ℕ). Ok (Some i)) e

none_only : (a : SearchAnswer) → search_number a ≡ 0x100 → a ≡ Ok None
unfolding search_number
none_only (Err y) h = let s = small y in absurd (omega (arith, h, s))
none_only (Ok None) h = refl
none_only (Ok (Some k)) h = absurd (omega (arith, h))

-- ---- the calls that it sends
sent_fit : (n : ℕ) (r : Rack) (c : RackCall) → are_bytes c.handed.frame ≡ true → rack_frames_fit (sent_calls rack_entry n r c) ≡ true
unfolding sent_calls rack_frames_fit are_bytes
sent_fit zero r c b = refl
sent_fit (suc n) r c b =
    let e = rack_entry r c in
    and_both (are_bytes c.handed.frame) (rack_frames_fit (sent_calls rack_entry n e.rack (sends_next e))) b (sent_fit n e.rack (sends_next e) refl)

reply_is : (o : List ℕ) (l : List RackAnswer) → buffer_after o l ≡ reply_after o (in_rack_numbers l)
unfolding buffer_after reply_after in_rack_numbers
reply_is o [] = refl
reply_is o (a ∷ l) = reply_is a.says.buffer l

-- ---- the search
search_is : (n : ℕ) (s m o f : List ℕ) → RackStarts n s m → exported_search n s m o f ≡ search_called (search_entry (rack_at n s m) o f)
unfolding exported_search
search_is n s m o f t =
    ap (λ (k : ℕ). exported_search k s m o f) (sym (tags_number n s))
    ∙ ap (λ (x : List ℕ). exported_search (length (tags_at n s)) x m o f) (sym (starts_back n s m t))
    ∙ searches_the_rack (tags_at n s) m o f (all_fit (tags_at n s) (good n s m t).fits)

pub library_searches : LibrarySearches exported_rack exported_search
unfolding search_number
library_searches n s m o f t b =
    let r = rack_at n s m in
    let x = searches r o f b in
    let a = (search_entry r o f).answer in
    let is = search_is n s m o f t in
    let number_is : (exported_search n s m o f).number ≡ search_number a = ap (λ (e : CallResult). e.number) is in
    let sent = calls_sent n s m o f in
    let run = library_runs_rack n s m sent t (sent_fit (slots_opened f a) r (sends_frame o f) b) in
    record {
      refused = λ y. (
        λ e. (x.refused y).0 (refused_only a y (sym number_is ∙ e)),
        λ h. number_is ∙ ap search_number ((x.refused y).1 h),
      );
      collision = λ none k. (
        λ e. (x.collision none k).0 (collision_only a k (sym number_is ∙ e)),
        λ h. number_is ∙ ap search_number ((x.collision none k).1 h),
      );
      none = λ none. (
        λ e. (x.none none).0 (none_only a (sym number_is ∙ e)),
        λ h. number_is ∙ ap search_number ((x.none none).1 h),
      );
      states = ap (λ (e : CallResult). e.state) is ∙ ap (λ (q : Rack). states_of q.tags) x.rack_left ∙ ap (λ (e : LibraryRackRunResult). e.states) (sym run);
      memory = ap (λ (e : CallResult). e.memory) is ∙ ap (λ (q : Rack). q.memory) x.rack_left ∙ ap (λ (e : LibraryRackRunResult). e.memory) (sym run);
      reply =
          ap (λ (e : CallResult). e.reply) is ∙ x.buffer_left ∙ reply_is o (rack_run rack_entry r sent).answers
          ∙ ap (λ (e : LibraryRackRunResult). reply_after o e.answers) (sym run);
    }
