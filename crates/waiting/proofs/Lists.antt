-- Laws of noted signals that end no transfer, and of places. Assumes nothing.
use mathlib.Core.Path.{◌≡◌, refl, sym, ap}
use mathlib.Core.Bool.{Bool, true, false}
use mathlib.Core.List.{List, [], ◌∷◌, ◌++◌}
use Prim.Native.Nat.{ℕ, suc}
use native.Mathlib.Omega.{arith}
use lib.ListN.{length}
use Rattle.parts.specs.Pick.{pick}
use Rattle.parts.proofs.Picks.{pick_false}
use Rattle.tag.specs.declared.WireSide.{WireSide}
use Rattle.keys.specs.declared.Uid.{Uid}
use Rattle.signal.specs.declared.WireAnswer.{WireAnswer}
use Rattle.transfer.specs.Passed.{signal_of}
use Rattle.transfer.specs.Legs.{Noted, wire_signal, ends, fresher, is_empty, finished}
use Rattle.transfer.specs.Whole.{transfer_result}
use Rattle.transfer.specs.Claim.{run_of}
use Rattle.transfer.proofs.Run.{run_append}
use Rattle.calls.specs.Passed.{from_wire}
use Rattle.calls.specs.Calls.{CallAnswer, call_answer}
use Rattle.waiting.specs.Waiting.{Pending, given, waits, fill}

-- ---- runs
-- a run with one signal more
pub run_snoc : (w : WireSide) (u : Uid) (m : List ℕ) (n : List Noted) (s : Noted)
    → run_of w u m (n ++ s ∷ [])
    ≡ (let r = run_of w u m n in let e = signal_of r.side u r.memory (wire_signal s) in transfer_result (r.answers ++ e.answer ∷ []) e.side e.memory)
unfolding run_of
run_snoc w u m n s = run_append n (s ∷ []) w u m

pub run_length : (n : List Noted) (w : WireSide) (u : Uid) (m : List ℕ) → length (run_of w u m n).answers ≡ length n
unfolding run_of
run_length [] w u m = refl
run_length (s ∷ n) w u m =
    let e = signal_of w u m (wire_signal s) in
    ap suc (run_length n e.side u e.memory)

-- ---- no signal of the list ends the transfer; `fresh` at its start, `after` at its end
pub data On : Bool → List Noted → Bool → Type 0 where
  here : {fresh : Bool} → On fresh [] fresh
  more : {fresh after : Bool} {s : Noted} {n : List Noted} → ends fresh s ≡ false → On (fresher fresh s) n after → On fresh (s ∷ n) after

pub on_snoc : {fresh after : Bool} {n : List Noted} → On fresh n after → (s : Noted) → ends after s ≡ false → On fresh (n ++ s ∷ []) (fresher after s)
on_snoc here s h = more h here
on_snoc (more q o) s h = more q (on_snoc o s h)

pick_self : (b : Bool) → pick b true false ≡ b
unfolding pick
pick_self true = refl
pick_self false = refl

pub on_finished : {fresh after : Bool} {n : List Noted} → On fresh n after → (s : Noted) → finished fresh (n ++ s ∷ []) ≡ ends after s
unfolding finished is_empty
on_finished here s = pick_self _
on_finished (more q o) s = sym (pick_false _ _ _ _ q (sym (on_finished o s)))

-- ---- places: how many wait
unfoldable pub waiting : List Pending → ℕ
waiting [] = 0
waiting (given a ∷ sl) = waiting sl
waiting (waits o ∷ sl) = suc (waiting sl)

pub waiting_waits : (sl : List Pending) (o : List ℕ) → waiting (sl ++ waits o ∷ []) ≡ suc (waiting sl)
unfolding waiting
waiting_waits [] o = refl
waiting_waits (given a ∷ sl) o = waiting_waits sl o
waiting_waits (waits p ∷ sl) o = ap suc (waiting_waits sl o)

pub waiting_given : (sl : List Pending) (a : CallAnswer) → waiting (sl ++ given a ∷ []) ≡ waiting sl
unfolding waiting
waiting_given [] a = refl
waiting_given (given b ∷ sl) a = waiting_given sl a
waiting_given (waits p ∷ sl) a = ap suc (waiting_given sl a)

-- one more that waits, with its answer; one more that is given
pub fill_waits : (sl : List Pending) (xs : List WireAnswer) (o : List ℕ) (x : WireAnswer) → waiting sl ≡ length xs
    → fill (sl ++ waits o ∷ []) (xs ++ x ∷ []) ≡ fill sl xs ++ call_answer (from_wire x) o ∷ []
unfolding fill waiting
fill_waits [] [] o x h = refl
fill_waits [] (y ∷ xs) o x h = absurd (omega arith)
fill_waits (given b ∷ sl) xs o x h = ap (λ (l : List CallAnswer). b ∷ l) (fill_waits sl xs o x h)
fill_waits (waits p ∷ sl) [] o x h = absurd (omega arith)
fill_waits (waits p ∷ sl) (y ∷ xs) o x h = ap (λ (l : List CallAnswer). call_answer (from_wire y) p ∷ l) (fill_waits sl xs o x (omega arith))

pub fill_given : (sl : List Pending) (xs : List WireAnswer) (a : CallAnswer) → waiting sl ≡ length xs → fill (sl ++ given a ∷ []) xs ≡ fill sl xs ++ a ∷ []
unfolding fill waiting
fill_given [] [] a h = refl
fill_given [] (y ∷ xs) a h = absurd (omega arith)
fill_given (given b ∷ sl) xs a h = ap (λ (l : List CallAnswer). b ∷ l) (fill_given sl xs a h)
fill_given (waits p ∷ sl) [] a h = absurd (omega arith)
fill_given (waits p ∷ sl) (y ∷ xs) a h = ap (λ (l : List CallAnswer). call_answer (from_wire y) p ∷ l) (fill_given sl xs a (omega arith))
