-- The turns of a rack's tags with one more at the end. Assumes nothing.
use mathlib.Core.Path.{◌≡◌, refl, sym, ap, ◌∙◌}
use mathlib.Core.Bool.{Bool, true, false, ◌||◌}
use mathlib.Core.List.{List, [], ◌∷◌, ◌++◌, append_assoc, append-nil}
use Prim.Native.Nat.{ℕ, zero, suc, ◌+◌}
use native.Mathlib.Omega.{arith}
use lib.ListN.{length, take, drop, replicate}
use Rattle.parts.specs.Pick.{pick}
use Rattle.parts.proofs.Picks.{pick_false}
use Rattle.tag.specs.declared.Tag.{Tag}
use Rattle.model.specs.Step.{is_reply}
use Rattle.rack_judge.specs.Passed.{CallAnswer, Device, DeviceResult, Step, RackCall, tags_of, memories_of, turn_of, turns_of, left_by, said_by, who_replied, numbers_from, lowest_reply}

-- ---- tests
pub or_left_false : (a b : Bool) → (a || b) ≡ false → a ≡ false
or_left_false true b h = h
or_left_false false b h = refl

pub or_right_false : (a b : Bool) → (a || b) ≡ false → b ≡ false
or_right_false true true h = h
or_right_false true false h = refl
or_right_false false b h = h

or_assoc : (a b c : Bool) → (a || (b || c)) ≡ ((a || b) || c)
or_assoc true b c = refl
or_assoc false b c = refl

or_false : (a : Bool) → (a || false) ≡ a
or_false true = refl
or_false false = refl

-- ---- one more at the end of each list
pub tags_more : (es : List DeviceResult) (e : DeviceResult) → tags_of (left_by (es ++ e ∷ [])) ≡ tags_of (left_by es) ++ e.device.tag ∷ []
unfolding tags_of left_by
tags_more [] e = refl
tags_more (x ∷ es) e = ap (λ (l : List Tag). x.device.tag ∷ l) (tags_more es e)

pub memory_more : (es : List DeviceResult) (e : DeviceResult) → memories_of (left_by (es ++ e ∷ [])) ≡ memories_of (left_by es) ++ e.device.memory
unfolding memories_of left_by
memory_more [] e = append-nil e.device.memory
memory_more (x ∷ es) e =
    ap (λ (l : List ℕ). x.device.memory ++ l) (memory_more es e)
    ∙ sym (append_assoc x.device.memory (memories_of (left_by es)) e.device.memory)

pub said_more : (es : List DeviceResult) (e : DeviceResult) → said_by (es ++ e ∷ []) ≡ said_by es ++ e.says ∷ []
unfolding said_by
said_more [] e = refl
said_more (x ∷ es) e = ap (λ (l : List CallAnswer). x.says ∷ l) (said_more es e)

pub who_more : (es : List DeviceResult) (e : DeviceResult) → who_replied (said_by (es ++ e ∷ [])) ≡ who_replied (said_by es) ++ is_reply e.says.answer ∷ []
unfolding who_replied said_by
who_more [] e = refl
who_more (x ∷ es) e = ap (λ (l : List Bool). is_reply x.says.answer ∷ l) (who_more es e)

pub tags_long : (es : List DeviceResult) → length (tags_of (left_by es)) ≡ length es
unfolding tags_of left_by
tags_long [] = refl
tags_long (x ∷ es) = ap suc (tags_long es)

pub said_long : (es : List DeviceResult) → length (said_by es) ≡ length es
unfolding said_by
said_long [] = refl
said_long (x ∷ es) = ap suc (said_long es)

pub who_long : (es : List DeviceResult) → length (who_replied (said_by es)) ≡ length es
unfolding who_replied said_by
who_long [] = refl
who_long (x ∷ es) = ap suc (who_long es)

pub turns_more : (step : Step) (c : RackCall) (i : ℕ) (ds : List Device) (d : Device)
    → turns_of step c i (ds ++ d ∷ []) ≡ turns_of step c i ds ++ turn_of step c (i + length ds) d ∷ []
unfolding turns_of
turns_more step c i [] d = let e : i ≡ i + 0 = omega arith in ap (λ (k : ℕ). turn_of step c k d ∷ []) e
turns_more step c i (x ∷ ds) d =
    let e : suc i + length ds ≡ i + suc (length ds) = omega arith in
    ap (λ (l : List DeviceResult). turn_of step c i x ∷ l) (turns_more step c (suc i) ds d ∙ ap (λ (k : ℕ). turns_of step c (suc i) ds ++ turn_of step c k d ∷ []) e)

pub turns_long : (step : Step) (c : RackCall) (i : ℕ) (ds : List Device) → length (turns_of step c i ds) ≡ length ds
unfolding turns_of
turns_long step c i [] = refl
turns_long step c i (d ∷ ds) = ap suc (turns_long step c (suc i) ds)

-- ---- a tag has replied
unfoldable pub some : List DeviceResult → Bool
some [] = false
some (e ∷ es) = is_reply e.says.answer || some es

pub some_more : (es : List DeviceResult) (e : DeviceResult) → some (es ++ e ∷ []) ≡ (some es || is_reply e.says.answer)
unfolding some
some_more [] e = or_false (is_reply e.says.answer)
some_more (x ∷ es) e =
    ap (λ (b : Bool). is_reply x.says.answer || b) (some_more es e) ∙ or_assoc (is_reply x.says.answer) (some es) (is_reply e.says.answer)

lowest_by : (b c : Bool) (x y z w : CallAnswer) → y ≡ pick c z w → pick b x y ≡ pick (b || c) (pick b x z) w
unfolding pick
lowest_by true c x y z w e = refl
lowest_by false c x y z w e = e

pub lowest_more : (q : CallAnswer) (es : List DeviceResult) (e : DeviceResult)
    → lowest_reply q (said_by (es ++ e ∷ [])) ≡ pick (some es) (lowest_reply q (said_by es)) (pick (is_reply e.says.answer) e.says q)
unfolding lowest_reply said_by some
lowest_more q [] e = pick_false _ _ _ false refl refl
lowest_more q (x ∷ es) e = lowest_by (is_reply x.says.answer) (some es) x.says _ _ _ (lowest_more q es e)

pub lowest_none : (q : CallAnswer) (es : List DeviceResult) → some es ≡ false → lowest_reply q (said_by es) ≡ q
unfolding lowest_reply said_by some
lowest_none q [] h = refl
lowest_none q (x ∷ es) h =
    sym (pick_false _ _ _ (is_reply x.says.answer) (or_left_false (is_reply x.says.answer) (some es) h)
    (sym (lowest_none q es (or_right_false (is_reply x.says.answer) (some es) h))))

-- ---- tags that have not replied have no number
numbers_none : (i j : ℕ) → numbers_from i (replicate j false) ≡ []
unfolding numbers_from pick
numbers_none i zero = refl
numbers_none i (suc j) = numbers_none (suc i) j

pub numbers_first : (i j : ℕ) (bs : List Bool) → numbers_from i (bs ++ replicate j false) ≡ numbers_from i bs
unfolding numbers_from
numbers_first i j [] = numbers_none i j
numbers_first i j (b ∷ bs) = ap (λ (l : List ℕ). pick b (i ∷ l) l) (numbers_first (suc i) j bs)

-- ---- the first n of a list replaced
pub take_first : (n : ℕ) (us ts : List Tag) → length us ≡ length (take n ts) → take n (us ++ drop (length us) ts) ≡ us
take_first zero [] ts h = refl
take_first zero (u ∷ us) ts h = absurd (omega arith)
take_first (suc n) [] [] h = refl
take_first (suc n) [] (t ∷ ts) h = absurd (omega arith)
take_first (suc n) (u ∷ us) [] h = absurd (omega arith)
take_first (suc n) (u ∷ us) (t ∷ ts) h = ap (λ (l : List Tag). u ∷ l) (take_first n us ts (omega arith))

pub drop_first : (n : ℕ) (us ts : List Tag) → length us ≡ length (take n ts) → drop n (us ++ drop (length us) ts) ≡ drop n ts
drop_first zero [] ts h = refl
drop_first zero (u ∷ us) ts h = absurd (omega arith)
drop_first (suc n) [] [] h = refl
drop_first (suc n) [] (t ∷ ts) h = absurd (omega arith)
drop_first (suc n) (u ∷ us) [] h = absurd (omega arith)
drop_first (suc n) (u ∷ us) (t ∷ ts) h = drop_first n us ts (omega arith)
