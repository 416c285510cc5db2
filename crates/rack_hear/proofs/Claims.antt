-- The tags of a slice hear a call as a rack does. Assumes nothing.
use mathlib.Core.Path.{◌≡◌, refl, sym, ap, subst, ◌∙◌}
use mathlib.Core.Bool.{Bool, true, false, not, ◌||◌, false≢true}
use mathlib.Core.List.{List, [], ◌∷◌, ◌++◌, append_assoc, append-nil}
use Prim.Native.Nat.{ℕ, zero, suc, ◌+◌, ◌-◌, ◌*◌, ◌≤◌, ◌<◌}
use Rattle.std.specs.Prelude.{Ok}
use native.Mathlib.Omega.{arith}
use native.Mathlib.Nat.{zero-add}
use lib.Dec.{leb, ltb, eqb}
use lib.ListN.{length, get_or, set, take, drop, replicate, length-append, length-take, length-drop, take-append-drop, drop_of_length-le, get_or-append, get_or-eq_default}
use lib.Seq.{take-suc, length-take-le, take_all, take_at, drop_at, drop-drop, drop-cons, set_at, set-get_or, get_or_at, get_or-take}
use borrow.Author.Tests.{le-leb, lt-leb, le-ltb, ltb-true, ltb-false, eqb-true, eqb-false, not-false}
use Rattle.parts.specs.Pick.{pick}
use Rattle.parts.proofs.Picks.{pick_case, pick_true, pick_false}
use Rattle.rule_list.specs.RuleList.{first_says}
use Rattle.tag.specs.declared.Tag.{Tag}
use Rattle.tag.specs.Layout.{reply_bytes}
use Rattle.signal_table.specs.declared.Signal.{Signal}
use Rattle.signal_table.specs.Table.{signal_in_range, signal_by}
use Rattle.refusals.specs.declared.Refusal.TheVariants.{ReplyShort, SignalUnknown}
use Rattle.refusals.specs.Call.{handed_in}
use Rattle.refusals.specs.Refusals.{number, argument_rules, judgement}
use Rattle.refusals.proofs.Laws.{applies_of, NoneApplies, not_refused, no_refusal}
use Rattle.model.specs.declared.Answer.{Answer}
use Rattle.model.specs.declared.Answer.TheVariants.{Nothing, Silence}
use Rattle.model.specs.Step.{StepResult, is_reply, act_of}
use Rattle.rack_judge.specs.Passed.{CallAnswer, call_answer, Device, device, DeviceResult, entry, Rack, rack_of, RackCall, rack_call, memory_size, memory_sizes, no_tag, device_at, devices, tags_of, memories_of, to_all, goes_to, most_tags, rack_rules, unreached, turn_of, turns_of, left_by, said_by, rack_answer, who_replied, numbers_from, lowest_reply, no_reply, together, rack_result, rack_acts, is_wire}
use Rattle.rack_judge.proofs.Passed.{Fits, acted, wire_to_one, number_apart, at_apart, AllFit, tag_fit, size_of, number_of, fit_of}
use Rattle.rack_hear.specs.declared.Heard.{Heard}
use Rattle.rack_hear.specs.Hear.{no_reply_answer, hear_start, hear_refused, passed_by, HeardResult, heard_result, put_at, acted_at, act_at, hear_of, HeardAll, heard_all, put_back, hear_one_of, hear_onward, hear_all_of}
use Rattle.rack_hear.specs.Claims.{HeardAsRack, HearsRacks, RefusedUnheard}
use Rattle.rack_hear.proofs.Acts.{Alike, blind, says_by, wire_no_reply, no_reply_says, field_code, act_size, entry_acts}
use Rattle.rack_hear.proofs.More.{or_left_false, or_right_false, tags_more, memory_more, said_more, who_more, tags_long, said_long, who_long, turns_more, turns_long, some, some_more, lowest_more, lowest_none, numbers_first, take_first, drop_first}

-- ---- a tag that hears nothing
all_suc : (i : ℕ) (ts : List Tag) (m o f : List ℕ) (a : Heard) → hear_all_of (suc i) ts m o f a ≡ hear_onward i f (hear_all_of i ts m o f a)
unfolding hear_all_of
all_suc i ts m o f a = refl

-- one that is not of the rack
pub past : (i : ℕ) (f : List ℕ) (w : HeardAll) → w.answer.number ≤ i → hear_onward i f w ≡ w
unfolding hear_one_of hear_of
past i f w h =
    ap (λ (x : HeardResult). put_back w.tags i x)
    (sym (pick_true _ _ _ (leb w.answer.number i) (le-leb w.answer.number i h) refl))
    ∙ ap (λ (l : List Tag). heard_all w.answer l w.mem w.out) (set-get_or w.tags i no_tag)

pub refused_unheard : RefusedUnheard
unfolding hear_all_of
refused_unheard zero ts m o f x code value to = refl
refused_unheard (suc i) ts m o f x code value to =
    ap (hear_onward i f) (refused_unheard i ts m o f x code value to)
    ∙ past i f (heard_all (hear_refused x code value to) ts m o) (omega arith)

-- ---- the bytes of tags
sizes_are : (ts : List Tag) → memory_sizes ts ≡ 1024 * length ts
unfolding memory_sizes memory_size
sizes_are [] = refl
sizes_are (t ∷ ts) = let e = sizes_are ts in omega (arith, e)

fit_take : (i : ℕ) (ds : List Device) → AllFit ds → AllFit (take i ds)
unfolding AllFit
fit_take zero ds f = tt
fit_take (suc i) [] f = tt
fit_take (suc i) (d ∷ ds) f = (f.0, fit_take i ds f.1)

-- a choice by a test that both sides know
same_or : (a b : Bool) → a ≡ false → (a || b) ≡ true → b ≡ true
same_or a b p h = ap (λ (x : Bool). x || b) (sym p) ∙ h

module _ (ts : List Tag) (m o f : List ℕ) (n code value to : ℕ) (h : judgement (rack_rules (rack_of (take n ts) m) (rack_call (handed_in o code value f) to)) ≡ Ok tt) where
  abbrev r : Rack
  r = rack_of (take n ts) m

  abbrev c : RackCall
  c = rack_call (handed_in o code value f) to

  abbrev k : ℕ
  k = length (take n ts)

  abbrev x : Signal
  x = signal_by code value

  -- ---- what is known of a call that is not refused
  known : signal_in_range code value ≡ true
  unfolding applies_of first_says number pick
  known = not-false _ (not_refused SignalUnknown (rack_rules r c) h)

  arguments : judgement (argument_rules c.handed) ≡ Ok tt
  unfolding NoneApplies applies_of first_says number pick
  arguments = no_refusal (argument_rules c.handed) (not_refused ReplyShort (rack_rules r c) h, (not_refused SignalUnknown (rack_rules r c) h, tt))

  few : k ≤ 16
  few = ltb-false _ _ (or_right_false (eqb k 0) (ltb most_tags k) (number_of r c h))

  size : length m ≡ 1024 * k
  size = size_of r c h ∙ sizes_are (take n ts)

  in_slice : k ≤ length ts
  in_slice = let e = length-take n ts in omega (arith, e)

  wire : to_all code ≡ false → is_wire x ≡ true
  wire a = not-false _ (sym (wire_to_one code value known) ∙ a)

  not_wire : to_all code ≡ true → is_wire x ≡ false
  not_wire a = by (is_wire x) (sym a ∙ wire_to_one code value known)
    where
      by : (b : Bool) → true ≡ not b → b ≡ false
      by true q = q
      by false q = refl

  -- ---- a turn
  reached : (i : ℕ) (d : Device) → Fits d → goes_to c i ≡ true → turn_of entry c i d ≡ acted d c.handed
  unfolding turn_of
  reached i d fit g = sym (pick_true _ _ _ (goes_to c i) g refl) ∙ entry_acts d c.handed fit arguments

  passed_by_lem : (i : ℕ) (d : Device) → goes_to c i ≡ false → turn_of entry c i d ≡ unreached c.handed d
  unfolding turn_of
  passed_by_lem i d g = sym (pick_false _ _ _ (goes_to c i) g refl)

  turn_size : (i : ℕ) (d : Device) → Fits d → length (turn_of entry c i d).device.memory ≡ 1024
  turn_size i d fit = by (goes_to c i) refl
    where
      by : (b : Bool) → goes_to c i ≡ b → length (turn_of entry c i d).device.memory ≡ 1024
      by true g = ap (λ (e : DeviceResult). length e.device.memory) (reached i d fit g) ∙ act_size x d.tag d.memory o f fit
      by false g = ap (λ (e : DeviceResult). length e.device.memory) (passed_by_lem i d g) ∙ fit.size

  turns_size : (i : ℕ) (ds : List Device) → AllFit ds → length (memories_of (left_by (turns_of entry c i ds))) ≡ 1024 * length ds
  unfolding AllFit memories_of left_by turns_of
  turns_size i [] fit = refl
  turns_size i (d ∷ ds) fit =
      let a = length-append (turn_of entry c i d).device.memory (memories_of (left_by (turns_of entry c (suc i) ds))) in
      let b = turn_size i d fit.0 in
      let e = turns_size (suc i) ds fit.1 in
      omega (arith, a, b, e)

  -- to a signal that goes to one tag nobody replies
  turn_unreplied : to_all code ≡ false → (i : ℕ) (d : Device) → Fits d → is_reply (turn_of entry c i d).says.answer ≡ false
  unfolding is_reply
  turn_unreplied a i d fit = by (goes_to c i) refl
    where
      by : (b : Bool) → goes_to c i ≡ b → is_reply (turn_of entry c i d).says.answer ≡ false
      by true g = ap (λ (e : DeviceResult). is_reply e.says.answer) (reached i d fit g) ∙ wire_no_reply x d.tag d.memory o f (wire a)
      by false g = ap (λ (e : DeviceResult). is_reply e.says.answer) (passed_by_lem i d g)

  none_replied : to_all code ≡ false → (i : ℕ) (ds : List Device) → AllFit ds → some (turns_of entry c i ds) ≡ false
  unfolding AllFit some turns_of
  none_replied a i [] fit = refl
  none_replied a i (d ∷ ds) fit =
      ap (λ (b : Bool). b || some (turns_of entry c (suc i) ds)) (turn_unreplied a i d fit.0) ∙ none_replied a (suc i) ds fit.1

  -- ---- what is carried after i tags, whose turns are es
  abbrev says_of : List DeviceResult → CallAnswer
  says_of es = (together c (said_by es)).says

  abbrev made : ℕ → Bool → List Bool → Answer → Heard
  made at b l a = record { number = k; at = at; code = code; value = value; to = to; replied = b; answered = l; answer = a }

  abbrev carried : ℕ → List DeviceResult → Heard
  carried i es = made (1024 * i) (some es) (who_replied (said_by es) ++ replicate (16 - i) false) (says_of es).answer

  abbrev tags_at : ℕ → List DeviceResult → List Tag
  tags_at i es = tags_of (left_by es) ++ drop i ts

  abbrev memory_at : ℕ → List DeviceResult → List ℕ
  memory_at i es = memories_of (left_by es) ++ drop (1024 * i) m

  abbrev state : ℕ → List DeviceResult → HeardAll
  state i es = heard_all (carried i es) (tags_at i es) (memory_at i es) (says_of es).buffer

  -- ---- one turn
  module _ (i : ℕ) (es : List DeviceResult) (l : i < k) (long : length es ≡ i) (bytes : length (memories_of (left_by es)) ≡ 1024 * i) (quiet : to_all code ≡ false → some es ≡ false) where
    abbrev t : Tag
    t = get_or ts i no_tag

    abbrev part : List ℕ
    part = take 1024 (drop (1024 * i) m)

    abbrev e : DeviceResult
    e = turn_of entry c i (device t part)

    below : i < length ts
    below = let b = in_slice in omega (arith, b, l)

    here : drop i ts ≡ t ∷ drop (suc i) ts
    here = drop-cons ts i no_tag below

    tag_here : get_or (tags_at i es) i no_tag ≡ t
    tag_here = ap (λ (u : List Tag). get_or (tags_of (left_by es) ++ u) i no_tag) here ∙ get_or_at (tags_of (left_by es)) t (drop (suc i) ts) no_tag i (tags_long es ∙ long)

    part_here : take 1024 (drop (1024 * i) (memory_at i es)) ≡ part
    part_here = ap (take 1024) (drop_at (memories_of (left_by es)) (drop (1024 * i) m) (1024 * i) bytes)

    next_bytes : drop 1024 (drop (1024 * i) m) ≡ drop (1024 * suc i) m
    next_bytes = let q : 1024 * i + 1024 ≡ 1024 * suc i = omega arith in drop-drop 1024 (1024 * i) m ∙ ap (λ (j : ℕ). drop j m) q

    -- what a turn leaves of the slice
    record Turned (y : HeardResult) : Type 0 where
      answer : y.answer ≡ carried (suc i) (es ++ e ∷ [])
      tag : y.tag ≡ e.device.tag
      mem : y.mem ≡ memories_of (left_by es) ++ (e.device.memory ++ drop (1024 * suc i) m)
      out : y.out ≡ (says_of (es ++ e ∷ [])).buffer

    tags_next : (y : Tag) → y ≡ e.device.tag → set (tags_at i es) i y ≡ tags_at (suc i) (es ++ e ∷ [])
    tags_next y q =
        ap (λ (u : List Tag). set (tags_of (left_by es) ++ u) i y) here
        ∙ set_at (tags_of (left_by es)) t (drop (suc i) ts) y i (tags_long es ∙ long)
        ∙ ap (λ (y : Tag). tags_of (left_by es) ++ y ∷ drop (suc i) ts) q
        ∙ sym (append_assoc (tags_of (left_by es)) (e.device.tag ∷ []) (drop (suc i) ts))
        ∙ ap (λ (u : List Tag). u ++ drop (suc i) ts) (sym (tags_more es e))

    memory_next : memories_of (left_by es) ++ (e.device.memory ++ drop (1024 * suc i) m) ≡ memory_at (suc i) (es ++ e ∷ [])
    memory_next =
        sym (append_assoc (memories_of (left_by es)) e.device.memory (drop (1024 * suc i) m))
        ∙ ap (λ (u : List ℕ). u ++ drop (1024 * suc i) m) (sym (memory_more es e))

    turned : (y : HeardResult) → Turned y → put_back (tags_at i es) i y ≡ state (suc i) (es ++ e ∷ [])
    turned y q =
        ap (λ (a : Heard). heard_all a (set (tags_at i es) i y.tag) y.mem y.out) q.answer
        ∙ ap (λ (u : List Tag). heard_all (carried (suc i) (es ++ e ∷ [])) u y.mem y.out) (tags_next y.tag q.tag)
        ∙ ap (λ (u : List ℕ). heard_all (carried (suc i) (es ++ e ∷ [])) (tags_at (suc i) (es ++ e ∷ [])) u y.out) (q.mem ∙ memory_next)
        ∙ ap (λ (u : List ℕ). heard_all (carried (suc i) (es ++ e ∷ [])) (tags_at (suc i) (es ++ e ∷ [])) (memory_at (suc i) (es ++ e ∷ [])) u) q.out

    -- ---- the report
    one_less : replicate (16 - i) false ≡ false ∷ replicate (16 - suc i) false
    one_less = let w = few in let q : 16 - i ≡ suc (16 - suc i) = omega (arith, w, l) in ap (λ (j : ℕ). replicate j false) q

    who_next : (who_replied (said_by es) ++ is_reply e.says.answer ∷ replicate (16 - suc i) false) ≡ who_replied (said_by (es ++ e ∷ [])) ++ replicate (16 - suc i) false
    who_next =
        sym (append_assoc (who_replied (said_by es)) (is_reply e.says.answer ∷ []) (replicate (16 - suc i) false))
        ∙ ap (λ (u : List Bool). u ++ replicate (16 - suc i) false) (sym (who_more es e))

    next : (b : Bool) → b ≡ is_reply e.says.answer → (u : List Bool) → u ≡ (who_replied (said_by es) ++ b ∷ replicate (16 - suc i) false)
        → (a : Answer) → a ≡ (says_of (es ++ e ∷ [])).answer → made (1024 * i + 1024) (some es || b) u a ≡ carried (suc i) (es ++ e ∷ [])
    next b q u v a w =
        let z : 1024 * i + 1024 ≡ 1024 * suc i = omega arith in
        ap (λ (j : ℕ). made j (some es || b) u a) z
        ∙ ap (λ (s : Bool). made (1024 * suc i) s u a) (ap (λ (b : Bool). some es || b) q ∙ sym (some_more es e))
        ∙ ap (λ (u : List Bool). made (1024 * suc i) (some (es ++ e ∷ [])) u a) (v ∙ ap (λ (b : Bool). who_replied (said_by es) ++ b ∷ replicate (16 - suc i) false) q ∙ who_next)
        ∙ ap (made (1024 * suc i) (some (es ++ e ∷ [])) (who_replied (said_by (es ++ e ∷ [])) ++ replicate (16 - suc i) false)) w

    -- ---- the rack's answer so far
    says_all : to_all code ≡ true → says_of (es ++ e ∷ []) ≡ pick (some es) (says_of es) (pick (is_reply e.says.answer) e.says (no_reply c.handed))
    unfolding together
    says_all a =
        sym (pick_true _ _ _ (to_all code) a refl) ∙ lowest_more (no_reply c.handed) es e
        ∙ ap (λ (y : CallAnswer). pick (some es) y (pick (is_reply e.says.answer) e.says (no_reply c.handed))) (pick_true _ _ _ (to_all code) a refl)

    says_one : to_all code ≡ false → says_of (es ++ e ∷ []) ≡ get_or (said_by es ++ e.says ∷ []) to (no_reply c.handed)
    unfolding together
    says_one a =
        sym (pick_false _ _ _ (to_all code) a refl) ∙ ap (λ (u : List CallAnswer). get_or u to (no_reply c.handed)) (said_more es e)

    says_none : some es ≡ false → goes_to c i ≡ true → says_of es ≡ no_reply c.handed
    unfolding together goes_to
    says_none q g =
        pick_case (λ (y : CallAnswer). y ≡ no_reply c.handed) (to_all code) _ _
        (λ _. lowest_none (no_reply c.handed) es q)
        (λ a.
        let w = eqb-true i to (same_or (to_all code) (eqb i to) a g) in
        let v = said_long es in
        get_or-eq_default (said_by es) (no_reply c.handed) (omega (arith, v, long, w)))

    -- ---- a tag that the signal does not go to
    others_says : goes_to c i ≡ false → says_of es ≡ says_of (es ++ e ∷ [])
    unfolding together goes_to
    others_says g =
        let a = or_left_false (to_all code) (eqb i to) g in
        let w = eqb-false i to (or_right_false (to_all code) (eqb i to) g) in
        sym (pick_false _ _ _ (to_all code) a refl) ∙ by (ltb to i) refl w ∙ sym (says_one a)
      where
        by : (b : Bool) → ltb to i ≡ b → (i ≡ to → ⊥) → get_or (said_by es) to (no_reply c.handed) ≡ get_or (said_by es ++ e.says ∷ []) to (no_reply c.handed)
        by true q w =
            let v = said_long es in let z = ltb-true to i q in
            sym (get_or-append (said_by es) (e.says ∷ []) (no_reply c.handed) to (omega (arith, v, long, z)))
        by false q w =
            let v = said_long es in let z = ltb-false to i q in
            let y : i < to = omega (arith, z, w) in
            let u = length-append (said_by es) (e.says ∷ []) in
            get_or-eq_default (said_by es) (no_reply c.handed) (omega (arith, v, long, y))
            ∙ sym (get_or-eq_default (said_by es ++ e.says ∷ []) (no_reply c.handed) (omega (arith, u, v, long, y)))

    passed_turn : goes_to c i ≡ false → Turned (heard_result (passed_by (carried i es) (1024 * i + 1024)) t (memory_at i es) (says_of es).buffer)
    unfolding is_reply
    passed_turn g =
        let is = passed_by_lem i (device t part) g in
        let quiet-here : false ≡ is_reply e.says.answer = ap (λ (y : DeviceResult). is_reply y.says.answer) (sym is) in
        record {
          answer =
              ap (λ (b : Bool). made (1024 * i + 1024) b (who_replied (said_by es) ++ replicate (16 - i) false) (says_of es).answer) (or_none (some es))
              ∙ next false quiet-here (who_replied (said_by es) ++ replicate (16 - i) false) (ap (λ (u : List Bool). who_replied (said_by es) ++ u) one_less)
              (says_of es).answer (ap (λ (y : CallAnswer). y.answer) (others_says g));
          tag = ap (λ (y : DeviceResult). y.device.tag) (sym is);
          mem =
              ap (λ (u : List ℕ). memories_of (left_by es) ++ u) (sym (take-append-drop 1024 (drop (1024 * i) m)) ∙ ap (λ (u : List ℕ). part ++ u) next_bytes)
              ∙ ap (λ (y : DeviceResult). memories_of (left_by es) ++ (y.device.memory ++ drop (1024 * suc i) m)) (sym is);
          out = ap (λ (y : CallAnswer). y.buffer) (others_says g);
        }
      where
        or_none : (b : Bool) → b ≡ (b || false)
        or_none true = refl
        or_none false = refl

    -- ---- a tag that it goes to; in the rack's definition it does this
    abbrev e₀ : StepResult
    e₀ = act_of x t part o f

    acting : Fits (device t part) → goes_to c i ≡ true → e ≡ acted (device t part) c.handed
    acting fit g = reached i (device t part) fit g

    memory_put : (u : List ℕ) → put_at (1024 * i) 1024 (memory_at i es) u ≡ memories_of (left_by es) ++ (u ++ drop (1024 * suc i) m)
    memory_put u =
        ap (λ (v : List ℕ). v ++ (u ++ drop 1024 (drop (1024 * i) (memory_at i es)))) (take_at (memories_of (left_by es)) (drop (1024 * i) m) (1024 * i) bytes)
        ∙ ap (λ (v : List ℕ). memories_of (left_by es) ++ (u ++ drop 1024 v)) (drop_at (memories_of (left_by es)) (drop (1024 * i) m) (1024 * i) bytes)
        ∙ ap (λ (v : List ℕ). memories_of (left_by es) ++ (u ++ v)) next_bytes

    put_answered : (b : Bool) → set (who_replied (said_by es) ++ replicate (16 - i) false) i b ≡ (who_replied (said_by es) ++ b ∷ replicate (16 - suc i) false)
    put_answered b =
        ap (λ (u : List Bool). set (who_replied (said_by es) ++ u) i b) one_less
        ∙ set_at (who_replied (said_by es)) false (replicate (16 - suc i) false) b i (who_long es ∙ long)

    -- it acted so, and left these of the answer and the buffer
    acted_turn : Fits (device t part) → goes_to c i ≡ true → (y : StepResult) (p : List ℕ) → Alike y e₀
        → call_answer (pick (some es) (says_of es).answer y.answer) p ≡ says_of (es ++ e ∷ []) → Turned (acted_at (carried i es) i (memory_at i es) p y)
    acted_turn fit g y p a q =
        let is = sym (acting fit g) in
        record {
          answer =
              next (is_reply y.answer) (ap is_reply a.0 ∙ ap (λ (z : DeviceResult). is_reply z.says.answer) is)
              (set (who_replied (said_by es) ++ replicate (16 - i) false) i (is_reply y.answer)) (put_answered (is_reply y.answer))
              (pick (some es) (says_of es).answer y.answer) (ap (λ (z : CallAnswer). z.answer) q);
          tag = a.1 ∙ ap (λ (z : DeviceResult). z.device.tag) is;
          mem = memory_put y.memory ∙ ap (λ (u : List ℕ). memories_of (left_by es) ++ (u ++ drop (1024 * suc i) m)) (a.2 ∙ ap (λ (z : DeviceResult). z.device.memory) is);
          out = ap (λ (z : CallAnswer). z.buffer) q;
        }

    -- a lower tag has replied: aside
    some_says : some es ≡ true → says_of es ≡ says_of (es ++ e ∷ [])
    some_says q = by (to_all code) refl
      where
        by : (b : Bool) → to_all code ≡ b → says_of es ≡ says_of (es ++ e ∷ [])
        by true a = pick_true _ _ _ (some es) q refl ∙ sym (says_all a)
        by false a = absurd (false≢true (sym (quiet a) ∙ q))

    aside_turn : Fits (device t part) → goes_to c i ≡ true → some es ≡ true
        → Turned (acted_at (carried i es) i (memory_at i es) (says_of es).buffer (act_of x t part (replicate reply_bytes 0) f))
    aside_turn fit g q =
        let y = act_of x t part (replicate reply_bytes 0) f in
        acted_turn fit g y (says_of es).buffer (blind x t part (replicate reply_bytes 0) o f)
        (ap (λ (a : Answer). call_answer a (says_of es).buffer) (sym (pick_true (says_of es).answer y.answer _ (some es) q refl)) ∙ some_says q)

    -- none has
    replied_says : Fits (device t part) → goes_to c i ≡ true → some es ≡ false → says_by e₀ ≡ says_of (es ++ e ∷ [])
    unfolding goes_to
    replied_says fit g q = by (to_all code) refl
      where
        is : e.says ≡ says_by e₀
        is = ap (λ (z : DeviceResult). z.says) (acting fit g)

        quiet_says : to_all code ≡ true → is_reply e.says.answer ≡ false → says_by e₀ ≡ no_reply c.handed
        quiet_says a z =
            no_reply_says x t part o f (not_wire a) (ap (λ (y : CallAnswer). is_reply y.answer) (sym is) ∙ z)
            ∙ ap (λ (b : Bool). call_answer (pick b Nothing Silence) o) (sym (field_code code value known))

        by : (b : Bool) → to_all code ≡ b → says_by e₀ ≡ says_of (es ++ e ∷ [])
        by true a =
            pick_case (λ (y : CallAnswer). says_by e₀ ≡ y) (is_reply e.says.answer) e.says (no_reply c.handed) (λ _. sym is) (λ z. quiet_says a z)
            ∙ pick_false _ _ _ (some es) q refl ∙ sym (says_all a)
        by false a =
            let w = eqb-true i to (same_or (to_all code) (eqb i to) a g) in
            sym is ∙ sym (get_or_at (said_by es) e.says [] (no_reply c.handed) to (said_long es ∙ long ∙ w)) ∙ sym (says_one a)

    own_turn : Fits (device t part) → goes_to c i ≡ true → some es ≡ false
        → Turned (let y = act_of x t part (says_of es).buffer f in acted_at (carried i es) i (memory_at i es) y.reply y)
    own_turn fit g q =
        subst (λ (p : List ℕ). Turned (let y = act_of x t part p f in acted_at (carried i es) i (memory_at i es) y.reply y))
        (ap (λ (z : CallAnswer). z.buffer) (sym (says_none q g)))
        (acted_turn fit g e₀ e₀.reply (refl, refl, refl)
        (ap (λ (a : Answer). call_answer a e₀.reply) (sym (pick_false (says_of es).answer e₀.answer _ (some es) q refl)) ∙ replied_says fit g q))

    act_turned : Fits (device t part) → goes_to c i ≡ true → Turned (act_at t (memory_at i es) (says_of es).buffer f i (carried i es))
    unfolding act_at
    act_turned fit g =
        pick_case Turned (some es) _ _
        (λ q.
        subst (λ (p : List ℕ). Turned (acted_at (carried i es) i (memory_at i es) (says_of es).buffer (act_of x t p (replicate reply_bytes 0) f))) (sym part_here)
        (aside_turn fit g q))
        (λ q.
        subst (λ (p : List ℕ). Turned (let y = act_of x t p (says_of es).buffer f in acted_at (carried i es) i (memory_at i es) y.reply y)) (sym part_here)
        (own_turn fit g q))

    -- ---- the turn
    memory_long : length (memory_at i es) ≡ length m
    memory_long =
        let a = length-append (memories_of (left_by es)) (drop (1024 * i) m) in
        let b = length-drop (1024 * i) m in
        let s = size in
        omega (arith, a, b, bytes, s, l)

    turn_turned : Fits (device t part) → Turned (hear_of t (memory_at i es) (says_of es).buffer f i (carried i es))
    unfolding hear_of goes_to
    turn_turned fit =
        let w = few in
        let s = size in
        let v = memory_long in
        pick_case Turned (leb k i) _ _ (λ q. absurd (false≢true (sym (lt-leb k i l) ∙ q))) λ _.
        pick_case Turned (ltb 15 i) _ _ (λ q. absurd (false≢true (sym (le-ltb 15 i (omega (arith, w, l))) ∙ q))) λ _.
        pick_case Turned (ltb (length (memory_at i es)) (1024 * i)) _ _ (λ q. absurd (false≢true (sym (le-ltb (length (memory_at i es)) (1024 * i) (omega (arith, v, s, l))) ∙ q))) λ _.
        pick_case Turned (ltb (length (memory_at i es) - 1024 * i) 1024) _ _ (λ q. absurd (false≢true (sym (le-ltb (length (memory_at i es) - 1024 * i) 1024 (omega (arith, v, s, l))) ∙ q))) λ _.
        pick_case Turned (goes_to c i) _ _ (λ g. act_turned fit g) (λ g. passed_turn g)

    one_turn : Fits (device t part) → hear_onward i f (state i es) ≡ state (suc i) (es ++ e ∷ [])
    unfolding hear_one_of
    one_turn fit =
        ap (λ (y : Tag). put_back (tags_at i es) i (hear_of y (memory_at i es) (says_of es).buffer f i (carried i es))) tag_here
        ∙ turned (hear_of t (memory_at i es) (says_of es).buffer f i (carried i es)) (turn_turned fit)

  -- ---- all turns
  abbrev up_to : ℕ → List DeviceResult
  up_to i = turns_of entry c 0 (take i (devices r))

  fit : AllFit (devices r)
  fit = fit_of r c h

  device_is : (i : ℕ) → i < k → device_at r i ≡ device (get_or ts i no_tag) (take 1024 (drop (1024 * i) m))
  unfolding device_at memory_size
  device_is i l =
      let q : memory_sizes (take i (take n ts)) ≡ 1024 * i = sizes_are (take i (take n ts)) ∙ ap (λ (j : ℕ). 1024 * j) (length-take-le i (take n ts) (omega arith)) in
      let z = length-take n ts in
      ap (λ (y : Tag). device y (take 1024 (drop (memory_sizes (take i (take n ts))) m))) (get_or-take n ts i no_tag (omega (arith, z, l)))
      ∙ ap (λ (j : ℕ). device (get_or ts i no_tag) (take 1024 (drop j m))) q

  few_devices : (i : ℕ) → i ≤ k → length (take i (devices r)) ≡ i
  few_devices i l = length-take-le i (devices r) (subst (λ (j : ℕ). i ≤ j) (sym (number_apart (take n ts) m)) l)

  up_long : (i : ℕ) → i ≤ k → length (up_to i) ≡ i
  up_long i l = turns_long entry c 0 (take i (devices r)) ∙ few_devices i l

  up_bytes : (i : ℕ) → i ≤ k → length (memories_of (left_by (up_to i))) ≡ 1024 * i
  up_bytes i l = turns_size 0 (take i (devices r)) (fit_take i (devices r) fit) ∙ ap (λ (j : ℕ). 1024 * j) (few_devices i l)

  up_more : (i : ℕ) → i < k → up_to (suc i) ≡ up_to i ++ turn_of entry c i (device (get_or ts i no_tag) (take 1024 (drop (1024 * i) m))) ∷ []
  up_more i l =
      let z = device_at r 0 in
      let q : 0 + length (take i (devices r)) ≡ i = zero-add _ ∙ few_devices i (omega arith) in
      ap (turns_of entry c 0) (take-suc (devices r) i z (subst (λ (j : ℕ). i < j) (sym (number_apart (take n ts) m)) l))
      ∙ turns_more entry c 0 (take i (devices r)) (get_or (devices r) i z)
      ∙ ap (λ (j : ℕ). up_to i ++ turn_of entry c j (get_or (devices r) i z) ∷ []) q
      ∙ ap (λ (d : Device). up_to i ++ turn_of entry c i d ∷ []) (at_apart i (take n ts) m z l ∙ device_is i l)

  abbrev start : Heard
  start = hear_start k code value to

  starts : hear_all_of 0 ts m o f start ≡ state 0 (up_to 0)
  unfolding hear_all_of turns_of some who_replied said_by left_by tags_of memories_of lowest_reply together no_reply_answer
  starts =
      ap (λ (y : CallAnswer). heard_all (made 0 false (replicate 16 false) y.answer) ts m y.buffer)
      (pick_case (λ (y : CallAnswer). no_reply c.handed ≡ y) (to_all code) (no_reply c.handed) (no_reply c.handed) (λ _. refl) (λ _. refl))

  rack_heard : (i : ℕ) → i ≤ k → hear_all_of i ts m o f start ≡ state i (up_to i)
  rack_heard zero l = starts
  rack_heard (suc i) l =
      all_suc i ts m o f start
      ∙ ap (hear_onward i f) (rack_heard i (omega arith))
      ∙ one_turn i (up_to i) (omega arith) (up_long i (omega arith)) (up_bytes i (omega arith)) (λ a. none_replied a 0 (take i (devices r)) (fit_take i (devices r) fit))
      (subst Fits (device_is i (omega arith)) (tag_fit r i fit (omega arith)))
      ∙ ap (state (suc i)) (sym (up_more i (omega arith)))

  abbrev all : List DeviceResult
  all = turns_of entry c 0 (devices r)

  all_up : up_to k ≡ all
  all_up = let z = number_apart (take n ts) m in ap (turns_of entry c 0) (take_all k (devices r) (omega (arith, z)))

  -- the tags after the rack's
  slice_heard : (j : ℕ) → hear_all_of (k + j) ts m o f start ≡ state k all
  slice_heard zero =
      let q : k + 0 ≡ k = omega arith in
      ap (λ (i : ℕ). hear_all_of i ts m o f start) q ∙ rack_heard k (omega arith) ∙ ap (state k) all_up
  slice_heard (suc j) =
      let q : k + suc j ≡ suc (k + j) = omega arith in
      ap (λ (i : ℕ). hear_all_of i ts m o f start) q
      ∙ all_suc (k + j) ts m o f start
      ∙ ap (hear_onward (k + j) f) (slice_heard j)
      ∙ past (k + j) f (state k all) (omega arith)

  heard_is : hear_all_of (length ts) ts m o f start ≡ state k all
  heard_is =
      let b = in_slice in
      let q : length ts ≡ k + (length ts - k) = omega (arith, b) in
      ap (λ (i : ℕ). hear_all_of i ts m o f start) q ∙ slice_heard (length ts - k)

  -- ---- the claim
  all_long : length (tags_of (left_by all)) ≡ k
  all_long = tags_long all ∙ turns_long entry c 0 (devices r) ∙ number_apart (take n ts) m

  tags_are : tags_at k all ≡ tags_of (left_by all) ++ drop (length (tags_of (left_by all))) ts
  tags_are = ap (λ (j : ℕ). tags_of (left_by all) ++ drop j ts) (sym all_long)

  memory_is : memory_at k all ≡ memories_of (left_by all)
  memory_is =
      let s = size in
      ap (λ (u : List ℕ). memories_of (left_by all) ++ u) (drop_of_length-le m {i = 1024 * k} (omega (arith, s))) ∙ append-nil (memories_of (left_by all))

  result_is : rack_result (rack_answer (call_answer (state k all).answer.answer (state k all).out) (numbers_from 0 (state k all).answer.answered)) (rack_of (take n (tags_at k all)) (memory_at k all)) ≡ rack_acts entry r c
  unfolding rack_acts together
  result_is =
      ap (λ (u : List ℕ). rack_result (rack_answer (says_of all) u) (rack_of (take n (tags_at k all)) (memory_at k all))) (numbers_first 0 (16 - k) (who_replied (said_by all)))
      ∙ ap (λ (u : List Tag). rack_result (together c (said_by all)) (rack_of u (memory_at k all))) (ap (take n) tags_are ∙ take_first n (tags_of (left_by all)) ts all_long)
      ∙ ap (λ (u : List ℕ). rack_result (together c (said_by all)) (rack_of (tags_of (left_by all)) u)) memory_is

  heard_as_rack : HeardAsRack n ts m (state k all) (rack_acts entry r c)
  heard_as_rack = record {
    result = result_is;
    others = ap (drop n) tags_are ∙ drop_first n (tags_of (left_by all)) ts all_long;
    number =
        let a = length-append (tags_of (left_by all)) (drop k ts) in
        let b = length-drop k ts in
        let z = in_slice in
        let y = all_long in
        omega (arith, a, b, y, z);
    size = ap length memory_is ∙ turns_size 0 (devices r) fit ∙ ap (λ (j : ℕ). 1024 * j) (number_apart (take n ts) m) ∙ sym size;
  }

pub hears_racks : HearsRacks
hears_racks ts m o f n code value to h =
    subst (λ (w : HeardAll). HeardAsRack n ts m w (rack_acts entry (rack_of (take n ts) m) (rack_call (handed_in o code value f) to)))
    (sym (heard_is ts m o f n code value to h)) (heard_as_rack ts m o f n code value to h)
