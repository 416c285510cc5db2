-- One slot of a search, as sixteen tags hear it. Assumes nothing.
use mathlib.Core.Path.{◌≡◌, refl, sym, ap, subst, ◌∙◌}
use mathlib.Core.Bool.{Bool, true, false}
use mathlib.Core.List.{List, [], ◌∷◌}
use Prim.Native.Nat.{ℕ, suc, ◌+◌, ◌-◌, ◌<◌, ◌≤◌}
use Rattle.std.specs.Prelude.{Ok, Some, None}
use native.Mathlib.Omega.{arith}
use lib.Dec.{eqb, ltb}
use lib.ListN.{length, get_or, take, drop, length-take, drop_of_length-le}
use lib.Seq.{drop-cons}
use borrow.Author.Tests.{le-ltb, lt-ltb, eq-eqb, ne_eqb}
use Rattle.parts.specs.Pick.{pick}
use Rattle.parts.specs.Bytes.{are_bytes}
use Rattle.parts.proofs.Picks.{pick_case}
use Rattle.tag.specs.declared.Tag.{Tag}
use Rattle.tag.specs.Layout.{reply_bytes}
use Rattle.signal_table.proofs.Laws.{frame_known}
use Rattle.refusals.specs.Refusals.{judgement}
use Rattle.rack.specs.Passed.{call_answer, entry}
use Rattle.rack.specs.Rack.{Rack, rack_of, RackCall, to_all}
use Rattle.rack.specs.Rules.{rack_rules}
use Rattle.rack.specs.Step.{numbers_from, rack_answer, RackResult, rack_result, rack_acts, rack_entry}
use Rattle.rack.proofs.Kept.{call_acts}
use Rattle.rack_search.proofs.Passed.{Formed, next_formed}
use Rattle.rack_search.specs.Search.{sends_frame, sends_end, sends_next, search_result, collides, look}
use Rattle.rack_search.proofs.OneTag.{end_known}
use Rattle.rack_search.proofs.Slots.{unrefused}
use Rattle.rack_hear.specs.declared.Heard.{Heard}
use Rattle.rack_hear.specs.Hear.{hear_start, HeardAll, heard_all, hear_all_of}
use Rattle.rack_hear.specs.Claims.{HeardAsRack}
use Rattle.rack_hear.proofs.Claims.{hears_racks}
use Rattle.collision_search.specs.Slot.{sends_slot, hears_call}

-- ---- how many answered
unfoldable pub count : List Bool → ℕ
count [] = 0
count (b ∷ bs) = pick b 1 0 + count bs

numbers_count : (i : ℕ) (bs : List Bool) → length (numbers_from i bs) ≡ count bs
unfolding numbers_from count pick
numbers_count i [] = refl
numbers_count i (b ∷ bs) = by b (numbers_count (suc i) bs)
  where
    by : (b : Bool) → length (numbers_from (suc i) bs) ≡ count bs → length (pick b (i ∷ numbers_from (suc i) bs) (numbers_from (suc i) bs)) ≡ pick b 1 0 + count bs
    by true h = omega (arith, h)
    by false h = omega (arith, h)

-- those that were looked at, and those from i on
pub record Counted (bs : List Bool) (seen : Bool) (i : ℕ) : Type 0 where
  pub within : i ≤ 16
  pub all : pick seen 1 0 + count (drop i bs) ≡ count bs

pub none_counted : (bs : List Bool) → Counted bs false 0
unfolding pick
none_counted bs = record { within = omega arith; all = omega arith }

module _ (bs : List Bool) (seen : Bool) (i : ℕ) (e : length bs ≡ 16) (h : Counted bs seen i) where
  next_count : i < 16 → count (drop i bs) ≡ pick (get_or bs i false) 1 0 + count (drop (suc i) bs)
  unfolding count
  next_count l = ap count (drop-cons bs i false (omega (arith, l, e)))

  -- a tag that did not answer
  pub on_silence : i < 16 → get_or bs i false ≡ false → Counted bs seen (suc i)
  unfolding pick
  on_silence l silent =
      let n = next_count l ∙ ap (λ (b : Bool). pick b 1 0 + count (drop (suc i) bs)) silent in
      let a = h.all in
      record { within = omega (arith, l); all = omega (arith, n, a) }

  -- the first that did
  pub on_first : i < 16 → get_or bs i false ≡ true → seen ≡ false → Counted bs true (suc i)
  unfolding pick
  on_first l answers new =
      let n = next_count l ∙ ap (λ (b : Bool). pick b 1 0 + count (drop (suc i) bs)) answers in
      let a = ap (λ (b : Bool). pick b 1 0 + count (drop i bs)) (sym new) ∙ h.all in
      record { within = omega (arith, l); all = omega (arith, n, a) }

  -- the second
  pub on_second : i < 16 → get_or bs i false ≡ true → seen ≡ true → 2 ≤ count bs
  unfolding pick
  on_second l answers old =
      let n = next_count l ∙ ap (λ (b : Bool). pick b 1 0 + count (drop (suc i) bs)) answers in
      let a = ap (λ (b : Bool). pick b 1 0 + count (drop i bs)) (sym old) ∙ h.all in
      omega (arith, n, a)

  -- all were looked at
  pub at_end : 16 ≤ i → count bs < 2
  unfolding pick count
  at_end l =
      let past : length bs ≤ i = omega (arith, l, e) in
      let n = ap count (drop_of_length-le bs past) in
      let a = h.all in
      by seen n a
    where
      by : (b : Bool) → count (drop i bs) ≡ 0 → pick b 1 0 + count (drop i bs) ≡ count bs → count bs < 2
      by true n a = omega (arith, n, a)
      by false n a = omega (arith, n, a)

-- ---- the call that opens a slot
slot_case : (P : RackCall → Type 0) (k : ℕ) (o f : List ℕ) → P (sends_frame o f) → P (sends_end o) → P (sends_slot k o f)
unfolding sends_slot
slot_case P k o f p q = pick_case P (eqb k 0) (sends_frame o f) (sends_end o) (λ _. p) (λ _. q)

slot_unrefused : (k : ℕ) (r : Rack) (o f : List ℕ) → Formed r → reply_bytes ≤ length o → judgement (rack_rules r (sends_slot k o f)) ≡ Ok tt
unfolding to_all
slot_unrefused k r o f h b =
    slot_case (λ (c : RackCall). judgement (rack_rules r c) ≡ Ok tt) k o f
    (unrefused (sends_frame o f) refl r h b frame_known) (unrefused (sends_end o) refl r h b end_known)

slot_bytes : (k : ℕ) (o f : List ℕ) → are_bytes f ≡ true → are_bytes (sends_slot k o f).handed.frame ≡ true
unfolding are_bytes
slot_bytes k o f b = slot_case (λ (c : RackCall). are_bytes c.handed.frame ≡ true) k o f b refl

slot_buffer : (k : ℕ) (o f : List ℕ) → (sends_slot k o f).handed.buffer ≡ o
slot_buffer k o f = slot_case (λ (c : RackCall). c.handed.buffer ≡ o) k o f refl refl

pub first_slot : (k : ℕ) (o f : List ℕ) → k ≡ 0 → sends_frame o f ≡ sends_slot k o f
unfolding sends_slot pick
first_slot k o f e = rw (eq-eqb k 0 e)

pub later_slot : (k : ℕ) (o f : List ℕ) → (k ≡ 0 → ⊥) → sends_end o ≡ sends_slot k o f
unfolding sends_slot pick
later_slot k o f e = rw (ne_eqb k 0 e)

-- ---- the search before a slot; f is the frame
module _ (number slots : ℕ) (f : List ℕ) where
  pub record Looking (tags₀ : List Tag) (m₀ o₀ : List ℕ) (k : ℕ) (tags : List Tag) (m o : List ℕ) : Type 0 where
    pub within : k ≤ slots
    pub sixteen : length tags ≡ 16
    pub formed : Formed (rack_of (take number tags) m)
    pub room : reply_bytes ≤ length o
    pub others : drop number tags ≡ drop number tags₀
    pub rest : look rack_entry slots 0 (rack_of (take number tags₀) m₀) (sends_frame o₀ f) ≡ look rack_entry (slots - k) k (rack_of (take number tags) m) (sends_slot k o f)
    pub size : length m ≡ length m₀
    pub reply_size : length o ≡ length o₀

  pub looking_first : (tags : List Tag) (m o : List ℕ) → length tags ≡ 16 → Formed (rack_of (take number tags) m) → reply_bytes ≤ length o → Looking tags m o 0 tags m o
  looking_first tags m o e h b =
      let z : slots ≡ slots - 0 = omega arith in
      record {
        within = omega arith;
        sixteen = e;
        formed = h;
        room = b;
        others = refl;
        rest = ap (λ (n : ℕ). look rack_entry n 0 (rack_of (take number tags) m) (sends_frame o f)) z ∙ ap (look rack_entry (slots - 0) 0 (rack_of (take number tags) m)) (first_slot 0 o f refl);
        size = refl;
        reply_size = refl;
      }

  module _ (few : number ≤ 16) (bytes : are_bytes f ≡ true) (tags₀ : List Tag) (m₀ o₀ : List ℕ) (k : ℕ) (tags : List Tag) (m o : List ℕ) (h : Looking tags₀ m₀ o₀ k tags m o) where
    abbrev rack : Rack
    rack = rack_of (take number tags) m

    abbrev call : RackCall
    call = sends_slot k o f

    -- no slot is left
    pub none_left : slots ≤ k → search_result (Ok None) rack o ≡ look rack_entry slots 0 (rack_of (take number tags₀) m₀) (sends_frame o₀ f)
    unfolding look
    none_left l =
        let z : slots - k ≡ 0 = omega (arith, l) in
        sym (h.rest ∙ ap (λ (n : ℕ). look rack_entry n k rack call) z ∙ ap (search_result (Ok None) rack) (slot_buffer k o f))

    -- what its tags leave of the call
    module _ (heard : Heard) (tags' : List Tag) (m' o' : List ℕ) (e : heard_all heard tags' m' o' ≡ hears_call tags number m call) where
      served : judgement (rack_rules rack call) ≡ Ok tt
      served = slot_unrefused k rack o f h.formed h.room

      abbrev left : RackResult
      left = rack_result (rack_answer (call_answer heard.answer o') (numbers_from 0 heard.answered)) (rack_of (take number tags') m')

      as_rack : HeardAsRack number tags m (heard_all heard tags' m' o') (rack_acts entry rack call)
      as_rack =
          let c = call.handed in
          let n : length (take number tags) ≡ number = (let a = length-take number tags in let b = h.sixteen in omega (arith, a, b, few)) in
          subst (λ (x : HeardAll). HeardAsRack number tags m x (rack_acts entry rack call)) (sym e)
          (subst (λ (i : ℕ). HeardAsRack number tags m (hear_all_of i tags m c.buffer c.frame (hear_start number c.code c.value call.to)) (rack_acts entry rack call)) h.sixteen
          (subst (λ (i : ℕ). HeardAsRack number tags m (hear_all_of (length tags) tags m c.buffer c.frame (hear_start i c.code c.value call.to)) (rack_acts entry rack call)) n
          (hears_racks tags m c.buffer c.frame number c.code c.value call.to served)))

      stepped : rack_entry rack call ≡ left
      stepped = call_acts rack call served ∙ sym as_rack.result

      -- the other tags stay
      others_left : drop number tags' ≡ drop number tags₀
      others_left = as_rack.others ∙ h.others

      -- the slot, and the rest
      opened : k < slots
          → look rack_entry slots 0 (rack_of (take number tags₀) m₀) (sends_frame o₀ f)
          ≡ pick (ltb 1 (count heard.answered)) (search_result (Ok (Some k)) (rack_of (take number tags') m') o')
          (look rack_entry (slots - suc k) (suc k) (rack_of (take number tags') m') (sends_end o'))
      unfolding look
      opened l =
          let n : slots - k ≡ suc (slots - suc k) = omega (arith, l) in
          h.rest
          ∙ ap (λ (i : ℕ). look rack_entry i k rack call) n
          ∙ ap (λ (r : RackResult). pick (collides r) (search_result (Ok (Some k)) r.rack r.says.says.buffer) (look rack_entry (slots - suc k) (suc k) r.rack (sends_next r))) stepped
          ∙ ap (λ (i : ℕ). pick (ltb 1 i) (search_result (Ok (Some k)) (rack_of (take number tags') m') o') (look rack_entry (slots - suc k) (suc k) (rack_of (take number tags') m') (sends_end o')))
          (numbers_count 0 heard.answered)

      -- two answered in it
      pub collided : k < slots → 2 ≤ count heard.answered
          → (search_result (Ok (Some k)) (rack_of (take number tags') m') o' ≡ look rack_entry slots 0 (rack_of (take number tags₀) m₀) (sends_frame o₀ f))
          × (drop number tags' ≡ drop number tags₀)
      unfolding pick
      collided l two = (sym (opened l ∙ rw (lt-ltb 1 (count heard.answered) (omega (arith, two)))), others_left)

      -- fewer did
      pub looking_next : k < slots → count heard.answered < 2 → length m' ≡ length m → length o' ≡ length o → Looking tags₀ m₀ o₀ (suc k) tags' m' o'
      unfolding pick
      looking_next l less s b =
          let room = h.room in
          record {
            within = omega (arith, l);
            sixteen = as_rack.number ∙ h.sixteen;
            formed = subst (λ (r : RackResult). Formed r.rack) stepped (next_formed rack call (slot_bytes k o f bytes) h.formed);
            room = omega (arith, room, b);
            others = others_left;
            rest = opened l ∙ next less ∙ ap (look rack_entry (slots - suc k) (suc k) (rack_of (take number tags') m')) (later_slot (suc k) o' f (λ e. absurd (omega arith)));
            size = s ∙ h.size;
            reply_size = b ∙ h.reply_size;
          }
        where
          next : count heard.answered < 2
              → pick (ltb 1 (count heard.answered)) (search_result (Ok (Some k)) (rack_of (take number tags') m') o') (look rack_entry (slots - suc k) (suc k) (rack_of (take number tags') m') (sends_end o'))
              ≡ look rack_entry (slots - suc k) (suc k) (rack_of (take number tags') m') (sends_end o')
          next less = rw (le-ltb 1 (count heard.answered) (omega (arith, less)))
