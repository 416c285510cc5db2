-- A page of user space: its first byte, its last and one in the block after the first decide for all. Assumes nothing.
use mathlib.Core.Path.{◌≡◌, refl, sym, ap, ◌∙◌}
use mathlib.Core.Bool.{Bool, true, false, not, false≢true, ◌&&◌, ◌||◌}
use mathlib.Core.List.{List}
use Prim.Native.Nat.{ℕ, zero, suc, ◌+◌, ◌-◌, ◌/◌, ◌≤◌, ◌<◌}
use native.Mathlib.Omega.{arith}
use lib.Dec.{leb, ltb, eqb}
use lib.ListN.{get_or}
use borrow.Author.Tests.{leb-true, leb-false, lt-leb, ltb-true, ltb-false, lt-ltb, eqb-true, eqb-false, eq-eqb, not-true}
use Rattle.parts.specs.Pick.{pick}
use Rattle.parts.proofs.Bools.{and_left, and_right, and_both}
use Rattle.parts.proofs.Picks.{pick_case}
use Rattle.write_verdict.specs.Passed.{Wire, is_locked, write_right, may_write}
use Rattle.areas.specs.Ends.{area_of_block, area_of_byte}
use Rattle.areas.proofs.Kept.{byte_in_blocks_area}
use Rattle.write_verdict.proofs.Passed.{area_between, unlocked}
use Rattle.tag.specs.declared.Core.{Core}
use Rattle.bus.specs.declared.Space.TheVariants.{User}
use Rattle.tag.specs.Layout.{page}
use Rattle.rule.specs.UserRule.{memory_acked, mailbox_acked, user_acked}
use Rattle.rule.specs.Rule.{space_acked, acked}
use Rattle.rule.proofs.AckedByte.{acked_room, acked_space}
use Rattle.page.specs.PageRange.{page_acked}
use Rattle.page.proofs.Acks.{page_before, page_last, one_more}

neither : (i : ℕ) → (i ≡ 0 → ⊥) → (i ≡ 1 → ⊥) → i < 2 → ⊥
neither i a b l = omega arith

-- two tests, each of which follows from the other
same : (a b : Bool) → (a ≡ true → b ≡ true) → (b ≡ true → a ≡ true) → a ≡ b
same true b f g = sym (f refl)
same false true f g = g refl
same false false f g = refl

module _ (c : Core) (session : Bool) (f : ℕ) where
  -- ---- the memory
  -- what the Ack of byte i says
  record Allowed (i : ℕ) : Type 0 where
    inside : f + i < 512
    off : not c.mailbox.enabled ≡ true
    area : area_of_byte c.registers.ends f ≡ area_of_byte c.registers.ends (f + i)
    free : is_locked c.registers.ccfile ((f + i) / 4) ≡ false
    right : write_right c.registers (Wire session) (area_of_block c.registers.ends ((f + i) / 4)) ≡ true

  allowed : (i : ℕ) → memory_acked c session f i ≡ true → Allowed i
  unfolding memory_acked may_write
  allowed i =
      let off = not c.mailbox.enabled in
      let area = eqb (area_of_byte c.registers.ends f) (area_of_byte c.registers.ends (f + i)) in
      let free = not (is_locked c.registers.ccfile ((f + i) / 4)) in
      let right = write_right c.registers (Wire session) (area_of_block c.registers.ends ((f + i) / 4)) in
      pick_case (λ (b : Bool). b ≡ true → Allowed i) (leb 512 (f + i)) false (off && area && (free && right))
      (λ q h. absurd (false≢true h))
      (λ q h.
      let l = and_left (off && area) (free && right) h in
      let r = and_right (off && area) (free && right) h in
      record { inside = leb-false _ _ q; off = and_left off area l; area = eqb-true _ _ (and_right off area l); free = not-true _ (and_left free right r); right = and_right free right r })

  acks : (i : ℕ) → Allowed i → memory_acked c session f i ≡ true
  unfolding memory_acked may_write pick
  acks i a = rw (lt-leb _ _ a.inside, a.off, eq-eqb _ _ a.area, a.free, a.right)

  -- where byte i lies past the first byte's block but in block 0 or 1, place p has its block
  abbrev Meets : ℕ → ℕ → Type 0
  Meets p i = f / 4 < (f + i) / 4 → (f + i) / 4 < 2 → (f + p) / 4 ≡ (f + i) / 4

  free_between : (i p : ℕ) → Meets p i → Allowed 0 → Allowed p → (s t : Bool) → ltb (f / 4) ((f + i) / 4) ≡ s → ltb ((f + i) / 4) 2 ≡ t
      → is_locked c.registers.ccfile ((f + i) / 4) ≡ false
  free_between i p g a b true true q r =
      ap (is_locked c.registers.ccfile) (sym (g (ltb-true _ _ q) (ltb-true _ _ r))) ∙ b.free
  free_between i p g a b true false q r = unlocked c.registers.ccfile ((f + i) / 4) (omega (arith, ltb-false ((f + i) / 4) 2 r))
  free_between i p g a b false t q r =
      let e : (f + i) / 4 ≡ (f + 0) / 4 = omega (arith, ltb-false (f / 4) ((f + i) / 4) q) in
      ap (is_locked c.registers.ccfile) e ∙ a.free

  between : (n p i : ℕ) → i ≤ n → Meets p i → Allowed 0 → Allowed p → Allowed n → Allowed i
  between n p i l g a b z =
      let ends = c.registers.ends in
      let area : area_of_byte ends f ≡ area_of_byte ends (f + i) = area_between ends f (f + i) (f + n) (omega arith) (omega arith) z.area in
      let e : area_of_block ends ((f + i) / 4) ≡ area_of_block ends ((f + n) / 4) =
      sym (byte_in_blocks_area ends (f + i)) ∙ sym area ∙ z.area ∙ byte_in_blocks_area ends (f + n) in
      record { inside = omega (arith, z.inside); off = z.off; area = area; free = free_between i p g a b _ _ refl refl; right = ap (write_right c.registers (Wire session)) e ∙ z.right }

  -- ---- user space
  user_between : (n p i : ℕ) → i ≤ n → Meets p i → (s t : Bool)
      → pick s (memory_acked c session f 0) (pick t (eqb 0 0) (mailbox_acked c.mailbox f)) ≡ true
      → pick s (memory_acked c session f p) (pick t (eqb p 0) (mailbox_acked c.mailbox f)) ≡ true
      → pick s (memory_acked c session f n) (pick t (eqb n 0) (mailbox_acked c.mailbox f)) ≡ true
      → pick s (memory_acked c session f i) (pick t (eqb i 0) (mailbox_acked c.mailbox f)) ≡ true
  unfolding pick
  user_between n p i l g true t a b z = acks i (between n p i l g (allowed 0 a) (allowed p b) (allowed n z))
  user_between n p i l g false true a b z = eq-eqb i 0 (omega (arith, l, eqb-true n 0 z))
  user_between n p i l g false false a b z = z

  each : (n p i : ℕ) → i ≤ n → Meets p i → user_acked c session f 0 ≡ true → user_acked c session f p ≡ true → user_acked c session f n ≡ true
      → user_acked c session f i ≡ true
  unfolding user_acked
  each n p i l g a b z = user_between n p i l g (ltb f 512) (eqb f 0x2003 || eqb f 0x2006) a b z

  -- ---- the page
  module _ (m : List ℕ) where
    -- of a page that is Acked, the byte at each place
    acked_at_by : (k i : ℕ) → (page_acked User c session f m k ≡ true → i < k → user_acked c session f i ≡ true) → i < suc k
        → page_acked User c session f m (suc k) ≡ true → (t : Bool) → ltb i k ≡ t → user_acked c session f i ≡ true
    unfolding space_acked
    acked_at_by k i ih l h true q = ih (page_before User c session f m k h) (ltb-true i k q)
    acked_at_by k i ih l h false q =
        let e : i ≡ k = omega (arith, l, ltb-false i k q) in
        ap (user_acked c session f) e
        ∙ acked_space User c session f k (page k m) (get_or m (768 + k) 0) (page_last User c session f m k h)

    acked_at_lem : (k i : ℕ) → page_acked User c session f m k ≡ true → i < k → user_acked c session f i ≡ true
    acked_at_lem zero i h l = absurd (omega arith)
    acked_at_lem (suc k) i h l = acked_at_by k i (acked_at_lem k i) l h (ltb i k) refl

    -- a page of such bytes
    acked_all : (k n : ℕ) → n < 256 → k ≤ suc n → ((i : ℕ) → i ≤ n → user_acked c session f i ≡ true) → page_acked User c session f m k ≡ true
    unfolding page_acked acked space_acked
    acked_all zero n l g h = refl
    acked_all (suc k) n l g h =
        one_more User c session f m k (acked_all k n l (omega arith) h) (rw (lt-ltb k 256 (omega arith), h k (omega arith)))

    three : (n p : ℕ) → p ≤ n → ((i : ℕ) → i ≤ n → Meets p i)
        → (ltb n 256 && user_acked c session f 0 && user_acked c session f n && user_acked c session f p) ≡ page_acked User c session f m (suc n)
    three n p l g =
        let r = ltb n 256 in
        let a = user_acked c session f 0 in
        let z = user_acked c session f n in
        let b = user_acked c session f p in
        same (r && a && z && b) (page_acked User c session f m (suc n))
        (λ h.
        let h3 = and_left (r && a && z) b h in
        let h2 = and_left (r && a) z h3 in
        acked_all (suc n) n (ltb-true n 256 (and_left r a h2)) (omega arith)
        (λ i j. each n p i j (g i j) (and_right r a h2) (and_right (r && a && z) b h) (and_right (r && a) z h3)))
        (λ h.
        let last = page_last User c session f m n h in
        and_both (r && a && z) b
        (and_both (r && a) z
        (and_both r a (lt-ltb n 256 (acked_room User c session f n (page n m) (get_or m (768 + n) 0) last)) (acked_at_lem (suc n) 0 h (omega arith)))
        (acked_at_lem (suc n) n h (omega arith)))
        (acked_at_lem (suc n) p h (omega arith)))

  -- ---- the places that the code asks
  -- past blocks 0 and 1 no block is locked, so the last byte speaks for the first
  first_too : 8 ≤ f → (n : ℕ) → Allowed n → Allowed 0
  first_too l n z =
      let ends = c.registers.ends in
      let same_place : f + 0 ≡ f = omega arith in
      let area : area_of_byte ends f ≡ area_of_byte ends (f + 0) = ap (area_of_byte ends) (sym same_place) in
      let e : area_of_block ends ((f + 0) / 4) ≡ area_of_block ends ((f + n) / 4) =
      sym (byte_in_blocks_area ends (f + 0)) ∙ sym area ∙ z.area ∙ byte_in_blocks_area ends (f + n) in
      record { inside = omega (arith, z.inside); off = z.off; area = area; free = unlocked c.registers.ccfile ((f + 0) / 4) (omega arith); right = ap (write_right c.registers (Wire session)) e ∙ z.right }

  user_first : 8 ≤ f → (n : ℕ) (s t : Bool)
      → pick s (memory_acked c session f n) (pick t (eqb n 0) (mailbox_acked c.mailbox f)) ≡ true
      → pick s (memory_acked c session f 0) (pick t (eqb 0 0) (mailbox_acked c.mailbox f)) ≡ true
  unfolding pick
  user_first l n true t h = acks 0 (first_too l n (allowed n h))
  user_first l n false true h = refl
  user_first l n false false h = h

  from_last : 8 ≤ f → (n : ℕ) → user_acked c session f n ≡ true → user_acked c session f 0 ≡ true
  unfolding user_acked
  from_last l n h = user_first l n (ltb f 512) (eqb f 0x2003 || eqb f 0x2006) h

  module _ (m : List ℕ) (k : ℕ) where
    abbrev asked_place : ℕ → ℕ
    asked_place i = pick (eqb i 0) (k - 1) (pick (eqb i 1) 0 4)

    abbrev pub acked_at : ℕ → Bool
    acked_at i = acked User c session f (asked_place i) (page (asked_place i) m) 0

    -- the first i of them are Acked
    unfoldable pub asked_to : ℕ → Bool
    asked_to zero = true
    asked_to (suc i) = asked_to i && acked_at i

    abbrev pub asked_places : ℕ
    asked_places = pick (leb 8 f) 1 (pick (ltb (k - 1) 4) 2 3)

    module _ (some : k ≡ 0 → ⊥) where
      sized : page_acked User c session f m (suc (k - 1)) ≡ page_acked User c session f m k
      sized = ap (page_acked User c session f m) (omega arith)

      -- of an Acked page each asked place is Acked
      bound_more : (i : ℕ) (a b s t : Bool) → eqb i 0 ≡ a → eqb i 1 ≡ b → leb 8 f ≡ s → ltb (k - 1) 4 ≡ t → i < pick s 1 (pick t 2 3) → pick a (k - 1) (pick b 0 4) ≤ k - 1
      unfolding pick
      bound_more i true b s t ea eb es et l = omega arith
      bound_more i false true s t ea eb es et l = omega arith
      bound_more i false false true t ea eb es et l = absurd (eqb-false i 0 ea (omega arith))
      bound_more i false false false true ea eb es et l = absurd (neither i (eqb-false i 0 ea) (eqb-false i 1 eb) l)
      bound_more i false false false false ea eb es et l = ltb-false (k - 1) 4 et

      bound : (i : ℕ) → i < asked_places → asked_place i ≤ k - 1
      bound i l = bound_more i _ _ _ _ refl refl refl refl l

      room : page_acked User c session f m k ≡ true → k - 1 < 256
      room h = acked_room User c session f (k - 1) (page (k - 1) m) (get_or m (768 + (k - 1)) 0) (page_last User c session f m (k - 1) (sized ∙ h))

      acked_here : (i : ℕ) → i ≤ k - 1 → page_acked User c session f m k ≡ true → acked User c session f i (page i m) 0 ≡ true
      unfolding acked space_acked
      acked_here i l h = rw (lt-ltb i 256 (omega (arith, room h, l)), acked_at_lem m k i h (omega (arith, l)))

      refused_by : (i : ℕ) (b : Bool) → i < asked_places → acked_at i ≡ false → page_acked User c session f m k ≡ b → false ≡ b
      refused_by i true l h e = sym h ∙ acked_here (asked_place i) (bound i l) e
      refused_by i false l h e = refl

      pub refused : (i : ℕ) → i < asked_places → acked_at i ≡ false → false ≡ page_acked User c session f m k
      refused i l h = refused_by i (page_acked User c session f m k) l h refl

      -- and they decide for all
      last_room : acked_at 0 ≡ true → ltb (k - 1) 256 ≡ true
      unfolding pick acked
      last_room h = and_left (ltb (k - 1) 256) (space_acked User c session f (k - 1) (page (k - 1) m) 0) h

      user_acked_lem : (i : ℕ) → acked User c session f i (page i m) 0 ≡ true → user_acked c session f i ≡ true
      unfolding space_acked
      user_acked_lem i h = acked_space User c session f i (page i m) 0 h

      last_acked : acked_at 0 ≡ true → user_acked c session f (k - 1) ≡ true
      unfolding pick
      last_acked h = user_acked_lem (k - 1) h

      whole : (p : ℕ) → p ≤ k - 1 → ((i : ℕ) → i ≤ k - 1 → Meets p i) → acked_at 0 ≡ true → user_acked c session f 0 ≡ true → user_acked c session f p ≡ true
          → true ≡ page_acked User c session f m k
      whole p l meets h a b =
          let n = k - 1 in
          let u = user_acked c session f in
          sym (sym (three m n p l meets ∙ sized)
          ∙ and_both (ltb n 256 && u 0 && u n) (u p) (and_both (ltb n 256 && u 0) (u n) (and_both (ltb n 256) (u 0) (last_room h) a) (last_acked h)) b)

      accepted_more : (s t : Bool) → leb 8 f ≡ s → ltb (k - 1) 4 ≡ t → asked_to (pick s 1 (pick t 2 3)) ≡ true → true ≡ page_acked User c session f m k
      unfolding asked_to pick
      accepted_more true t es et h =
          let l = leb-true 8 f es in
          whole (k - 1) (omega arith) (λ i j a b. absurd (omega arith)) h (from_last l (k - 1) (last_acked h)) (last_acked h)
      accepted_more false true es et h =
          let l = ltb-true (k - 1) 4 et in
          let last = and_left (acked_at 0) (acked_at 1) h in
          whole (k - 1) (omega arith) (λ i j a b. omega arith) last (user_acked_lem 0 (and_right (acked_at 0) (acked_at 1) h)) (last_acked last)
      accepted_more false false es et h =
          let l = ltb-false (k - 1) 4 et in
          let two = and_left (acked_at 0 && acked_at 1) (acked_at 2) h in
          whole 4 l (λ i j a b. omega arith) (and_left (acked_at 0) (acked_at 1) two) (user_acked_lem 0 (and_right (acked_at 0) (acked_at 1) two))
          (user_acked_lem 4 (and_right (acked_at 0 && acked_at 1) (acked_at 2) h))

      pub accepted : asked_to asked_places ≡ true → true ≡ page_acked User c session f m k
      accepted h = accepted_more (leb 8 f) (ltb (k - 1) 4) refl refl h

    pub no_byte : k ≡ 0 → true ≡ page_acked User c session f m k
    unfolding page_acked
    no_byte e = rw e
