-- The page bytes of a write leg, and what their Acks say. Assumes nothing.
use mathlib.Core.Path.{◌≡◌, refl, ◌∙◌}
use mathlib.Core.Bool.{Bool, true, false, not, ◌&&◌, ◌||◌}
use mathlib.Core.List.{List, [], ◌∷◌, ◌++◌}
use Prim.Native.Nat.{ℕ, zero, suc, ◌+◌, ◌≤◌}
use native.Mathlib.Omega.{arith}
use lib.Dec.{ltb, eqb}
use borrow.Author.Tests.{not-true}
use lib.ListN.{length, get_or, set}
use lib.Seq.{get_or-set_same, get_or-set_other}
use Rattle.parts.specs.Bytes.{bytes_at}
use Rattle.parts.proofs.Bools.{and_left, and_right}
use Rattle.parts.proofs.Picks.{pick_false}
use Rattle.parts.proofs.Lists.{length_bytes_at, bytes_at_after}
use Rattle.register_table.specs.Table.{is_writable}
use Rattle.areas.specs.Ends.{end_allows}
use Rattle.bus.specs.declared.Space.{Space}
use Rattle.bus.specs.declared.Space.TheVariants.{System}
use Rattle.mailbox.specs.declared.Mailbox.{Mailbox}
use Rattle.tag.specs.declared.Core.{Core}
use Rattle.tag.specs.Layout.{page}
use Rattle.ranges.specs.Ranges.{registers_in_range}
use Rattle.ranges.proofs.RegistersKept.{written_kept}
use Rattle.page.specs.Passed.{mailbox_acked, user_acked, register_acked, system_acked, space_acked, acked}
use Rattle.written_registers.specs.Written.{written_all}
use Rattle.page.specs.PageRange.{page_acked}
use Rattle.written_registers.proofs.Registers.{written_snoc}
use Rattle.page.proofs.Passed.{acked_room, acked_space}
use Rattle.page.proofs.Acks.{page_before, page_last}

module _ (s : Space) (c : Core) (session : Bool) (f : ℕ) where
  -- a store past the page's bytes
  pub page_after : (m : List ℕ) (k i x : ℕ) → 768 + k ≤ i → page_acked s c session f (set m i x) k ≡ page_acked s c session f m k
  unfolding page_acked
  page_after m zero i x h = refl
  page_after m (suc k) i x h =
      rw (page_after m k i x (omega arith), bytes_at_after m 768 k i x (omega arith), get_or-set_other m i (768 + k) x 0 (λ e. omega arith))

  -- an Acked byte stored
  pub page_more : (m : List ℕ) (k x : ℕ) → length m ≡ 1024 → page_acked s c session f m k ≡ true → acked s c session f k (page k m) x ≡ true
      → page_acked s c session f (set m (768 + k) x) (suc k) ≡ true
  unfolding page_acked
  page_more m k x l h a =
      let r = acked_room s c session f k (page k m) x a in
      rw (page_after m k (768 + k) x (omega arith), bytes_at_after m 768 k (768 + k) x (omega arith), get_or-set_same m (768 + k) x 0 (omega (arith, r)), h, a)

-- an Acked byte of neither the memory nor a dynamic register is the mailbox's
pub of_mailbox : (c : Core) (session : Bool) (f k : ℕ) → ltb f 512 ≡ false → eqb f 0x2003 ≡ false → eqb f 0x2006 ≡ false
    → user_acked c session f k ≡ true → mailbox_acked c.mailbox f ≡ true
unfolding user_acked
of_mailbox c session f k p q r h =
    pick_false _ _ _ (ltb f 512) p (pick_false _ _ _ (eqb f 0x2003 || eqb f 0x2006) (rw (q, r)) refl) ∙ h

pub record Free (b : Mailbox) : Type 0 where
  pub on : b.enabled ≡ true
  pub rf : b.rf.put ≡ false

pub free : (b : Mailbox) (f : ℕ) → mailbox_acked b f ≡ true → Free b
unfolding mailbox_acked
free b f h =
    let t1 = eqb f 0x2008 in
    let t2 = not b.host.put in
    let t3 = not b.rf.put in
    let h3 = and_left (t1 && b.enabled && t2) t3 h in
    let h2 = and_left (t1 && b.enabled) t2 h3 in
    record { on = and_right t1 b.enabled h2; rf = not-true b.rf.put (and_right (t1 && b.enabled && t2) t3 h) }

-- an Acked register byte is one that the ends allow, the leg's earlier bytes taken as written
pub of_register : (c : Core) (session : Bool) (f k : ℕ) (e : List ℕ) (x : ℕ) → eqb f 0x0900 ≡ false → system_acked c session f k e x ≡ true
    → end_allows (written_all c.registers f e).ends (f + k) x ≡ true
unfolding system_acked register_acked
of_register c session f k e x p h =
    and_right (not c.mailbox.enabled && session && is_writable (f + k)) (end_allows (written_all c.registers f e).ends (f + k) x)
    (pick_false _ _ _ (eqb f 0x0900) p refl ∙ h)

-- registers that a leg writes are in range
module _ (c : Core) (session : Bool) (f : ℕ) (m : List ℕ) (other : eqb f 0x0900 ≡ false) (h : registers_in_range c.registers ≡ true) where
  one_kept : (k : ℕ) → registers_in_range (written_all c.registers f (page k m)) ≡ true → system_acked c session f k (page k m) (get_or m (768 + k) 0) ≡ true
      → registers_in_range (written_all c.registers f (page k m ++ get_or m (768 + k) 0 ∷ [])) ≡ true
  one_kept k r a =
      rw (written_snoc (page k m) c.registers f (get_or m (768 + k) 0), length_bytes_at m 768 k)
      (written_kept (written_all c.registers f (page k m)) (f + k) (get_or m (768 + k) 0) r (of_register c session f k (page k m) (get_or m (768 + k) 0) other a))

  pub registers_kept : (k : ℕ) → page_acked System c session f m k ≡ true → registers_in_range (written_all c.registers f (page k m)) ≡ true
  unfolding bytes_at written_all space_acked
  registers_kept zero p = h
  registers_kept (suc k) p =
      one_kept k (registers_kept k (page_before System c session f m k p))
      (acked_space System c session f k (page k m) (get_or m (768 + k) 0) (page_last System c session f m k p))
