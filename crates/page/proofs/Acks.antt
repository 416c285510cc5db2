-- The Acks of a page's bytes. Assumes nothing.
use mathlib.Core.Path.{◌≡◌, sym, ap, ◌∙◌}
use mathlib.Core.Bool.{Bool, true, false, and-false, ◌&&◌}
use mathlib.Core.List.{List}
use Prim.Native.Nat.{ℕ, zero, suc, ◌+◌, ◌-◌, ◌<◌}
use native.Mathlib.Nat.{add-zero, add-suc}
use native.Mathlib.Numerals.{add-one}
use native.Mathlib.Omega.{arith}
use lib.ListN.{get_or}
use Rattle.parts.specs.Bytes.{bytes_at}
use Rattle.parts.proofs.Bools.{and_left, and_right}
use Rattle.bus.specs.declared.Space.{Space}
use Rattle.tag.specs.declared.Core.{Core}
use Rattle.tag.specs.Layout.{page}
use Rattle.rule.specs.Rule.{acked}
use Rattle.page.specs.PageRange.{page_acked}

module _ (s : Space) (c : Core) (session : Bool) (f : ℕ) where
  -- of a page's Acks: all but the last, and the last
  pub page_before : (m : List ℕ) (k : ℕ) → page_acked s c session f m (suc k) ≡ true → page_acked s c session f m k ≡ true
  unfolding page_acked
  page_before m k h = and_left (page_acked s c session f m k) (acked s c session f k (page k m) (get_or m (768 + k) 0)) h

  pub page_last : (m : List ℕ) (k : ℕ) → page_acked s c session f m (suc k) ≡ true → acked s c session f k (page k m) (get_or m (768 + k) 0) ≡ true
  unfolding page_acked
  page_last m k h = and_right (page_acked s c session f m k) (acked s c session f k (page k m) (get_or m (768 + k) 0)) h

module _ (s : Space) (c : Core) (session : Bool) (f : ℕ) (m : List ℕ) where
  -- one byte that would not be Acked decides for every longer page
  pub stays : (k j : ℕ) → page_acked s c session f m k ≡ false → page_acked s c session f m (k + j) ≡ false
  unfolding page_acked
  stays k zero h = ap (page_acked s c session f m) (add-zero k) ∙ h
  stays k (suc j) h =
      ap (page_acked s c session f m) (add-suc k j)
      ∙ ap (λ (b : Bool). b && acked s c session f (k + j) (bytes_at m 768 (k + j)) (get_or m (768 + (k + j)) 0)) (stays k j h)

  -- a byte more
  pub one_more : (k : ℕ) → page_acked s c session f m k ≡ true → acked s c session f k (bytes_at m 768 k) (get_or m (768 + k) 0) ≡ true
      → page_acked s c session f m (suc k) ≡ true
  unfolding page_acked
  one_more k h e = rw (h, e)

  pub none_more : (k : ℕ) → acked s c session f k (bytes_at m 768 k) (get_or m (768 + k) 0) ≡ false → page_acked s c session f m (suc k) ≡ false
  unfolding page_acked
  none_more k e = rw e (and-false (page_acked s c session f m k))

  -- the same at a loop's next place, and at its end
  pub next_acked : (i : ℕ) → page_acked s c session f m i ≡ true → acked s c session f i (page i m) (get_or m (768 + i) 0) ≡ true
      → page_acked s c session f m (i + 1) ≡ true
  next_acked i h e = ap (page_acked s c session f m) (add-one i) ∙ one_more i h e

  pub refused_at : (i k : ℕ) → i < k → acked s c session f i (page i m) (get_or m (768 + i) 0) ≡ false → false ≡ page_acked s c session f m k
  refused_at i k l e =
      let n : suc i + (k - suc i) ≡ k = omega arith in
      sym (ap (page_acked s c session f m) (sym n) ∙ stays (suc i) (k - suc i) (none_more i e))
