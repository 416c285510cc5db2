-- Laws of a rack's lines: those with digits behind the tab, and those that are too long. Assumes nothing.
use mathlib.Core.Path.{◌≡◌, refl, sym, ap, ◌∙◌}
use mathlib.Core.Bool.{Bool, true, false, ◌&&◌}
use mathlib.Core.List.{List}
use Prim.Native.Nat.{ℕ, ◌%◌, ◌≤◌, ◌<◌}
use native.Mathlib.Omega.{arith}
use lib.Dec.{leb, ltb, eqb}
use borrow.Author.Tests.{leb-true, ltb-true, ltb-false, lt-ltb, eqb-true}
use lib.ListN.{length, take, drop, get_or, length-take}
use lib.Seq.{take_all}
use Rattle.parts.proofs.Picks.{pick_case, pick_true}
use Rattle.parts.proofs.Bools.{and_left}
use Rattle.hexadecimal.specs.Hex.{all_hex}
use Rattle.lines.specs.Line.{has_bytes}
use Rattle.reading.specs.Line.{ScriptLine, bad_line, signal_line, frame_line, longest, line_of}
use Rattle.reading.proofs.LineLaws.{Framed, framed}
use Rattle.rack_reading.specs.Line.{RackLine, bench_line, add_line, name_line, search_line, bad_rack_line, add_sent, number_sent, name_sent, search_sent, own_line, or_own, rack_line_of}
use Rattle.rack_reading.specs.Claims.{RackLineCut}

never : {A : Type 0} → false ≡ true → A
never h = let z : ◌≡◌ {A = ℕ} 0 1 = cc in absurd (omega arith)

-- ---- lines whose reading is completed by the digits behind the tab
unfoldable pub has_digits : RackLine → Bool
has_digits (bench_line bad_line) = false
has_digits (bench_line (signal_line code value)) = false
has_digits (bench_line (frame_line f)) = true
has_digits (add_line u) = true
has_digits (name_line n) = false
has_digits (search_line f) = true

-- a line that has them has G
abbrev Says : Type 0 → RackLine → Type 0
Says G line = has_digits line ≡ true → G

bytes_length : (s : List ℕ) → has_bytes s ≡ true → 4 ≤ length s
unfolding has_bytes
bytes_length s h =
    let a = leb 4 (length s) in
    let b = eqb (length s % 2) 0 in
    let d = eqb (get_or s 1 0) 9 in
    leb-true 4 (length s) (and_left a b (and_left (a && b) d (and_left (a && b && d) (all_hex (drop 2 s)) h)))

in_number_lem : (G : Type 0) (s : List ℕ) → Says G (number_sent s)
unfolding number_sent has_digits
in_number_lem G s =
    pick_case (Says G) _ _ _ (λ _ e. never e)
    (λ _. pick_case (Says G) _ _ _ (λ _ e. never e)
    (λ _. pick_case (Says G) _ _ _ (λ _ e. never e)
    (λ _ e. never e)))

module _ (s : List ℕ) where
  abbrev P : RackLine → Type 0
  P = Says (2 ≤ length s)

  in_add : P (add_sent s)
  unfolding add_sent has_digits
  in_add = pick_case P _ _ _ (λ h _. omega (arith, eqb-true (length s) 18 (and_left (eqb (length s) 18) (has_bytes s) h))) (λ _ e. never e)

  in_name : P (name_sent s)
  unfolding name_sent has_digits
  in_name = pick_case P _ _ _ (λ _. in_number_lem (2 ≤ length s) (drop 2 s)) (λ _ e. never e)

  in_search : P (search_sent s)
  unfolding search_sent has_digits
  in_search = pick_case P _ _ _ (λ h _. omega (arith, bytes_length s h)) (λ _ e. never e)

  in_own : Says (Framed s) (own_line s)
  unfolding own_line has_digits
  in_own =
      let Q = Says (Framed s) in
      pick_case Q _ _ _ (λ _ e. never e)
      (λ h. pick_case Q _ _ _ (λ _ e. (ltb-false longest (length s) h, in_add e))
      (λ _. pick_case Q _ _ _ (λ _ e. (ltb-false longest (length s) h, in_name e))
      (λ _. pick_case Q _ _ _ (λ _ e. (ltb-false longest (length s) h, in_search e))
      (λ _ e. never e))))

  in_line : (line : ScriptLine) → line_of s ≡ line → Says (Framed s) (or_own line s)
  unfolding or_own has_digits
  in_line bad_line e = in_own
  in_line (signal_line code value) e = λ h. never h
  in_line (frame_line f) e = λ _. framed s f e

  -- such a line is not too long, and has its letter and its tab
  pub digits_framed : has_digits (rack_line_of s) ≡ true → Framed s
  unfolding rack_line_of
  digits_framed h = in_line (line_of s) refl h

-- ---- a line that is too long
too_long : (s : List ℕ) → longest < length s → rack_line_of s ≡ bad_rack_line
unfolding rack_line_of line_of or_own own_line
too_long s h =
    let e = lt-ltb longest (length s) h in
    ap (λ (line : ScriptLine). or_own line s) (sym (pick_true _ _ _ (ltb longest (length s)) e refl))
    ∙ sym (pick_true _ _ _ (ltb longest (length s)) e refl)

line_cut_at : (n : ℕ) → longest < n → (s : List ℕ) (b : Bool) → ltb longest (length s) ≡ b → rack_line_of (take n s) ≡ rack_line_of s
line_cut_at n l s true h =
    let k = ltb-true longest (length s) h in
    too_long (take n s) (omega (arith, length-take n s, k)) ∙ sym (too_long s k)
line_cut_at n l s false h = ap rack_line_of (take_all n s (omega (arith, ltb-false longest (length s) h)))

pub rack_line_cut : RackLineCut
rack_line_cut n l s = line_cut_at n l s (ltb longest (length s)) refl
