-- Laws of lines: those that hold a frame, and those that are too long. Assumes nothing.
use mathlib.Core.Path.{◌≡◌, refl, sym, ap, ◌∙◌}
use mathlib.Core.Bool.{Bool, true, false, ◌&&◌}
use mathlib.Core.List.{List}
use Prim.Native.Nat.{ℕ, ◌%◌, ◌≤◌, ◌<◌}
use native.Mathlib.Omega.{arith}
use lib.Dec.{leb, ltb, eqb}
use borrow.Author.Tests.{leb-true, ltb-true, ltb-false, lt-ltb}
use lib.ListN.{length, take, drop, get_or, length-drop, length-take}
use lib.Seq.{take_all}
use Rattle.parts.proofs.Picks.{pick_case, pick_true}
use Rattle.parts.proofs.Bools.{and_left}
use Rattle.hexadecimal.specs.Hex.{all_hex}
use Rattle.reading.specs.Line.{ScriptLine, bad_line, signal_line, frame_line, longest, alone, level, byte_sent, frame_sent, tabbed, line_of}
use Rattle.reading.specs.Claims.{LineCut}

is_frame : ScriptLine → Bool
is_frame bad_line = false
is_frame (signal_line code value) = false
is_frame (frame_line s) = true

never : {A : Type 0} → false ≡ true → A
never h = let z : ◌≡◌ {A = ℕ} 0 1 = cc in absurd (omega arith)

-- a reading that says a frame has G
abbrev Says : Type 0 → ScriptLine → Type 0
Says G x = is_frame x ≡ true → G

module _ (G : Type 0) where
  in_alone : (x : ℕ) → Says G (alone x)
  unfolding alone is_frame
  in_alone x =
      pick_case (Says G) _ _ _ (λ _ e. never e)
      (λ _. pick_case (Says G) _ _ _ (λ _ e. never e)
      (λ _. pick_case (Says G) _ _ _ (λ _ e. never e)
      (λ _. pick_case (Says G) _ _ _ (λ _ e. never e)
      (λ _ e. never e))))

  in_level : (code : ℕ) (s : List ℕ) → Says G (level code s)
  unfolding level is_frame
  in_level code s = pick_case (Says G) _ _ _ (λ _ e. never e) (λ _ e. never e)

  in_byte : (s : List ℕ) → Says G (byte_sent s)
  unfolding byte_sent is_frame
  in_byte s = pick_case (Says G) _ _ _ (λ _ e. never e) (λ _ e. never e)

-- two digits or more
abbrev Digits : List ℕ → Type 0
Digits s = 2 ≤ length s

in_frame : (s : List ℕ) → Says (Digits s) (frame_sent s)
unfolding frame_sent is_frame
in_frame s =
    let a = leb 2 (length s) in
    let b = eqb (length s % 2) 0 in
    pick_case (Says (Digits s)) _ _ _ (λ h _. leb-true 2 (length s) (and_left a b (and_left (a && b) (all_hex s) h))) (λ _ e. never e)

in_tabbed : (x : ℕ) (s : List ℕ) → Says (Digits s) (tabbed x s)
unfolding tabbed is_frame
in_tabbed x s =
    let P = Says (Digits s) in
    pick_case P _ _ _ (λ _. in_level (Digits s) 1 s)
    (λ _. pick_case P _ _ _ (λ _. in_level (Digits s) 2 s)
    (λ _. pick_case P _ _ _ (λ _. in_byte (Digits s) s)
    (λ _. pick_case P _ _ _ (λ _. in_level (Digits s) 5 s)
    (λ _. pick_case P _ _ _ (λ _. in_frame s)
    (λ _ e. never e)))))

abbrev pub Framed : List ℕ → Type 0
Framed s = (length s ≤ 1200) × (2 ≤ length s)

in_line : (s : List ℕ) → Says (Framed s) (line_of s)
unfolding line_of is_frame
in_line s =
    let P = Says (Framed s) in
    pick_case P _ _ _ (λ _ e. never e)
    (λ h. pick_case P _ _ _ (λ _. in_alone (Framed s) (get_or s 0 0))
    (λ _. pick_case P _ _ _
    (λ _ e. (ltb-false 1200 (length s) h, omega (arith, length-drop 2 s, in_tabbed (get_or s 0 0) (drop 2 s) e)))
    (λ _ e. never e)))

-- a line that says a frame
pub framed : (s f : List ℕ) → line_of s ≡ frame_line f → Framed s
unfolding is_frame
framed s f e = in_line s (ap is_frame e)

-- ---- a line that is too long
line_cut_at : (n : ℕ) → longest < n → (s : List ℕ) (b : Bool) → ltb longest (length s) ≡ b → line_of (take n s) ≡ line_of s
unfolding line_of
line_cut_at n l s true h =
    sym (pick_true _ _ _ (ltb longest (length (take n s))) (lt-ltb longest (length (take n s)) (omega (arith, length-take n s, ltb-true longest (length s) h))) refl)
    ∙ pick_true _ _ _ (ltb longest (length s)) h refl
line_cut_at n l s false h = ap line_of (take_all n s (omega (arith, ltb-false longest (length s) h)))

pub line_cut : LineCut
line_cut n l s = line_cut_at n l s (ltb longest (length s)) refl
