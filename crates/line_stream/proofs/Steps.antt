-- Laws of a call: its cases, its bounds, a line of the piece, and where it stops. Assumes nothing.
use mathlib.Core.Path.{◌≡◌, refl, sym, ap, ◌∙◌}
use mathlib.Core.Bool.{true, false}
use mathlib.Core.List.{List, [], ◌∷◌, ◌++◌, append_assoc, append-nil}
use Prim.Native.Nat.{ℕ, zero, suc, ◌+◌, ◌-◌, ◌≤◌, ◌<◌}
use native.Mathlib.Omega.{arith}
use lib.Dec.{eqb, ltb}
use borrow.Author.Tests.{ltb-true, ltb-false}
use lib.ListN.{length, take, drop, length-append, length-take}
use lib.Seq.{take_all, append_snoc}
use Rattle.parts.proofs.Picks.{pick_case}
use Rattle.lines.specs.Line.{line_length}
use Rattle.line_stream.specs.Step.{LineAnswer, LineProgram, PieceResult, piece_result, ahead, text_room, no_room, piece_by}
use Rattle.line_stream.specs.Claim.{TextsFit, TellsByKept}
use Rattle.unfinished.specs.Kept.{kept_most, keep}
use Rattle.lines.proofs.Scan.{length_lf, length_byte_lem}

-- ---- lists
take_joined : (n : ℕ) (x y : List ℕ) → take n (take n x ++ y) ≡ take n (x ++ y)
take_joined zero x y = refl
take_joined (suc n) [] y = refl
take_joined (suc n) (b ∷ x) y = ap (λ (z : List ℕ). b ∷ z) (take_joined n x y)

pub keep_keep : (x y : List ℕ) → keep (keep x ++ y) ≡ keep (x ++ y)
keep_keep x y = take_joined kept_most x y

pub keep_short : (x : List ℕ) → length x ≤ kept_most → keep x ≡ x
keep_short x h = take_all kept_most x h

pub ahead_ahead : {S : Type 0} (i j : ℕ) (p q : List ℕ) (r : PieceResult S) → ahead i p (ahead j q r) ≡ ahead (i + j) (p ++ q) r
ahead_ahead i j p q r =
    let e : i + (j + r.used) ≡ i + j + r.used = omega arith in
    rw (e, append_assoc)

-- ---- any program
module _ {S : Type 0} (program : LineProgram S) where
  -- a line of which only 1,201 bytes were kept, with the bytes y more
  pub line_kept : TellsByKept program → (c : S) (x y : List ℕ) → program c (keep x ++ y) ≡ program c (x ++ y)
  line_kept kept c x y = sym (kept c (keep x ++ y)) ∙ ap (program c) (keep_keep x y) ∙ kept c (x ++ y)

  -- ---- the cases of a call
  pub step_case : (P : PieceResult S → Type 0) (room : ℕ) (c : S) (h : List ℕ) (b : ℕ) (s : List ℕ)
      → (eqb b 10 ≡ true → room < text_room → P (no_room c h))
      → (eqb b 10 ≡ true → text_room ≤ room → P (ahead 1 (program c h).text (piece_by program (room - length (program c h).text) (program c h).carried [] s)))
      → (eqb b 10 ≡ false → P (ahead 1 [] (piece_by program room c (keep (h ++ b ∷ [])) s)))
      → P (piece_by program room c h (b ∷ s))
  unfolding piece_by
  step_case P room c h b s full line byte =
      pick_case P (eqb b 10) _ _
      (λ e. pick_case P (ltb room text_room) _ _ (λ l. full e (ltb-true room text_room l)) (λ l. line e (ltb-false room text_room l)))
      (λ e. byte e)

  pub used_le : (s : List ℕ) (room : ℕ) (c : S) (h : List ℕ) → (piece_by program room c h s).used ≤ length s
  unfolding piece_by
  used_le [] room c h = omega arith
  used_le (b ∷ s) room c h =
      step_case (λ (r : PieceResult S). r.used ≤ suc (length s)) room c h b s
      (λ e l. omega arith)
      (λ e l. omega (arith, used_le s (room - length (program c h).text) (program c h).carried []))
      (λ e. omega (arith, used_le s room c (keep (h ++ b ∷ []))))

  pub text_le : TextsFit program → (s : List ℕ) (room : ℕ) (c : S) (h : List ℕ) → length (piece_by program room c h s).text ≤ room
  unfolding piece_by
  text_le fits [] room c h = omega arith
  text_le fits (b ∷ s) room c h =
      step_case (λ (r : PieceResult S). length r.text ≤ room) room c h b s
      (λ e l. omega arith)
      (λ e l.
      let a = program c h in
      omega (
        arith,
        length-append a.text (piece_by program (room - length a.text) a.carried [] s).text,
        fits c h,
        text_le fits s (room - length a.text) a.carried [],
      ))
      (λ e. text_le fits s room c (keep (h ++ b ∷ [])))

  pub goes_on_lem : (room : ℕ) (c : S) (h s : List ℕ) → text_room ≤ room → 0 < length s → 0 < (piece_by program room c h s).used
  goes_on_lem room c h [] g l = absurd (omega arith)
  goes_on_lem room c h (b ∷ s) g l =
      step_case (λ (r : PieceResult S). 0 < r.used) room c h b s (λ e k. absurd (omega arith)) (λ e k. omega arith) (λ e. omega arith)

  -- ---- a line of the piece
  -- what a line leads to, whose line feed stands at place k of the piece s
  abbrev pub line_at : ℕ → List ℕ → ℕ → LineAnswer S → PieceResult S
  line_at room s k a = ahead (suc k) a.text (piece_by program (room - length a.text) a.carried [] (drop (suc k) s))

  -- a byte more before it
  pub line_more : (room b k : ℕ) (s : List ℕ) (a : LineAnswer S) → ahead 1 [] (line_at room s k a) ≡ line_at room (b ∷ s) (suc k) a
  line_more room b k s a =
      ahead_ahead 1 (suc k) [] a.text (piece_by program (room - length a.text) a.carried [] (drop (suc k) s))
      ∙ ap (λ (n : ℕ). ahead n a.text (piece_by program (room - length a.text) a.carried [] (drop (suc k) s))) (omega arith)

  -- a line that lies in the piece with its line feed, and room for a text
  pub line_step : TellsByKept program → (s : List ℕ) (room : ℕ) (c : S) (h : List ℕ) → line_length s < length s → text_room ≤ room
      → piece_by program room c h s ≡ line_at room s (line_length s) (program c (h ++ take (line_length s) s))
  unfolding line_length
  line_step kept [] room c h l g = absurd (omega arith)
  line_step kept (b ∷ s) room c h l g =
      step_case (λ (r : PieceResult S). r ≡ line_at room (b ∷ s) (line_length (b ∷ s)) (program c (h ++ take (line_length (b ∷ s)) (b ∷ s)))) room c h b s
      (λ e k. absurd (omega arith))
      (λ e k. rw (length_lf b s e, append-nil h))
      (λ e.
      let z : line_length (b ∷ s) ≡ suc (line_length s) = length_byte_lem b s e in
      ap (ahead 1 []) (line_step kept s room c (keep (h ++ b ∷ [])) (omega arith) g)
      ∙ ap (λ (a : LineAnswer S). ahead 1 [] (line_at room s (line_length s) a))
      (line_kept kept c (h ++ b ∷ []) (take (line_length s) s) ∙ ap (program c) (append_snoc h b (take (line_length s) s)))
      ∙ line_more room b (line_length s) s (program c (h ++ b ∷ take (line_length s) s))
      ∙ ap (λ (n : ℕ). line_at room (b ∷ s) n (program c (h ++ take n (b ∷ s)))) (sym z))

  -- a piece with no line feed, or no room for a text at the first
  pub stop_step : (s : List ℕ) (room : ℕ) (c : S) (h : List ℕ) → length h ≤ kept_most → (line_length s < length s → room < text_room)
      → piece_by program room c h s ≡ piece_result c (keep (h ++ take (line_length s) s)) (line_length s) []
  unfolding line_length piece_by
  stop_step [] room c h n l = ap (λ (x : List ℕ). piece_result c x 0 []) (sym (ap keep (append-nil h) ∙ keep_short h n))
  stop_step (b ∷ s) room c h n l =
      step_case (λ (r : PieceResult S). r ≡ piece_result c (keep (h ++ take (line_length (b ∷ s)) (b ∷ s))) (line_length (b ∷ s)) []) room c h b s
      (λ e k. rw (length_lf b s e, append-nil h, keep_short h n))
      (λ e k. absurd (omega (arith, length_lf b s e, l (omega (arith, length_lf b s e)))))
      (λ e.
      let z : line_length (b ∷ s) ≡ suc (line_length s) = length_byte_lem b s e in
      ap (ahead 1 []) (stop_step s room c (keep (h ++ b ∷ [])) (omega (arith, length-take kept_most (h ++ b ∷ []))) (λ m. l (omega arith)))
      ∙ ap (λ (x : List ℕ). piece_result c x (1 + line_length s) []) (keep_keep (h ++ b ∷ []) (take (line_length s) s) ∙ ap keep (append_snoc h b (take (line_length s) s)))
      ∙ ap (λ (j : ℕ). piece_result c (keep (h ++ b ∷ take (line_length s) s)) j []) (omega arith)
      ∙ ap (λ (j : ℕ). piece_result c (keep (h ++ take j (b ∷ s))) j []) (sym z))
