-- What is fed is answered line by line: the proofs of the claims. Assumes nothing.
use mathlib.Core.Path.{◌≡◌, refl, sym, ap, ◌∙◌}
use mathlib.Core.Bool.{Bool, true, false, false≢true}
use mathlib.Core.List.{List, [], ◌∷◌, ◌++◌, append_assoc, append-nil}
use Prim.Native.Nat.{ℕ, ◌+◌, ◌≤◌, ◌<◌}
use native.Mathlib.Omega.{arith}
use lib.Dec.{eqb}
use borrow.Author.Tests.{ne_eqb}
use lib.ListN.{length, take, length-append, length-take}
use lib.Seq.{append_snoc}
use Rattle.parts.specs.Pick.{pick}
use Rattle.parts.proofs.Picks.{pick_false, pick_case}
use Rattle.unfinished.specs.Kept.{kept_most, keep}
use Rattle.line_stream.specs.Lines.{byte_before, lines_of, byte_before_full, full_lines_of, bytes_before_full}
use Rattle.line_stream.specs.Output.{texts_of}
use Rattle.line_stream.specs.Step.{LineAnswer, LineProgram, PieceResult, piece_result, text_room, piece_by, end_of}
use Rattle.line_stream.specs.Flow.{Flow, flow_of}
use Rattle.line_stream.specs.Claim.{TextsFit, TellsByKept, buffer_text, all_of, joined, StreamsOut, AnswersEach, CutsNoText, UsesSome}
use Rattle.line_stream.proofs.Steps.{line_kept, step_case, text_le, goes_on_lem}
use Rattle.line_stream.proofs.Flow.{flow_lf, flow_byte, step_flows, buffer_is, pieces_flow}

-- all lines, where the bytes h stand before them
unfoldable pub bytes_before : List ℕ → List (List ℕ) → List (List ℕ)
bytes_before h [] = pick (eqb (length h) 0) [] (h ∷ [])
bytes_before h (l ∷ ls) = (h ++ l) ∷ ls

before_nil : (ls : List (List ℕ)) → bytes_before [] ls ≡ ls
unfolding bytes_before pick
before_nil [] = refl
before_nil (l ∷ ls) = refl

before_some : (h : List ℕ) → 0 < length h → bytes_before h [] ≡ h ∷ []
unfolding bytes_before
before_some h l = sym (pick_false [] (h ∷ []) (h ∷ []) (eqb (length h) 0) (ne_eqb (length h) 0 (λ e. omega arith)) refl)

before_byte : (h : List ℕ) (b : ℕ) (ls : List (List ℕ)) → bytes_before (h ++ b ∷ []) ls ≡ bytes_before h (byte_before b ls)
unfolding bytes_before byte_before
before_byte h b [] = before_some (h ++ b ∷ []) (omega (arith, length-append h (b ∷ [])))
before_byte h b (l ∷ ls) = ap (λ (x : List ℕ). x ∷ ls) (append_snoc h b l)

full_nil : (ls : List (List ℕ)) → bytes_before_full [] ls ≡ ls
unfolding bytes_before_full
full_nil [] = refl
full_nil (l ∷ ls) = refl

full_byte : (h : List ℕ) (b : ℕ) (ls : List (List ℕ)) → bytes_before_full (h ++ b ∷ []) ls ≡ bytes_before_full h (byte_before_full b ls)
unfolding bytes_before_full byte_before_full
full_byte h b [] = refl
full_byte h b (l ∷ ls) = ap (λ (x : List ℕ). x ∷ ls) (append_snoc h b l)

-- ---- any program
module _ {S : Type 0} (program : LineProgram S) where
  -- a line of which only 1,201 bytes were kept
  before_kept : TellsByKept program → (c : S) (h : List ℕ) (ls : List (List ℕ)) → texts_of program c (bytes_before (keep h) ls) ≡ texts_of program c (bytes_before h ls)
  unfolding bytes_before texts_of pick
  before_kept tells c [] [] = refl
  before_kept tells c (b ∷ h) [] =
      ap (texts_of program c) (before_some (keep (b ∷ h)) (omega (arith, length-take kept_most (b ∷ h))))
      ∙ ap (λ (a : LineAnswer S). a.text ++ []) (tells c (b ∷ h))
      ∙ ap (texts_of program c) (sym (before_some (b ∷ h) (omega arith)))
  before_kept tells c h (l ∷ ls) = ap (λ (a : LineAnswer S). a.text ++ texts_of program a.carried ls) (line_kept program tells c h l)

  -- ---- all that is written up to the end: what is held is a line if it has a byte
  abbrev whole : Flow S → List ℕ
  whole r = r.text ++ texts_of program r.carried (bytes_before r.held [])

  abbrev Whole : List ℕ → Type 0
  Whole s = (c : S) (h : List ℕ) → whole (flow_of program c h s) ≡ texts_of program c (bytes_before h (lines_of s))

  flow_whole_at : TellsByKept program → (b : ℕ) (s : List ℕ) → Whole s → (c : S) (h : List ℕ) (x : Bool) → eqb b 10 ≡ x
      → whole (flow_of program c h (b ∷ s)) ≡ texts_of program c (bytes_before h (pick x ([] ∷ lines_of s) (byte_before b (lines_of s))))
  unfolding pick bytes_before texts_of
  flow_whole_at tells b s ih c h true e =
      let a = program c h in
      let r = flow_of program a.carried [] s in
      ap whole (flow_lf program c h b s e)
      ∙ append_assoc a.text r.text (texts_of program r.carried (bytes_before r.held []))
      ∙ ap (λ (t : List ℕ). a.text ++ t) (ih a.carried [] ∙ ap (texts_of program a.carried) (before_nil (lines_of s)))
      ∙ ap (λ (l : List ℕ). (program c l).text ++ texts_of program (program c l).carried (lines_of s)) (sym (append-nil h))
  flow_whole_at tells b s ih c h false e =
      ap whole (flow_byte program c h b s e)
      ∙ ih c (keep (h ++ b ∷ []))
      ∙ before_kept tells c (h ++ b ∷ []) (lines_of s)
      ∙ ap (texts_of program c) (before_byte h b (lines_of s))

  pub flow_whole : TellsByKept program → (s : List ℕ) → Whole s
  unfolding flow_of lines_of
  flow_whole tells [] c h = refl
  flow_whole tells (b ∷ s) c h = flow_whole_at tells b s (flow_whole tells s) c h (eqb b 10) refl

  -- the end of the input
  end_text_at : (room : ℕ) (c : S) (h : List ℕ) (x : Bool) → text_room ≤ room → eqb (length h) 0 ≡ x
      → (pick x (piece_result c [] 0 []) (piece_by program room c h (10 ∷ []))).text ≡ texts_of program c (pick x [] (h ∷ []))
  unfolding pick texts_of piece_by
  end_text_at room c h true g e = refl
  end_text_at room c h false g e =
      step_case program (λ (r : PieceResult S). r.text ≡ texts_of program c (h ∷ [])) room c h 10 []
      (λ _ l. absurd (omega arith))
      (λ _ _. refl)
      (λ z. absurd (false≢true (sym z)))

  end_text : (room : ℕ) (c : S) (h : List ℕ) → text_room ≤ room → (end_of program room c h).text ≡ texts_of program c (bytes_before h [])
  unfolding end_of bytes_before
  end_text room c h g = end_text_at room c h (eqb (length h) 0) g refl

  end_le : TextsFit program → (room : ℕ) (c : S) (h : List ℕ) → length (end_of program room c h).text ≤ room
  unfolding end_of
  end_le fits room c h = pick_case (λ (r : PieceResult S). length r.text ≤ room) (eqb (length h) 0) _ _ (λ _. omega arith) (λ _. text_le program fits (10 ∷ []) room c h)

  -- ---- what is written before the end
  full_kept : TellsByKept program → (c : S) (h : List ℕ) (ls : List (List ℕ)) → texts_of program c (bytes_before_full (keep h) ls) ≡ texts_of program c (bytes_before_full h ls)
  unfolding bytes_before_full texts_of
  full_kept tells c h [] = refl
  full_kept tells c h (l ∷ ls) = ap (λ (a : LineAnswer S). a.text ++ texts_of program a.carried ls) (line_kept program tells c h l)

  abbrev Full : List ℕ → Type 0
  Full s = (c : S) (h : List ℕ) → (flow_of program c h s).text ≡ texts_of program c (bytes_before_full h (full_lines_of s))

  flow_full_at : TellsByKept program → (b : ℕ) (s : List ℕ) → Full s → (c : S) (h : List ℕ) (x : Bool) → eqb b 10 ≡ x
      → (flow_of program c h (b ∷ s)).text ≡ texts_of program c (bytes_before_full h (pick x ([] ∷ full_lines_of s) (byte_before_full b (full_lines_of s))))
  unfolding pick bytes_before_full texts_of
  flow_full_at tells b s ih c h true e =
      let a = program c h in
      ap (λ (r : Flow S). r.text) (flow_lf program c h b s e)
      ∙ ap (λ (t : List ℕ). a.text ++ t) (ih a.carried [] ∙ ap (texts_of program a.carried) (full_nil (full_lines_of s)))
      ∙ ap (λ (l : List ℕ). (program c l).text ++ texts_of program (program c l).carried (full_lines_of s)) (sym (append-nil h))
  flow_full_at tells b s ih c h false e =
      ap (λ (r : Flow S). r.text) (flow_byte program c h b s e)
      ∙ ih c (keep (h ++ b ∷ []))
      ∙ full_kept tells c (h ++ b ∷ []) (full_lines_of s)
      ∙ ap (texts_of program c) (full_byte h b (full_lines_of s))

  pub flow_full : TellsByKept program → (s : List ℕ) → Full s
  unfolding flow_of full_lines_of bytes_before_full texts_of
  flow_full tells [] c h = refl
  flow_full tells (b ∷ s) c h = flow_full_at tells b s (flow_full tells s) c h (eqb b 10) refl

-- ---- the claims
pub streams_out : {S : Type 0} (program : LineProgram S) → TextsFit program → TellsByKept program → StreamsOut program
unfolding all_of
streams_out {S} program fits tells o roomy c ps =
    let room = length (o 0) in
    let f = flow_of program c [] (joined ps) in
    ap (λ (r : Flow S). r.text ++ buffer_text (o 0) (end_of program room r.carried r.held).text) (pieces_flow program fits o roomy ps c [])
    ∙ ap (λ (t : List ℕ). f.text ++ t)
    (buffer_is (o 0) (end_of program room f.carried f.held).text (end_le program fits room f.carried f.held) ∙ end_text program room f.carried f.held (roomy 0))
    ∙ flow_whole program tells (joined ps) c []
    ∙ ap (texts_of program c) (before_nil (lines_of (joined ps)))

pub answers_each : {S : Type 0} (program : LineProgram S) → TextsFit program → TellsByKept program → AnswersEach program
answers_each {S} program fits tells o roomy c ps =
    ap (λ (r : Flow S). r.text) (pieces_flow program fits o roomy ps c [])
    ∙ flow_full program tells (joined ps) c []
    ∙ ap (texts_of program c) (full_nil (full_lines_of (joined ps)))

pub cuts_no_text : {S : Type 0} (program : LineProgram S) → TextsFit program → TellsByKept program → CutsNoText program
cuts_no_text {S} program fits tells o c h s =
    let r = piece_by program (length o) c h s in
    buffer_is o r.text (text_le program fits s (length o) c h)
    ∙ sym (ap (λ (f : Flow S). f.text) (step_flows program s (length o) c h))
    ∙ flow_full program tells (take r.used s) c h

pub uses_some : {S : Type 0} (program : LineProgram S) → UsesSome program
uses_some program = goes_on_lem program
