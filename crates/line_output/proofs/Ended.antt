-- The end of the input: what a call at it writes, and the whole output as it stands there. Assumes nothing.
use Rattle.std.proofs.Common.{◌≡◌, refl, sym, ap, ◌∙◌, ℕ, ◌≤◌, Bool, true, false, List, [], ◌∷◌, ◌++◌, length, take, eqb, arith, append_assoc}
use mathlib.Core.Bool.{false≢true}
use borrow.Author.Tests.{eqb-true}
use Rattle.parts.specs.Pick.{pick}
use Rattle.line_stream.specs.Lines.{lines_of}
use Rattle.line_stream.specs.Output.{texts_of, output_of}
use Rattle.line_stream.specs.Step.{LineProgram, PieceResult, text_room, piece_by, end_of, StreamBuffers, puts}
use Rattle.line_stream.specs.Flow.{Flow, flow_of}
use Rattle.line_stream.specs.Claim.{TellsByKept}
use Rattle.line_stream.proofs.Steps.{step_case}
use Rattle.line_stream.proofs.Flow.{buffer_is, flow_append}
use Rattle.line_stream.proofs.Held.{end_none, end_some}
use Rattle.line_stream.proofs.Claim.{bytes_before, flow_whole}
use Rattle.line_output.specs.Answered.{last_line, output_from}

-- no byte stands before the lines
before_none : (ls : List (List ℕ)) → bytes_before [] ls ≡ ls
unfolding bytes_before pick
before_none [] = refl
before_none (l ∷ ls) = refl

last_before : (h : List ℕ) → bytes_before h [] ≡ last_line h
unfolding bytes_before
last_before h = refl

module _ {S : Type 0} (program : LineProgram S) where
  -- a line's text, where there is room for it
  feed_said : (room : ℕ) (c : S) (h : List ℕ) → text_room ≤ room → (piece_by program room c h (10 ∷ [])).text ≡ texts_of program c (h ∷ [])
  unfolding piece_by texts_of
  feed_said room c h g =
      step_case program (λ (r : PieceResult S). r.text ≡ texts_of program c (h ∷ [])) room c h 10 []
      (λ _ l. absurd (omega arith))
      (λ _ _. refl)
      (λ z. absurd (false≢true (sym z)))

  end_said_at : (room : ℕ) (c : S) (h : List ℕ) → text_room ≤ room → (b : Bool) → eqb (length h) 0 ≡ b
      → (end_of program room c h).text ≡ texts_of program c (pick b [] (h ∷ []))
  unfolding pick texts_of
  end_said_at room c h g true e = ap (λ (r : PieceResult S). r.text) (end_none program room c h (eqb-true (length h) 0 e))
  end_said_at room c h g false e =
      ap (λ (r : PieceResult S). r.text) (end_some program room c h (λ z. false≢true (sym e ∙ ap (λ (n : ℕ). eqb n 0) z)))
      ∙ feed_said room c h g

  end_said : (room : ℕ) (c : S) (h : List ℕ) → text_room ≤ room → (end_of program room c h).text ≡ texts_of program c (last_line h)
  end_said room c h g = end_said_at room c h g (eqb (length h) 0) refl

  -- what a call at the end leaves in the buffer o
  pub end_buffer : (c : S) (h o : List ℕ) (l : StreamBuffers S) → l ≡ puts (end_of program (length o) c h) o → l.wrote ≤ length o → text_room ≤ length o
      → take l.wrote l.buffer ≡ texts_of program c (last_line h)
  end_buffer c h o l e fits g =
      let text = (end_of program (length o) c h).text in
      let long : l.wrote ≡ length text = ap (λ (x : StreamBuffers S). x.wrote) e in
      ap (λ (x : StreamBuffers S). take x.wrote x.buffer) e
      ∙ buffer_is o text (omega (arith, long, fits))
      ∙ end_said (length o) c h g

  -- what was written, and what is still to be written for the rest
  pub output_append : (c : S) (h s t : List ℕ)
      → output_from program c h (s ++ t) ≡ (flow_of program c h s).text ++ output_from program (flow_of program c h s).carried (flow_of program c h s).held t
  output_append c h s t =
      let f = flow_of program c h s in
      let r = flow_of program f.carried f.held t in
      ap (λ (x : Flow S). x.text ++ texts_of program x.carried (last_line x.held)) (flow_append program s t c h)
      ∙ append_assoc f.text r.text (texts_of program r.carried (last_line r.held))

  -- from the start it is the whole output
  pub output_whole : TellsByKept program → (c : S) (s : List ℕ) → output_from program c [] s ≡ output_of program c s
  output_whole tells c s =
      ap (λ (ls : List (List ℕ)). (flow_of program c [] s).text ++ texts_of program (flow_of program c [] s).carried ls) (sym (last_before (flow_of program c [] s).held))
      ∙ flow_whole program tells s c []
      ∙ ap (texts_of program c) (before_none (lines_of s))
