-- A call, a piece and all pieces are the input byte by byte. Assumes nothing.
use mathlib.Core.Path.{◌≡◌, refl, sym, ap, ◌∙◌}
use mathlib.Core.Bool.{Bool, true, false}
use mathlib.Core.List.{List, [], ◌∷◌, ◌++◌, append_assoc}
use Prim.Native.Nat.{ℕ, zero, suc, ◌+◌, ◌-◌, ◌≤◌, ◌<◌}
use native.Mathlib.Omega.{arith}
use lib.Dec.{eqb}
use lib.ListN.{length, take, drop, length-drop, take-append-drop}
use lib.Seq.{sets-eq, take_at}
use Rattle.parts.specs.Pick.{pick}
use Rattle.unfinished.specs.Kept.{keep}
use Rattle.line_stream.specs.Step.{LineProgram, PieceResult, ahead, piece_by, StreamBuffers, puts}
use Rattle.line_stream.specs.Flow.{Flow, flow, following, flow_of}
use Rattle.line_stream.specs.Claim.{TextsFit, buffer_text, piece_of, pieces_of, joined, Roomy}
use Rattle.line_stream.proofs.Steps.{step_case, text_le, goes_on_lem}

-- ---- what is handed over is the text, where it fits
pub buffer_is : (o t : List ℕ) → length t ≤ length o → buffer_text o t ≡ t
buffer_is o t l = ap (take (length t)) (sets-eq t o 0 (omega arith)) ∙ take_at t (drop (0 + length t) o) (length t) refl

left_less : (p : List ℕ) (k u : ℕ) → length p ≤ suc k → (0 < length p → 0 < u) → length (drop u p) ≤ k
left_less [] k u l g = omega (arith, length-drop {A = ℕ} u [])
left_less (b ∷ p) k u l g = omega (arith, length-drop u (b ∷ p), g (omega arith))

-- ---- any program
module _ {S : Type 0} (program : LineProgram S) where
  pub flow_lf : (c : S) (h : List ℕ) (b : ℕ) (s : List ℕ) → eqb b 10 ≡ true
      → flow_of program c h (b ∷ s) ≡ following (program c h).text (flow_of program (program c h).carried [] s)
  unfolding flow_of pick
  flow_lf c h b s e = rw e

  pub flow_byte : (c : S) (h : List ℕ) (b : ℕ) (s : List ℕ) → eqb b 10 ≡ false → flow_of program c h (b ∷ s) ≡ flow_of program c (keep (h ++ b ∷ [])) s
  unfolding flow_of pick
  flow_byte c h b s e = rw e

  -- ---- a call is the feeding of the bytes that it used
  abbrev Flows : S → List ℕ → List ℕ → PieceResult S → Type 0
  Flows c h s r = flow_of program c h (take r.used s) ≡ flow r.carried r.held r.text

  flows_lf : (c : S) (h : List ℕ) (b : ℕ) (s : List ℕ) (r : PieceResult S) → eqb b 10 ≡ true → Flows (program c h).carried [] s r
      → Flows c h (b ∷ s) (ahead 1 (program c h).text r)
  flows_lf c h b s r e ih =
      let n : 1 + r.used ≡ suc r.used = omega arith in
      ap (λ (k : ℕ). flow_of program c h (take k (b ∷ s))) n
      ∙ flow_lf c h b (take r.used s) e
      ∙ ap (following (program c h).text) ih

  flows_byte : (c : S) (h : List ℕ) (b : ℕ) (s : List ℕ) (r : PieceResult S) → eqb b 10 ≡ false → Flows c (keep (h ++ b ∷ [])) s r
      → Flows c h (b ∷ s) (ahead 1 [] r)
  flows_byte c h b s r e ih =
      let n : 1 + r.used ≡ suc r.used = omega arith in
      ap (λ (k : ℕ). flow_of program c h (take k (b ∷ s))) n
      ∙ flow_byte c h b (take r.used s) e
      ∙ ih

  pub step_flows : (s : List ℕ) (room : ℕ) (c : S) (h : List ℕ) → Flows c h s (piece_by program room c h s)
  unfolding piece_by flow_of
  step_flows [] room c h = refl
  step_flows (b ∷ s) room c h =
      step_case program (Flows c h (b ∷ s)) room c h b s
      (λ e l. refl)
      (λ e l. flows_lf c h b s (piece_by program (room - length (program c h).text) (program c h).carried [] s) e (step_flows s (room - length (program c h).text) (program c h).carried []))
      (λ e. flows_byte c h b s (piece_by program room c (keep (h ++ b ∷ [])) s) e (step_flows s room c (keep (h ++ b ∷ []))))

  -- ---- two parts, one after the other
  abbrev then : Flow S → List ℕ → Flow S
  then r t = following r.text (flow_of program r.carried r.held t)

  then_after : (p : List ℕ) (r : Flow S) (t : List ℕ) → following p (then r t) ≡ then (following p r) t
  then_after p r t =
      ap (λ (x : List ℕ). flow (flow_of program r.carried r.held t).carried (flow_of program r.carried r.held t).held x)
      (sym (append_assoc p r.text (flow_of program r.carried r.held t).text))

  flow_append_at : (b : ℕ) (s t : List ℕ) (c : S) (h : List ℕ) (x : Bool) → eqb b 10 ≡ x
      → ((c : S) (h : List ℕ) → flow_of program c h (s ++ t) ≡ then (flow_of program c h s) t) → flow_of program c h (b ∷ s ++ t) ≡ then (flow_of program c h (b ∷ s)) t
  flow_append_at b s t c h true e ih =
      flow_lf c h b (s ++ t) e
      ∙ ap (following (program c h).text) (ih (program c h).carried [])
      ∙ then_after (program c h).text (flow_of program (program c h).carried [] s) t
      ∙ ap (λ (r : Flow S). then r t) (sym (flow_lf c h b s e))
  flow_append_at b s t c h false e ih =
      flow_byte c h b (s ++ t) e
      ∙ ih c (keep (h ++ b ∷ []))
      ∙ ap (λ (r : Flow S). then r t) (sym (flow_byte c h b s e))

  pub flow_append : (s t : List ℕ) (c : S) (h : List ℕ) → flow_of program c h (s ++ t) ≡ then (flow_of program c h s) t
  unfolding flow_of
  flow_append [] t c h = refl
  flow_append (b ∷ s) t c h = flow_append_at b s t c h (eqb b 10) refl (λ u g. flow_append s t u g)

  -- a call, and the feeding of what it left
  step_then : (p : List ℕ) (room : ℕ) (c : S) (h : List ℕ)
      → following (piece_by program room c h p).text (flow_of program (piece_by program room c h p).carried (piece_by program room c h p).held (drop (piece_by program room c h p).used p)) ≡ flow_of program c h p
  step_then p room c h =
      let r = piece_by program room c h p in
      ap (λ (f : Flow S). then f (drop r.used p)) (sym (step_flows p room c h))
      ∙ sym (flow_append (take r.used p) (drop r.used p) c h)
      ∙ ap (flow_of program c h) (take-append-drop r.used p)

  -- so the rest of the piece, from where a call left it, leads to the same
  pub carried_left : (p : List ℕ) (room : ℕ) (c : S) (h o : List ℕ) (l : StreamBuffers S) → l ≡ puts (piece_by program room c h p) o
      → (flow_of program c h p).carried ≡ (flow_of program l.carried l.held (drop l.used p)).carried
  carried_left p room c h o l e =
      ap (λ (f : Flow S). f.carried) (sym (step_then p room c h)) ∙ ap (λ (x : StreamBuffers S). (flow_of program x.carried x.held (drop x.used p)).carried) (sym e)

  pub held_left : (p : List ℕ) (room : ℕ) (c : S) (h o : List ℕ) (l : StreamBuffers S) → l ≡ puts (piece_by program room c h p) o
      → (flow_of program c h p).held ≡ (flow_of program l.carried l.held (drop l.used p)).held
  held_left p room c h o l e =
      ap (λ (f : Flow S). f.held) (sym (step_then p room c h)) ∙ ap (λ (x : StreamBuffers S). (flow_of program x.carried x.held (drop x.used p)).held) (sym e)

  pub piece_flows : TextsFit program → (o : ℕ → List ℕ) → Roomy o → (k : ℕ) (c : S) (h p : List ℕ) → length p ≤ k → piece_of program o k c h p ≡ flow_of program c h p
  unfolding piece_of flow_of
  piece_flows fits o roomy zero c h [] l = refl
  piece_flows fits o roomy zero c h (b ∷ p) l = absurd (omega arith)
  piece_flows fits o roomy (suc k) c h p l =
      let r = piece_by program (length (o k)) c h p in
      ap (λ (x : List ℕ). following x (piece_of program o k r.carried r.held (drop r.used p))) (buffer_is (o k) r.text (text_le program fits p (length (o k)) c h))
      ∙ ap (following r.text)
      (piece_flows fits o roomy k r.carried r.held (drop r.used p)
      (left_less p k r.used l (goes_on_lem program (length (o k)) c h p (roomy k))))
      ∙ step_then p (length (o k)) c h

  pub pieces_flow : TextsFit program → (o : ℕ → List ℕ) → Roomy o → (ps : List (List ℕ)) (c : S) (h : List ℕ) → pieces_of program o c h ps ≡ flow_of program c h (joined ps)
  unfolding pieces_of joined flow_of
  pieces_flow fits o roomy [] c h = refl
  pieces_flow fits o roomy (p ∷ ps) c h =
      ap (λ (r : Flow S). following r.text (pieces_of program o r.carried r.held ps)) (piece_flows fits o roomy (length p) c h p (omega arith))
      ∙ ap (following (flow_of program c h p).text) (pieces_flow fits o roomy ps (flow_of program c h p).carried (flow_of program c h p).held)
      ∙ sym (flow_append p (joined ps) c h)
