-- What a run has read and written, from one read to the next and at its end. Assumes nothing.
use Rattle.std.proofs.Common.{◌≡◌, refl, sym, ap, ◌∙◌, subst, inl, inr, ℕ, ◌+◌, ◌-◌, ◌^◌, ◌≤◌, List, [], ◌++◌, length, take, arith, append-nil, length-append}
use Rattle.std.proofs.lemmas.List.{take-append-le}
use Rattle.std.proofs.Math.Seq.{take-append-add}
use Rattle.std.specs.Prelude.{Option}
use Rattle.std.specs.Io.KnownBytes.{Appends, Consumes, IsAtEnd}
use Rattle.std.proofs.KnownBytes.{Appends-nil, Appends-trans, Consumes-nil, Consumes-trans}
use Rattle.console.specs.Written.{AppendsStart}
use Rattle.console.proofs.Written.{all_written}
use Rattle.line_stream.specs.Output.{texts_of, output_of}
use Rattle.line_stream.specs.Step.{LineProgram}
use Rattle.line_stream.specs.Flow.{Flow, flow_of, following}
use Rattle.line_stream.specs.Claim.{TellsByKept}
use Rattle.line_stream.proofs.Flow.{flow_append}
use Rattle.line_output.specs.Answered.{last_line, output_from, AnswersRead, AnswersAll, Feeds}
use Rattle.line_output.proofs.Ended.{output_append, output_whole}

-- ---- starts
start_of_more : (a b : Option (List ℕ)) (x y : List ℕ) → AppendsStart a b x → AppendsStart a b (x ++ y)
start_of_more a b x y (n, k, p) = (n, omega (arith, length-append x y), subst (Appends a b) (sym (take-append-le n x y k)) p)

start_of_rest : (a b d : Option (List ℕ)) (x y : List ℕ) → Appends a b x → AppendsStart b d y → AppendsStart a d (x ++ y)
start_of_rest a b d x y p (n, k, q) = (length x + n, omega (arith, length-append x y), subst (Appends a d) (sym (take-append-add x y n)) (Appends-trans a b d x (take n y) p q))

-- no byte was read
pub none_read : (n : ℕ) (r r' : Option (List ℕ)) (input : List ℕ) → n ≡ 0 → Consumes r r' (take n input) → Consumes r r' []
none_read n r r' input e p = subst (λ (k : ℕ). Consumes r r' (take k input)) e p

module _ {S : Type 0} (program : LineProgram S) where
  -- ---- the end could not be written
  pub end_failed : (c : S) (h : List ℕ) (r r' w w' : Option (List ℕ)) → Consumes r r' [] → AppendsStart w w' (texts_of program c (last_line h)) → AnswersRead (output_from program c h) r r' w w'
  unfolding flow_of
  end_failed c h r r' w w' k p = ([], k, p)

  -- ---- from one read to the next
  pub nothing_fed : (c : S) (h : List ℕ) (r w : Option (List ℕ)) → Feeds (flow_of program c h) 0 r r w w c h
  unfolding flow_of
  nothing_fed c h r w = ([], omega arith, Consumes-nil r, Appends-nil w, λ _. (refl, refl))

  module _ (c₀ : S) (h₀ : List ℕ) (n : ℕ) (r₀ r w₀ w : Option (List ℕ)) (c : S) (h : List ℕ) (fed : Feeds (flow_of program c₀ h₀) n r₀ r w₀ w c h) where
    abbrev s : List ℕ
    s = fed.0

    abbrev f : Flow S
    f = flow_of program c₀ h₀ s

    -- what the rest leads to from there
    same_flow : (t : List ℕ) → flow_of program f.carried f.held t ≡ flow_of program c h t
    same_flow t =
        let g = fed.4 refl in
        ap (λ (x : S). flow_of program x f.held t) (sym g.0) ∙ ap (λ (x : List ℕ). flow_of program c x t) (sym g.1)

    joined_flow : (t : List ℕ) → flow_of program c₀ h₀ (s ++ t) ≡ following f.text (flow_of program c h t)
    joined_flow t = flow_append program s t c₀ h₀ ∙ ap (following f.text) (same_flow t)

    joined_output : (t : List ℕ) → output_from program c₀ h₀ (s ++ t) ≡ f.text ++ output_from program c h t
    joined_output t =
        output_append program c₀ h₀ s t
        ∙ ap (λ (x : Flow S). f.text ++ (x.text ++ texts_of program x.carried (last_line x.held))) (same_flow t)

    pub fed_more : (r' w' : Option (List ℕ)) (c' : S) (h' : List ℕ) → Feeds (flow_of program c h) 1 r r' w w' c' h' → Feeds (flow_of program c₀ h₀) (n + 1) r₀ r' w₀ w' c' h'
    fed_more r' w' c' h' (t, k, p, q, g) = (
      s ++ t,
      omega (arith, length-append s t, fed.1, k),
      Consumes-trans r₀ r r' s t fed.2 p,
      subst (Appends w₀ w') (sym (ap (λ (x : Flow S). x.text) (joined_flow t))) (Appends-trans w₀ w w' f.text (flow_of program c h t).text fed.3 q),
      λ _. ((g refl).0 ∙ sym (ap (λ (x : Flow S). x.carried) (joined_flow t)), (g refl).1 ∙ sym (ap (λ (x : Flow S). x.held) (joined_flow t))),
    )

    -- ---- the end
    pub fed_read : AnswersRead (output_from program c₀ h₀) r₀ r w₀ w
    fed_read = (s, fed.2, start_of_more w₀ w f.text (texts_of program f.carried (last_line f.held)) (all_written w₀ w f.text fed.3))

    pub fed_failed : (r' w' : Option (List ℕ)) → AnswersRead (output_from program c h) r r' w w' → AnswersRead (output_from program c₀ h₀) r₀ r' w₀ w'
    fed_failed r' w' (t, p, q) = (
      s ++ t,
      Consumes-trans r₀ r r' s t fed.2 p,
      subst (AppendsStart w₀ w') (sym (joined_output t)) (start_of_rest w₀ w w' f.text (output_from program c h t) fed.3 q),
    )

    pub fed_ended : (r' w' : Option (List ℕ)) → Consumes r r' [] → Appends w w' (texts_of program c (last_line h))
        → Consumes r₀ r' s × Appends w₀ w' (output_from program c₀ h₀ s)
    fed_ended r' w' p q =
        let g = fed.4 refl in (
          subst (Consumes r₀ r') (append-nil s) (Consumes-trans r₀ r r' s [] fed.2 p),
          subst (λ (x : List ℕ). Appends w₀ w' (f.text ++ x)) (ap (λ (x : S). texts_of program x (last_line h)) g.0 ∙ ap (λ (x : List ℕ). texts_of program f.carried (last_line x)) g.1)
              (Appends-trans w₀ w w' f.text (texts_of program c (last_line h)) fed.3 q),
        )

  -- ---- from the start, where no line is held
  module _ (tells : TellsByKept program) (c₀ : S) (r₀ w₀ : Option (List ℕ)) where
    start_answers : (r' w' : Option (List ℕ)) → AnswersRead (output_from program c₀ []) r₀ r' w₀ w' → AnswersRead (output_of program c₀) r₀ r' w₀ w'
    start_answers r' w' (s, p, q) = (s, p, subst (AppendsStart w₀ w') (output_whole program tells c₀ s) q)

    module _ (n : ℕ) (r w : Option (List ℕ)) (c : S) (h : List ℕ) (fed : Feeds (flow_of program c₀ []) n r₀ r w₀ w c h) where
      pub run_failed : (r' w' : Option (List ℕ)) → AnswersRead (output_from program c h) r r' w w' → AnswersRead (output_of program c₀) r₀ r' w₀ w'
      run_failed r' w' a = start_answers r' w' (fed_failed c₀ [] n r₀ r w₀ w c h fed r' w' a)

      pub run_ended : (r' w' : Option (List ℕ)) → Consumes r r' [] × IsAtEnd r' × Appends w w' (texts_of program c (last_line h))
          → AnswersRead (output_of program c₀) r₀ r' w₀ w' × AnswersAll (output_of program c₀) r₀ r' w₀ w'
      run_ended r' w' (p, end, q) =
          let s = fed.0 in
          let e = fed_ended c₀ [] n r₀ r w₀ w c h fed r' w' p q in
          let a = subst (Appends w₀ w') (output_whole program tells c₀ s) e.1 in
          ((s, e.0, all_written w₀ w' (output_of program c₀ s) a), (s, e.0, inl (end, a)))

      -- the count of reads ran out
      pub run_stopped : 2 ^ 64 - 1 ≤ n → AnswersRead (output_of program c₀) r₀ r w₀ w × AnswersAll (output_of program c₀) r₀ r w₀ w
      run_stopped k = (start_answers r w (fed_read c₀ [] n r₀ r w₀ w c h fed), (fed.0, fed.2, inr (omega (arith, k, fed.1))))
