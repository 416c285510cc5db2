-- What the loop over a piece has written: the texts of what it has used up. Assumes nothing.
use Rattle.std.proofs.Common.{◌≡◌, refl, sym, ap, ◌∙◌, subst, ℕ, ◌+◌, ◌-◌, ◌≤◌, List, [], ◌++◌, length, take, drop, arith, append_assoc, append-nil, length-append, take-append-drop, drop-drop, drop_of_length-le}
use Rattle.std.proofs.lemmas.List.{take_rest, take-append-le}
use Rattle.std.proofs.Math.Seq.{take-append-add}
use Rattle.std.specs.Prelude.{Option}
use Rattle.std.specs.Io.KnownBytes.{Appends}
use Rattle.std.proofs.KnownBytes.{Appends-nil, Appends-trans}
use Rattle.console.specs.Written.{AppendsStart}
use Rattle.line_stream.specs.Step.{LineProgram, StreamBuffers, puts, piece_by}
use Rattle.line_stream.specs.Flow.{Flow, flow_of}
use Rattle.line_stream.proofs.Flow.{buffer_is, step_flows, flow_append}

-- c₀ and h₀ are carried and held before the piece s, and the writer holds a; c and h from its place `at` on, and it holds b
abbrev pub Said : {S : Type 0} → LineProgram S → S → List ℕ → List ℕ → Option (List ℕ) → Option (List ℕ) → S → List ℕ → ℕ → Type 0
Said program c₀ h₀ s a b c h at =
    (t : List ℕ) × ((flow_of program c₀ h₀ s).text ≡ t ++ (flow_of program c h (drop at s)).text) × Appends a b t

module _ {S : Type 0} (program : LineProgram S) where
  -- a call's text, and then that of what it left
  left : (p : List ℕ) (room : ℕ) (c : S) (h : List ℕ)
      → (flow_of program c h p).text ≡ (piece_by program room c h p).text ++ (flow_of program (piece_by program room c h p).carried (piece_by program room c h p).held (drop (piece_by program room c h p).used p)).text
  left p room c h =
      let r = piece_by program room c h p in
      ap (λ (x : List ℕ). (flow_of program c h x).text) (sym (take-append-drop r.used p))
      ∙ ap (λ (f : Flow S). f.text) (flow_append program (take r.used p) (drop r.used p) c h)
      ∙ ap (λ (f : Flow S). f.text ++ (flow_of program f.carried f.held (drop r.used p)).text) (step_flows program p room c h)

  pub nothing_said : (c : S) (h s : List ℕ) (a : Option (List ℕ)) → Said program c h s a a c h 0
  nothing_said c h s a = ([], refl, Appends-nil a)

  pub all_said : (c₀ : S) (h₀ s : List ℕ) (a b : Option (List ℕ)) (c : S) (h : List ℕ) (at : ℕ) → Said program c₀ h₀ s a b c h at → length s ≤ at
      → Appends a b (flow_of program c₀ h₀ s).text
  unfolding flow_of
  all_said c₀ h₀ s a b c h at (t, e, w) k =
      subst (Appends a b) (sym (e ∙ ap (λ (z : List ℕ). t ++ (flow_of program c h z).text) (drop_of_length-le s k) ∙ append-nil t)) w

  module _ (c₀ : S) (h₀ s : List ℕ) (a b d : Option (List ℕ)) (c : S) (h o : List ℕ) (at : ℕ) (before : Said program c₀ h₀ s a b c h at)
      (l : StreamBuffers S) (q : l ≡ puts (piece_by program (length o) c h (take (length s - at) (drop at s))) o) (fits : l.wrote ≤ length o) where
    abbrev p : List ℕ
    p = drop at s

    called : l ≡ puts (piece_by program (length o) c h p) o
    called = q ∙ ap (λ (x : List ℕ). puts (piece_by program (length o) c h x) o) (take_rest s at)

    abbrev text : List ℕ
    text = (piece_by program (length o) c h p).text

    long : l.wrote ≡ length text
    long = ap (λ (x : StreamBuffers S). x.wrote) called

    text_is : take l.wrote l.buffer ≡ text
    text_is = ap (λ (x : StreamBuffers S). take x.wrote x.buffer) called ∙ buffer_is o text (omega (arith, long, fits))

    whole : (flow_of program c₀ h₀ s).text ≡ (before.0 ++ text) ++ (flow_of program l.carried l.held (drop (at + l.used) s)).text
    whole =
        before.1
        ∙ ap (λ (x : List ℕ). before.0 ++ x)
        (left p (length o) c h
        ∙ ap (λ (x : StreamBuffers S). text ++ (flow_of program x.carried x.held (drop x.used p)).text) (sym called)
        ∙ ap (λ (x : List ℕ). text ++ (flow_of program l.carried l.held x).text) (drop-drop l.used at s))
        ∙ sym (append_assoc before.0 text (flow_of program l.carried l.held (drop (at + l.used) s)).text)

    pub says_on : Appends b d (take l.wrote l.buffer) → Said program c₀ h₀ s a d l.carried l.held (at + l.used)
    says_on x = (before.0 ++ text, whole, Appends-trans a b d before.0 text before.2 (subst (Appends b d) text_is x))

    pub some_said : AppendsStart b d (take l.wrote l.buffer) → AppendsStart a d (flow_of program c₀ h₀ s).text
    some_said (n, m, x) =
        let t = before.0 in
        let rest = (flow_of program l.carried l.held (drop (at + l.used) s)).text in
        let within : n ≤ length text = omega (arith, m, ap length text_is) in
        let start : take (length t + n) (flow_of program c₀ h₀ s).text ≡ t ++ take n text =
        ap (take (length t + n)) (whole ∙ append_assoc t text rest) ∙ take-append-add t (text ++ rest) n ∙ ap (λ (z : List ℕ). t ++ z) (take-append-le n text rest within) in
        (length t + n, omega (arith, ap length whole, length-append (t ++ text) rest, length-append t text, within), subst (Appends a d) (sym start) (Appends-trans a b d t (take n text) before.2 (subst (λ (z : List ℕ). Appends b d (take n z)) text_is x)))
