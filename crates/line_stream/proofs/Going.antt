-- The loop over a piece: the rest of the piece, from where it stands, leads to what the whole piece leads to. Assumes nothing.
use mathlib.Core.Path.{◌≡◌, sym, ap, ◌∙◌}
use mathlib.Core.Bool.{Bool, true, false}
use mathlib.Core.List.{List}
use Prim.Native.Nat.{ℕ, ◌+◌, ◌-◌, ◌≤◌, ◌<◌}
use native.Mathlib.Omega.{arith}
use lib.ListN.{length, take, drop, length-drop, drop_of_length-le}
use lib.Seq.{take_all, drop-drop}
use Rattle.line_stream.specs.Step.{LineProgram, StreamBuffers, puts, text_room, piece_by}
use Rattle.line_stream.specs.Flow.{flow_of, Reaches}
use Rattle.line_stream.proofs.Steps.{goes_on_lem}
use Rattle.line_stream.proofs.Flow.{carried_left, held_left}

-- c₀ and h₀ are carried and held before the piece s, c and h from its place `at` on
pub record Going {S : Type 0} (program : LineProgram S) (c₀ : S) (h₀ s out₀ : List ℕ) (c : S) (h out : List ℕ) (at : ℕ) : Type 0 where
  pub carried_is : (flow_of program c₀ h₀ s).carried ≡ (flow_of program c h (drop at s)).carried
  pub held_is : (flow_of program c₀ h₀ s).held ≡ (flow_of program c h (drop at s)).held
  pub out_len : length out ≡ length out₀
  pub within : at ≤ length s

pub never : (b : Bool) → b ≡ false → b ≡ true → ⊥
never b p q = let z : ◌≡◌ {A = ℕ} 0 1 = cc in omega arith

module _ {S : Type 0} (program : LineProgram S) (c₀ : S) (h₀ s out₀ : List ℕ) (c : S) (h out : List ℕ) (at : ℕ) (g : Going program c₀ h₀ s out₀ c h out at) where
  rest : take (length s - at) (drop at s) ≡ drop at s
  rest = take_all (length s - at) (drop at s) (omega (arith, length-drop at s))

  module _ (l : StreamBuffers S) (e : l ≡ puts (piece_by program (length out) c h (take (length s - at) (drop at s))) out) where
    called : l ≡ puts (piece_by program (length out) c h (drop at s)) out
    called = e ∙ ap (λ (p : List ℕ). puts (piece_by program (length out) c h p) out) rest

    -- the call used a byte
    pub used_some : text_room ≤ length out → at < length s → 0 < l.used
    used_some r k =
        omega (arith, ap (λ (x : StreamBuffers S). x.used) called, goes_on_lem program (length out) c h (drop at s) r (omega (arith, length-drop at s)))

    pub goes : l.used ≤ length (take (length s - at) (drop at s)) → (out' : List ℕ) → length out' ≡ length out
        → Going program c₀ h₀ s out₀ l.carried l.held out' (at + l.used)
    goes u out' ho =
        let d = drop at s in
        let ed : drop l.used d ≡ drop (at + l.used) s = drop-drop l.used at s in
        record {
          carried_is = g.carried_is ∙ carried_left program d (length out) c h out l called ∙ ap (λ (p : List ℕ). (flow_of program l.carried l.held p).carried) ed;
          held_is = g.held_is ∙ held_left program d (length out) c h out l called ∙ ap (λ (p : List ℕ). (flow_of program l.carried l.held p).held) ed;
          out_len = ho ∙ g.out_len;
          within = omega (arith, ap length rest, length-drop at s, g.within);
        }

  pub all_used : length s ≤ at → (more : Bool) → Reaches more c h (flow_of program c₀ h₀ s)
  unfolding flow_of
  all_used k more t = (
    sym (g.carried_is ∙ ap (λ (p : List ℕ). (flow_of program c h p).carried) (drop_of_length-le s k)),
    sym (g.held_is ∙ ap (λ (p : List ℕ). (flow_of program c h p).held) (drop_of_length-le s k)),
  )
