-- Frames may be struck out where none changed a byte. Assumes nothing.
use mathlib.Core.Path.{◌≡◌, refl, ap, subst}
use mathlib.Core.Bool.{Bool, true, false}
use mathlib.Core.List.{List, [], ◌∷◌}
use Prim.Native.Nat.{ℕ}
use Rattle.parts.specs.Pick.{pick}
use Rattle.state.specs.Layout.{tag_of}
use Rattle.refusals.specs.Call.{Call}
use Rattle.demand3.specs.Demand3.{start_after}
use Rattle.library_demand3.specs.Calls.{LibraryStep, LibraryAnswer, answer_by, LibraryRunResult, library_run_result, library_run}
use Rattle.library_demand3.specs.Claim.{library_struck, library_others, library_other_answers, EachLibraryStruck}
use Rattle.library_demand3.specs.Follows.{LibraryStrikingFollows}

module _ (step : LibraryStep) (s m : List ℕ) (c : Call) (rest : List Call) (said : List LibraryAnswer) (s' m' : List ℕ) where
  -- `rest` are the calls left of the others, `said` their answers
  by_test : (b : Bool) → (b ≡ true → ((step s m c).state ≡ s) × ((step s m c).memory ≡ m))
      → library_run step (step s m c).state (step s m c).memory rest ≡ library_run_result said s' m'
      → library_run step s m (pick b rest (c ∷ rest)) ≡ library_run_result (pick b said (answer_by (step s m c) ∷ said)) s' m'
  unfolding pick library_run
  by_test true h r =
      subst (λ (x : List ℕ). library_run step x m rest ≡ library_run_result said s' m') (h refl).0
      (subst (λ (x : List ℕ). library_run step (step s m c).state x rest ≡ library_run_result said s' m') (h refl).1 r)
  by_test false h r =
      ap (λ (x : LibraryRunResult). library_run_result (answer_by (step s m c) ∷ x.answers) x.state x.memory) r

pub library_striking_follows : LibraryStrikingFollows
unfolding EachLibraryStruck library_others library_other_answers library_run
library_striking_follows step start s m [] h = refl
library_striking_follows step start s m (c ∷ cs) h =
    let s₁ = (step s m c).state in
    let m₁ = (step s m c).memory in
    by_test step s m c (library_others step s₁ m₁ cs) (library_other_answers step s₁ m₁ cs) (library_run step s₁ m₁ cs).state (library_run step s₁ m₁ cs).memory
    (library_struck step s m c) (λ t. let k = h.0 t in (k.state, k.memory))
    (library_striking_follows step (start_after start (tag_of s)) s₁ m₁ cs h.1)
