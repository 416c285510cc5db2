-- The state's bytes after a call, in a buffer of a state's length. Assumes nothing.
use mathlib.Core.Path.{◌≡◌, refl, sym}
use mathlib.Core.List.{List}
use Prim.Native.Nat.{ℕ}
use borrow.Author.Tests.{eq-eqb}
use lib.ListN.{length}
use Rattle.parts.proofs.Picks.{pick_true}
use Rattle.tag.specs.declared.Tag.{Tag}
use Rattle.state.specs.Layout.{state_bytes}
use Rattle.model.specs.declared.Answer.{Answer}
use Rattle.next_state.specs.After.{state_after, kept_state}

pub kept_whole : (s : List ℕ) (answer : Answer) (t : Tag) → length s ≡ state_bytes → kept_state s answer t ≡ state_after s answer t
unfolding kept_state
kept_whole s answer t h = sym (pick_true _ _ _ _ (eq-eqb _ _ h) refl)
