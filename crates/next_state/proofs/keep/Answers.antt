use mathlib.Core.Path.{refl, sym, ◌∙◌}
use borrow.Author.Tests.{eq-eqb, ne_eqb}
use Rattle.parts.proofs.Picks.{pick_true, pick_false}
use Rattle.state.specs.Layout.{bytes_of}
use Rattle.next_state.specs.After.{state_after, kept_state}
use Rattle.parts.proofs.Lists.{replaced}
use Rattle.next_state.proofs.keep.Goals as goal

pub returns-then-s-ne-STATE_BYTES : goal.returns-then-s-ne-STATE_BYTES
unfolding kept_state
returns-then-s-ne-STATE_BYTES c = pick_false _ _ _ _ (ne_eqb _ _ c.if-s-ne-STATE_BYTES.true) refl

pub returns-then-not-is_refused : goal.returns-then-not-is_refused
unfolding state_after kept_state
returns-then-not-is_refused c =
    let a = c.args in
    pick_true _ _ _ _ (eq-eqb _ _ c.if-s-ne-STATE_BYTES.false)
    (pick_false _ _ _ _ (sym c.is_refused.ensures ∙ c.if-not-is_refused.true)
    (c.encode.ensures.s_after ∙ replaced (bytes_of a.outcome.tag) a.s.now (c.if-s-ne-STATE_BYTES.false ∙ sym c.encode.ensures.t_len)))

pub returns-else-not-is_refused : goal.returns-else-not-is_refused
unfolding state_after kept_state
returns-else-not-is_refused c = pick_true _ _ _ _ (eq-eqb _ _ c.if-s-ne-STATE_BYTES.false) (pick_true _ _ _ _ (sym c.is_refused.ensures ∙ c.if-not-is_refused.false) refl)
