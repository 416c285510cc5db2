use mathlib.Core.Path.{refl, sym, ap, ◌∙◌}
use Rattle.std.specs.Prelude.{is_ok}
use Rattle.parts.proofs.Picks.{pick_true, pick_false}
use Rattle.block_status.proofs.ByVerdict.{status_by_verdict}
use Rattle.block_status.proofs.status_of.Goals as goal

pub returns-then-is_ok : goal.returns-then-is_ok
returns-then-is_ok c =
    pick_true _ _ _ _ (sym (c.is_ok.ensures.value ∙ ap is_ok c.verdict-verdict.ensures) ∙ c.if-is_ok.true) refl ∙ sym (status_by_verdict _ _ _)

pub returns : goal.returns
returns c =
    pick_false _ _ _ _ (sym (c.is_ok.ensures.value ∙ ap is_ok c.verdict-verdict.ensures) ∙ c.if-is_ok.false) refl ∙ sym (status_by_verdict _ _ _)
