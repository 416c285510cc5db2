use mathlib.Core.Path.{ap, ◌∙◌}
use mathlib.Core.Bool.{false}
use Rattle.std.specs.Prelude.{is_ok}
use Rattle.rule.proofs.Agree.{byte_agrees}
use Rattle.page.proofs.allowed.Goals as goal

pub returns : goal.returns
returns c = c.is_ok.ensures.value ∙ ap is_ok c.verdict-verdict.ensures ∙ byte_agrees _ _ _ false _ _ _ _
