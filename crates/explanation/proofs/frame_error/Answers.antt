use mathlib.Core.Path.{ap, ◌∙◌}
use Rattle.std.specs.Prelude.{Err}
use Rattle.std.proofs.lemmas.Result.{err_from_is_err_and}
use Rattle.explanation_rules.proofs.Frames.{on_request, error_append}
use Rattle.explanation.proofs.frame_error.Goals as goal

pub returns-in_err-first_error : goal.returns-in_err-first_error
unfolding on_request
returns-in_err-first_error c =
    let same = err_from_is_err_and c.from_residual.result c.from_residual.ensures.1 in
    same.1 ∙ ap Err same.2 ∙ rw (error_append, ← c.first_error.ensures, c.in_err-first_error.was)

pub returns : goal.returns
unfolding on_request
returns c =
    rw (error_append, ← c.first_error.ensures, c.in_ok-first_error.was, ← c.command.ensures, ← c.command_of.ensures) (c.row_error.ensures c.args.dynamic c.args.busy)
