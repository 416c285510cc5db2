use mathlib.Core.List.{[], ◌∷◌}
use mathlib.Core.Path.{ap}
use Rattle.register_table.specs.declared.RegisterRow.{RegisterRow}
use Rattle.parts.proofs.Picks.{picks}
use Rattle.errors.specs.declared.RadioError.TheVariants.{NoSuchRegister}
use Rattle.reply.specs.Reply.{good}
use Rattle.reply.specs.Outcome.{fails}
use Rattle.reply.proofs.Finish.{said, handed_on}
use Rattle.config.specs.Config.{read_config_of}
use Rattle.config.proofs.read.Goals as goal

pub returns-then-not-row : goal.returns-then-not-row
unfolding read_config_of
returns-then-not-row c =
    let a = c.args in
    handed_on (read_config_of a.v a.m.now a.pointer) a.out.now (fails NoSuchRegister a.v a.m.now) (c.fail.ensures a.m.now) (rw (← ap (λ (row : RegisterRow). row.radio) c.row_of-row.ensures) (search picks depth 20))

pub returns : goal.returns
unfolding read_config_of
returns c =
    let a = c.args in
    said (read_config_of a.v a.m.now a.pointer) _ (good (c.read-x.result ∷ [])) c.byte.ensures
    (rw (c.read-x.ensures, ← ap (λ (row : RegisterRow). row.radio) c.row_of-row.ensures) (search picks depth 20))
