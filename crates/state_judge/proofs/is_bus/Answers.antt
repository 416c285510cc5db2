use Rattle.state.specs.Layout.{is_bus}
use Rattle.state_judge.proofs.is_bus.Goals as goal

pub returns : goal.returns
unfolding is_bus
returns c =
    rw (c.used_or_0-7.ensures, c.used_or_0-6.ensures, c.used_or_0-5.ensures, c.used_or_0-4.ensures, c.used_or_0-3.ensures, c.used_or_0-2.ensures, c.used_or_0.ensures)
