use Rattle.parts.proofs.Picks.{picks}
use Rattle.explanation_rules.specs.Conditions.{is_select_byte}
use Rattle.explanation.proofs.other_byte.Goals as goal

pub returns-then-not-vcc : goal.returns-then-not-vcc
unfolding is_select_byte
returns-then-not-vcc c = search picks depth 20

pub returns-then-idle : goal.returns-then-idle
unfolding is_select_byte
returns-then-idle c = search picks depth 20

pub returns-then-reading : goal.returns-then-reading
unfolding is_select_byte
returns-then-reading c = search picks depth 20

pub returns-then-started-select : goal.returns-then-started-select
unfolding is_select_byte
returns-then-started-select c = search picks depth 20

pub returns-then-programming : goal.returns-then-programming
unfolding is_select_byte
returns-then-programming c = search picks depth 20

pub returns : goal.returns
unfolding is_select_byte
returns c = search picks depth 20
