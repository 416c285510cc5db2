use mathlib.Core.Path.{◌≡◌}
use mathlib.Core.Bool.{true}
use Rattle.page.proofs.User.{asked_to}
use Rattle.page.proofs.user_page.Given as goal

abbrev pub invariant-loop-i : goal.invariant-loop-i
invariant-loop-i l = asked_to l.c l.session l.first l.m l.k l.i ≡ true
