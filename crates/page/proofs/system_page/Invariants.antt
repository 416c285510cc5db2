use mathlib.Core.Path.{◌≡◌}
use mathlib.Core.Bool.{true}
use Rattle.bus.specs.declared.Space.TheVariants.{System}
use Rattle.page.specs.PageRange.{page_acked}
use Rattle.page.proofs.system_page.Given as goal

abbrev pub invariant-loop-i : goal.invariant-loop-i
invariant-loop-i l = page_acked System l.c l.session l.first l.m l.i ≡ true
