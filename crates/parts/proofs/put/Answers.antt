use mathlib.Core.Path.{sym}
use lib.Seq.{set_out}
use Rattle.parts.proofs.put.Goals as goal

pub returns-else-i-m : goal.returns-else-i-m
returns-else-i-m c = let a = c.args in sym (set_out a.m.now a.i a.x c.if-i-m.false)
