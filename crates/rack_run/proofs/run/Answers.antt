use Rattle.rack_run.proofs.run.Goals as goal

pub returns-clause-answered : goal.returns-clause-answered
returns-clause-answered g c = rw c.start-bench.ensures at c.run.ensures.answered
