use Rattle.console.proofs.Written.{some_written}
use Rattle.example_lines.specs.Lines.{too_long_message}
use Rattle.example_lines.proofs.read_script.Goals as goal

pub returns-then-n-input-clause-told : goal.returns-then-n-input-clause-told
returns-then-n-input-clause-told g c =
    some_written c.write_all.result (g.E.Write.contents c.args.err.now) (g.E.Write.contents c.write_all.new.to) too_long_message c.write_all.ensures.all c.write_all.ensures.failed
