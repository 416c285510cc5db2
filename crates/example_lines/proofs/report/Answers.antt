use Rattle.console.proofs.Written.{some_written}
use Rattle.example_lines.specs.Lines.{cannot_write_message}
use Rattle.example_lines.proofs.report.Goals as goal

pub returns : goal.returns
returns g c =
    some_written c.write_all.result (g.E.Write.contents c.args.err.now) (g.E.Write.contents c.write_all.new.to) cannot_write_message c.write_all.ensures.all c.write_all.ensures.failed
