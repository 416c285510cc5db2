use Rattle.bus.specs.Bus.{page_bytes}
use Rattle.bus.proofs.Buses.{no_page}
use Rattle.bus.proofs.page_bytes.Goals as goal

pub returns-in-DataLeg : goal.returns-in-DataLeg
unfolding page_bytes
returns-in-DataLeg c = rw c.in-DataLeg.is

pub returns-in_default : goal.returns-in_default
returns-in_default c = no_page c.args.b c.in_default.not-DataLeg
