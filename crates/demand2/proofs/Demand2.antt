-- Demand 2. Assumes nothing.
use Rattle.demand2.specs.Demand2.{Demand2}
use Rattle.demand2.proofs.Transfers.{transfer_served}
use Rattle.demand2.proofs.Frames.{frame_served, end_of_frame_served}

pub demand_2 : Demand2
demand_2 = (transfer_served, (frame_served, end_of_frame_served))
