use native.Mathlib.Omega.{arith}
use Rattle.bus.specs.Bus.{is_open_transfer}
use Rattle.bus.proofs.Transfers.{some_open}
use Rattle.state.specs.Layout.{bus_bytes}
use Rattle.state_encode.proofs.Stored.{byte_of_flag, first_of_le, second_of_le}
use Rattle.state_encode.proofs.bus_bytes.Goals as goal

pub returns-in-Idle : goal.returns-in-Idle
unfolding bus_bytes
returns-in-Idle c = rw c.in-Idle.is

pub returns-in-Started : goal.returns-in-Started
unfolding bus_bytes
returns-in-Started c =
    rw (c.transfer_byte.ensures, c.from.ensures, byte_of_flag c.is_some.result, c.is_some.ensures, some_open c.in-Started.transfer, c.in-Started.is)

pub returns-in-ReadLeg : goal.returns-in-ReadLeg
unfolding bus_bytes
returns-in-ReadLeg c =
    rw (c.from-in-ReadLeg-2.ensures, c.from-in-ReadLeg.ensures, byte_of_flag c.in-ReadLeg.over, byte_of_flag c.in-ReadLeg.last, c.space_number.ensures, c.in-ReadLeg.is)

pub returns-in-WriteLeg : goal.returns-in-WriteLeg
unfolding bus_bytes
returns-in-WriteLeg c = rw (c.space_number-in-WriteLeg.ensures, c.in-WriteLeg.is)

pub returns-in-LowAddress : goal.returns-in-LowAddress
unfolding bus_bytes
returns-in-LowAddress c = rw (c.space_number-in-LowAddress.ensures, c.in-LowAddress.is)

pub returns-in-DataLeg : goal.returns-in-DataLeg
unfolding bus_bytes
returns-in-DataLeg c = rw (c.from-in-DataLeg.ensures, byte_of_flag c.in-DataLeg.spoiled, c.to_le_bytes-count.ensures, first_of_le c.in-DataLeg.count, second_of_le c.in-DataLeg.count (omega arith), c.space_number-in-DataLeg.ensures, c.in-DataLeg.is)
