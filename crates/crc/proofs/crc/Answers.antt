-- `search` takes the list from the goal, which is the code's own table, and computes the test of its entries.
use Rattle.crc.specs.Crc.{shifted, bit, bits}
use Rattle.crc.proofs.Nibbles.{right, by_test}
use Rattle.crc.proofs.crc.Goals as goal

pub over-requires : goal.over-requires
unfolding right bits bit shifted
over-requires c = search by_test
