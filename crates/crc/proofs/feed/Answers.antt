use Rattle.crc.specs.Crc.{byte}
use Rattle.crc.proofs.Nibbles.{by_two_lem}
use Rattle.crc.proofs.feed.Goals as goal

pub returns : goal.returns
unfolding byte
returns c = search by_two_lem
