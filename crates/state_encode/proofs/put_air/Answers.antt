use Rattle.parts.specs.Bytes.{bytes_at}
use Rattle.state.specs.Layout.{air_bytes}
use Rattle.state_encode.proofs.Stored.{byte_of_flag}
use Rattle.state_encode.proofs.put_air.Goals as goal

pub returns : goal.returns
unfolding bytes_at air_bytes
returns c =
    rw (c.put_bytes.ensures, c.radio_number.ensures, c.from.ensures, byte_of_flag c.args.a.field)
