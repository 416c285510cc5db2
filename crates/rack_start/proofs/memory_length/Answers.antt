use mathlib.Core.Path.{◌≡◌}
use native.Mathlib.Omega.{arith}
use lib.ListN.{length, take, length-take}
use Rattle.rack_start.proofs.Places.{sizes_are}
use Rattle.rack_start.proofs.memory_length.Goals as goal

pub returns : goal.returns
returns c =
    let sixteen_here : length c.args.bench.tags ≡ 16 = c.well_formed.0.1.1.0.1.0.1 in
    let b = c.args.bench in
    record { value = omega (arith, c.min.ensures, sixteen_here, sizes_are (take b.count b.tags), length-take b.count b.tags); upper_bound = omega (arith, c.min.ensures) }
