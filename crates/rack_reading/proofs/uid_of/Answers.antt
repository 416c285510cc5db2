use mathlib.Core.Path.{ap, ◌∙◌}
use mathlib.Core.List.{List}
use Prim.Native.Nat.{ℕ}
use Rattle.keys.specs.declared.Uid.{Uid}
use Rattle.hexadecimal.specs.Hex.{hex_bytes}
use Rattle.rack_reading.proofs.UidLaws.{over_zeros}
use Rattle.rack_reading.proofs.uid_of.Goals as goal

uid : List ℕ → Uid
uid s = record { bytes = s }

pub returns : goal.returns
unfolding uid
returns c =
    ap uid (c.decode.ensures.out_after ∙ over_zeros 8 (hex_bytes c.args.s.now))
