-- What is proved of these definitions, beside the functions' contracts.
use Rattle.std.specs.Prelude.{◌≡◌, true}
use Rattle.keys.specs.declared.Uid.{Uid}
use Rattle.tag.specs.Supply.{fresh_tag}
use Rattle.ranges.specs.Ranges.{in_range}

-- the fresh tag is in range, whatever its UID
abbrev pub FreshInRange : Type 0
FreshInRange = (u : Uid) → in_range (fresh_tag u) ≡ true
