-- What goes from line to line of a rack's script beside the memory: its start, and a tag added.
use Rattle.std.specs.Prelude.{Bool, false, not, ◌&&◌, List, ℕ, ◌+◌, ltb, replicate, set}
use Rattle.std.proofs.lemmas.List.Edits.{sets}
use Rattle.parts.specs.Pick.{pick}
use Rattle.keys.specs.declared.Uid.{Uid}
use Rattle.tag.specs.Layout.{memory_bytes}
use Rattle.tag.specs.Supply.{fresh_tag}
use Rattle.rack.specs.Rack.{memory_place}
use Rattle.rack.specs.Rules.{most_tags}
use Rattle.rack_start.specs.declared.RackBench.{RackBench}

-- ---- the start
-- what stands in the places of tags to come: no line reaches it
abbrev pub zero_uid : Uid
zero_uid = record { bytes = replicate 8 0 }

-- no tag; "names the tag .. (0 at the start)"
unfoldable pub rack_start : RackBench
rack_start = record { tags = replicate most_tags (fresh_tag zero_uid); count = 0; to = 0; begun = false; number = 0 }

-- ---- a tag added
-- what it leaves: the bench and the memory
pub record RackAdded : Type 0 where
  pub bench : RackBench
  pub memory : List ℕ

abbrev pub rack_added : RackBench → List ℕ → RackAdded
rack_added bench m = record { bench = bench; memory = m }

-- "only before the first good line of another kind and at most 16 times"
unfoldable pub takes_tag : RackBench → Bool
takes_tag bench = not bench.begun && ltb bench.count most_tags

-- "adds a fresh tag with that UID": behind the others, and so its memory
unfoldable pub added_tag : Uid → RackBench → List ℕ → RackAdded
added_tag uid bench m =
    let i = bench.count in
    pick (takes_tag bench)
    (rack_added (record { tags = set bench.tags i (fresh_tag uid); count = i + 1; to = bench.to; begun = bench.begun; number = bench.number })
    (sets m (memory_place bench.tags i) (replicate memory_bytes 0)))
    (rack_added bench m)
