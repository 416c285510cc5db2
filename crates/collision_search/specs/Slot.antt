-- The call that opens a slot, as the tags of a slice hear it.
use Rattle.std.specs.Prelude.{List, ℕ, eqb}
use Rattle.parts.specs.Pick.{pick}
use Rattle.tag.specs.declared.Tag.{Tag}
use Rattle.rack.specs.Rack.{RackCall}
use Rattle.rack_search.specs.Search.{sends_frame, sends_end}
use Rattle.rack_hear.specs.Hear.{hear_start, HeardAll, hear_all_of}

-- "it sends the given frame (slot 0) and .. ends-of-frame"
unfoldable pub sends_slot : ℕ → List ℕ → List ℕ → RackCall
sends_slot k o f = pick (eqb k 0) (sends_frame o f) (sends_end o)

-- sixteen tags, of which the first n are the rack
abbrev pub hears_call : List Tag → ℕ → List ℕ → RackCall → HeardAll
hears_call tags n m call =
    let handed = call.handed in
    hear_all_of 16 tags m handed.buffer handed.frame (hear_start n handed.code handed.value call.to)
