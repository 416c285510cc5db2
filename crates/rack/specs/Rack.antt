-- "A rack holds 1 to 16 tags, each with its own state, memory (lent end to end) and UID."
use Rattle.std.specs.Prelude.{Bool, ◌||◌, List, [], ◌∷◌, ◌++◌, ℕ, ◌+◌, eqb, get_or, take, drop}
use Rattle.tag.specs.declared.Tag.{Tag}
use Rattle.tag.specs.Layout.{memory_bytes}
use Rattle.tag.specs.Supply.{fresh_tag}
use Rattle.calls.specs.Passed.{Call}
use Rattle.calls.specs.Calls.{Device, device}

pub record Rack : Type 0 where
  pub tags : List Tag
  pub memory : List ℕ

abbrev pub rack_of : List Tag → List ℕ → Rack
rack_of tags m = record { tags = tags; memory = m }

-- ---- whose bytes are whose
-- a tag's bytes of memory: for each tag the same number
unfoldable pub memory_size : Tag → ℕ
memory_size t = memory_bytes

-- those of all
unfoldable pub memory_sizes : List Tag → ℕ
memory_sizes [] = 0
memory_sizes (t ∷ tags) = memory_size t + memory_sizes tags

-- tag i's memory stands after the memories before it; tags are "numbered from 0"
abbrev pub memory_place : List Tag → ℕ → ℕ
memory_place tags i = memory_sizes (take i tags)

-- read where no tag stands
abbrev pub no_tag : Tag
no_tag = fresh_tag (record { bytes = [] })

-- tag i with its memory
unfoldable pub device_at : Rack → ℕ → Device
device_at rack i =
    let t = get_or rack.tags i no_tag in
    device t (take (memory_size t) (drop (memory_place rack.tags i) rack.memory))

-- all of them: of each the first bytes that are left
unfoldable pub devices_of : List Tag → List ℕ → List Device
devices_of [] m = []
devices_of (t ∷ tags) m = device t (take (memory_size t) m) ∷ devices_of tags (drop (memory_size t) m)

abbrev pub devices : Rack → List Device
devices rack = devices_of rack.tags rack.memory

-- the rack of such tags, their memories end to end
unfoldable pub tags_of : List Device → List Tag
tags_of [] = []
tags_of (d ∷ rest) = d.tag ∷ tags_of rest

unfoldable pub memories_of : List Device → List ℕ
memories_of [] = []
memories_of (d ∷ rest) = d.memory ++ memories_of rest

abbrev pub racked : List Device → Rack
racked all = rack_of (tags_of all) (memories_of all)

-- ---- a call: what one tag's call hands in, and the number of a tag
pub record RackCall : Type 0 where
  pub handed : Call
  pub to : ℕ

abbrev pub rack_call : Call → ℕ → RackCall
rack_call call i = record { handed = call; to = i }

-- "Frames, ends-of-frame and field go to all, every other signal to one named tag (numbered from 0, else unread)", by the codes of signal_table/specs/Table
unfoldable pub to_all : ℕ → Bool
to_all code = eqb code 2 || eqb code 8 || eqb code 9

unfoldable pub goes_to : RackCall → ℕ → Bool
goes_to call i = to_all call.handed.code || eqb i call.to
