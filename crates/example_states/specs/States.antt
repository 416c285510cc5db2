-- Bytes of a tag's state, as the example program sets them.
use Rattle.std.specs.Prelude.{List, ℕ, Option, Some, None}
use Rattle.parts.specs.Pick.{pick}
use Rattle.tag.specs.declared.Tag.{Tag}
use Rattle.state.specs.Layout.{bytes_of, decodes, tag_of}
use Rattle.example_states.specs.Store.{StoreResult, store_of}

-- the tag of the state's bytes after a line, if it took them and they are a state's
unfoldable pub patch_by : StoreResult → Option Tag
patch_by result = pick result.taken (pick (decodes result.memory) (Some (tag_of result.memory)) None) None

-- a line's bytes: two of a place, and those of the state from there on
abbrev pub patch_of : Tag → List ℕ → Option Tag
patch_of t s = patch_by (store_of (bytes_of t) s)
