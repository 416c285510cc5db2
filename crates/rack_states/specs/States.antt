-- "The tags' states end to end": a rack's tags as bytes.
use Rattle.std.specs.Prelude.{Bool, true, ◌&&◌, List, [], ◌∷◌, ◌++◌, ℕ, zero, suc, ◌/◌, ltb, length, take, drop, replicate}
use Rattle.parts.specs.Pick.{pick}
use Rattle.tag.specs.declared.Tag.{Tag}
use Rattle.tag.specs.Supply.{fresh_tag}
use Rattle.state.specs.Layout.{state_bytes, bytes_of, decodes, tag_of}

-- the states of tags
unfoldable pub states_of : List Tag → List ℕ
states_of [] = []
states_of (t ∷ tags) = bytes_of t ++ states_of tags

-- the tags of the first n states; a byte past the end reads 0
unfoldable pub tags_at : ℕ → List ℕ → List Tag
tags_at zero s = []
tags_at (suc n) s = tag_of (take state_bytes s) ∷ tags_at n (drop state_bytes s)

-- as many as are whole, at most sixteen; spare ones make them sixteen
abbrev pub spare_tag : Tag
spare_tag = fresh_tag (record { bytes = replicate 8 0 })

abbrev pub sixteen_at : List ℕ → List Tag
sixteen_at s = take 16 (tags_at (length s / state_bytes) s ++ replicate 16 spare_tag)

-- each of n states decodes to a tag
unfoldable pub all_decode : ℕ → List ℕ → Bool
all_decode zero s = true
all_decode (suc n) s = decodes (take state_bytes s) && all_decode n (drop state_bytes s)

-- tags stored at the start of any bytes: those for whose state there is room, one after the other. All other bytes stay.
unfoldable pub stored_tags : List Tag → List ℕ → List ℕ
stored_tags [] s = s
stored_tags (t ∷ tags) s = pick (ltb (length s) state_bytes) s (bytes_of t ++ stored_tags tags (drop state_bytes s))
