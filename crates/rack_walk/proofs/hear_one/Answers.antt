use mathlib.Core.Path.{◌≡◌, ap, ◌∙◌}
use mathlib.Core.List.{List}
use Prim.Native.Nat.{ℕ, ◌<◌}
use lib.ListN.{length, get_or}
use Rattle.std.proofs.lemmas.List.{get_or_default}
use Rattle.tag.specs.declared.Tag.{Tag}
use Rattle.rack_hear.specs.Passed.{no_tag}
use Rattle.rack_hear.specs.declared.Heard.{Heard}
use Rattle.rack_hear.specs.Hear.{HeardResult, hear_of, put_back, hear_one_of}
use Rattle.rack_walk.proofs.hear_one.Goals as goal

-- a tag that was read within the slice, whatever a read past it gives
heard_one : (ts : List Tag) (m o f : List ℕ) (i : ℕ) (heard : Heard) (d : Tag) (r : HeardResult) → i < length ts → r ≡ hear_of (get_or ts i d) m o f i heard
    → put_back ts i r ≡ hear_one_of ts m o f i heard
unfolding hear_one_of
heard_one ts m o f i heard d r h e =
    ap (λ (x : HeardResult). put_back ts i x) (e ∙ ap (λ (t : Tag). hear_of t m o f i heard) (get_or_default ts i d no_tag h))

pub returns : goal.returns
returns c =
    let a = c.args in
    heard_one a.tags.now a.memory.now a.out.now a.frame.now a.i a.heard _ _ c.requires c.hear_tag-o.ensures
