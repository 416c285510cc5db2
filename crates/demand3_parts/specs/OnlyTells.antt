-- Of the parts that do not follow from `same` (Follows.antt beside this) each has a wrong tag that only it tells: all else holds for every list.
use Rattle.std.specs.Prelude.{◌≡◌, List}
use Rattle.refusals.specs.Call.{Call}
use Rattle.calls.specs.Calls.{Device, entry, run_by}
use Rattle.demand3.specs.Demand3.{Unchanged, RepliesShut, EachStruck, Same, EveryList}
use Rattle.wrong_tags.specs.Pinned.{session_past_range, marks_frames, hides_field}

-- every answer of this one is right, so that only the final tag tells it
abbrev pub OnlyTagTells : Type 0
OnlyTagTells = EveryList (λ (d : Device) (calls : List Call). (run_by session_past_range d calls).answers ≡ (run_by entry d calls).answers)

-- of these two all else holds, so that only `unchanged` tells the one and only `reply` the other
abbrev pub OnlyUnchangedTells : Type 0
OnlyUnchangedTells = EveryList (Same marks_frames)
    × EveryList (λ (d : Device) (calls : List Call). EachStruck marks_frames (RepliesShut marks_frames) d.tag d calls)

abbrev pub OnlyReplyTells : Type 0
OnlyReplyTells = EveryList (Same hides_field)
    × EveryList (λ (d : Device) (calls : List Call). EachStruck hides_field (Unchanged hides_field) d.tag d calls)
