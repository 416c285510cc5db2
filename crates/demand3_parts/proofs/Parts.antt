-- Demand 3 has each of its parts, so that a tag that a part tells is refuted. Assumes nothing.
use mathlib.Core.List.{List, [], ◌∷◌}
use Rattle.tag.specs.declared.Tag.{Tag}
use Rattle.refusals.specs.Call.{Call}
use Rattle.calls.specs.Calls.{Device, Step}
use Rattle.demand3.specs.Demand3.{Unchanged, RepliesShut, Shut, start_after, EachStruck, AllShut}
use Rattle.wrong_tags.specs.Told.{by_same, by_judged, by_striking, by_unchanged, by_reply, part_of, WrongTag, AllTold}
use Rattle.wrong_tags.specs.Pinned.{wrong_tags}
use Rattle.wrong_tags.proofs.Wrong.{wrong_tags_told}
use Rattle.demand3_parts.specs.Parts.{HasParts, AllRefuted, WrongTagsRefuted}

-- what each struck frame has by P it has by Q
each_map : (step : Step) (P Q : Tag → Device → Call → Type 0) → ((start : Tag) (d : Device) (c : Call) → P start d c → Q start d c)
    → (cs : List Call) (start : Tag) (d : Device) → EachStruck step P start d cs → EachStruck step Q start d cs
unfolding EachStruck
each_map step P Q f [] start d h = tt
each_map step P Q f (c ∷ cs) start d (h, hs) =
    (λ t. f (start_after start d.tag) d c (h t), each_map step P Q f cs (start_after start d.tag) (step d c).device hs)

pub has_parts : HasParts
unfolding part_of AllShut
has_parts step h by_same d cs range size frames shut end = (h d cs range size frames shut end).same
has_parts step h by_judged d cs range size frames shut end = (h d cs range size frames shut end).judged
has_parts step h by_striking d cs range size frames shut end = (h d cs range size frames shut end).striking
has_parts step h by_unchanged d cs range size frames shut end =
    each_map step (Shut step) (Unchanged step) (λ start d c s. s.unchanged) cs d.tag d (h d cs range size frames shut end).shut
has_parts step h by_reply d cs range size frames shut end =
    each_map step (Shut step) (RepliesShut step) (λ start d c s. s.reply) cs d.tag d (h d cs range size frames shut end).shut

all_refuted : (ws : List WrongTag) → AllTold ws → AllRefuted ws
unfolding AllTold AllRefuted
all_refuted [] h = tt
all_refuted (w ∷ ws) (h, hs) = (λ d. h (has_parts w.step d w.part), all_refuted ws hs)

pub wrong_tags_refuted : WrongTagsRefuted
wrong_tags_refuted = all_refuted wrong_tags wrong_tags_told
