-- What the tags of a slice do of a call that they hear one after the other: the first n of them are a rack.
use Rattle.std.specs.Prelude.{◌≡◌, List, ℕ, length, take, drop, Ok}
use Rattle.tag.specs.declared.Tag.{Tag}
use Rattle.refusals.specs.declared.Refusal.{Refusal}
use Rattle.refusals.specs.Call.{handed_in}
use Rattle.refusals.specs.Refusals.{judgement}
use Rattle.rack_judge.specs.Passed.{call_answer, entry, rack_of, rack_call, rack_rules, rack_answer, numbers_from, RackResult, rack_result, rack_acts}
use Rattle.rack_hear.specs.Hear.{hear_start, hear_refused, HeardAll, heard_all, hear_all_of}

pub record HeardAsRack (n : ℕ) (tags : List Tag) (m : List ℕ) (all : HeardAll) (acted : RackResult) : Type 0 where
  -- the rack's answer, its tags and its memory
  pub result : rack_result (rack_answer (call_answer all.answer.answer all.out) (numbers_from 0 all.answer.answered)) (rack_of (take n all.tags) all.mem) ≡ acted
  -- a tag that is not of the rack stays; no tag and no byte more or less
  pub others : drop n all.tags ≡ drop n tags
  pub number : length all.tags ≡ length tags
  pub size : length all.mem ≡ length m

-- a call that is not refused
abbrev pub HearsRacks : Type 0
HearsRacks = (tags : List Tag) (m o f : List ℕ) (n code value to : ℕ)
    → let rack = rack_of (take n tags) m in
    let call = rack_call (handed_in o code value f) to in
    judgement (rack_rules rack call) ≡ Ok tt
    → HeardAsRack n tags m (hear_all_of (length tags) tags m o f (hear_start (length (take n tags)) code value to)) (rack_acts entry rack call)

-- no tag hears one that is refused
abbrev pub RefusedUnheard : Type 0
RefusedUnheard = (i : ℕ) (tags : List Tag) (m o f : List ℕ) (refusal : Refusal) (code value to : ℕ)
    → let heard = hear_refused refusal code value to in
    hear_all_of i tags m o f heard ≡ heard_all heard tags m o
