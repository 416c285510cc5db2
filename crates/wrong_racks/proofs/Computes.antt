-- A name for a long `unfolding` line, as `computes` in calls/proofs. Assumes nothing.
use Rattle.model.specs.Step.{is_refused, is_reply}
use Rattle.calls.proofs.Computes.{computes}
use Rattle.rack.specs.Rack.{memory_size, memory_sizes, device_at, devices_of, tags_of, memories_of, to_all, goes_to}
use Rattle.rack.specs.Rules.{all_in_range, has_uid, equal_uids}
use Rattle.rack.specs.Step.{turn_of, turns_of, left_by, said_by, who_replied, numbers_from, lowest_reply, together, rack_acts, rack_step, rack_run}
use Rattle.rack_search.specs.Passed.{judged_calls, has_call, own_call, own_calls, of_each, next_answer, later_answers, next_of_each, later_of_each, answer_made, answers_made, rack_frames_fit}
use Rattle.rack_search.specs.Search.{opens_sixteen, look, search_of}
use Rattle.rack_search.specs.Claims.{replies_to, answers_in, how_many, sent_calls, slots_opened, buffer_after}
use Rattle.wrong_racks.specs.Told.{rack_part_of}
use Rattle.wrong_racks.specs.Wrong.{turns_where}
use Rattle.wrong_racks.specs.WrongSearch.{searching, earlier_found, look_on, look_short, look_for_three}

-- all that a run of a rack computes with, and the claim beside it
unfoldable pub computes_rack : Unit {0}
unfolding computes is_refused is_reply memory_size memory_sizes device_at devices_of tags_of memories_of to_all goes_to all_in_range has_uid equal_uids turn_of turns_of left_by said_by who_replied numbers_from lowest_reply together rack_acts rack_step rack_run judged_calls has_call own_call own_calls of_each next_answer later_answers next_of_each later_of_each answer_made answers_made rack_frames_fit rack_part_of
computes_rack = tt

-- and a search, with the claim of it
unfoldable pub computes_search : Unit {0}
unfolding computes_rack turns_where opens_sixteen look search_of replies_to answers_in how_many sent_calls slots_opened buffer_after searching earlier_found look_on look_short look_for_three
computes_search = tt
