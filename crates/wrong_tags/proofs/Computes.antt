-- A name for a long `unfolding` line, as `computes` in calls/proofs. Assumes nothing.
use Rattle.model.specs.Step.{is_refused}
use Rattle.transfer.specs.Legs.{select_refused, ends, fresher, is_empty, finished, push, parse}
use Rattle.transfer.specs.Whole.{bytes_sent, accepted, write_leg, selected_leg, leg_of, last_leg, legs_of, transfer_of}
use Rattle.calls.proofs.Computes.{computes}
use Rattle.demand3.specs.Passed.{fill, answered as givenAnswer, notes_of, is_started, acked_select, opens, when_closed, note, frame_answer, end_answer, notes, when_open, wait_act, wait_step, wait_run}
use Rattle.demand3.specs.Demand3.{refused_by_state, state_refused, is_radio, struck, shut_reply, others, other_answers, EachStruck, is_closed}
use Rattle.wrong_tags.specs.Told.{part_of}

-- all that a run computes with, and the waiting tag and the claim beside it; of whole transfers those of write legs
unfoldable pub agrees : Unit {0}
unfolding computes select_refused ends fresher is_empty finished push parse bytes_sent accepted write_leg selected_leg leg_of last_leg legs_of transfer_of fill givenAnswer is_started acked_select notes_of opens when_closed note notes frame_answer end_answer when_open wait_act wait_step wait_run refused_by_state state_refused is_refused is_radio struck shut_reply others other_answers EachStruck is_closed part_of
agrees = tt
