-- Each wrong rack told by one list of calls. Assumes nothing.
use mathlib.Core.Path.{◌≡◌, refl, sym, ap}
use mathlib.Core.Bool.{true, false, false≢true}
use mathlib.Core.List.{List, [], ◌∷◌}
use Prim.Native.Nat.{ℕ}
use native.Mathlib.Omega.{arith}
use lib.ListN.{length, get_or}
use Rattle.air.specs.declared.RadioState.TheVariants.{Quiet}
use Rattle.refusals.specs.Refusals.{number}
use Rattle.model.specs.declared.Answer.{Answer}
use Rattle.model.specs.declared.Answer.TheVariants.{Refused, Nothing, Ack, NoAck, Byte, Silence, Reply}
use Rattle.calls.specs.Calls.{call_answer, Device}
use Rattle.calls.specs.Examples.{vcc_to, field_to, stop, end_of_frame, ◌but◌, radio_state, being_programmed}
use Rattle.rack.specs.Rack.{Rack, racked, rack_call}
use Rattle.rack.specs.Step.{RackAnswer, rack_answer}
use Rattle.wrong_racks.specs.Told.{by_tags, by_number, by_size, by_answers, RackTold, AllRacksTold}
use Rattle.wrong_racks.specs.Wrong.{turns_where, reaching, frame_to_first, end_to_first, counts_when_quiet, quiet_counts, field_misses, moves_next, refused_steps, replying, highest_reply, highest_answers, reply_length, overlaid, seen_past, misreporting, reports_none, by_two, refuses_by_two, leaving, adds_tag, adds_byte, WrongRacksTold}
use Rattle.wrong_racks.proofs.Computes.{computes_rack}
use Rattle.wrong_racks.proofs.Racks.{one, other, two, first, inventory, read, present}

-- ---- racks
-- the first is being programmed: it answers 0Fh
abbrev first_busy : Rack
first_busy = racked ((one but being_programmed) ∷ other ∷ [])

abbrev second_quiet : Rack
second_quiet = racked (one ∷ (other but radio_state Quiet) ∷ [])

-- ---- what is compared
abbrev first_answer : List RackAnswer → RackAnswer
first_answer l = get_or l 0 (rack_answer (call_answer Nothing []) [])

unfoldable code : Answer → ℕ
code (Refused why) = number why
code Nothing = 10
code Ack = 11
code NoAck = 12
code (Byte x) = 13
code Silence = 14
code (Reply n) = 15

abbrev reply_byte : ℕ → List RackAnswer → ℕ
reply_byte i l = get_or (first_answer l).says.buffer i 9

-- ---- `tags`
-- password 0 is presented to both
frame_to_first_told : RackTold by_tags frame_to_first
unfolding computes_rack reaching turns_where
frame_to_first_told h =
    let f : ◌≡◌ {A = ℕ} 0 1 = ap (λ (d : Device). d.tag.air.session) (h two (first present ∷ []) refl 1 (omega arith)) in
    omega arith

-- both wait for their slots, 1 and 2
end_to_first_told : RackTold by_tags end_to_first
unfolding computes_rack reaching turns_where
end_to_first_told h =
    let f : ◌≡◌ {A = ℕ} 2 1 = ap (λ (d : Device). d.tag.air.slots) (h two (first inventory ∷ first end_of_frame ∷ []) refl 1 (omega arith)) in
    omega arith

-- the field goes off
field_misses_told : RackTold by_tags field_misses
unfolding computes_rack reaching turns_where
field_misses_told h =
    let f : true ≡ false = ap (λ (d : Device). d.tag.air.field) (h two (first (field_to 0) ∷ []) refl 1 (omega arith)) in
    false≢true (sym f)

-- VCC of the first goes off
moves_next_told : RackTold by_tags moves_next
unfolding computes_rack reaching turns_where
moves_next_told h =
    let f : false ≡ true = ap (λ (d : Device). d.tag.host.vcc) (h two (first (vcc_to 0) ∷ []) refl 1 (omega arith)) in
    false≢true f

-- VCC of a tag that the rack does not have
refused_steps_told : RackTold by_tags refused_steps
unfolding computes_rack refused_steps turns_where
refused_steps_told h =
    let f : false ≡ true = ap (λ (d : Device). d.tag.host.vcc) (h two (rack_call (vcc_to 0) 2 ∷ []) refl 0 (omega arith)) in
    false≢true f

-- the second is Quiet; its slot would be 2
quiet_counts_told : RackTold by_tags quiet_counts
unfolding computes_rack counts_when_quiet
quiet_counts_told h =
    let f : ◌≡◌ {A = ℕ} 2 0 = ap (λ (d : Device). d.tag.air.slots) (h second_quiet (first inventory ∷ []) refl 1 (omega arith)) in
    omega arith

-- ---- `answers`
-- both reply with their block 0
highest_answers_told : RackTold by_answers highest_answers
unfolding computes_rack replying highest_reply
highest_answers_told h =
    let f : ◌≡◌ {A = ℕ} 6 5 = ap (reply_byte 4) (h two (first read ∷ []) refl) in
    omega arith

-- the first one's 0Fh ends before byte 4
seen_past_told : RackTold by_answers seen_past
unfolding computes_rack replying overlaid highest_reply reply_length
seen_past_told h =
    let f : ◌≡◌ {A = ℕ} 6 0 = ap (reply_byte 4) (h first_busy (first read ∷ []) refl) in
    omega arith

reports_none_told : RackTold by_answers reports_none
unfolding computes_rack misreporting
reports_none_told h =
    let f : ◌≡◌ {A = ℕ} 0 2 = ap (λ (l : List RackAnswer). length (first_answer l).report) (h two (first read ∷ []) refl) in
    omega arith

-- a Stop to a tag that the rack does not have
refuses_by_two_told : RackTold by_answers refuses_by_two
unfolding computes_rack misreporting by_two code
refuses_by_two_told h =
    let f : ◌≡◌ {A = ℕ} 2 6 = ap (λ (l : List RackAnswer). code (first_answer l).says.answer) (h two (rack_call stop 2 ∷ []) refl) in
    omega arith

-- ---- `number`, `size`
adds_tag_told : RackTold by_number adds_tag
unfolding computes_rack leaving
adds_tag_told h =
    let f : ◌≡◌ {A = ℕ} 3 2 = h two (first stop ∷ []) refl in
    omega arith

adds_byte_told : RackTold by_size adds_byte
unfolding computes_rack leaving
adds_byte_told h =
    let f : ◌≡◌ {A = ℕ} 2049 2048 = h two (first stop ∷ []) refl in
    omega arith

-- ---- the claim
pub wrong_racks_told : WrongRacksTold
unfolding AllRacksTold
wrong_racks_told =
    (frame_to_first_told, (end_to_first_told, (field_misses_told, (moves_next_told, (refused_steps_told, (quiet_counts_told, (highest_answers_told, (seen_past_told, (reports_none_told, (refuses_by_two_told, (adds_tag_told, (adds_byte_told, tt))))))))))))
