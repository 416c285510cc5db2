-- Library racks that the claims shut out, each by one list or one search. Assumes nothing.
use mathlib.Core.Path.{◌≡◌, refl, ap}
use mathlib.Core.List.{List, [], ◌∷◌}
use Prim.Native.Nat.{ℕ, ◌≤◌}
use native.Mathlib.Omega.{arith}
use lib.ListN.{get_or}
use Rattle.registers.specs.Map.{register_bytes}
use Rattle.tag.specs.Layout.{reply_bytes}
use Rattle.state.specs.Layout.{flag_byte, radio_number, radio_state_of, space_number, space_of, air_bytes, air_decodes, air_at, transfer_byte, bus_bytes, is_bus, bus_of, bus_decodes, bus_at, host_bytes, host_decodes, host_at, registers_at, mailbox_bytes, mailbox_decodes, mailbox_at, password_bytes, passwords_at, bytes_of, decodes, tag_of}
use Rattle.library_demand3.specs.Passed.{answer_number}
use Rattle.calls.specs.Examples.{zeros, vcc_to, field_to}
use Rattle.rack.specs.Rack.{Rack, rack_call}
use Rattle.rack_states.specs.States.{states_of, tags_at, all_decode}
use Rattle.capi_rack.specs.RackInterface.{mask_of, search_number, rack_step_call, rack_search_call}
use Rattle.wrong_racks.proofs.Computes.{computes_search}
use Rattle.wrong_racks.proofs.Racks.{two, three, first, inventory, read}
use Rattle.library_rack.specs.Calls.{exported_rack, exported_search, LibraryRackAnswer, library_rack_answer, LibraryRackRunResult, library_rack_run}
use Rattle.library_rack.specs.Claims.{in_rack_numbers, RackStarts, reply_after}
use Rattle.library_rack.specs.Wrong.{LibraryRackRefuted, LibrarySearchRefuted, stores_none, stores_first, turns_states, bits_from_one, first_bit_only, refuses_tag_by3, slots_from_one, acts_on_none}

-- all that a run of the library's rack calls computes with
unfoldable runs : Unit {0}
unfolding computes_search flag_byte radio_number radio_state_of space_number space_of air_bytes air_decodes air_at transfer_byte bus_bytes is_bus bus_of bus_decodes bus_at host_bytes host_decodes host_at register_bytes registers_at mailbox_bytes mailbox_decodes mailbox_at password_bytes passwords_at bytes_of decodes tag_of answer_number states_of tags_at all_decode mask_of search_number rack_step_call rack_search_call exported_rack exported_search library_rack_run in_rack_numbers reply_after
runs = tt

abbrev states : Rack → List ℕ
states r = states_of r.tags

two_starts : RackStarts 2 (states two) two.memory
unfolding runs
two_starts = record { states = refl; long = refl; whole = refl; memory = refl }

-- ---- what is compared: byte i of the states; of the first answer its number and bits
abbrev state_byte : ℕ → LibraryRackRunResult → ℕ
state_byte i r = get_or r.states i 9

abbrev first_answer : LibraryRackRunResult → LibraryRackAnswer
first_answer r = get_or r.answers 0 (library_rack_answer 9 9 [])

-- ---- the states
-- the field goes off: byte 0 of each state
pub stores_none_refuted : LibraryRackRefuted stores_none
unfolding runs stores_none
stores_none_refuted h =
    let f : ◌≡◌ {A = ℕ} 1 0 = ap (state_byte 0) (h 2 (states two) two.memory (first (field_to 0) ∷ []) two_starts refl) in
    omega arith

pub stores_first_refuted : LibraryRackRefuted stores_first
unfolding runs stores_first
stores_first_refuted h =
    let f : ◌≡◌ {A = ℕ} 1 0 = ap (state_byte 87) (h 2 (states two) two.memory (first (field_to 0) ∷ []) two_starts refl) in
    omega arith

-- the UID's first byte
pub turns_states_refuted : LibraryRackRefuted turns_states
unfolding runs turns_states
turns_states_refuted h =
    let f : ◌≡◌ {A = ℕ} 2 1 = ap (state_byte 79) (h 2 (states two) two.memory (first (field_to 1) ∷ []) two_starts refl) in
    omega arith

-- ---- the bits: both reply
pub bits_from_one_refuted : LibraryRackRefuted bits_from_one
unfolding runs bits_from_one
bits_from_one_refuted h =
    let f : ◌≡◌ {A = ℕ} 6 3 = ap (λ (r : LibraryRackRunResult). (first_answer r).answered) (h 2 (states two) two.memory (first read ∷ []) two_starts refl) in
    omega arith

pub first_bit_only_refuted : LibraryRackRefuted first_bit_only
unfolding runs first_bit_only
first_bit_only_refuted h =
    let f : ◌≡◌ {A = ℕ} 1 3 = ap (λ (r : LibraryRackRunResult). (first_answer r).answered) (h 2 (states two) two.memory (first read ∷ []) two_starts refl) in
    omega arith

-- ---- the numbers: VCC of a tag that the rack does not have
pub refuses_tag_by_3_refuted : LibraryRackRefuted refuses_tag_by3
unfolding runs refuses_tag_by3
refuses_tag_by_3_refuted h =
    let f : ◌≡◌ {A = ℕ} 3 6 = ap (λ (r : LibraryRackRunResult). (first_answer r).number) (h 2 (states two) two.memory (rack_call (vcc_to 0) 2 ∷ []) two_starts refl) in
    omega arith

-- ---- searches: two of three tags answer in slot 1, the last in slot 9
abbrev buffer : List ℕ
buffer = zeros reply_bytes

three_starts : RackStarts 3 (states three) three.memory
unfolding runs
three_starts = record { states = refl; long = refl; whole = refl; memory = refl }

-- slot 2 has none
pub slots_from_one_refuted : LibrarySearchRefuted slots_from_one
unfolding runs slots_from_one
slots_from_one_refuted h =
    let two-answer : 2 ≤ 0 = (((h 3 (states three) three.memory buffer inventory.frame three_starts refl).collision refl 2).0 refl).two in
    omega (arith, two-answer)

-- byte 3 of a state: how many ends-of-frame are left to its slot
pub acts_on_none_refuted : LibrarySearchRefuted acts_on_none
unfolding runs acts_on_none
acts_on_none_refuted h =
    let f : ◌≡◌ {A = ℕ} 0 8 = ap (λ (s : List ℕ). get_or s 177 9) (h 3 (states three) three.memory buffer inventory.frame three_starts refl).states in
    omega arith
