-- What is claimed of a search: what it finds, in terms of the tags' UIDs, states and the frame, and what it leaves.
use Rattle.std.specs.Prelude.{◌≡◌, Bool, true, ◌&&◌, List, [], ◌∷◌, ◌↔◌, ℕ, zero, suc, ◌+◌, ◌<◌, ◌≤◌, eqb, Ok, Err, Some, None}
use Rattle.parts.specs.Pick.{pick}
use Rattle.parts.specs.Bytes.{are_bytes}
use Rattle.bus.specs.Bus.{transfer_at}
use Rattle.tag.specs.declared.Tag.{Tag}
use Rattle.inventory.specs.Inventory.{is_matched, own_slot, takes_part}
use Rattle.reply.specs.Reply.{answer_of}
use Rattle.reply.specs.Outcome.{radio_side}
use Rattle.rack_claims.specs.Passed.{dynamic_now, busy_now, radio_of, is_reply, from_radio, Device, Rack, RackCall, devices, RackAnswer, RackStep, rack_run, refusal_numbers}
use Rattle.refusals.specs.declared.Refusal.{Refusal}
use Rattle.refusals.specs.Refusals.{judgement}
use Rattle.rack_search.specs.Search.{sends_frame, sends_next, opens_sixteen, slot_count, SearchResult, search_rules, SearchAnswer}

-- ---- the slot in which a tag answers
-- it hears inventories now
abbrev pub takes_part_now : Tag → Bool
takes_part_now t =
    let transfer = transfer_at t.host.bus in
    takes_part t.air (dynamic_now (radio_side t) transfer) (busy_now transfer t.host.programming)

-- it replies to the frame, be it by an error
unfoldable pub replies_to : List ℕ → Device → Bool
replies_to f d =
    let t = d.tag in
    let result = radio_of (radio_side t) t.uid t.host.vcc (transfer_at t.host.bus) t.host.programming d.memory f in
    is_reply (from_radio (answer_of result.reply))

-- with sixteen slots a matched tag that takes part answers in its own; any other frame has slot 0 alone
unfoldable pub answers_in : List ℕ → ℕ → Device → Bool
answers_in f k d =
    let t = d.tag in
    pick (opens_sixteen f) (takes_part_now t && is_matched f t.uid t.core.registers.afi && eqb (own_slot f t.uid) k)
    (eqb k 0 && replies_to f d)

-- how many tags do
unfoldable pub how_many : (Device → Bool) → List Device → ℕ
how_many answers [] = 0
how_many answers (d ∷ rest) = pick (answers d) 1 0 + how_many answers rest

abbrev pub tags_in : List ℕ → ℕ → Rack → ℕ
tags_in f k rack = how_many (answers_in f k) (devices rack)

-- "the first slot in which two tags answer"
pub record FirstCollision (f : List ℕ) (rack : Rack) (k : ℕ) : Type 0 where
  pub two : 2 ≤ tags_in f k rack
  pub none_before : (j : ℕ) → j < k → tags_in f j rack < 2

-- "no slot has two"
abbrev pub NoCollisions : List ℕ → Rack → Type 0
NoCollisions f rack = (k : ℕ) → tags_in f k rack < 2

-- ---- the calls that it sent
-- n of them, the first being `call`
unfoldable pub sent_calls : RackStep → ℕ → Rack → RackCall → List RackCall
sent_calls go zero rack call = []
sent_calls go (suc n) rack call = call ∷ sent_calls go n (go rack call).rack (sends_next (go rack call))

-- how many: as many as slots were opened, up to the one that it found
unfoldable pub slots_opened : List ℕ → SearchAnswer → ℕ
slots_opened f (Err refusal) = 0
slots_opened f (Ok None) = slot_count f
slots_opened f (Ok (Some k)) = suc k

-- the reply buffer as the last call left it, else o
unfoldable pub buffer_after : List ℕ → List RackAnswer → List ℕ
buffer_after o [] = o
buffer_after o (answer ∷ answers) = buffer_after answer.says.buffer answers

-- ---- the claim, of a search over a rack's step `go`; o is the reply buffer, f the frame
abbrev pub Search : Type 0
Search = Rack → List ℕ → List ℕ → SearchResult

abbrev pub sent_by : RackStep → Search → Rack → List ℕ → List ℕ → List RackCall
sent_by go find rack o f = sent_calls go (slots_opened f (find rack o f).answer) rack (sends_frame o f)

pub record Searched (go : RackStep) (find : Search) (rack : Rack) (o f : List ℕ) : Type 0 where
  -- refusals 1, 2, 4, 5 and 7, in their order
  pub refused : (refusal : Refusal) → ((find rack o f).answer ≡ Err refusal) ↔ (judgement (search_rules rack o) ≡ Err refusal)
  -- where there is none: the first slot in which two tags answer, and "none exactly when no slot has two"
  pub collision : judgement (search_rules rack o) ≡ Ok tt → (k : ℕ) → ((find rack o f).answer ≡ Ok (Some k)) ↔ FirstCollision f rack k
  pub none : judgement (search_rules rack o) ≡ Ok tt → ((find rack o f).answer ≡ Ok None) ↔ NoCollisions f rack
  -- rack and buffer are as the calls leave them that it sent, one by one
  pub rack_left : (find rack o f).rack ≡ (rack_run go rack (sent_by go find rack o f)).rack
  pub buffer_left : (find rack o f).buffer ≡ buffer_after o (rack_run go rack (sent_by go find rack o f)).answers

abbrev pub Searches : RackStep → Search → Type 0
Searches go find = (rack : Rack) (o f : List ℕ) → are_bytes f ≡ true → Searched go find rack o f

-- the refusals, by their numbers
abbrev pub SearchRefusalsInOrder : Type 0
SearchRefusalsInOrder = (rack : Rack) (o : List ℕ) → refusal_numbers (search_rules rack o) ≡ 1 ∷ 2 ∷ 4 ∷ 5 ∷ 7 ∷ []
