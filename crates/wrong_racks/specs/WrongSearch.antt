-- Searches that are right but for one thing each.
use Rattle.std.specs.Prelude.{List, [], ◌∷◌, ℕ, zero, suc, leb, ltb, length, get_or, Ok, Err, Some, None}
use Rattle.parts.specs.Pick.{pick}
use Rattle.refusals.specs.declared.Refusal.{Refusal}
use Rattle.refusals.specs.Refusals.{judgement, unless_refused}
use Rattle.rack.specs.Rack.{Rack, RackCall, devices, racked}
use Rattle.rack.specs.Step.{left_by, RackResult, rack_entry}
use Rattle.rack_search.specs.Search.{sends_frame, sends_next, slot_count, SearchResult, search_result, collides, look, search_rules, SearchAnswer}
use Rattle.rack_search.specs.Claims.{Search, Searches}
use Rattle.wrong_racks.specs.Wrong.{turns_where}

-- the refusals are right; the search itself is another one
unfoldable pub searching : Search → Rack → List ℕ → List ℕ → SearchResult
searching find rack o f =
    unless_refused (judgement (search_rules rack o)) (λ (refusal : Refusal). search_result (Err refusal) rack o) (find rack o f)

-- ---- "a search that goes on after the first collision"
unfoldable pub earlier_found : SearchAnswer → SearchAnswer → SearchAnswer
earlier_found (Err why) later = Err why
earlier_found (Ok None) later = later
earlier_found (Ok (Some k)) later = Ok (Some k)

unfoldable pub look_on : ℕ → ℕ → SearchAnswer → Rack → RackCall → SearchResult
look_on zero k found rack call = search_result found rack call.handed.buffer
look_on (suc n) k found rack call =
    let result = rack_entry rack call in
    look_on n (suc k) (earlier_found found (pick (collides result) (Ok (Some k)) (Ok None))) result.rack (sends_next result)

abbrev pub goes_on : Search
goes_on = searching (λ (rack : Rack) (o f : List ℕ). look_on (slot_count f) 0 (Ok None) rack (sends_frame o f))

-- ---- "one that leaves before the last tag got the slot": the signal of the slot that it finds reaches no tag after the second that answers
abbrev pub up_to_second : RackResult → Rack → RackCall → Rack
up_to_second result rack call =
    racked (left_by (turns_where (λ (call : RackCall) (i : ℕ). leb i (get_or result.says.report 1 0)) call 0 (devices rack)))

unfoldable pub look_short : ℕ → ℕ → Rack → RackCall → SearchResult
look_short zero k rack call = search_result (Ok None) rack call.handed.buffer
look_short (suc n) k rack call =
    let result = rack_entry rack call in
    pick (collides result) (search_result (Ok (Some k)) (up_to_second result rack call) result.says.says.buffer)
    (look_short n (suc k) result.rack (sends_next result))

abbrev pub leaves_early : Search
leaves_early = searching (λ (rack : Rack) (o f : List ℕ). look_short (slot_count f) 0 rack (sends_frame o f))

-- ---- one that sends ends-of-frame after every frame
abbrev pub always_sixteen : Search
always_sixteen = searching (λ (rack : Rack) (o f : List ℕ). look rack_entry 16 0 rack (sends_frame o f))

-- ---- one that looks for three answers
unfoldable pub look_for_three : ℕ → ℕ → Rack → RackCall → SearchResult
look_for_three zero k rack call = search_result (Ok None) rack call.handed.buffer
look_for_three (suc n) k rack call =
    let result = rack_entry rack call in
    pick (ltb 2 (length result.says.report)) (search_result (Ok (Some k)) result.rack result.says.says.buffer)
    (look_for_three n (suc k) result.rack (sends_next result))

abbrev pub wants_three : Search
wants_three = searching (λ (rack : Rack) (o f : List ℕ). look_for_three (slot_count f) 0 rack (sends_frame o f))

-- ---- all of them: for some rack, buffer and frame the claim does not hold
unfoldable pub AllSearchesTold : List Search → Type 0
AllSearchesTold [] = Unit {0}
AllSearchesTold (find ∷ rest) = (Searches rack_entry find → ⊥) × AllSearchesTold rest

abbrev pub wrong_searches : List Search
wrong_searches = goes_on ∷ leaves_early ∷ always_sixteen ∷ wants_three ∷ []

abbrev pub WrongSearchesTold : Type 0
WrongSearchesTold = AllSearchesTold wrong_searches
