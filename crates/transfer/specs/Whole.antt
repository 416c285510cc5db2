-- The whole transfer, leg by leg.
use Rattle.std.specs.Prelude.{Bool, true, false, ◌||◌, List, [], ◌∷◌, ◌++◌, ℕ, zero, suc, ltb, eqb, length, take}
use Rattle.std.proofs.lemmas.List.Edits.{sets}
use Rattle.parts.specs.Pick.{pick}
use Rattle.bus.specs.declared.Space.{Space}
use Rattle.bus.specs.declared.Bus.TheVariants.{Idle}
use Rattle.tag.specs.declared.WireSide.{WireSide}
use Rattle.keys.specs.declared.Uid.{Uid}
use Rattle.tag.specs.Layout.{page_place}
use Rattle.bus.specs.Bus.{next_address}
use Rattle.tag.specs.Supply.{vcc_off}
use Rattle.tag.specs.Parts.{with_counter, with_bus, with_host}
use Rattle.select.specs.declared.Choice.{Choice}
use Rattle.select.specs.declared.Choice.TheVariants.{NotAcked, Reading, Writing}
use Rattle.select.specs.Select.{choose, address}
use Rattle.rule.specs.Rule.{acked}
use Rattle.fetch.specs.Fetch.{fetched, is_last}
use Rattle.leg.specs.Leg.{stopped, started, power_lost, Due, nothing_due, clears, writes, settle}
use Rattle.signal.specs.declared.WireAnswer.{WireAnswer}
use Rattle.signal.specs.declared.WireAnswer.TheVariants.{Nothing, Ack, NoAck, Byte}
use Rattle.transfer.specs.Legs.{Noted, Move, move_send, move_fetch, Finish, at_stop, at_vcc_off, at_refusal, Legs, leg, last, parse}

-- the answers, the wire side and the memory after a list of signals
pub record TransferResult : Type 0 where
  pub answers : List WireAnswer
  pub side : WireSide
  pub memory : List ℕ

abbrev pub transfer_result : List WireAnswer → WireSide → List ℕ → TransferResult
transfer_result answers w m = record { answers = answers; side = w; memory = m }

-- answers given before it
abbrev pub before : List WireAnswer → TransferResult → TransferResult
before answers result = transfer_result (answers ++ result.answers) result.side result.memory

-- ---- what the host does in a leg
-- the bytes that it sends
unfoldable pub bytes_sent : List Move → List ℕ
bytes_sent [] = []
bytes_sent (move_send x ∷ moves) = x ∷ bytes_sent moves
bytes_sent (move_fetch ack ∷ moves) = bytes_sent moves

-- how many of its fetches are served, in a read leg: "after the host's NoAck" none is
unfoldable pub served : List Move → ℕ
served [] = 0
served (move_send x ∷ moves) = served moves
served (move_fetch true ∷ moves) = suc (served moves)
served (move_fetch false ∷ moves) = 1

-- its answers: the first j bytes sent are Acked and the others not; the fetches give the bytes, and FFh after them
unfoldable pub replies : ℕ → List ℕ → List Move → List WireAnswer
replies j bytes [] = []
replies zero bytes (move_send x ∷ moves) = NoAck ∷ replies zero bytes moves
replies (suc j) bytes (move_send x ∷ moves) = Ack ∷ replies j bytes moves
replies j [] (move_fetch ack ∷ moves) = Byte 0xFF ∷ replies j [] moves
replies j (x ∷ bytes) (move_fetch ack ∷ moves) = Byte x ∷ replies j bytes moves

-- "Each Acked data byte or fetched byte raises the counter by one": the counter after n of them
unfoldable pub onward : ℕ → ℕ → ℕ
onward zero counter = counter
onward (suc n) counter = onward n (next_address counter)

-- the n bytes fetched from the counter on
unfoldable pub bytes_fetched : Space → WireSide → Uid → List ℕ → ℕ → ℕ → List ℕ
bytes_fetched space w u m counter zero = []
bytes_fetched space w u m counter (suc n) = fetched space w.core w.host.session u m counter ∷ bytes_fetched space w u m (next_address counter) n

-- "the last byte of an RF message" is among them
unfoldable pub last_among : Space → WireSide → ℕ → ℕ → Bool
last_among space w counter zero = false
last_among space w counter (suc n) = is_last space w.core.mailbox counter || last_among space w (next_address counter) n

-- how many of the data bytes are Acked, up to "the first NoAck", after earlier bytes of the same leg, from its first address
unfoldable pub accepted : Space → WireSide → ℕ → List ℕ → List ℕ → ℕ
accepted space w first earlier [] = 0
accepted space w first earlier (x ∷ bytes) =
    pick (acked space w.core w.host.session first (length earlier) earlier x)
    (suc (accepted space w first (earlier ++ x ∷ []) bytes))
    0

-- ---- one leg: its answers, where it leaves the counter, the bytes that it puts onto the page, and what is due at its end
pub record Leg : Type 0 where
  pub answers : List WireAnswer
  pub counter : ℕ
  pub page : List ℕ
  pub due : Due

-- one answer more at its front
abbrev pub answering : WireAnswer → Leg → Leg
answering answer outcome = record { answers = answer ∷ outcome.answers; counter = outcome.counter; page = outcome.page; due = outcome.due }

-- j bytes are Acked, and nothing else happens
abbrev pub idle_leg : ℕ → WireSide → List Move → Leg
idle_leg j w moves = record { answers = replies j [] moves; counter = w.host.counter; page = []; due = nothing_due }

-- after a read select, with n fetches served. "A byte sent in a read leg is NoAcked and moves nothing."
-- "Fetching the last byte of an RF message clears RF_PUT at the leg's end"
abbrev pub read_leg : Space → WireSide → Uid → List ℕ → ℕ → List Move → Leg
read_leg space w u m n moves = record {
  answers = replies 0 (bytes_fetched space w u m w.host.counter n) moves;
  counter = onward n w.host.counter;
  page = [];
  due = pick (last_among space w w.host.counter n) clears nothing_due;
}

-- after the first address, with data bytes of which j are Acked; with the address, i bytes are.
-- "Acked data byte k of a write leg goes to page place k, from 0"
-- "The first NoAck from the tag spoils the leg: its later bytes are NoAcked and it writes nothing." "A leg with no data writes nothing"
abbrev pub data_leg : Space → ℕ → List ℕ → ℕ → ℕ → List Move → Leg
data_leg space first bytes j i moves = record {
  answers = replies i [] moves;
  counter = onward j first;
  page = take j bytes;
  due = pick (ltb j (length bytes) || eqb j 0) nothing_due (writes space first bytes);
}

-- after a write select, by the bytes sent. "After a write select come two address bytes, high first, both Acked, which set the counter."
-- "one address byte alone leaves the counter"
unfoldable pub write_leg : Space → WireSide → List ℕ → List Move → Leg
write_leg space w [] moves = idle_leg 0 w moves
write_leg space w (high ∷ []) moves = idle_leg 1 w moves
write_leg space w (high ∷ low ∷ bytes) moves =
    let first = address high low in
    let j = accepted space w first [] bytes in
    data_leg space first bytes j (suc (suc j)) moves

-- the moves after a select
unfoldable pub selected_leg : Choice → WireSide → Uid → List ℕ → List Move → Leg
selected_leg NotAcked w u m moves = answering NoAck (idle_leg 0 w moves)
selected_leg (Reading space) w u m moves = answering Ack (read_leg space w u m (served moves) moves)
selected_leg (Writing space) w u m moves = answering Ack (write_leg space w (bytes_sent moves) moves)

-- a leg: the first byte sent is the select. "A fetch outside a read leg .. gives FFh and moves nothing."
unfoldable pub leg_of : WireSide → Uid → List ℕ → List Move → Leg
leg_of w u m [] = idle_leg 0 w []
leg_of w u m (move_fetch ack ∷ moves) = answering (Byte 0xFF) (leg_of w u m moves)
leg_of w u m (move_send x ∷ moves) = selected_leg (choose w.host.vcc w.host.programming x) w u m moves

-- ---- the legs one after the other
-- what a leg leaves before its end
abbrev pub counting : Leg → WireSide → WireSide
counting outcome w = with_host (with_counter outcome.counter w.host) w

abbrev pub filled : Leg → List ℕ → List ℕ
filled outcome m = sets m page_place outcome.page

-- "A Stop or a select not Acked leaves the bus idle."
abbrev pub idle : WireSide → WireSide
idle w = with_host (with_bus Idle w.host) w

-- the last leg
unfoldable pub last_leg : Finish → Leg → WireSide → List ℕ → TransferResult
last_leg at_stop outcome w m =
    let result = settle stopped outcome.due (idle (counting outcome w)) (filled outcome m) in
    transfer_result (outcome.answers ++ Nothing ∷ []) result.side result.memory
last_leg at_vcc_off outcome w m =
    let result = settle power_lost outcome.due (counting outcome w) (filled outcome m) in
    transfer_result (outcome.answers ++ Nothing ∷ []) (vcc_off result.side) result.memory
last_leg at_refusal outcome w m = transfer_result outcome.answers (idle w) m

unfoldable pub legs_of : WireSide → Uid → List ℕ → Legs → TransferResult
legs_of w u m (last moves end) = last_leg end (leg_of w u m moves) w m
legs_of w u m (leg moves l) =
    let outcome = leg_of w u m moves in
    let result = settle started outcome.due (counting outcome w) (filled outcome m) in
    before (outcome.answers ++ Nothing ∷ []) (legs_of result.side u result.memory l)

-- the whole transfer, of a list that begins after its first Start
unfoldable pub transfer_of : WireSide → Uid → List ℕ → List Noted → TransferResult
transfer_of w u m noted = legs_of w u m (parse noted)
