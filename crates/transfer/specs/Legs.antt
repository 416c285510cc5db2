-- The signals of a transfer, and the legs that they make.
use Rattle.std.specs.Prelude.{Bool, true, false, List, [], ◌∷◌, ℕ}
use Rattle.parts.specs.Pick.{pick}
use Rattle.select.specs.declared.Choice.{Choice}
use Rattle.select.specs.declared.Choice.TheVariants.{NotAcked, Reading, Writing}
use Rattle.select.specs.Select.{select_of}
use Rattle.signal_table.specs.declared.WireSignal.{WireSignal}
use Rattle.signal_table.specs.declared.WireSignal.TheVariants.{Start as SignalStart, Send, Fetch, Stop as SignalStop, Vcc}

-- "That select and each later Start, byte, fetch, Stop and VCC off are noted"
pub data Noted : Type 0 where
  NotedStart : Noted
  NotedSend : ℕ → Noted
  NotedFetch : Bool → Noted
  NotedStop : Noted
  NotedVccOff : Noted

-- the signal that was noted
unfoldable pub wire_signal : Noted → WireSignal
wire_signal NotedStart = SignalStart
wire_signal (NotedSend x) = Send x
wire_signal (NotedFetch ack) = Fetch ack
wire_signal NotedStop = SignalStop
wire_signal NotedVccOff = Vcc false

-- ---- "A transfer is open from an Acked select to Stop, VCC off, or a select not Acked."
unfoldable pub select_refused : Choice → Bool
select_refused NotAcked = true
select_refused (Reading space) = false
select_refused (Writing space) = false

-- the signal ends the transfer; `fresh`: no byte was sent since the last Start, so that a byte sent is a select
unfoldable pub ends : Bool → Noted → Bool
ends fresh NotedStart = false
ends fresh (NotedFetch ack) = false
ends fresh NotedStop = true
ends fresh NotedVccOff = true
ends true (NotedSend x) = select_refused (select_of x)
ends false (NotedSend x) = false

unfoldable pub fresher : Bool → Noted → Bool
fresher fresh NotedStart = true
fresher fresh (NotedFetch ack) = fresh
fresher fresh (NotedSend x) = false
fresher fresh NotedStop = false
fresher fresh NotedVccOff = false

unfoldable pub is_empty : List Noted → Bool
is_empty [] = true
is_empty (next ∷ noted) = false

-- the transfer ends with the list's last signal, and not before
unfoldable pub finished : Bool → List Noted → Bool
finished fresh [] = false
finished fresh (next ∷ noted) = pick (ends fresh next) (is_empty noted) (finished (fresher fresh next) noted)

-- ---- "A leg runs from Start to the next Start or the end."
-- what the host does in a leg: it sends a byte, or fetches one and Acks it or not
pub data Move : Type 0 where
  move_send : ℕ → Move
  move_fetch : Bool → Move

-- how a transfer ends
pub data Finish : Type 0 where
  at_stop : Finish
  at_vcc_off : Finish
  at_refusal : Finish

-- legs up to the last one
pub data Legs : Type 0 where
  leg : List Move → Legs → Legs
  last : List Move → Finish → Legs

-- one move more at the front of the first leg
unfoldable pub push : Move → Legs → Legs
push move (leg moves l) = leg (move ∷ moves) l
push move (last moves e) = last (move ∷ moves) e

-- the legs of a finished list
unfoldable pub parse : List Noted → Legs
parse [] = last [] at_refusal
parse (NotedStart ∷ noted) = leg [] (parse noted)
parse (NotedSend x ∷ noted) = push (move_send x) (parse noted)
parse (NotedFetch ack ∷ noted) = push (move_fetch ack) (parse noted)
parse (NotedStop ∷ noted) = last [] at_stop
parse (NotedVccOff ∷ noted) = last [] at_vcc_off
