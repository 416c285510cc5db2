-- Whole transfers with a repeated Start, computed from their definition: every answer, the wire side and the memory.
use Rattle.std.specs.Prelude.{◌≡◌, true, List, [], ◌∷◌, ◌++◌, ℕ, replicate, None}
use Rattle.register_types.specs.Types.{rf_mngt}
use Rattle.registers.specs.Map.{with_dynamic}
use Rattle.mailbox.specs.Mailbox.{empty_mailbox}
use Rattle.mailbox.specs.Parts.{with_enabled}
use Rattle.bus.specs.declared.Bus.TheVariants.{Idle, Started}
use Rattle.tag.specs.Parts.{wire_side, with_mailbox}
use Rattle.signal.specs.declared.WireAnswer.{WireAnswer}
use Rattle.signal.specs.declared.WireAnswer.TheVariants.{Nothing, Ack, NoAck, Byte}
use Rattle.transfer.specs.Legs.{Noted, NotedStart, NotedSend, NotedFetch, NotedStop}
use Rattle.transfer.specs.Whole.{transfer_result, transfer_of}
use Rattle.calls.specs.Calls.{Device}
use Rattle.calls.specs.Examples.{powered, ◌but◌, on_core, on_registers, on_bus, being_programmed, counter_at, mailbox_mode, host_message, bytes}

-- from a device, after its Start, the signals noted give the answers and leave the other device
pub record Example : Type 0 where
  pub from : Device
  pub noted : List Noted
  pub answers : List WireAnswer
  pub leaves : Device

abbrev pub Gives : Example → Type 0
Gives example =
    let d = example.from in
    transfer_of (wire_side d.tag) d.tag.uid d.memory example.noted ≡ transfer_result example.answers (wire_side example.leaves.tag) example.leaves.memory

unfoldable pub AllGive : List Example → Type 0
AllGive [] = Unit {0}
AllGive (example ∷ examples) = Gives example × AllGive examples

-- a write leg in user space, of one byte; and its answers
abbrev pub write : ℕ → ℕ → ℕ → List Noted
write high low x = NotedSend 0xA6 ∷ NotedSend high ∷ NotedSend low ∷ NotedSend x ∷ []

abbrev pub four_acks : List WireAnswer
four_acks = replicate 4 Ack

-- the bus started, MB_MODE 1
abbrev pub begins : Device
begins = powered but mailbox_mode 1 but on_bus (Started None)

abbrev pub dynamic_is : ℕ → Device → Device
dynamic_is n d = on_registers (with_dynamic (rf_mngt n)) d

-- what all leave: an idle bus, the counter, the page bytes
abbrev pub ended : ℕ → List ℕ → List ℕ → List ℕ → Device → Device
ended counter user mailbox page d = d but on_bus Idle but counter_at counter but bytes user mailbox page

-- 2003h written 01h, Start, 2003h written 02h, Stop: 02h is left
abbrev pub written_twice : Example
written_twice = record {
  from = begins;
  noted = write 0x20 0x03 0x01 ++ NotedStart ∷ write 0x20 0x03 0x02 ++ NotedStop ∷ [];
  answers = four_acks ++ Nothing ∷ four_acks ++ Nothing ∷ [];
  leaves = begins but dynamic_is 2 but ended 0x2004 [] [] (0x02 ∷ []);
}

-- the first leg's effect does not come again: MB_EN cleared, set, and a message put; it is left
abbrev pub cleared_once : Example
cleared_once = record {
  from = begins;
  noted = write 0x20 0x06 0x00 ++ NotedStart ∷ write 0x20 0x06 0x01 ++ NotedStart ∷ write 0x20 0x08 0x5A ++ NotedStop ∷ [];
  answers = four_acks ++ Nothing ∷ four_acks ++ Nothing ∷ four_acks ++ Nothing ∷ [];
  leaves = begins but host_message 1 true but ended 0x2009 [] (0x5A ∷ []) (0x5A ∷ []);
}

-- the next leg reads the new register, and memory is NoAcked with MB_EN set
abbrev pub reads_new : Example
reads_new = record {
  from = begins;
  noted = write 0x20 0x06 0x01 ++ NotedStart ∷ write 0x00 0x00 0x07 ++ NotedStart ∷ NotedSend 0xA6 ∷ NotedSend 0x20 ∷ NotedSend 0x06 ∷ NotedStart ∷ NotedSend 0xA7 ∷ NotedFetch true ∷ NotedStop ∷ [];
  answers = four_acks ++ Nothing ∷ Ack ∷ Ack ∷ Ack ∷ NoAck ∷ Nothing ∷ Ack ∷ Ack ∷ Ack ∷ Nothing ∷ Ack ∷ Byte 0x01 ∷ Nothing ∷ [];
  leaves = begins but on_core (with_mailbox (with_enabled true empty_mailbox)) but ended 0x2007 [] [] (0x01 ∷ []);
}

-- MB_EN cleared with a message in the mailbox: the next leg finds it empty, and memory is Acked and written
abbrev pub closes_mailbox : Example
closes_mailbox = record {
  from = begins but host_message 1 true but bytes [] (0x5A ∷ []) [];
  noted = write 0x20 0x06 0x00 ++ NotedStart ∷ NotedSend 0xA6 ∷ NotedSend 0x20 ∷ NotedSend 0x08 ∷ NotedStart ∷ NotedSend 0xA7 ∷ NotedFetch true ∷ NotedStart ∷ write 0x00 0x00 0x07 ++ NotedStop ∷ [];
  answers = four_acks ++ Nothing ∷ Ack ∷ Ack ∷ Ack ∷ Nothing ∷ Ack ∷ Byte 0xFF ∷ Nothing ∷ four_acks ++ Nothing ∷ [];
  leaves = begins but being_programmed but ended 0x0001 (0x07 ∷ []) (0x5A ∷ []) (0x07 ∷ []);
}

-- spoiled by a second byte, a leg has no effect at the Start either; nor has one in memory
abbrev pub dropped : Example
dropped = record {
  from = begins;
  noted = write 0x20 0x03 0x01 ++ NotedSend 0x01 ∷ NotedStart ∷ write 0x00 0x00 0x07 ++ NotedStart ∷ NotedStop ∷ [];
  answers = four_acks ++ NoAck ∷ Nothing ∷ four_acks ++ Nothing ∷ Nothing ∷ [];
  leaves = begins but ended 0x0001 [] [] (0x07 ∷ []);
}

abbrev pub repeated_starts : List Example
repeated_starts = written_twice ∷ cleared_once ∷ reads_new ∷ closes_mailbox ∷ dropped ∷ []

abbrev pub RepeatedStartsGive : Type 0
RepeatedStartsGive = AllGive repeated_starts
