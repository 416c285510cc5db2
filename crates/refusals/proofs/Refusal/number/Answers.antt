use Rattle.refusals.specs.Refusals.{number}
use Rattle.refusals.proofs.Refusal.number.Goals as goal

pub returns-in-MemoryLength : goal.returns-in-MemoryLength
unfolding number
returns-in-MemoryLength c = rw c.in-MemoryLength.is

pub returns-in-ReplyShort : goal.returns-in-ReplyShort
unfolding number
returns-in-ReplyShort c = rw c.in-ReplyShort.is

pub returns-in-SignalUnknown : goal.returns-in-SignalUnknown
unfolding number
returns-in-SignalUnknown c = rw c.in-SignalUnknown.is

pub returns-in-OutOfRange : goal.returns-in-OutOfRange
unfolding number
returns-in-OutOfRange c = rw c.in-OutOfRange.is

pub returns-in-RackSize : goal.returns-in-RackSize
unfolding number
returns-in-RackSize c = rw c.in-RackSize.is

pub returns-in-NoSuchTag : goal.returns-in-NoSuchTag
unfolding number
returns-in-NoSuchTag c = rw c.in-NoSuchTag.is

pub returns-in-EqualUids : goal.returns-in-EqualUids
unfolding number
returns-in-EqualUids c = rw c.in-EqualUids.is

pub returns-in-StateLength : goal.returns-in-StateLength
unfolding number
returns-in-StateLength c = rw c.in-StateLength.is

pub returns-in-UidLength : goal.returns-in-UidLength
unfolding number
returns-in-UidLength c = rw c.in-UidLength.is
