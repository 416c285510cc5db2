use Rattle.radio.specs.Radio.{next_slot_of}
use Rattle.radio.proofs.end_of_frame.Goals as goal

pub returns : goal.returns
unfolding next_slot_of
returns c =
    rw (← c.counted_dynamic-d.ensures, ← c.is_open_transfer-open.ensures) c.end_of_frame.ensures
