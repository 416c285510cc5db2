-- Commands on the radio state: 02 Stay Quiet, 25 Select, 26 Reset.
use Rattle.std.specs.Prelude.{Bool, List, [], ℕ}
use Rattle.parts.specs.Pick.{pick}
use Rattle.air.specs.Radio.{selected, deselected, quieted, reset}
use Rattle.reply.specs.declared.RadioSide.{RadioSide}
use Rattle.reply.specs.Reply.{nothing, good}
use Rattle.reply.specs.Outcome.{CommandResult, command_result, with_air}

-- "02 Stay Quiet: Quiet; silent"
unfoldable pub stay_quiet_of : RadioSide → List ℕ → CommandResult
stay_quiet_of v m = command_result nothing (with_air (quieted v.air) v) m

-- "25 Select: own UID Selected; another UID: Selected becomes Ready, silent"
unfoldable pub select_uid_of : RadioSide → List ℕ → Bool → CommandResult
select_uid_of v m own =
    pick own (command_result (good []) (with_air (selected v.air) v) m)
    (command_result nothing (with_air (deselected v.air) v) m)

-- "26 Reset gives Ready"
unfoldable pub reset_to_ready_of : RadioSide → List ℕ → CommandResult
reset_to_ready_of v m = command_result (good []) (with_air (reset v.air) v) m
