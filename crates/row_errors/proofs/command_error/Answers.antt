use Rattle.rule_list.specs.RuleList.{first_says}
use Rattle.row_rules.specs.RowErrors.{command_errors, first_applying}
use Rattle.row_errors.proofs.command_error.Goals as goal

pub returns-in-StayQuiet : goal.returns-in-StayQuiet
unfolding first_says first_applying command_errors
returns-in-StayQuiet c dynamic busy = rw c.in-StayQuiet.is

pub returns-in-Select : goal.returns-in-Select
unfolding first_says first_applying command_errors
returns-in-Select c dynamic busy = rw c.in-Select.is

pub returns-in-ResetToReady : goal.returns-in-ResetToReady
unfolding first_says first_applying command_errors
returns-in-ResetToReady c dynamic busy = rw c.in-ResetToReady.is

pub returns-in-ReadSingleBlock : goal.returns-in-ReadSingleBlock
unfolding command_errors
returns-in-ReadSingleBlock c dynamic busy = rw c.in-ReadSingleBlock.is (c.read_error.ensures dynamic busy)

pub returns-in-ReadMultipleBlocks : goal.returns-in-ReadMultipleBlocks
unfolding command_errors
returns-in-ReadMultipleBlocks c dynamic busy = rw c.in-ReadMultipleBlocks.is (c.read_error-in-ReadMultipleBlocks.ensures dynamic busy)

pub returns-in-WriteSingleBlock : goal.returns-in-WriteSingleBlock
unfolding command_errors
returns-in-WriteSingleBlock c dynamic busy = rw c.in-WriteSingleBlock.is (c.write_error.ensures dynamic busy)

pub returns-in-WriteMultipleBlocks : goal.returns-in-WriteMultipleBlocks
unfolding command_errors
returns-in-WriteMultipleBlocks c dynamic busy = rw c.in-WriteMultipleBlocks.is (c.write_error-in-WriteMultipleBlocks.ensures dynamic busy)

pub returns-in-LockBlock : goal.returns-in-LockBlock
unfolding command_errors
returns-in-LockBlock c dynamic busy = rw c.in-LockBlock.is (c.lock_error.ensures dynamic busy)

pub returns-in-GetMultipleBlockSecurityStatus : goal.returns-in-GetMultipleBlockSecurityStatus
unfolding command_errors
returns-in-GetMultipleBlockSecurityStatus c dynamic busy = rw c.in-GetMultipleBlockSecurityStatus.is (c.status_error.ensures dynamic busy)

pub returns-in-ReadConfiguration : goal.returns-in-ReadConfiguration
unfolding command_errors
returns-in-ReadConfiguration c dynamic busy = rw c.in-ReadConfiguration.is (c.read_config_error.ensures dynamic busy)

pub returns-in-WriteConfiguration : goal.returns-in-WriteConfiguration
unfolding command_errors
returns-in-WriteConfiguration c dynamic busy = rw c.in-WriteConfiguration.is (c.write_config_error.ensures dynamic busy)

pub returns-in-ReadDynamicConfiguration : goal.returns-in-ReadDynamicConfiguration
unfolding command_errors
returns-in-ReadDynamicConfiguration c dynamic busy = rw c.in-ReadDynamicConfiguration.is (c.dynamic_error.ensures dynamic busy)

pub returns-in-WriteDynamicConfiguration : goal.returns-in-WriteDynamicConfiguration
unfolding command_errors
returns-in-WriteDynamicConfiguration c dynamic busy = rw c.in-WriteDynamicConfiguration.is (c.dynamic_error-in-WriteDynamicConfiguration.ensures dynamic busy)

pub returns-in-WriteMessage : goal.returns-in-WriteMessage
unfolding command_errors
returns-in-WriteMessage c dynamic busy = rw c.in-WriteMessage.is (c.write_message_error.ensures dynamic busy)

pub returns-in-ReadMessageLength : goal.returns-in-ReadMessageLength
unfolding command_errors
returns-in-ReadMessageLength c dynamic busy = rw c.in-ReadMessageLength.is (c.length_error.ensures dynamic busy)

pub returns-in-ReadMessage : goal.returns-in-ReadMessage
unfolding command_errors
returns-in-ReadMessage c dynamic busy = rw c.in-ReadMessage.is (c.read_message_error.ensures dynamic busy)

pub returns-in-PresentPassword : goal.returns-in-PresentPassword
unfolding command_errors
returns-in-PresentPassword c dynamic busy = rw c.in-PresentPassword.is (c.present_error.ensures dynamic busy)

pub returns-in-WritePassword : goal.returns-in-WritePassword
unfolding command_errors
returns-in-WritePassword c dynamic busy = rw c.in-WritePassword.is (c.write_password_error.ensures dynamic busy)
