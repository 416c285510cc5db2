-- What each command says and leaves. They are defined where their crates are: blocks, block_status, block_writes, config, dynamic_config, message_writes, message, password, radio_state.
use Rattle.std.specs.Prelude.{Bool, List, ℕ, ◌+◌, Option, None, Some}
use Rattle.reply.specs.declared.RadioSide.{RadioSide}
use Rattle.reply.specs.Reply.{nothing}
use Rattle.reply.specs.Outcome.{CommandResult, command_result}
use Rattle.commands.specs.declared.Command.{Command}
use Rattle.commands.specs.declared.Command.TheVariants.{StayQuiet, Select, ResetToReady, ReadSingleBlock, ReadMultipleBlocks, WriteSingleBlock, WriteMultipleBlocks, LockBlock, GetMultipleBlockSecurityStatus, ReadConfiguration, WriteConfiguration, ReadDynamicConfiguration, WriteDynamicConfiguration, WriteMessage, ReadMessageLength, ReadMessage, PresentPassword, WritePassword}
use Rattle.commands.specs.declared.CommandRow.{CommandRow}
use Rattle.blocks.specs.Blocks.{read_of}
use Rattle.block_status.specs.Status.{status_reply}
use Rattle.block_writes.specs.Writes.{write_of, lock_of}
use Rattle.config.specs.Config.{read_config_of, write_config_of}
use Rattle.dynamic_config.specs.DynamicConfig.{read_dynamic_of, write_dynamic_of}
use Rattle.message_writes.specs.WriteMessage.{write_message_of}
use Rattle.message.specs.Message.{length_of, read_message_of}
use Rattle.password.specs.Password.{present_of, write_password_of}
use Rattle.radio_state.specs.RadioState.{stay_quiet_of, select_uid_of, reset_to_ready_of}
use Rattle.request.specs.declared.RequestFields.{RequestFields}

-- what each command says and leaves; f is the frame, for data that stand in it
unfoldable pub serve_command : Command → RequestFields → RadioSide → Bool → List ℕ → List ℕ → CommandResult
serve_command StayQuiet q v vcc m f = stay_quiet_of v m
serve_command Select q v vcc m f = select_uid_of v m q.own
serve_command ResetToReady q v vcc m f = reset_to_ready_of v m
-- block; first, count-1
serve_command ReadSingleBlock q v vcc m f = read_of v m q.option q.first 0
serve_command ReadMultipleBlocks q v vcc m f = read_of v m q.option q.first q.second
-- block, data; first, count-1, data
serve_command WriteSingleBlock q v vcc m f = write_of v m q.first 0 f (q.at + 1)
serve_command WriteMultipleBlocks q v vcc m f = write_of v m q.first q.second f (q.at + 2)
serve_command LockBlock q v vcc m f = lock_of v m q.first
serve_command GetMultipleBlockSecurityStatus q v vcc m f = status_reply v m q.first q.second
-- pointer; pointer, value
serve_command ReadConfiguration q v vcc m f = read_config_of v m q.first
serve_command WriteConfiguration q v vcc m f = write_config_of v m q.first q.second
serve_command ReadDynamicConfiguration q v vcc m f = read_dynamic_of v m q.first
serve_command WriteDynamicConfiguration q v vcc m f = write_dynamic_of v m vcc q.first q.second
-- length-1, data
serve_command WriteMessage q v vcc m f = write_message_of v m q.first f (q.at + 1)
serve_command ReadMessageLength q v vcc m f = length_of v m
serve_command ReadMessage q v vcc m f = read_message_of v m q.first q.second
-- n, 8 bytes
serve_command PresentPassword q v vcc m f = present_of v m q.first f (q.at + 1)
serve_command WritePassword q v vcc m f = write_password_of v m q.first f (q.at + 1)

unfoldable pub serve_code : Option CommandRow → RequestFields → RadioSide → Bool → List ℕ → List ℕ → CommandResult
serve_code None q v vcc m f = command_result nothing v m
serve_code (Some row) q v vcc m f = serve_command row.command q v vcc m f

-- a request served; no unknown command is one
unfoldable pub serve_of : RequestFields → RadioSide → Bool → List ℕ → List ℕ → CommandResult
serve_of q v vcc m f = serve_code q.command q v vcc m f
