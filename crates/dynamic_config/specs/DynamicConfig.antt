-- Commands on the dynamic registers: AD, AE Dynamic.
use Rattle.std.specs.Prelude.{Bool, not, List, [], ◌∷◌, ℕ, eqb}
use Rattle.parts.specs.Pick.{pick}
use Rattle.dynamic.specs.Dynamic.{mb_ctrl_pointer}
use Rattle.mailbox.specs.Mailbox.{control_byte, controlled}
use Rattle.errors.specs.declared.RadioError.TheVariants.{NoSuchDynamicRegister}
use Rattle.reply.specs.declared.RadioSide.{RadioSide}
use Rattle.reply.specs.Reply.{good}
use Rattle.reply.specs.Outcome.{CommandResult, command_result, fails, side_mailbox}

-- "AD, AE Dynamic: pointer 0D, else 10h; as MB_CTRL_Dyn"
unfoldable pub read_dynamic_of : RadioSide → List ℕ → ℕ → CommandResult
read_dynamic_of v m pointer =
    pick (not (eqb pointer mb_ctrl_pointer)) (fails NoSuchDynamicRegister v m)
    (command_result (good (control_byte v.core.mailbox ∷ [])) v m)

unfoldable pub write_dynamic_of : RadioSide → List ℕ → Bool → ℕ → ℕ → CommandResult
write_dynamic_of v m vcc pointer x =
    pick (not (eqb pointer mb_ctrl_pointer)) (fails NoSuchDynamicRegister v m)
    (command_result (good []) (side_mailbox (controlled x v.core.registers.mode vcc v.core.mailbox) v) m)
