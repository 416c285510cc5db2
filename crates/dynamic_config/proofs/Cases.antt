-- What holds of the result of AD and AE, from what holds of every error and of the good reply. Assumes nothing.
use mathlib.Core.Bool.{Bool}
use mathlib.Core.List.{List, [], ◌∷◌}
use Prim.Native.Nat.{ℕ}
use Rattle.parts.proofs.Picks.{pick_case}
use Rattle.mailbox.specs.Mailbox.{control_byte, controlled}
use Rattle.errors.specs.declared.RadioError.{RadioError}
use Rattle.errors.specs.declared.RadioError.TheVariants.{NoSuchDynamicRegister}
use Rattle.reply.specs.declared.RadioSide.{RadioSide}
use Rattle.reply.specs.Reply.{good}
use Rattle.reply.specs.Outcome.{CommandResult, command_result, fails, side_mailbox}
use Rattle.dynamic_config.specs.DynamicConfig.{read_dynamic_of, write_dynamic_of}

module _ (K : CommandResult → Type 0) (v : RadioSide) (m : List ℕ) (fail : (error : RadioError) → K (fails error v m)) where
  pub read_dynamic_case : (pointer : ℕ) → K (command_result (good (control_byte v.core.mailbox ∷ [])) v m)
      → K (read_dynamic_of v m pointer)
  unfolding read_dynamic_of
  read_dynamic_case pointer done = pick_case K _ _ _ (λ _. fail NoSuchDynamicRegister) (λ _. done)

  pub write_dynamic_case : (vcc : Bool) (pointer x : ℕ)
      → K (command_result (good []) (side_mailbox (controlled x v.core.registers.mode vcc v.core.mailbox) v) m)
      → K (write_dynamic_of v m vcc pointer x)
  unfolding write_dynamic_of
  write_dynamic_case vcc pointer x done = pick_case K _ _ _ (λ _. fail NoSuchDynamicRegister) (λ _. done)
