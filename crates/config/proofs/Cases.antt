-- What holds of the result of A0 and A1, from what holds of every error and of the good reply. Assumes nothing.
use mathlib.Core.Path.{◌≡◌}
use mathlib.Core.Bool.{true, not}
use mathlib.Core.List.{List, [], ◌∷◌}
use Prim.Native.Nat.{ℕ}
use borrow.Author.Tests.{not-false}
use Rattle.parts.proofs.Picks.{pick_case}
use Rattle.registers.specs.Map.{register_at}
use Rattle.areas.specs.Ends.{end_allows}
use Rattle.errors.specs.declared.RadioError.{RadioError}
use Rattle.errors.specs.declared.RadioError.TheVariants.{NoSuchRegister, ConfigurationClosed, EndRefused}
use Rattle.reply.specs.declared.RadioSide.{RadioSide}
use Rattle.reply.specs.Reply.{good}
use Rattle.reply.specs.Outcome.{CommandResult, command_result, fails, with_radio_core}
use Rattle.config.specs.Config.{read_config_of, written_core, write_config_of}

module _ (K : CommandResult → Type 0) (v : RadioSide) (m : List ℕ) (pointer : ℕ) where
  pub read_config_case : ((error : RadioError) → K (fails error v m))
      → K (command_result (good (register_at v.core.registers pointer ∷ [])) v m)
      → K (read_config_of v m pointer)
  unfolding read_config_of
  read_config_case fail done = pick_case K _ _ _ (λ _. fail NoSuchRegister) (λ _. done)

  pub write_config_case : (x : ℕ) → ((error : RadioError) → K (fails error v m))
      → (end_allows v.core.registers.ends pointer x ≡ true → K (command_result (good []) (with_radio_core (written_core v.core pointer x) v) m))
      → K (write_config_of v m pointer x)
  unfolding write_config_of
  write_config_case x fail done =
      let allows = end_allows v.core.registers.ends pointer x in
      pick_case K _ _ _ (λ _. fail NoSuchRegister)
      (λ _. pick_case K _ _ _ (λ _. fail ConfigurationClosed)
      (λ _. pick_case K (not allows) _ _ (λ _. fail EndRefused) (λ h. done (not-false allows h))))
