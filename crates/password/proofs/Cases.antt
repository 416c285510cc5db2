-- What holds of the result of B3 and B1, from what holds of their errors and of their good replies. Assumes nothing.
use mathlib.Core.Path.{◌≡◌}
use mathlib.Core.Bool.{true, not}
use mathlib.Core.List.{List, []}
use Prim.Native.Nat.{ℕ, ◌+◌, ◌≤◌, ◌<◌}
use lib.Dec.{ltb}
use borrow.Author.Tests.{ltb-true, ltb-false}
use Rattle.parts.proofs.Picks.{pick_case}
use Rattle.air.specs.Parts.{with_radio_session}
use Rattle.keys.specs.Keys.{password_at, same_password, radio_password, with_radio_password}
use Rattle.errors.specs.declared.RadioError.{RadioError}
use Rattle.errors.specs.declared.RadioError.TheVariants.{NoSuchPassword, WrongPassword, PasswordSessionClosed}
use Rattle.reply.specs.declared.RadioSide.{RadioSide}
use Rattle.reply.specs.Reply.{good, fault}
use Rattle.reply.specs.Outcome.{CommandResult, command_result, fails, with_air, side_passwords}
use Rattle.password.specs.Password.{present_of, write_password_of}

module _ (K : CommandResult → Type 0) (v : RadioSide) (m : List ℕ) (n : ℕ) (f : List ℕ) (at : ℕ) where
  -- without a password of that number the session is kept; wrong bytes close it
  pub present_case : (3 < n → (error : RadioError) → K (fails error v m))
      → (n ≤ 3 → not (same_password (radio_password v.core.passwords n) (password_at f at)) ≡ true → (error : RadioError) → K (command_result (fault error) (with_air (with_radio_session 0 v.air) v) m))
      → (n ≤ 3 → K (command_result (good []) (with_air (with_radio_session (n + 1) v.air) v) m))
      → K (present_of v m n f at)
  unfolding present_of
  present_case none wrong right =
      pick_case K (ltb 3 n) _ _ (λ h. none (ltb-true 3 n h) NoSuchPassword)
      (λ h. pick_case K _ _ _ (λ k. wrong (ltb-false 3 n h) k WrongPassword) (λ k. right (ltb-false 3 n h)))

  pub write_password_case : ((error : RadioError) → K (fails error v m))
      → K (command_result (good []) (side_passwords (with_radio_password n (password_at f at) v.core.passwords) v) m)
      → K (write_password_of v m n f at)
  unfolding write_password_of
  write_password_case fail done =
      pick_case K _ _ _ (λ _. fail NoSuchPassword) (λ _. pick_case K _ _ _ (λ _. fail PasswordSessionClosed) (λ _. done))
