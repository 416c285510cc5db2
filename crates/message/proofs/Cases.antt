-- What holds of the result of AB and AC, from what holds of every error and of the good reply. Assumes nothing.
use mathlib.Core.Bool.{◌||◌}
use mathlib.Core.List.{List, [], ◌∷◌}
use mathlib.Mathlib.Data.Bool.Basic.{or-eq-false-eq-eq-false-and-eq-false}
use Prim.Native.Nat.{ℕ, ◌+◌, ◌≤◌}
use lib.Dec.{ltb, eqb}
use borrow.Author.Tests.{ltb-false}
use Rattle.parts.specs.Bytes.{bytes_at}
use Rattle.parts.proofs.Picks.{pick_case}
use Rattle.mailbox.specs.Mailbox.{length_byte}
use Rattle.errors.specs.declared.RadioError.{RadioError}
use Rattle.errors.specs.declared.RadioError.TheVariants.{MailboxDisabled, PastMessage}
use Rattle.reply.specs.declared.RadioSide.{RadioSide}
use Rattle.reply.specs.Reply.{good}
use Rattle.reply.specs.Outcome.{CommandResult, command_result, fails, side_mailbox}
use Rattle.message.specs.Message.{length_of, asked, mailbox_after_read, read_message_of}

module _ (K : CommandResult → Type 0) (v : RadioSide) (m : List ℕ) (fail : (error : RadioError) → K (fails error v m)) where
  pub length_case : K (command_result (good (length_byte v.core.mailbox ∷ [])) v m) → K (length_of v m)
  unfolding length_of
  length_case done = pick_case K _ _ _ (λ _. fail MailboxDisabled) (λ _. done)

  -- what is read does not go past the message
  pub read_message_case : (pointer n : ℕ)
      → (pointer + asked v.core.mailbox pointer n ≤ v.core.mailbox.length
      → K (command_result (good (bytes_at m (512 + pointer) (asked v.core.mailbox pointer n))) (side_mailbox (mailbox_after_read v.core.mailbox pointer (asked v.core.mailbox pointer n)) v) m))
      → K (read_message_of v m pointer n)
  unfolding read_message_of
  read_message_case pointer n done =
      let mailbox = v.core.mailbox in
      let end = pointer + asked mailbox pointer n in
      pick_case K _ _ _ (λ _. fail MailboxDisabled)
      (λ _. pick_case K (ltb mailbox.length end || eqb mailbox.length 0) _ _ (λ _. fail PastMessage)
      (λ h. done (ltb-false mailbox.length end ((or-eq-false-eq-eq-false-and-eq-false _ _).0 h).0)))
