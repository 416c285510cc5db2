-- What holds of the result of AA, from what holds of every error and of the good reply. Assumes nothing.
use mathlib.Core.Path.{◌≡◌}
use mathlib.Core.Bool.{true, not}
use mathlib.Core.List.{List, []}
use Prim.Native.Nat.{ℕ, ◌+◌}
use lib.Seq.{sets}
use borrow.Author.Tests.{not-false}
use Rattle.parts.specs.Bytes.{bytes_at}
use Rattle.parts.proofs.Picks.{pick_case}
use Rattle.mailbox.specs.Mailbox.{radio_put}
use Rattle.errors.specs.declared.RadioError.{RadioError}
use Rattle.errors.specs.declared.RadioError.TheVariants.{MailboxUnavailable}
use Rattle.reply.specs.declared.RadioSide.{RadioSide}
use Rattle.reply.specs.Reply.{good}
use Rattle.reply.specs.Outcome.{CommandResult, command_result, fails, side_mailbox}
use Rattle.message_writes.specs.WriteMessage.{takes_message, write_message_of}

pub write_message_case : (K : CommandResult → Type 0) (v : RadioSide) (m : List ℕ) (more : ℕ) (f : List ℕ) (at : ℕ)
    → ((error : RadioError) → K (fails error v m))
    → (takes_message v.core.mailbox ≡ true → K (command_result (good []) (side_mailbox (radio_put (more + 1) v.core.mailbox) v) (sets m 512 (bytes_at f at (more + 1)))))
    → K (write_message_of v m more f at)
unfolding write_message_of
write_message_case K v m more f at fail done =
    let takes = takes_message v.core.mailbox in
    pick_case K (not takes) _ _ (λ _. fail MailboxUnavailable) (λ h. done (not-false takes h))
