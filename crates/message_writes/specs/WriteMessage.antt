-- AA Write Message.
use Rattle.std.specs.Prelude.{Bool, not, ◌&&◌, List, [], ℕ, ◌+◌}
use Rattle.std.proofs.lemmas.List.Edits.{sets}
use Rattle.parts.specs.Pick.{pick}
use Rattle.parts.specs.Bytes.{bytes_at}
use Rattle.mailbox.specs.declared.Mailbox.{Mailbox}
use Rattle.tag.specs.Layout.{mailbox_place}
use Rattle.mailbox.specs.Mailbox.{radio_put}
use Rattle.errors.specs.declared.RadioError.TheVariants.{MailboxUnavailable}
use Rattle.reply.specs.declared.RadioSide.{RadioSide}
use Rattle.reply.specs.Reply.{good}
use Rattle.reply.specs.Outcome.{CommandResult, command_result, fails, side_mailbox}

-- "MB_EN and no PUT"
unfoldable pub takes_message : Mailbox → Bool
takes_message mailbox = mailbox.enabled && not mailbox.host.put && not mailbox.rf.put

-- "AA Write Message: length-1, data; 0Fh unless MB_EN and no PUT"; more is length-1, the data stand at place `at` of the frame
unfoldable pub write_message_of : RadioSide → List ℕ → ℕ → List ℕ → ℕ → CommandResult
write_message_of v m more frame at =
    pick (not (takes_message v.core.mailbox)) (fails MailboxUnavailable v m)
    (command_result (good []) (side_mailbox (radio_put (more + 1) v.core.mailbox) v) (sets m mailbox_place (bytes_at frame at (more + 1))))
