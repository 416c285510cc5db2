-- Commands that read the mailbox: AB Length, AC Read.
use Rattle.std.specs.Prelude.{not, ◌&&◌, ◌||◌, List, [], ◌∷◌, ℕ, ◌+◌, ltb, eqb}
use Rattle.parts.specs.Pick.{pick}
use Rattle.parts.specs.Bytes.{bytes_at}
use Rattle.mailbox.specs.declared.Mailbox.{Mailbox}
use Rattle.tag.specs.Layout.{mailbox_place}
use Rattle.mailbox.specs.Mailbox.{length_byte, radio_read}
use Rattle.errors.specs.declared.RadioError.TheVariants.{MailboxDisabled, PastMessage}
use Rattle.reply.specs.declared.RadioSide.{RadioSide}
use Rattle.reply.specs.Reply.{good}
use Rattle.reply.specs.Outcome.{CommandResult, command_result, fails, side_mailbox}

-- "AB Length: 0Fh if MB_EN is 0; MB_LEN_Dyn"
unfoldable pub length_of : RadioSide → List ℕ → CommandResult
length_of v m =
    pick (not v.core.mailbox.enabled) (fails MailboxDisabled v m)
    (command_result (good (length_byte v.core.mailbox ∷ [])) v m)

-- "pointer p, n; 0,0 is the whole, else n+1 bytes"
unfoldable pub asked : Mailbox → ℕ → ℕ → ℕ
asked mailbox pointer n = pick (eqb pointer 0 && eqb n 0) mailbox.length (n + 1)

-- "a till's reading of the last byte of a host message clears HOST_PUT"
unfoldable pub mailbox_after_read : Mailbox → ℕ → ℕ → Mailbox
mailbox_after_read mailbox pointer count = pick (mailbox.host.current && eqb (pointer + count) mailbox.length) (radio_read mailbox) mailbox

-- "AC Read: 0Fh if MB_EN is 0; .. 0Fh past or empty"
unfoldable pub read_message_of : RadioSide → List ℕ → ℕ → ℕ → CommandResult
read_message_of v m pointer n =
    let mailbox = v.core.mailbox in
    pick (not mailbox.enabled) (fails MailboxDisabled v m)
    (pick (ltb mailbox.length (pointer + asked mailbox pointer n) || eqb mailbox.length 0) (fails PastMessage v m)
    (command_result (good (bytes_at m (mailbox_place + pointer) (asked mailbox pointer n))) (side_mailbox (mailbox_after_read mailbox pointer (asked mailbox pointer n)) v) m))
