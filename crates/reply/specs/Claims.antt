-- What is proved of a reply, beside the functions' contracts.
use Rattle.std.specs.Prelude.{◌≡◌, List, ◌++◌, ℕ, ◌+◌, ◌≤◌, length, drop}
use Rattle.crc.specs.Crc.{closed}
use Rattle.reply.specs.Reply.{body, buffer_of}

-- where it has room, the buffer holds the reply, then its CRC, and past it what it held
abbrev pub ReplyWhole : Type 0
ReplyWhole = (s o : List ℕ) → length s + 2 ≤ length o → buffer_of (body s) o ≡ closed s ++ drop (length s + 2) o
