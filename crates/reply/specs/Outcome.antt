-- The outcome of a request: the reply, what it leaves of the tag, and the lent memory.
use Rattle.std.specs.Prelude.{List, ℕ, Option}
use Rattle.registers.specs.declared.Registers.{Registers}
use Rattle.air.specs.declared.Air.{Air}
use Rattle.mailbox.specs.declared.Mailbox.{Mailbox}
use Rattle.keys.specs.declared.Passwords.{Passwords}
use Rattle.tag.specs.declared.Core.{Core}
use Rattle.tag.specs.declared.Tag.{Tag}
use Rattle.tag.specs.Parts.{with_registers, with_mailbox, with_passwords, with_tag_air, with_tag_core}
use Rattle.errors.specs.declared.RadioError.{RadioError}
use Rattle.reply.specs.declared.RadioSide.{RadioSide}
use Rattle.reply.specs.declared.RadioOutcome.{RadioOutcome}
use Rattle.reply.specs.Reply.{ReplyBody, fault, answer_of, buffer_of}

-- what a command says and leaves
pub record CommandResult : Type 0 where
  pub reply : ReplyBody
  pub side : RadioSide
  pub memory : List ℕ

abbrev pub command_result : ReplyBody → RadioSide → List ℕ → CommandResult
command_result reply v m = record { reply = reply; side = v; memory = m }

-- "01h and the code (nothing changed ..)"
abbrev pub fails : RadioError → RadioSide → List ℕ → CommandResult
fails error v m = command_result (fault error) v m

-- what a function over both lent buffers leaves
pub record RadioResult : Type 0 where
  pub answer : Option ℕ
  pub side : RadioSide
  pub memory : List ℕ
  pub buffer : List ℕ

abbrev pub radio_result : RadioOutcome → List ℕ → List ℕ → RadioResult
radio_result outcome m o = record { answer = outcome.answer; side = outcome.side; memory = m; buffer = o }

-- what a command told, in the reply buffer o
abbrev pub finish : CommandResult → List ℕ → RadioResult
finish result o = record { answer = answer_of result.reply; side = result.side; memory = result.memory; buffer = buffer_of result.reply o }

-- ---- one part of the side replaced
abbrev pub with_air : Air → RadioSide → RadioSide
with_air a v = record { air = a; core = v.core }

abbrev pub with_radio_core : Core → RadioSide → RadioSide
with_radio_core c v = record { air = v.air; core = c }

abbrev pub side_registers : Registers → RadioSide → RadioSide
side_registers r v = with_radio_core (with_registers r v.core) v

abbrev pub side_mailbox : Mailbox → RadioSide → RadioSide
side_mailbox mailbox v = with_radio_core (with_mailbox mailbox v.core) v

abbrev pub side_passwords : Passwords → RadioSide → RadioSide
side_passwords p v = with_radio_core (with_passwords p v.core) v

-- ---- what a request may change of the tag
abbrev pub radio_side : Tag → RadioSide
radio_side t = record { air = t.air; core = t.core }

abbrev pub with_radio : RadioSide → Tag → Tag
with_radio v t = with_tag_air v.air (with_tag_core v.core t)
