-- What is proved of the rows: they are those of the commands.
use Rattle.std.specs.Prelude.{◌≡◌, Bool, List, ℕ, eqb, get_or, Some, Result, Ok, Err}
use Rattle.parts.specs.Pick.{pick}
use Rattle.register_types.specs.declared.RfMngt.{RfMngt}
use Rattle.keys.specs.declared.Uid.{Uid}
use Rattle.errors.specs.declared.RadioError.{RadioError}
use Rattle.errors.specs.Errors.{error_code}
use Rattle.reply.specs.declared.RadioSide.{RadioSide}
use Rattle.reply.specs.Reply.{ReplyBody, nothing, body}
use Rattle.commands.specs.declared.CommandRow.{CommandRow}
use Rattle.commands.specs.Table.{command_of}
use Rattle.frame.specs.Fields.{command}
use Rattle.judge.specs.Judge.{is_mute}
use Rattle.request.specs.Request.{request_of}
use Rattle.serve.specs.Commands.{serve_command}
use Rattle.row_rules.specs.RowErrors.{command_errors, first_applying}

-- what is said to a frame: nothing, or a reply with an error's code (0 where it is good)
pub data Said : Type 0 where
  hushed : Said
  spoke : ℕ → Said

-- "01h and the code"
unfoldable pub said_of : ReplyBody → Said
said_of nothing = hushed
said_of (body s) = spoke (pick (eqb (get_or s 0 0) 0x01) (get_or s 1 0) 0)

-- of the first error, if there is one
unfoldable pub found_said : Result (Unit {0}) RadioError → Said
found_said (Ok w) = spoke 0
found_said (Err error) = spoke (error_code error)

-- a command says the code of the first error of its row that applies; Stay Quiet and a Select of another UID are silent
abbrev pub RowsSay : Type 0
RowsSay = (dynamic : RfMngt) (busy : Bool) (v : RadioSide) (u : Uid) (vcc : Bool) (m f : List ℕ) (row : CommandRow) → command_of (command f) ≡ Some row
    → said_of (serve_command row.command (request_of f u) v vcc m f).reply ≡ pick (is_mute f u) hushed (found_said (first_applying dynamic busy v f (command_errors row.command)))
