-- A request's fields, as the commands take them.
use Rattle.std.specs.Prelude.{List, ℕ}
use Rattle.keys.specs.declared.Uid.{Uid}
use Rattle.commands.specs.Table.{command_of}
use Rattle.frame.specs.Fields.{command, option_flag, param_place, own_uid, param}
use Rattle.request.specs.declared.RequestFields.{RequestFields}

-- a frame's fields: command, first two parameter bytes, option, whether its UID is the tag's, the place of its parameters
abbrev pub request_of : List ℕ → Uid → RequestFields
request_of f u =
    record { command = command_of (command f); first = param f 0; second = param f 1; option = option_flag f; own = own_uid f u; at = param_place f }
