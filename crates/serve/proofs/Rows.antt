-- A known command's row in `serve_of`. Assumes nothing.
use mathlib.Core.Path.{◌≡◌, ap}
use mathlib.Core.Bool.{Bool}
use mathlib.Core.List.{List}
use Prim.Native.Nat.{ℕ}
use Rattle.std.specs.Prelude.{Option, Some}
use Rattle.reply.specs.declared.RadioSide.{RadioSide}
use Rattle.commands.specs.declared.CommandRow.{CommandRow}
use Rattle.request.specs.declared.RequestFields.{RequestFields}
use Rattle.serve.specs.Commands.{serve_command, serve_code, serve_of}

pub known_row : (q : RequestFields) (v : RadioSide) (vcc : Bool) (m f : List ℕ) (r : CommandRow) → q.command ≡ Some r
    → serve_of q v vcc m f ≡ serve_command r.command q v vcc m f
unfolding serve_code serve_of
known_row q v vcc m f r h = ap (λ (c : Option CommandRow). serve_code c q v vcc m f) h
