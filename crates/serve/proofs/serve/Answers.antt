use Rattle.reply.proofs.Finish.{silent}
use Rattle.serve.specs.Commands.{serve_code, serve_of}
use Rattle.serve.proofs.Rows.{known_row}
use Rattle.serve.proofs.serve.Goals as goal

pub returns-in-None : goal.returns-in-None
unfolding serve_code serve_of
returns-in-None c =
    let a = c.args in
    silent (serve_of a.q a.v a.vcc a.m.now a.f.now) (rw c.in-None.is)

pub returns-in-Some : goal.returns-in-Some
returns-in-Some c =
    let a = c.args in
    rw (known_row a.q a.v a.vcc a.m.now a.f.now _ c.in-Some.is) c.serve_command.ensures
