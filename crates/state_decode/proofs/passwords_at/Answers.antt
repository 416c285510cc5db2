use Rattle.state.specs.Layout.{passwords_at}
use native.Mathlib.Nat.{add-zero}
use Rattle.state_decode.proofs.passwords_at.Goals as goal

pub returns : goal.returns
unfolding passwords_at
returns c =
    rw (add-zero _, c.at-5.ensures, c.at-4.ensures, c.at-3.ensures, c.at-2.ensures, c.at.ensures)
