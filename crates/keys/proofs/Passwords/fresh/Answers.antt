use mathlib.Core.Path.{refl}
use Rattle.keys.specs.Keys.{fresh_passwords}
use Rattle.keys.proofs.Passwords.fresh.Goals as goal

pub returns : goal.returns
unfolding fresh_passwords
returns c = refl
