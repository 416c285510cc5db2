use lib.Seq.{sets}
use Rattle.state.proofs.Places.{bytes_at_whole}
use mathlib.Core.Path.{◌≡◌, ap, ◌∙◌}
use lib.ListN.{length}
use native.Mathlib.Omega.{arith}
use Rattle.state_encode.proofs.put_eight.Goals as goal

pub returns : goal.returns
returns c =
    let a = c.args in
    let e : length a.bytes ≡ 8 = omega arith in
    record { s_after = c.put_bytes.ensures ∙ ap (sets a.s.now a.at) (bytes_at_whole a.bytes 8 e); bytes_len = e }
