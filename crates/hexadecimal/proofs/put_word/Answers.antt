use native.Mathlib.Omega.{arith}
use mathlib.Core.Path.{◌∙◌}
use mathlib.Core.List.{[], ◌∷◌}
use Prim.Native.Nat.{◌/◌, ◌%◌}
use Rattle.hexadecimal.specs.Hex.{hex_text}
use Rattle.text.proofs.PlaceLaws.{behind}
use Rattle.hexadecimal.proofs.put_word.Goals as goal

pub returns : goal.returns
unfolding hex_text
returns c =
    let low = c.put_byte in
    let high = c.put_byte-low in
    let a = c.args in
    low.ensures
    ∙ behind a.text.now high.new.text (hex_text (a.n / 256 ∷ [])) (hex_text (a.n % 256 ∷ [])) a.at high.result (omega arith) high.ensures
