use native.Mathlib.Numerals.{add-one}
use Rattle.hexadecimal.specs.Hex.{hex_text}
use Rattle.hexadecimal.proofs.put_byte.Goals as goal

pub returns : goal.returns
unfolding hex_text
returns c =
    let at = c.args.at in
    rw (c.after.ensures, c.put_in.ensures, c.hex_digit-2.ensures, c.put.ensures, c.hex_digit.ensures, add-one at)
