use Rattle.rack_printing.specs.Passed.{bad_text}
use Rattle.rack_script.proofs.Stored.{numbered_stored}
use Rattle.std.proofs.Common.{refl, ℕ, List}
use Rattle.rack_script.specs.Script.{next_rack_line}
use Rattle.rack_script.proofs.bad_line.Goals as goal

pub returns : goal.returns
returns c =
    let p = c.put_bad_line-length in
    let a = c.args in
    λ (m o : List ℕ). numbered_stored a.bench m o bad_text a.text.now p.new.text (next_rack_line a.bench) p.result refl p.ensures.value p.ensures.text_after
