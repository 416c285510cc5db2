use Rattle.rack_script.specs.Script.{none_text}
use Rattle.rack_script.proofs.Stored.{numbered_stored}
use Rattle.std.proofs.Common.{refl, ℕ, List}
use Rattle.parts.specs.Pick.{pick}
use Rattle.rack_model.specs.Passed.{numbers_from}
use Rattle.rack_printing.specs.Passed.{answer_text}
use Rattle.rack_printing.specs.Text.{rack_text, said_text, numbers_text}
use Rattle.rack_script.specs.Script.{next_rack_line}
use Rattle.rack_script.proofs.none_line.Goals as goal

pub returns : goal.returns
unfolding rack_text said_text answer_text numbers_text numbers_from pick
returns c =
    let p = c.put_rack_line-length in
    let a = c.args in
    λ (m : List ℕ). numbered_stored a.bench m a.reply.now none_text a.text.now p.new.text (next_rack_line a.bench) p.result refl p.ensures.value p.ensures.text_after
