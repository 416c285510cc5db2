use Rattle.rule_list.proofs.Laws.{numbered_any}
use Rattle.silence_rules.specs.Silence.{silence_holds, silence_number, request_silences, first_silence, is_silent}
use Rattle.silence_rules.proofs.Numbers.{numbered}
use Rattle.silence.proofs.is_silent.Goals as goal

pub returns : goal.returns
unfolding first_silence is_silent
returns c =
    let a = c.args in
    rw (numbered_any (silence_holds a.f.now a.a a.u a.dynamic) silence_number numbered request_silences, c.first_silence.ensures)
