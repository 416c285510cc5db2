use Rattle.reply.specs.Reply.{answer_of, buffer_of}
use mathlib.Core.Path.{◌≡◌}
use Rattle.radio.specs.Radio.{verdict_result, verdict_of}
use Rattle.radio.proofs.request.Goals as goal

pub returns-in-Silence : goal.returns-in-Silence
unfolding verdict_result answer_of buffer_of
returns-in-Silence c =
    let verdict_here : let a = c.args in
    c.judge.result ≡ verdict_of a.v a.u a.transfer a.programming a.f.now = rw (← c.counted_dynamic-d.ensures, ← c.is_open_transfer-open.ensures) c.judge.ensures in
    rw (← verdict_here, c.in-Silence.is)

pub returns-in-Error : goal.returns-in-Error
unfolding verdict_result
returns-in-Error c =
    let verdict_here : let a = c.args in
    c.judge.result ≡ verdict_of a.v a.u a.transfer a.programming a.f.now = rw (← c.counted_dynamic-d.ensures, ← c.is_open_transfer-open.ensures) c.judge.ensures in
    rw (← verdict_here, c.in-Error.is) (c.fail.ensures c.args.m.now)

pub returns-in-Request : goal.returns-in-Request
unfolding verdict_result
returns-in-Request c =
    let verdict_here : let a = c.args in
    c.judge.result ≡ verdict_of a.v a.u a.transfer a.programming a.f.now = rw (← c.counted_dynamic-d.ensures, ← c.is_open_transfer-open.ensures) c.judge.ensures in
    rw (← verdict_here, c.in-Request.is, ← c.fields.ensures) c.serve.ensures
