use mathlib.Core.Path.{◌≡◌, ap, ◌∙◌}
use native.Mathlib.Omega.{arith}
use lib.ListN.{length-take}
use Rattle.script.specs.Bench.{LineResult, LineBuffers, bench_call, bad_result, bench_of, line_buffers, put_line}
use Rattle.script.specs.Lines.{bench_state}
use Rattle.script.proofs.Fits.{text_fits}
use Rattle.script.proofs.line.Goals as goal

pub returns-in-None : goal.returns-in-None
returns-in-None c =
    let a = c.args in
    let o = c.bad_line in
    let e : line_buffers o.result.bench o.result.length a.m.now a.reply.now o.new.text ≡ put_line (bench_of a.named a.bench a.m.now a.reply.now a.s.now) a.text.now =
    o.ensures a.m.now ∙ ap (λ (x : LineResult). put_line x a.text.now) (c.in-None.ensures.bad a.named a.bench a.m.now a.reply.now) in
    record { text_after = e; length_le_longest_text = omega (arith, ap (λ (x : LineBuffers). x.length) e, text_fits a.named (bench_state a.bench a.m.now a.reply.now) a.s.now); frame_after = c.arguments_of.ensures.frame_after }

pub slice_bounds-call-end : goal.slice_bounds-call-end
slice_bounds-call-end c =
    let n = c.in-Some.c.length in
    omega (arith, c.in-Some.ensures.length_in_bounds, length-take n c.arguments_of.new.frame)

pub returns-in-Some : goal.returns-in-Some
returns-in-Some c =
    let a = c.args in
    let o = c.call in
    let e : line_buffers o.result.bench o.result.length o.new.m o.new.reply o.new.text ≡ put_line (bench_of a.named a.bench a.m.now a.reply.now a.s.now) a.text.now =
    o.ensures ∙ ap (λ (x : LineResult). put_line x a.text.now) (c.in-Some.ensures.good a.named a.bench a.m.now a.reply.now) in
    record { text_after = e; length_le_longest_text = omega (arith, ap (λ (x : LineBuffers). x.length) e, text_fits a.named (bench_state a.bench a.m.now a.reply.now) a.s.now); frame_after = c.arguments_of.ensures.frame_after }
