use Rattle.std.proofs.Common.{refl, arith, length-take}
use Rattle.rack_script.proofs.Stored.{call_stored}
use Rattle.rack_script.specs.Script.{next_rack_line}
use Rattle.rack_script.proofs.call_line.Goals as goal

pub slice_bounds-step-end-2 : goal.slice_bounds-step-end-2
slice_bounds-step-end-2 c =
    let l = c.memory_length-end in
    omega (arith, l.ensures.upper_bound, c.requires, length-take l.result c.args.m.now)

pub returns : goal.returns
returns c =
    let p = c.put_rack_line-length in
    let t = c.step-o in
    let l = c.memory_length-end in
    let a = c.args in
    call_stored a.bench a.m.now a.reply.now a.text.now t.result.tags t.new.memory t.new.out p.new.text l.result (next_rack_line a.bench) p.result
    l.ensures.value t.ensures.tags_value refl a.code a.value a.frame.now t.result.answer t.result.answered t.ensures.memory_after p.ensures.value p.ensures.text_after
