use Rattle.std.proofs.Common.{refl, arith, length-take}
use Rattle.rack_script.proofs.Stored.{search_stored}
use Rattle.rack_script.specs.Script.{next_rack_line}
use Rattle.rack_script.proofs.search_line.Goals as goal

pub slice_bounds-search-end-2 : goal.slice_bounds-search-end-2
slice_bounds-search-end-2 c =
    let l = c.memory_length-end in
    omega (arith, l.ensures.upper_bound, c.requires, length-take l.result c.args.m.now)

pub returns : goal.returns
returns c =
    let p = c.put_search_line-length in
    let t = c.search-o in
    let l = c.memory_length-end in
    let a = c.args in
    search_stored a.bench a.m.now a.reply.now a.text.now t.result.tags t.new.memory t.new.out p.new.text l.result (next_rack_line a.bench) p.result
    l.ensures.value t.ensures.tags_value refl a.frame.now t.result.answer t.ensures.out_after p.ensures.value p.ensures.text_after
