use mathlib.Core.Path.{◌≡◌, sym, ap, ◌∙◌}
use mathlib.Core.List.{List}
use native.Mathlib.Omega.{arith}
use lib.ListN.{length, take}
use Rattle.parts.proofs.Below.{are_below}
use Rattle.tag.specs.declared.Tag.{Tag}
use Rattle.refusals.specs.Call.{handed_in}
use Rattle.rack.specs.Rack.{rack_of, rack_call}
use Rattle.rack.specs.Step.{rack_entry}
use Rattle.capi_rack.proofs.Calls.{refused_step, stepped}
use Rattle.capi_rack.proofs.st25dv_rack_step.Goals as goal

pub returns-in-Err : goal.returns-in-Err
returns-in-Err c =
    let a = c.args in
    let call = rack_call (handed_in a.out.now a.code a.value a.frame.now) a.to in
    refused_step a.number a.s.now a.m.now call _ c.number.result (sym c.rack_bytes_refusal.ensures ∙ c.in-Err.is) c.number.ensures

pub returns-in-Ok : goal.returns-in-Ok
returns-in-Ok c =
    let sixteen_here : length c.step-o.result.tags ≡ 16 = c.step-o.type_inv.1.1.1.1.0.1.0.1 in
    let a = c.args in
    let o = c.step-o in
    let call = rack_call (handed_in a.out.now a.code a.value a.frame.now) a.to in
    stepped a.number a.s.now a.m.now call o.result.answer o.result.answered o.result.tags o.new.memory o.new.out c.encode_tags.new.s
    c.answer_number.result c.mask.result
    (are_below _ (λ i. let p = c.slice_known-1.given i in omega (arith, p)))
    (sym c.rack_bytes_refusal.ensures ∙ c.in-Ok.is)
    (o.ensures.memory_after ∙ ap (λ (tags : List Tag). rack_entry (rack_of (take a.number tags) a.m.now) call) c.decode_tags-tags.ensures)
    sixteen_here c.encode_tags.ensures c.answer_number.ensures c.mask.ensures
