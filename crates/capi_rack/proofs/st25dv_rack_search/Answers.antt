use mathlib.Core.Path.{◌≡◌, sym, ap, ◌∙◌}
use mathlib.Core.List.{List}
use native.Mathlib.Omega.{arith}
use lib.ListN.{length, take}
use borrow.Author.Rules.{rules}
use Rattle.parts.proofs.Below.{are_below}
use Rattle.tag.specs.declared.Tag.{Tag}
use Rattle.rack.specs.Rack.{rack_of}
use Rattle.rack_search.specs.Search.{search_entry}
use Rattle.capi_rack.proofs.Calls.{refused_search, searched}
use Rattle.capi_rack.proofs.st25dv_rack_search.Goals as goal

pub returns-in-Err : goal.returns-in-Err
returns-in-Err c =
    let a = c.args in
    refused_search a.number a.s.now a.m.now a.out.now a.frame.now _ c.number.result (sym c.rack_bytes_refusal.ensures ∙ c.in-Err.is) c.number.ensures

pub returns-in-Ok : goal.returns-in-Ok
returns-in-Ok c =
    let sixteen_here : length c.search-o.result.tags ≡ 16 = search rules in
    let a = c.args in
    let o = c.search-o in
    searched a.number a.s.now a.m.now a.out.now a.frame.now o.result.answer o.result.tags o.new.memory o.new.out c.encode_tags.new.s
    c.search_number.result
    (are_below _ (λ i. let p = c.slice_known-1.given i in omega (arith, p)))
    (sym c.rack_bytes_refusal.ensures ∙ c.in-Ok.is)
    (o.ensures.out_after ∙ ap (λ (tags : List Tag). search_entry (rack_of (take a.number tags) a.m.now) a.out.now a.frame.now) c.decode_tags.ensures)
    sixteen_here c.encode_tags.ensures c.search_number.ensures
