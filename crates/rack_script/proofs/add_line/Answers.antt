use Rattle.std.proofs.Common.{sym, refl, ap, ◌∙◌}
use Rattle.keys.specs.declared.Uid.{Uid}
use Rattle.parts.proofs.Picks.{pick_true, pick_false}
use Rattle.line_stream.specs.Step.{LineAnswer, stores_line}
use Rattle.rack_start.specs.Start.{RackAdded, takes_tag, added_tag}
use Rattle.rack_script.specs.Script.{RackState, rack_state, numbered, none_text, add_answered}
use Rattle.rack_script.proofs.add_line.Goals as goal

pub returns-then-not-takes_tag : goal.returns-then-not-takes_tag
unfolding add_answered
returns-then-not-takes_tag c =
    let t = c.takes_tag in
    let a = c.args in
    c.bad_line.ensures a.m.now a.reply.now
    ∙ ap (λ (r : LineAnswer RackState). stores_line r a.text.now)
    (pick_false _ _ _ (takes_tag a.bench) (sym t.ensures ∙ c.if-not-takes_tag.true) refl)

pub returns : goal.returns
unfolding add_answered
returns c =
    let t = c.takes_tag in
    let a = c.args in
    let w = c.add-next in
    let u = c.uid_of-uid in
    let st = rack_state a.bench a.m.now a.reply.now in
    c.none_line.ensures w.new.m
    ∙ ap (λ (r : RackAdded). stores_line (numbered (rack_state r.bench r.memory a.reply.now) none_text) a.text.now)
    (w.ensures ∙ ap (λ (x : Uid). added_tag x a.bench a.m.now) u.ensures)
    ∙ ap (λ (r : LineAnswer RackState). stores_line r a.text.now)
    (pick_true _ _ _ (takes_tag a.bench) (sym t.ensures ∙ c.if-not-takes_tag.false) refl)
