use Rattle.std.specs.Prelude.{Some, None}
use Rattle.std.proofs.Common.{ℕ, List, ◌-◌, ◌≤◌, length, take, drop, refl, ap, ◌∙◌, arith, length-drop, length-take}
use Rattle.reading.proofs.LineLaws.{Framed}
use Rattle.line_stream.specs.Step.{line_stored, stores_line}
use Rattle.rack_reading.specs.declared.RackReading.TheVariants.{Signal, Frame, Add, Name, Search}
use Rattle.rack_reading.specs.Line.{uid_of, rack_line_by}
use Rattle.rack_reading.proofs.LineLaws.{has_digits}
use Rattle.rack_script.specs.Script.{rack_state, call_answered, search_answered, add_answered, rack_line_answer, rack_frame}
use Rattle.rack_script.proofs.Said.{said, said_framed, behind_tab, settled}
use Rattle.rack_script.proofs.line.Goals as goal

pub slice_bounds-put_frame-count : goal.slice_bounds-put_frame-count
unfolding rack_line_by has_digits
slice_bounds-put_frame-count c =
    let frame_framed_here : Framed c.args.s.now = said_framed c.args.s.now _ (Some Frame) c.read.ensures (c.in-Some-Frame.is ∙ ap Some c.in-Some-Frame.field-0-is) refl in
    omega (arith, frame_framed_here)

pub slice_bounds-put_frame-start : goal.slice_bounds-put_frame-start
unfolding rack_line_by has_digits
slice_bounds-put_frame-start c =
    let frame_framed_here : Framed c.args.s.now = said_framed c.args.s.now _ (Some Frame) c.read.ensures (c.in-Some-Frame.is ∙ ap Some c.in-Some-Frame.field-0-is) refl in
    omega (arith, frame_framed_here)

pub slice_bounds-call_line-end-in-Some-Frame-2 : goal.slice_bounds-call_line-end-in-Some-Frame-2
unfolding rack_line_by has_digits
slice_bounds-call_line-end-in-Some-Frame-2 c =
    let line : Framed c.args.s.now = said_framed c.args.s.now _ (Some Frame) c.read.ensures (c.in-Some-Frame.is ∙ ap Some c.in-Some-Frame.field-0-is) refl in
    let short : length (take (length c.args.s.now - 2) (drop 2 c.args.s.now)) ≤ 1198 = rw (behind_tab c.args.s.now) (omega (arith, line, length-drop 2 c.args.s.now)) in
    let w = c.put_frame-n in
    omega (arith, w.ensures.upper_bound short, length-take w.result w.new.frame)

pub slice_bounds-add_line-count : goal.slice_bounds-add_line-count
unfolding rack_line_by has_digits
slice_bounds-add_line-count c =
    let add_framed_here : Framed c.args.s.now = said_framed c.args.s.now _ (Some Add) c.read.ensures (c.in-Some-Add.is ∙ ap Some c.in-Some-Add.field-0-is) refl in
    omega (arith, add_framed_here)

pub slice_bounds-add_line-start : goal.slice_bounds-add_line-start
unfolding rack_line_by has_digits
slice_bounds-add_line-start c =
    let add_framed_here : Framed c.args.s.now = said_framed c.args.s.now _ (Some Add) c.read.ensures (c.in-Some-Add.is ∙ ap Some c.in-Some-Add.field-0-is) refl in
    omega (arith, add_framed_here)

pub slice_bounds-put_frame-count-in-Some-Search : goal.slice_bounds-put_frame-count-in-Some-Search
unfolding rack_line_by has_digits
slice_bounds-put_frame-count-in-Some-Search c =
    let search_framed_here : Framed c.args.s.now = said_framed c.args.s.now _ (Some Search) c.read.ensures (c.in-Some-Search.is ∙ ap Some c.in-Some-Search.field-0-is) refl in
    omega (arith, search_framed_here)

pub slice_bounds-put_frame-start-in-Some-Search : goal.slice_bounds-put_frame-start-in-Some-Search
unfolding rack_line_by has_digits
slice_bounds-put_frame-start-in-Some-Search c =
    let search_framed_here : Framed c.args.s.now = said_framed c.args.s.now _ (Some Search) c.read.ensures (c.in-Some-Search.is ∙ ap Some c.in-Some-Search.field-0-is) refl in
    omega (arith, search_framed_here)

pub slice_bounds-search_line-end-in-Some-Search : goal.slice_bounds-search_line-end-in-Some-Search
unfolding rack_line_by has_digits
slice_bounds-search_line-end-in-Some-Search c =
    let line : Framed c.args.s.now = said_framed c.args.s.now _ (Some Search) c.read.ensures (c.in-Some-Search.is ∙ ap Some c.in-Some-Search.field-0-is) refl in
    let short : length (take (length c.args.s.now - 2) (drop 2 c.args.s.now)) ≤ 1198 = rw (behind_tab c.args.s.now) (omega (arith, line, length-drop 2 c.args.s.now)) in
    let w = c.put_frame-n-in-Some-Search in
    omega (arith, w.ensures.upper_bound short, length-take w.result w.new.frame)

pub returns-in-None : goal.returns-in-None
unfolding rack_line_by rack_line_answer rack_frame
returns-in-None c =
    let a = c.args in
    let r = c.read in
    let w = c.bad_line in
    let s = a.s.now in
    let st = rack_state a.bench a.m.now a.reply.now in
    let all = settled st s a.text.now (rack_line_by None (drop 2 s)) (line_stored (rack_state w.result.bench a.m.now a.reply.now) w.result.length w.new.text) a.frame.now a.frame.now
    (said s _ None r.ensures c.in-None.is)
    (w.ensures a.m.now a.reply.now)
    refl in
    record { text_after = all.0; length_le_text_room = all.1.0; frame_after = all.1.1 }

pub returns-in-Some-Signal : goal.returns-in-Some-Signal
unfolding rack_line_by rack_line_answer rack_frame
returns-in-Some-Signal c =
    let a = c.args in
    let r = c.read in
    let w = c.call_line in
    let s = a.s.now in
    let st = rack_state a.bench a.m.now a.reply.now in
    let all = settled st s a.text.now (rack_line_by (Some (Signal _ _)) (drop 2 s)) (line_stored (rack_state w.result.bench w.new.m w.new.reply) w.result.length w.new.text) a.frame.now a.frame.now
    (said s _ (Some (Signal _ _)) r.ensures (c.in-Some-Signal.is ∙ ap Some c.in-Some-Signal.field-0-is))
    w.ensures
    refl in
    record { text_after = all.0; length_le_text_room = all.1.0; frame_after = all.1.1 }

pub returns-in-Some-Frame : goal.returns-in-Some-Frame
unfolding rack_line_by rack_line_answer rack_frame has_digits
returns-in-Some-Frame c =
    let line : Framed c.args.s.now = said_framed c.args.s.now _ (Some Frame) c.read.ensures (c.in-Some-Frame.is ∙ ap Some c.in-Some-Frame.field-0-is) refl in
    let short : length (take (length c.args.s.now - 2) (drop 2 c.args.s.now)) ≤ 1198 = rw (behind_tab c.args.s.now) (omega (arith, line, length-drop 2 c.args.s.now)) in
    let a = c.args in
    let r = c.read in
    let w = c.call_line-in-Some-Frame in
    let f = c.put_frame-n in
    let s = a.s.now in
    let st = rack_state a.bench a.m.now a.reply.now in
    let all = settled st s a.text.now (rack_line_by (Some Frame) (drop 2 s)) (line_stored (rack_state w.result.bench w.new.m w.new.reply) w.result.length w.new.text) a.frame.now f.new.frame
    (said s _ (Some Frame) r.ensures (c.in-Some-Frame.is ∙ ap Some c.in-Some-Frame.field-0-is))
    (w.ensures ∙ ap (λ (z : List ℕ). stores_line (call_answered 8 0 st z) a.text.now) (rw (behind_tab s) at (f.ensures.frame_after short)))
    (rw (behind_tab s) at (f.ensures.frame_after_2 short)) in
    record { text_after = all.0; length_le_text_room = all.1.0; frame_after = all.1.1 }

pub returns-in-Some-Add : goal.returns-in-Some-Add
unfolding rack_line_by rack_line_answer rack_frame
returns-in-Some-Add c =
    let a = c.args in
    let r = c.read in
    let w = c.add_line in
    let s = a.s.now in
    let st = rack_state a.bench a.m.now a.reply.now in
    let all = settled st s a.text.now (rack_line_by (Some Add) (drop 2 s)) (line_stored (rack_state w.result.bench w.new.m a.reply.now) w.result.length w.new.text) a.frame.now a.frame.now
    (said s _ (Some Add) r.ensures (c.in-Some-Add.is ∙ ap Some c.in-Some-Add.field-0-is))
    (w.ensures ∙ ap (λ (z : List ℕ). stores_line (add_answered (uid_of z) st) a.text.now) (behind_tab s))
    refl in
    record { text_after = all.0; length_le_text_room = all.1.0; frame_after = all.1.1 }

pub returns-in-Some-Name : goal.returns-in-Some-Name
unfolding rack_line_by rack_line_answer rack_frame
returns-in-Some-Name c =
    let a = c.args in
    let r = c.read in
    let w = c.name_line in
    let s = a.s.now in
    let st = rack_state a.bench a.m.now a.reply.now in
    let all = settled st s a.text.now (rack_line_by (Some (Name _)) (drop 2 s)) (line_stored (rack_state w.result.bench a.m.now a.reply.now) w.result.length w.new.text) a.frame.now a.frame.now
    (said s _ (Some (Name _)) r.ensures (c.in-Some-Name.is ∙ ap Some c.in-Some-Name.field-0-is))
    (w.ensures a.m.now)
    refl in
    record { text_after = all.0; length_le_text_room = all.1.0; frame_after = all.1.1 }

pub returns-in-Some-Search : goal.returns-in-Some-Search
unfolding rack_line_by rack_line_answer rack_frame has_digits
returns-in-Some-Search c =
    let line : Framed c.args.s.now = said_framed c.args.s.now _ (Some Search) c.read.ensures (c.in-Some-Search.is ∙ ap Some c.in-Some-Search.field-0-is) refl in
    let short : length (take (length c.args.s.now - 2) (drop 2 c.args.s.now)) ≤ 1198 = rw (behind_tab c.args.s.now) (omega (arith, line, length-drop 2 c.args.s.now)) in
    let a = c.args in
    let r = c.read in
    let w = c.search_line in
    let f = c.put_frame-n-in-Some-Search in
    let s = a.s.now in
    let st = rack_state a.bench a.m.now a.reply.now in
    let all = settled st s a.text.now (rack_line_by (Some Search) (drop 2 s)) (line_stored (rack_state w.result.bench w.new.m w.new.reply) w.result.length w.new.text) a.frame.now f.new.frame
    (said s _ (Some Search) r.ensures (c.in-Some-Search.is ∙ ap Some c.in-Some-Search.field-0-is))
    (w.ensures ∙ ap (λ (z : List ℕ). stores_line (search_answered st z) a.text.now) (rw (behind_tab s) at (f.ensures.frame_after short)))
    (rw (behind_tab s) at (f.ensures.frame_after_2 short)) in
    record { text_after = all.0; length_le_text_room = all.1.0; frame_after = all.1.1 }
