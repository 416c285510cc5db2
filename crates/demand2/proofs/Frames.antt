-- A frame's or an end-of-frame's call, to a tag in range with both buffers as long as they must be, is not refused. Assumes nothing.
use mathlib.Core.Path.{◌≡◌, refl, ap, ◌∙◌}
use mathlib.Core.Bool.{true}
use Prim.Native.Nat.{◌≤◌}
use lib.ListN.{length}
use borrow.Author.Tests.{le-ltb}
use Rattle.std.specs.Prelude.{Ok}
use Rattle.parts.specs.Pick.{pick}
use Rattle.tag.specs.Layout.{reply_bytes}
use Rattle.rule_list.specs.RuleList.{first_says}
use Rattle.signal_table.specs.declared.Signal.{Signal}
use Rattle.signal_table.specs.declared.Signal.TheVariants.{EndOfFrame}
use Rattle.signal_table.specs.Table.{signal_table, signal_found, is_found, signal_in_range, signal_in, signal_by}
use Rattle.signal_table.proofs.Laws.{frame_known, frame_code}
use Rattle.refusals.specs.Call.{Call, handed_in}
use Rattle.refusals.specs.Refusals.{argument_rules, judgement}
use Rattle.model.specs.Step.{act_of}
use Rattle.model.proofs.Acts.{fit_acts}
use Rattle.demand2.specs.Demand2.{FrameServed, NextSlotServed}

-- a long enough reply buffer and a known signal are not refused
pub not_refused_by : (c : Call) → reply_bytes ≤ length c.buffer → signal_in_range c.code c.value ≡ true → judgement (argument_rules c) ≡ Ok tt
unfolding judgement first_says pick
not_refused_by c l k = rw (le-ltb (length c.buffer) reply_bytes l, k)

pub frame_served : FrameServed
unfolding act_of
frame_served t m o s f h = fit_acts t m (handed_in o 8 0 s) f (not_refused_by (handed_in o 8 0 s) h frame_known) ∙ ap (λ (x : Signal). act_of x t m o s) frame_code

-- code 9 with value 0 is the end-of-frame
end_known : signal_in_range 9 0 ≡ true
unfolding signal_in_range is_found signal_found signal_table first_says pick
end_known = refl

end_code : signal_by 9 0 ≡ EndOfFrame
unfolding signal_by signal_in signal_found signal_table first_says pick
end_code = refl

pub end_of_frame_served : NextSlotServed
unfolding act_of
end_of_frame_served t m o s f h = fit_acts t m (handed_in o 9 0 s) f (not_refused_by (handed_in o 9 0 s) h end_known) ∙ ap (λ (x : Signal). act_of x t m o s) end_code
