-- A search's refusals are those of its frame. Assumes nothing.
use mathlib.Core.Path.{◌≡◌}
use mathlib.Core.List.{List}
use Prim.Native.Nat.{ℕ}
use Rattle.parts.specs.Pick.{pick}
use Rattle.rule_list.specs.RuleList.{first_says}
use Rattle.signal_table.proofs.Laws.{frame_known}
use Rattle.refusals.specs.Refusals.{judgement}
use Rattle.rack.specs.Rack.{Rack, to_all}
use Rattle.rack.specs.Rules.{rack_rules}
use Rattle.rack_search.specs.Search.{sends_frame, search_rules}

pub frame_judged : (r : Rack) (o f : List ℕ) → judgement (rack_rules r (sends_frame o f)) ≡ judgement (search_rules r o)
unfolding judgement first_says pick to_all
frame_judged r o f = rw frame_known
