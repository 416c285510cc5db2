use mathlib.Core.Path.{◌≡◌, ap}
use mathlib.Core.List.{[]}
use lib.ListN.{length, take}
use Rattle.parts.proofs.Picks.{picks}
use Rattle.rule_list.specs.RuleList.{first_says}
use Rattle.refusals.specs.Call.{handed_in}
use Rattle.refusals.specs.Refusals.{judgement}
use Rattle.rack.specs.Rack.{rack_of, rack_call}
use Rattle.rack.specs.Rules.{rack_rules}
use Rattle.rack_judge.proofs.Rules.{number_rules, by_number_lem}
use borrow.Author.Rules.{rules}
use Rattle.rack_judge.proofs.rack_refusal.Goals as goal

pub returns-then-memory-n : goal.returns-then-memory-n
unfolding judgement first_says
returns-then-memory-n c =
    let counted_here : let a = c.args in
    judgement (rack_rules (rack_of (take a.number a.tags) a.memory.now) (rack_call (handed_in a.out.now a.code a.value []) a.to))
    ≡ judgement (number_rules a.tags c.tag_count-n.result a.memory.now (handed_in a.out.now a.code a.value []) a.to) = let a = c.args in
    let number : length a.tags ≡ 16 = search rules in
    ap judgement (by_number_lem a.tags a.number c.tag_count-n.result a.memory.now (handed_in a.out.now a.code a.value []) a.to number c.tag_count-n.ensures) in
    rw counted_here (search picks depth 20)

pub returns-then-out-lt-REPLY_BYTES : goal.returns-then-out-lt-REPLY_BYTES
unfolding judgement first_says
returns-then-out-lt-REPLY_BYTES c =
    let counted_here : let a = c.args in
    judgement (rack_rules (rack_of (take a.number a.tags) a.memory.now) (rack_call (handed_in a.out.now a.code a.value []) a.to))
    ≡ judgement (number_rules a.tags c.tag_count-n.result a.memory.now (handed_in a.out.now a.code a.value []) a.to) = let a = c.args in
    let number : length a.tags ≡ 16 = search rules in
    ap judgement (by_number_lem a.tags a.number c.tag_count-n.result a.memory.now (handed_in a.out.now a.code a.value []) a.to number c.tag_count-n.ensures) in
    rw counted_here (search picks depth 20)

pub returns-then-not-signal_in_range : goal.returns-then-not-signal_in_range
unfolding judgement first_says
returns-then-not-signal_in_range c =
    let counted_here : let a = c.args in
    judgement (rack_rules (rack_of (take a.number a.tags) a.memory.now) (rack_call (handed_in a.out.now a.code a.value []) a.to))
    ≡ judgement (number_rules a.tags c.tag_count-n.result a.memory.now (handed_in a.out.now a.code a.value []) a.to) = let a = c.args in
    let number : length a.tags ≡ 16 = search rules in
    ap judgement (by_number_lem a.tags a.number c.tag_count-n.result a.memory.now (handed_in a.out.now a.code a.value []) a.to number c.tag_count-n.ensures) in
    rw (counted_here, ← c.signal_in_range.ensures) (search picks depth 20)

pub returns-then-not-all_in_range : goal.returns-then-not-all_in_range
unfolding judgement first_says
returns-then-not-all_in_range c =
    let counted_here : let a = c.args in
    judgement (rack_rules (rack_of (take a.number a.tags) a.memory.now) (rack_call (handed_in a.out.now a.code a.value []) a.to))
    ≡ judgement (number_rules a.tags c.tag_count-n.result a.memory.now (handed_in a.out.now a.code a.value []) a.to) = let a = c.args in
    let number : length a.tags ≡ 16 = search rules in
    ap judgement (by_number_lem a.tags a.number c.tag_count-n.result a.memory.now (handed_in a.out.now a.code a.value []) a.to number c.tag_count-n.ensures) in
    rw (counted_here, ← c.signal_in_range.ensures, ← c.all_in_range.ensures) (search picks depth 20)

pub returns-then-n-eq0 : goal.returns-then-n-eq0
unfolding judgement first_says
returns-then-n-eq0 c =
    let counted_here : let a = c.args in
    judgement (rack_rules (rack_of (take a.number a.tags) a.memory.now) (rack_call (handed_in a.out.now a.code a.value []) a.to))
    ≡ judgement (number_rules a.tags c.tag_count-n.result a.memory.now (handed_in a.out.now a.code a.value []) a.to) = let a = c.args in
    let number : length a.tags ≡ 16 = search rules in
    ap judgement (by_number_lem a.tags a.number c.tag_count-n.result a.memory.now (handed_in a.out.now a.code a.value []) a.to number c.tag_count-n.ensures) in
    rw (counted_here, ← c.signal_in_range.ensures, ← c.all_in_range.ensures) (search picks depth 20)

pub returns-then-to_all-n : goal.returns-then-to_all-n
unfolding judgement first_says
returns-then-to_all-n c =
    let counted_here : let a = c.args in
    judgement (rack_rules (rack_of (take a.number a.tags) a.memory.now) (rack_call (handed_in a.out.now a.code a.value []) a.to))
    ≡ judgement (number_rules a.tags c.tag_count-n.result a.memory.now (handed_in a.out.now a.code a.value []) a.to) = let a = c.args in
    let number : length a.tags ≡ 16 = search rules in
    ap judgement (by_number_lem a.tags a.number c.tag_count-n.result a.memory.now (handed_in a.out.now a.code a.value []) a.to number c.tag_count-n.ensures) in
    rw (counted_here, ← c.signal_in_range.ensures, ← c.all_in_range.ensures, ← c.to_all.ensures) (search picks depth 20)

pub returns-then-equal_uids : goal.returns-then-equal_uids
unfolding judgement first_says
returns-then-equal_uids c =
    let counted_here : let a = c.args in
    judgement (rack_rules (rack_of (take a.number a.tags) a.memory.now) (rack_call (handed_in a.out.now a.code a.value []) a.to))
    ≡ judgement (number_rules a.tags c.tag_count-n.result a.memory.now (handed_in a.out.now a.code a.value []) a.to) = let a = c.args in
    let number : length a.tags ≡ 16 = search rules in
    ap judgement (by_number_lem a.tags a.number c.tag_count-n.result a.memory.now (handed_in a.out.now a.code a.value []) a.to number c.tag_count-n.ensures) in
    rw (counted_here, ← c.signal_in_range.ensures, ← c.all_in_range.ensures, ← c.to_all.ensures, ← c.equal_uids.ensures) (search picks depth 20)

pub returns : goal.returns
unfolding judgement first_says
returns c =
    let counted_here : let a = c.args in
    judgement (rack_rules (rack_of (take a.number a.tags) a.memory.now) (rack_call (handed_in a.out.now a.code a.value []) a.to))
    ≡ judgement (number_rules a.tags c.tag_count-n.result a.memory.now (handed_in a.out.now a.code a.value []) a.to) = let a = c.args in
    let number : length a.tags ≡ 16 = search rules in
    ap judgement (by_number_lem a.tags a.number c.tag_count-n.result a.memory.now (handed_in a.out.now a.code a.value []) a.to number c.tag_count-n.ensures) in
    rw (counted_here, ← c.signal_in_range.ensures, ← c.all_in_range.ensures, ← c.to_all.ensures, ← c.equal_uids.ensures) (search picks depth 20)
