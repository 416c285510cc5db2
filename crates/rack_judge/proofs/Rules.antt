-- The rules of a rack that is the first tags of sixteen, by their number. Assumes nothing.
use mathlib.Core.Path.{◌≡◌, sym, ap, ◌∙◌}
use mathlib.Core.Bool.{Bool, not, ◌&&◌, ◌||◌}
use mathlib.Core.List.{List, [], ◌∷◌}
use Prim.Native.Nat.{ℕ, ◌*◌, min}
use native.Mathlib.Omega.{arith}
use lib.Dec.{leb, ltb, eqb}
use lib.ListN.{length, take}
use borrow.Author.Tests.{le-ltb}
use Rattle.tag.specs.declared.Tag.{Tag}
use Rattle.refusals.specs.declared.Refusal.TheVariants.{MemoryLength, OutOfRange, RackSize, NoSuchTag, EqualUids}
use Rattle.refusals.specs.Call.{Call}
use Rattle.refusals.specs.Refusals.{RefusalRule, refusal_rule, reply_rule, signal_rule}
use Rattle.rack.specs.Rack.{rack_of, rack_call, memory_sizes, devices_of, to_all}
use Rattle.rack.specs.Rules.{most_tags, all_in_range, equal_uids, rack_rules}
use Rattle.rack_judge.proofs.Uids.{or_none}
use Rattle.rack_judge.proofs.Ranges.{sizes_number}
use Rattle.rack_judge.proofs.Count.{count_is, take_count}

-- the tags, the bytes that they ask for, their number, and whether it is wrong
abbrev rules_by : List Tag → ℕ → ℕ → Bool → List ℕ → Call → ℕ → List RefusalRule
rules_by ts size k wrong m call to =
    refusal_rule (not (eqb (length m) size)) MemoryLength
    ∷ reply_rule call
    ∷ signal_rule call
    ∷ refusal_rule (not (all_in_range (devices_of ts m))) OutOfRange
    ∷ refusal_rule wrong RackSize
    ∷ refusal_rule (not (to_all call.code) && leb k to) NoSuchTag
    ∷ refusal_rule (equal_uids ts) EqualUids
    ∷ []

abbrev pub number_rules : List Tag → ℕ → List ℕ → Call → ℕ → List RefusalRule
number_rules tags n m call to = rules_by (take n tags) (n * 1024) n (eqb n 0) m call to

pub by_number_lem : (tags : List Tag) (number n : ℕ) (m : List ℕ) (call : Call) (to : ℕ) → length tags ≡ 16 → n ≡ min number most_tags
    → rack_rules (rack_of (take number tags) m) (rack_call call to) ≡ number_rules tags n m call to
by_number_lem tags number n m call to h e =
    let ts = take n tags in
    let k : length ts ≡ n = ap length (take_count number n e tags h) ∙ sym (count_is number n e tags h) in
    let size : memory_sizes ts ≡ n * 1024 = sizes_number ts ∙ ap (λ (i : ℕ). i * 1024) k in
    let wrong : (eqb n 0 || ltb 16 n) ≡ eqb n 0 = ap (λ (b : Bool). eqb n 0 || b) (le-ltb 16 n (omega (arith, e))) ∙ or_none (eqb n 0) in
    ap (λ (l : List Tag). rack_rules (rack_of l m) (rack_call call to)) (sym (take_count number n e tags h))
    ∙ ap (λ (i : ℕ). rules_by ts (memory_sizes ts) i (eqb i 0 || ltb 16 i) m call to) k
    ∙ ap (λ (i : ℕ). rules_by ts i n (eqb n 0 || ltb 16 n) m call to) size
    ∙ ap (λ (b : Bool). rules_by ts (n * 1024) n b m call to) wrong
