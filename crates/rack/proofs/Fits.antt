-- The tags of a rack in range, and that a call keeps them so. Assumes nothing.
use mathlib.Core.Path.{◌≡◌, refl, sym, subst}
use mathlib.Core.Bool.{true, false, ◌||◌}
use mathlib.Core.List.{List, [], ◌∷◌}
use Prim.Native.Nat.{ℕ, suc, zero, ◌<◌, ◌≤◌}
use Rattle.std.specs.Prelude.{Ok}
use native.Mathlib.Omega.{arith}
use lib.Dec.{eqb, ltb}
use lib.ListN.{length, get_or}
use borrow.Author.Tests.{eqb-true, ltb-false, not-false}
use Rattle.parts.specs.Pick.{pick}
use Rattle.parts.specs.Bytes.{are_bytes}
use Rattle.parts.proofs.Picks.{pick_case}
use Rattle.parts.proofs.Bools.{and_left, and_right, and_both}
use Rattle.rule_list.specs.RuleList.{first_says}
use Rattle.tag.specs.Layout.{reply_bytes}
use Rattle.calls.specs.Passed.{MemoryLength, ReplyShort, OutOfRange, RackSize, EqualUids, number, tag_in_range, judgement}
use Rattle.calls.proofs.Passed.{applies_of, not_refused}
use Rattle.calls.specs.Calls.{Device, DeviceResult, entry}
use Rattle.calls.proofs.Laws.{Fits, fits_next}
use Rattle.rack.specs.Rack.{Rack, RackCall, memory_size, memory_sizes, device_at, devices, goes_to}
use Rattle.rack.specs.Rules.{all_in_range, equal_uids, most_tags, rack_rules}
use Rattle.rack.specs.Step.{unreached, turn_of, turns_of, left_by}
use Rattle.rack.proofs.Parts.{Sized, AllSized, sized_apart, number_apart, at_apart}

-- ---- one tag
pub sized : (d : Device) → Fits d → Sized d
unfolding memory_size
sized d f = f.size

pub fits : (d : Device) → Sized d → tag_in_range d.tag d.memory ≡ true → Fits d
unfolding memory_size
fits d s h = record { range = h; size = s }

-- ---- the tags of a rack
unfoldable pub AllFit : List Device → Type 0
AllFit [] = Unit {0}
AllFit (d ∷ ds) = Fits d × AllFit ds

pub all_fit : (ds : List Device) → AllSized ds → all_in_range ds ≡ true → AllFit ds
unfolding AllSized all_in_range AllFit
all_fit [] s h = tt
all_fit (d ∷ ds) s h =
    let r = tag_in_range d.tag d.memory in
    (fits d s.0 (and_left r (all_in_range ds) h), all_fit ds s.1 (and_right r (all_in_range ds) h))

pub all_sized : (ds : List Device) → AllFit ds → AllSized ds
unfolding AllSized AllFit
all_sized [] f = tt
all_sized (d ∷ ds) f = (sized d f.0, all_sized ds f.1)

pub all_in_range_lem : (ds : List Device) → AllFit ds → all_in_range ds ≡ true
unfolding all_in_range AllFit
all_in_range_lem [] f = refl
all_in_range_lem (d ∷ ds) f = and_both (tag_in_range d.tag d.memory) (all_in_range ds) f.0.range (all_in_range_lem ds f.1)

fit_at : (i : ℕ) (ds : List Device) (z : Device) → i < length ds → AllFit ds → Fits (get_or ds i z)
unfolding AllFit
fit_at i [] z h f = absurd (omega arith)
fit_at zero (d ∷ ds) z h f = f.0
fit_at (suc i) (d ∷ ds) z h f = fit_at i ds z (omega arith) f.1

pub tag_fit : (r : Rack) (i : ℕ) → AllFit (devices r) → i < length r.tags → Fits (device_at r i)
tag_fit r i f h =
    subst Fits (at_apart i r.tags r.memory (device_at r 0) h)
    (fit_at i (devices r) (device_at r 0) (subst (λ (n : ℕ). i < n) (sym (number_apart r.tags r.memory)) h) f)

-- ---- a call keeps that
pub turns_fit : (c : RackCall) (i : ℕ) (ds : List Device) → are_bytes c.handed.frame ≡ true → AllFit ds → AllFit (left_by (turns_of entry c i ds))
unfolding AllFit left_by turns_of turn_of
turns_fit c i [] b f = tt
turns_fit c i (d ∷ ds) b f = (
  pick_case (λ (e : DeviceResult). Fits e.device) (goes_to c i) (entry d c.handed) (unreached c.handed d) (λ _. fits_next d c.handed b f.0) (λ _. f.0),
  turns_fit c (suc i) ds b f.1,
)

-- ---- an unrefused call finds a rack in range
module _ (r : Rack) (c : RackCall) (h : judgement (rack_rules r c) ≡ Ok tt) where
  pub size_of : length r.memory ≡ memory_sizes r.tags
  unfolding applies_of first_says number pick
  size_of = eqb-true _ _ (not-false _ (not_refused MemoryLength (rack_rules r c) h))

  pub room_of : reply_bytes ≤ length c.handed.buffer
  unfolding applies_of first_says number pick
  room_of = ltb-false _ _ (not_refused ReplyShort (rack_rules r c) h)

  pub range_of : all_in_range (devices r) ≡ true
  unfolding applies_of first_says number pick
  range_of = not-false _ (not_refused OutOfRange (rack_rules r c) h)

  pub number_of : (eqb (length r.tags) 0 || ltb most_tags (length r.tags)) ≡ false
  unfolding applies_of first_says number pick
  number_of = not_refused RackSize (rack_rules r c) h

  pub uids_of_lem : equal_uids r.tags ≡ false
  unfolding applies_of first_says number pick
  uids_of_lem = not_refused EqualUids (rack_rules r c) h

  pub fit_of : AllFit (devices r)
  fit_of = all_fit (devices r) (sized_apart r.tags r.memory size_of) range_of
