-- The ranges of a tag, one by one. Assumes nothing.
use mathlib.Core.Path.{◌≡◌}
use mathlib.Core.Bool.{true, ◌&&◌}
use mathlib.Core.List.{List}
use Prim.Native.Nat.{ℕ}
use Rattle.parts.proofs.Bools.{and_left, and_right}
use Rattle.tag.specs.declared.Tag.{Tag}
use Rattle.ranges.specs.Ranges.{air_in_range, core_in_range, host_in_range, supplied_in_range, wire_in_range, in_range}
use Rattle.page.specs.PageRange.{bus_in_range}
use Rattle.refusals.specs.Refusals.{tag_in_range}

pub record RangeParts (t : Tag) (m : List ℕ) : Type 0 where
  pub air : air_in_range t.air ≡ true
  pub core : core_in_range t.core ≡ true
  pub host : host_in_range t.host ≡ true
  pub supplied : supplied_in_range t.host t.core.mailbox.enabled ≡ true
  pub bus : bus_in_range t.host.bus t.host.counter t.core t.host.session m ≡ true

pub range_parts : (t : Tag) (m : List ℕ) → tag_in_range t m ≡ true → RangeParts t m
unfolding tag_in_range in_range wire_in_range
range_parts t m f =
    let a = air_in_range t.air in
    let c = core_in_range t.core in
    let h = host_in_range t.host in
    let v = supplied_in_range t.host t.core.mailbox.enabled in
    let b = bus_in_range t.host.bus t.host.counter t.core t.host.session m in
    let r = and_left (in_range t) b f in
    let w = and_right a (c && h && v) r in
    let k = and_left (c && h) v w in
    record { air = and_left a (c && h && v) r; core = and_left c h k; host = and_right c h k; supplied = and_right (c && h) v w; bus = and_right (in_range t) b f }
