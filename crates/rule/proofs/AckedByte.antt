-- What a data byte's Ack says. Assumes nothing.
use mathlib.Core.Path.{◌≡◌}
use mathlib.Core.Bool.{Bool, true}
use mathlib.Core.List.{List}
use Prim.Native.Nat.{ℕ, ◌<◌}
use lib.Dec.{ltb}
use borrow.Author.Tests.{ltb-true}
use Rattle.parts.proofs.Bools.{and_left, and_right}
use Rattle.bus.specs.declared.Space.{Space}
use Rattle.write_rules.specs.Passed.{Core}
use Rattle.rule.specs.Rule.{space_acked, acked}

module _ (s : Space) (c : Core) (session : Bool) (f : ℕ) where
  -- a byte is Acked only at places under 256, and by its space
  pub acked_room : (k : ℕ) (e : List ℕ) (x : ℕ) → acked s c session f k e x ≡ true → k < 256
  unfolding acked
  acked_room k e x h = ltb-true k 256 (and_left (ltb k 256) (space_acked s c session f k e x) h)

  pub acked_space : (k : ℕ) (e : List ℕ) (x : ℕ) → acked s c session f k e x ≡ true → space_acked s c session f k e x ≡ true
  unfolding acked
  acked_space k e x h = and_right (ltb k 256) (space_acked s c session f k e x) h
