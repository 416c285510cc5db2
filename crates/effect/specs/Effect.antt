-- A write leg's effect: the wire side and the memory that it leaves.
use Rattle.std.specs.Prelude.{Bool, true, List, ℕ}
use Rattle.tag.specs.declared.WireSide.{WireSide}
use Rattle.tag.specs.Parts.{with_i2c_session, with_programming, with_host}

-- the wire side and the memory
pub record LegResult : Type 0 where
  pub side : WireSide
  pub memory : List ℕ

abbrev pub leg_result : WireSide → List ℕ → LegResult
leg_result w m = record { side = w; memory = m }

abbrev pub side_session : Bool → WireSide → WireSide
side_session x w = with_host (with_i2c_session x w.host) w

-- "starts programming"
abbrev pub programming : WireSide → WireSide
programming w = with_host (with_programming true w.host) w
