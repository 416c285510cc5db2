use mathlib.Core.Path.{◌∙◌}
use native.Mathlib.Omega.{arith}
use Rattle.keys.proofs.Same.{password_eq}
use Rattle.parts.proofs.Picks.{picks}
use Rattle.parts.proofs.Lists.{length_bytes_at, bytes_at_get_d}
use Rattle.system_leg.proofs.Page.{bytes_at_within}
use Rattle.system_leg.specs.SystemLeg.{password_written}
use Rattle.system_leg.proofs.password_written.Goals as goal

pub returns-then-k-lt17 : goal.returns-then-k-lt17
unfolding password_written
returns-then-k-lt17 c = rw (length_bytes_at _ 768 _) (search picks depth 20)

pub returns-then-byte_at-eq9 : goal.returns-then-byte_at-eq9
unfolding password_written
returns-then-byte_at-eq9 c =
    let a = c.args in
    let m = a.m.now in
    let k = a.k in
    let own = a.w.core.passwords.i2c in
    rw (c.eq-then-byte_at-eq9.ensures, c.eq.ensures, password_eq own c.at-first.result (omega arith) (omega arith), password_eq own c.at-second.result (omega arith) (omega arith), c.at-second.ensures, c.at-first.ensures, length_bytes_at m 768 k, bytes_at_within m 768 k 0 8 (omega arith), bytes_at_within m 768 k 9 8 (omega arith), bytes_at_get_d m 768 k 8 0 (omega arith), ← c.byte_at.ensures) (search picks depth 20)

pub returns-then-eq : goal.returns-then-eq
unfolding password_written
returns-then-eq c =
    let a = c.args in
    let m = a.m.now in
    let k = a.k in
    let same = rw (c.at-second.ensures, c.at-first.ensures) at (c.eq-2.ensures ∙ password_eq c.at-first.result c.at-second.result (omega arith) (omega arith)) in
    rw (c.start_programming.ensures, c.with_core.ensures, c.with_i2c-passwords.ensures, c.at-first.ensures, length_bytes_at m 768 k, bytes_at_within m 768 k 0 8 (omega arith), bytes_at_within m 768 k 9 8 (omega arith), bytes_at_get_d m 768 k 8 0 (omega arith), ← c.byte_at.ensures, ← same) (search picks depth 20)

pub returns : goal.returns
unfolding password_written
returns c =
    let a = c.args in
    let m = a.m.now in
    let k = a.k in
    let same = rw (c.at-second.ensures, c.at-first.ensures) at (c.eq-2.ensures ∙ password_eq c.at-first.result c.at-second.result (omega arith) (omega arith)) in
    rw (length_bytes_at m 768 k, bytes_at_within m 768 k 0 8 (omega arith), bytes_at_within m 768 k 9 8 (omega arith), bytes_at_get_d m 768 k 8 0 (omega arith), ← c.byte_at.ensures, ← same) (search picks depth 20)
