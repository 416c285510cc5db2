-- The register over the rest of a list, one byte on, and at the end.
use mathlib.Core.Path.{◌≡◌, ap}
use mathlib.Core.List.{List}
use Prim.Native.Nat.{ℕ, ◌+◌, ◌≤◌, ◌<◌}
use native.Mathlib.Numerals.{add-one}
use lib.ListN.{length, drop, get_or, drop_of_length-le}
use lib.Seq.{drop-cons}
use Rattle.crc.specs.Crc.{byte, run}

pub run_on : (s : List ℕ) (i c : ℕ) → i < length s → run (byte c (get_or s i 0)) (drop (i + 1) s) ≡ run c (drop i s)
unfolding run
run_on s i c h = rw (add-one, drop-cons s i 0)

pub run_end : (s : List ℕ) (i c : ℕ) → length s ≤ i → run c (drop i s) ≡ c
unfolding run
run_end s i c h = ap (run c) (drop_of_length-le s h)
