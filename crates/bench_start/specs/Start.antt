-- What goes from line to line beside the memory: its start, and the line number.
use Rattle.std.specs.Prelude.{ℕ, ◌+◌, ◌%◌, List, [], ◌∷◌}
use Rattle.keys.specs.declared.Uid.{Uid}
use Rattle.model.specs.Step.{fresh_of}
use Rattle.bench_start.specs.declared.Bench.{Bench}

-- "It starts fresh with UID 01 02 03 04 05 24 02 E0"
abbrev pub bench_uid : Uid
bench_uid = record { bytes = 0x01 ∷ 0x02 ∷ 0x03 ∷ 0x04 ∷ 0x05 ∷ 0x24 ∷ 0x02 ∷ 0xE0 ∷ [] }

-- line numbers from 1
abbrev pub next_line : Bench → ℕ
next_line bench = (bench.number + 1) % 18446744073709551616

-- the start: "fresh with UID 01 02 03 04 05 24 02 E0", before line 1
pub record BenchStart : Type 0 where
  pub bench : Bench
  pub memory : List ℕ

abbrev pub bench_start : Bench → List ℕ → BenchStart
bench_start bench m = record { bench = bench; memory = m }

unfoldable pub bench_start_of : List ℕ → BenchStart
bench_start_of m =
    let result = fresh_of bench_uid m in
    bench_start (record { tag = result.tag; number = 0 }) result.memory
