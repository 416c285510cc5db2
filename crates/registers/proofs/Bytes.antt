-- The registers and their bytes say the same. Assumes nothing.
use mathlib.Core.Path.{◌≡◌, refl, ◌∙◌}
use mathlib.Core.List.{List}
use Prim.Native.Nat.{ℕ}
use native.Mathlib.Omega.{arith}
use lib.ListN.{length, length-set}
use lib.Seq.{take_all}
use Rattle.parts.specs.Bytes.{bytes_at}
use Rattle.parts.proofs.Lists.{bytes_at_part}
use Rattle.register_table.specs.Table.{register_count}
use Rattle.registers.specs.declared.Registers.{Registers}
use Rattle.registers.specs.Map.{register_bytes, registers_of, put_defined}

pub bytes_count : (r : Registers) → length (register_bytes r) ≡ register_count
unfolding register_bytes
bytes_count r = refl

pub of_bytes : (r : Registers) → registers_of (register_bytes r) ≡ r
unfolding register_bytes
of_bytes r = refl

pub bytes_of : (s : List ℕ) → length s ≡ register_count → register_bytes (registers_of s) ≡ s
unfolding register_bytes bytes_at
bytes_of s e = bytes_at_part s 0 register_count (omega arith) ∙ take_all register_count s (omega arith)

pub put_count : (place x : ℕ) (s : List ℕ) → length s ≡ register_count → length (put_defined place x s) ≡ register_count
unfolding put_defined
put_count place x s e = length-set s place _ ∙ e
