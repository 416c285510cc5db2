use mathlib.Core.Path.{◌≡◌, refl, ap, ◌∙◌}
use mathlib.Core.List.{List, [], ◌∷◌, ◌++◌, map}
use Prim.Native.Nat.{ℕ, suc}
use native.Mathlib.Omega.{arith}
use lib.ListN.{length, length-append}
use Rattle.std.proofs.lemmas.Slice.Zip.{zip_turn, zip_end}
use Rattle.std.specs.Iterator.Adapters.{zip_first, zip_second}
use Rattle.std.specs.Slice.Iter.{iter_rest}
use Rattle.register_table.specs.Table.{place_bits}
use Rattle.register_table.proofs.Rows.{mask_of, masked}
use Rattle.registers.specs.Map.{register_bytes}
use Rattle.registers.proofs.Bytes.{bytes_count}
use Rattle.defined_bits.specs.Defined.{defined_to, defined_only}
use Rattle.defined_bits.proofs.is_defined.Goals as goal

pub loop-byte-init : goal.loop-byte-init
unfolding defined_to
loop-byte-init c = refl

pub loop-byte-preserved : goal.loop-byte-preserved
unfolding defined_to place_bits
loop-byte-preserved c =
    let l = c.loop-byte in
    let bytes = register_bytes c.args.r in
    let masks : List ℕ = map mask_of place_bits in
    let first : iter_rest (zip_first c.into_iter-byte-iterator.result) ≡ bytes = cc in
    let second : iter_rest (zip_second c.into_iter-byte-iterator.result) ≡ masks = cc in
    let turn = zip_turn bytes masks l.yielded c.into_iter-byte-iterator.result l.byte-iterator c.next.new.self _ first second l.yielded_by _ c.in-Some.is c.next.ensures.steps in
    let next : length (l.yielded ++ (c.in-Some.byte, c.in-Some.mask) ∷ []) ≡ suc (length l.yielded) = omega (arith, length-append l.yielded ((c.in-Some.byte, c.in-Some.mask) ∷ [])) in
    rw (next, l.invariant, turn.2 0, turn.3 0, masked _ (length l.yielded) _ refl)

pub returns : goal.returns
unfolding defined_only place_bits
returns c =
    let l = c.loop-byte in
    let bytes = register_bytes c.args.r in
    let masks : List ℕ = map mask_of place_bits in
    let first : iter_rest (zip_first c.into_iter-byte-iterator.result) ≡ bytes = cc in
    let second : iter_rest (zip_second c.into_iter-byte-iterator.result) ≡ masks = cc in
    let count : length l.yielded ≡ 15 = zip_end bytes masks l.yielded c.into_iter-byte-iterator.result l.byte-iterator c.next.new.self _ first second l.yielded_by c.in-None.is c.next.ensures.steps ∙ rw (bytes_count c.args.r) in
    l.invariant ∙ ap (λ n. defined_to n bytes) count
