use Rattle.parts.proofs.Picks.{picks}
use Rattle.registers.specs.Map.{written_to}
use Rattle.registers.proofs.Registers.write_to.Goals as goal
use Rattle.registers.proofs.Registers.write_to.Goals.{then-place-eq-MNGT_PLACE, else-place-eq-MNGT_PLACE}

pub returns : goal.returns
unfolding written_to
returns c =
    elim c.if-place-eq-MNGT_PLACE.branch [
      | then-place-eq-MNGT_PLACE w ↦
          rw (c.from_bytes.ensures, w.s-is, w.put_defined-then-place-eq-MNGT_PLACE.ensures, c.put_defined.ensures, c.to_bytes-s.ensures, w.if-place-eq-MNGT_PLACE.true) (search picks depth 20)
      | else-place-eq-MNGT_PLACE w ↦
          rw (c.from_bytes.ensures, w.s-is, c.put_defined.ensures, c.to_bytes-s.ensures) (search picks depth 20)
    ]
