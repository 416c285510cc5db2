use Rattle.model.proofs.by_field.Goals as goal

pub returns : goal.returns
returns c = rw c.field_at.ensures
