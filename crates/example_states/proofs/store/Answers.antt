use Rattle.parts.proofs.Picks.{picks}
use Rattle.example_states.specs.Store.{store_of}
use Rattle.example_states.proofs.store.Goals as goal

pub returns-then-s-lt2 : goal.returns-then-s-lt2
unfolding store_of
returns-then-s-lt2 c = search picks depth 20

pub returns-then-m-at : goal.returns-then-m-at
unfolding store_of
returns-then-m-at c = rw (← c.word_at-at.ensures) (search picks depth 20)

pub returns-then-m-at-2 : goal.returns-then-m-at-2
unfolding store_of
returns-then-m-at-2 c = rw (← c.word_at-at.ensures) (search picks depth 20)

pub returns : goal.returns
unfolding store_of
returns c =
    rw (c.put_bytes.ensures, ← c.word_at-at.ensures) (search picks depth 20)
