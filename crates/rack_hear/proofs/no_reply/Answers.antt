use Rattle.parts.proofs.Picks.{picks}
use Rattle.rack_hear.specs.Hear.{no_reply_answer}
use Rattle.rack_hear.proofs.no_reply.Goals as goal

-- src/lib.rt:54:9
pub returns-then-code-eq2 : goal.returns-then-code-eq2
unfolding no_reply_answer
returns-then-code-eq2 c = search picks depth 20

-- src/lib.rt:50:1
pub returns : goal.returns
unfolding no_reply_answer
returns c = search picks depth 20
