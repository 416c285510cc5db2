use Rattle.parts.proofs.Picks.{picks}
use Rattle.capi.proofs.reply_number.Goals as goal

pub returns-then-n-le-REPLY_BYTES : goal.returns-then-n-le-REPLY_BYTES
returns-then-n-le-REPLY_BYTES c = search picks depth 20

pub returns : goal.returns
returns c = search picks depth 20
