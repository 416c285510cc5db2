-- What is proved of the status byte, beside the functions' contracts.
use Rattle.std.specs.Prelude.{◌≡◌, ℕ, is_ok}
use Rattle.parts.specs.Pick.{pick}
use Rattle.tag.specs.declared.Core.{Core}
use Rattle.write_verdict.specs.Passed.{block_situation, write_verdict}
use Rattle.block_status.specs.Status.{status_of}

-- it is 1 exactly when the verdict on the block forbids a write by radio
abbrev pub StatusByVerdict : Type 0
StatusByVerdict = (c : Core) (session block : ℕ) → status_of c.registers session block ≡ pick (is_ok (write_verdict (block_situation c session block))) 0 1
