-- The number of what a function over one kind of rules finds, or 0.
use Rattle.std.specs.Prelude.{ℕ, ⊤, Result, Ok, Err}
use Rattle.write_reasons.specs.declared.WriteReason.{WriteReason}
use Rattle.write_reasons.specs.Reasons.{reason_number}
use Rattle.errors.specs.declared.RadioError.{RadioError}
use Rattle.errors.specs.Errors.{error_number}

-- of a verdict on a write
unfoldable pub write_number : Result ⊤ WriteReason → ℕ
write_number (Ok unit) = 0
write_number (Err reason) = reason_number reason

-- of a frame's first error, if there is one
unfoldable pub found_number : Result ⊤ RadioError → ℕ
found_number (Ok w) = 0
found_number (Err error) = error_number error
