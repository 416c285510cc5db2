-- The status of a block, and 2C Status.
use Rattle.std.specs.Prelude.{◌&&◌, List, [], ◌∷◌, ◌++◌, ℕ, zero, suc, ◌+◌, ◌-◌, leb, ltb}
use Rattle.parts.specs.Pick.{pick}
use Rattle.registers.specs.declared.Registers.{Registers}
use Rattle.write_verdict.specs.Passed.{Radio, may_write}
use Rattle.tag.specs.Layout.{blocks}
use Rattle.errors.specs.declared.RadioError.TheVariants.{NoSuchBlock}
use Rattle.reply.specs.declared.RadioSide.{RadioSide}
use Rattle.reply.specs.Reply.{good}
use Rattle.reply.specs.Outcome.{CommandResult, command_result, fails}

-- "status byte .., as 2C": "1 exactly when 21 would give 12h"; where there is no block, none can be written
unfoldable pub status_of : Registers → ℕ → ℕ → ℕ
status_of r session block = pick (ltb block blocks && may_write r (Radio session) block) 0 1

-- the statuses of n blocks from the first on
unfoldable pub statuses_of : Registers → ℕ → ℕ → ℕ → List ℕ
statuses_of r session first zero = []
statuses_of r session first (suc n) = statuses_of r session first n ++ status_of r session (first + n) ∷ []

-- "2C Status: first, count-1; 10h; stops at block 127"
unfoldable pub status_reply : RadioSide → List ℕ → ℕ → ℕ → CommandResult
status_reply v m first more =
    pick (leb blocks first) (fails NoSuchBlock v m)
    (command_result (good (statuses_of v.core.registers v.air.session first (pick (ltb (blocks - first) (more + 1)) (blocks - first) (more + 1)))) v m)
