-- Commands on the system registers: A0, A1 Config.
use Rattle.std.specs.Prelude.{not, ◌||◌, List, [], ◌∷◌, ℕ, eqb}
use Rattle.parts.specs.Pick.{pick}
use Rattle.parts.specs.Bits.{is_set}
use Rattle.register_table.specs.declared.WriteRule.{WriteRule}
use Rattle.register_table.specs.declared.WriteRule.TheVariants.{Plain, AreaEnd, MailboxMode}
use Rattle.register_table.specs.Table.{row_of, is_pointer}
use Rattle.registers.specs.Map.{register_at, written}
use Rattle.areas.specs.Ends.{end_allows}
use Rattle.mailbox.specs.declared.Mailbox.{Mailbox}
use Rattle.tag.specs.declared.Core.{Core}
use Rattle.mailbox.specs.Mailbox.{disabled}
use Rattle.tag.specs.Parts.{with_registers, with_mailbox}
use Rattle.errors.specs.declared.RadioError.TheVariants.{NoSuchRegister, ConfigurationClosed, EndRefused}
use Rattle.reply.specs.declared.RadioSide.{RadioSide}
use Rattle.reply.specs.Reply.{good}
use Rattle.reply.specs.Outcome.{CommandResult, command_result, fails, with_radio_core}

-- "A0 Config": the register's byte
unfoldable pub read_config_of : RadioSide → List ℕ → ℕ → CommandResult
read_config_of v m pointer =
    pick (not (is_pointer pointer)) (fails NoSuchRegister v m)
    (command_result (good (register_at v.core.registers pointer ∷ [])) v m)

-- a register written: MB_MODE with bit 0 clear also disables the mailbox (000, MB_CTRL_Dyn: MB_EN falls when MB_MODE is written 0)
abbrev pub mailbox_by_rule : WriteRule → ℕ → Mailbox → Mailbox
mailbox_by_rule Plain x mailbox = mailbox
mailbox_by_rule (AreaEnd i) x mailbox = mailbox
mailbox_by_rule MailboxMode x mailbox = pick (is_set 1 x) mailbox (disabled mailbox)

unfoldable pub mailbox_after_write : ℕ → ℕ → Mailbox → Mailbox
mailbox_after_write pointer x mailbox = mailbox_by_rule (row_of pointer).rule x mailbox

unfoldable pub written_core : Core → ℕ → ℕ → Core
written_core c pointer x = with_mailbox (mailbox_after_write pointer x c.mailbox) (with_registers (written c.registers pointer x) c)

-- "A1: 12h if LOCK_CFG or password 0 session closed; 0Fh ENDA"
unfoldable pub write_config_of : RadioSide → List ℕ → ℕ → ℕ → CommandResult
write_config_of v m pointer x =
    pick (not (is_pointer pointer)) (fails NoSuchRegister v m)
    (pick (is_set 1 v.core.registers.config.bits || not (eqb v.air.session 1)) (fails ConfigurationClosed v m)
    (pick (not (end_allows v.core.registers.ends pointer x)) (fails EndRefused v m)
    (command_result (good []) (with_radio_core (written_core v.core pointer x) v) m)))
