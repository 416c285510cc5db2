-- A write leg in user space.
use Rattle.std.specs.Prelude.{List, ℕ, ltb, eqb, length, get_or}
use Rattle.std.proofs.lemmas.List.Edits.{sets}
use Rattle.parts.specs.Pick.{pick}
use Rattle.register_types.specs.Types.{rf_mngt}
use Rattle.tag.specs.Passed.{with_dynamic}
use Rattle.tag.specs.declared.WireSide.{WireSide}
use Rattle.tag.specs.Layout.{user_bytes, mailbox_place}
use Rattle.mailbox.specs.Mailbox.{controlled, host_put}
use Rattle.tag.specs.Parts.{with_registers, with_mailbox, with_wire_core}
use Rattle.dynamic.specs.Dynamic.{rfMngtDyn, mbCtrlDyn, dynamic_at}
use Rattle.effect.specs.Effect.{LegResult, leg_result, programming}

-- user space: memory; RF_MNGT_Dyn; MB_CTRL_Dyn, "using bit 0 only"; the mailbox, a put by the host
unfoldable pub user_written : WireSide → List ℕ → ℕ → List ℕ → LegResult
user_written w m first bytes =
    pick (ltb first user_bytes) (leg_result (programming w) (sets m first bytes))
    (pick (eqb first (dynamic_at rfMngtDyn)) (leg_result (with_wire_core (with_registers (with_dynamic (rf_mngt (get_or bytes 0 0)) w.core.registers) w.core) w) m)
    (pick (eqb first (dynamic_at mbCtrlDyn)) (leg_result (with_wire_core (with_mailbox (controlled (get_or bytes 0 0) w.core.registers.mode w.host.vcc w.core.mailbox) w.core) w) m)
    (leg_result (with_wire_core (with_mailbox (host_put (length bytes) w.core.mailbox) w.core) w) (sets m mailbox_place bytes))))
