-- Each command's reply says the code of the first error of its row that applies. Assumes nothing.
use mathlib.Core.Path.{◌≡◌, refl, sym, ap, ◌∙◌}
use mathlib.Core.Bool.{Bool, true, false, not, ◌&&◌, ◌||◌}
use mathlib.Core.List.{List, []}
use Prim.Native.Nat.{ℕ}
use Rattle.std.specs.Prelude.{Option, None, Some, Result}
use native.Mathlib.Omega.{arith}
use lib.Dec.{eqb}
use Rattle.parts.specs.Pick.{pick}
use Rattle.parts.proofs.Picks.{pick_map}
use Rattle.rule_list.specs.RuleList.{first_says}
use Rattle.rule_list.proofs.Laws.{says_passes}
use Rattle.register_types.specs.declared.RfMngt.{RfMngt}
use Rattle.keys.specs.declared.Uid.{Uid}
use Rattle.reply.specs.declared.RadioSide.{RadioSide}
use Rattle.reply.specs.Outcome.{CommandResult}
use Rattle.commands.specs.declared.Command.{Command}
use Rattle.commands.specs.declared.Command.TheVariants.{StayQuiet, Select, ResetToReady, ReadSingleBlock, ReadMultipleBlocks, WriteSingleBlock, WriteMultipleBlocks, LockBlock, GetMultipleBlockSecurityStatus, ReadConfiguration, WriteConfiguration, ReadDynamicConfiguration, WriteDynamicConfiguration, WriteMessage, ReadMessageLength, ReadMessage, PresentPassword, WritePassword}
use Rattle.frame.specs.Fields.{command, own_uid, param}
use Rattle.errors.specs.declared.RadioError.{RadioError}
use Rattle.judge.specs.Judge.{is_mute}
use Rattle.blocks.specs.Blocks.{read_of}
use Rattle.block_status.specs.Status.{status_reply}
use Rattle.serve.specs.Passed.{write_of, lock_of}
use Rattle.config.specs.Config.{read_config_of, write_config_of}
use Rattle.dynamic_config.specs.DynamicConfig.{read_dynamic_of, write_dynamic_of}
use Rattle.message_writes.specs.WriteMessage.{write_message_of}
use Rattle.message.specs.Message.{length_of, read_message_of}
use Rattle.password.specs.Password.{present_of, write_password_of}
use Rattle.radio_state.specs.RadioState.{stay_quiet_of, select_uid_of, reset_to_ready_of}
use Rattle.request.specs.Request.{request_of}
use Rattle.serve.specs.Commands.{serve_command}
use Rattle.commands.specs.declared.CommandRow.{CommandRow}
use Rattle.commands.specs.Table.{CodedRow, command_table, command_of}
use Rattle.commands.proofs.Codes.{code_of, differs, as_in_table, named}
use Rattle.row_rules.specs.Claims.{hushed, spoke, said_of, found_said, RowsSay}
use Rattle.row_rules.specs.RowErrors.{more_blocks, error_applies, command_errors, first_applying}

said_pick : (b : Bool) (x y : CommandResult) → said_of (pick b x y).reply ≡ pick b (said_of x.reply) (said_of y.reply)
said_pick b x y = pick_map (λ (result : CommandResult). said_of result.reply) b x y

found_pick : (b : Bool) (x y : Result (Unit {0}) RadioError) → found_said (pick b x y) ≡ pick b (found_said x) (found_said y)
found_pick b x y = pick_map found_said b x y

pick_yes : {A : Type 0} (x y : A) → pick true x y ≡ x
unfolding pick
pick_yes x y = refl

pick_no : {A : Type 0} (x y : A) → pick false x y ≡ y
unfolding pick
pick_no x y = refl

quiet : {A : Type 0} (x y : A) → x ≡ pick true x y
unfolding pick
quiet x y = refl

swapped : (own : Bool) → pick own (spoke 0) hushed ≡ pick (not own) hushed (spoke 0)
unfolding pick
swapped true = refl
swapped false = refl

module _ (dynamic : RfMngt) (busy : Bool) (v : RadioSide) (u : Uid) (vcc : Bool) (m f : List ℕ) where
  abbrev Row : Command → Type 0
  Row c = said_of (serve_command c (request_of f u) v vcc m f).reply ≡ pick (is_mute f u) hushed (found_said (first_applying dynamic busy v f (command_errors c)))

  -- the mute test and the count, of a known command
  mute_is : (n : ℕ) → command f ≡ n → is_mute f u ≡ (eqb n 0x02 || (eqb n 0x25 && not (own_uid f u)))
  unfolding is_mute
  mute_is n e = ap (λ (k : ℕ). eqb k 0x02 || (eqb k 0x25 && not (own_uid f u))) e

  one_block : (n : ℕ) → command f ≡ n → (eqb n 0x23 || eqb n 0x24) ≡ false → more_blocks f ≡ 0
  unfolding more_blocks pick
  one_block n e h = rw (e, h)

  more_blocks_lem : (n : ℕ) → command f ≡ n → (eqb n 0x23 || eqb n 0x24) ≡ true → more_blocks f ≡ param f 1
  unfolding more_blocks pick
  more_blocks_lem n e h = rw (e, h)

  -- no mute command
  loud : (c : Command) → is_mute f u ≡ false
      → said_of (serve_command c (request_of f u) v vcc m f).reply ≡ found_said (first_applying dynamic busy v f (command_errors c)) → Row c
  unfolding pick
  loud c h a = rw h a

  -- ---- every command, a line each
  pub every_said : (c : Command) → command f ≡ code_of c → Row c
  unfolding first_says first_applying error_applies command_errors serve_command said_of found_said code_of stay_quiet_of select_uid_of reset_to_ready_of read_of write_of lock_of status_reply read_config_of write_config_of read_dynamic_of write_dynamic_of write_message_of length_of read_message_of present_of write_password_of
  every_said StayQuiet e = rw (mute_is 0x02 e) (quiet hushed (spoke 0))
  every_said Select e = rw (mute_is 0x25 e) (simp (said_pick, pick_no) (swapped (own_uid f u)))
  every_said ResetToReady e = loud ResetToReady (mute_is 0x26 e) (simp (pick_no))
  every_said ReadSingleBlock e = loud ReadSingleBlock (mute_is 0x20 e) (rw (one_block 0x20 e refl) (simp (said_pick, found_pick, pick_yes, pick_no)))
  every_said ReadMultipleBlocks e = loud ReadMultipleBlocks (mute_is 0x23 e) (rw (more_blocks_lem 0x23 e refl) (simp (said_pick, found_pick, pick_yes, pick_no)))
  every_said WriteSingleBlock e = loud WriteSingleBlock (mute_is 0x21 e) (rw (one_block 0x21 e refl) (simp (said_pick, found_pick, pick_yes, pick_no)))
  every_said WriteMultipleBlocks e = loud WriteMultipleBlocks (mute_is 0x24 e) (rw (more_blocks_lem 0x24 e refl) (simp (said_pick, found_pick, pick_yes, pick_no)))
  every_said LockBlock e = loud LockBlock (mute_is 0x22 e) (simp (said_pick, found_pick, pick_yes, pick_no))
  every_said GetMultipleBlockSecurityStatus e = loud GetMultipleBlockSecurityStatus (mute_is 0x2C e) (simp (said_pick, found_pick, pick_yes, pick_no))
  every_said ReadConfiguration e = loud ReadConfiguration (mute_is 0xA0 e) (simp (said_pick, found_pick, pick_yes, pick_no))
  every_said WriteConfiguration e = loud WriteConfiguration (mute_is 0xA1 e) (simp (said_pick, found_pick, pick_yes, pick_no))
  every_said ReadDynamicConfiguration e = loud ReadDynamicConfiguration (mute_is 0xAD e) (simp (said_pick, found_pick, pick_yes, pick_no))
  every_said WriteDynamicConfiguration e = loud WriteDynamicConfiguration (mute_is 0xAE e) (simp (said_pick, found_pick, pick_yes, pick_no))
  every_said WriteMessage e = loud WriteMessage (mute_is 0xAA e) (simp (said_pick, found_pick, pick_yes, pick_no))
  every_said ReadMessageLength e = loud ReadMessageLength (mute_is 0xAB e) (simp (said_pick, found_pick, pick_yes, pick_no))
  every_said ReadMessage e = loud ReadMessage (mute_is 0xAC e) (simp (said_pick, found_pick, pick_yes, pick_no))
  every_said PresentPassword e = loud PresentPassword (mute_is 0xB3 e) (simp (said_pick, found_pick, pick_yes, pick_no))
  every_said WritePassword e = loud WritePassword (mute_is 0xB1 e) (simp (said_pick, found_pick, pick_yes, pick_no))

-- ---- a known command has its code
row_in : CommandRow → Option CommandRow → CommandRow
row_in other None = other
row_in other (Some row) = row

tag_of : Option CommandRow → ℕ
tag_of None = 0
tag_of (Some row) = 1

coded : (f : List ℕ) (row : CommandRow) → command_of (command f) ≡ Some row → command f ≡ code_of row.command
unfolding command_of row_in tag_of
coded f row =
    let P : Option CommandRow → Type 0 = λ (code : Option CommandRow). code ≡ Some row → command f ≡ code_of row.command in
    says_passes (λ (r : CodedRow). eqb (command f) r.code) differs (λ (r : CodedRow). Some r.row) None P command_table as_in_table
    (λ r h k e. sym (named (command f) r h k) ∙ ap (λ (x : Option CommandRow). code_of (row_in row x).command) e)
    (λ e. let z : ◌≡◌ {A = ℕ} 0 1 = ap tag_of e in absurd (omega arith))

pub rows_say : RowsSay
rows_say dynamic busy v u vcc m f row h = every_said dynamic busy v u vcc m f row.command (coded f row h)
