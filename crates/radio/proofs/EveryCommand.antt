-- What every command says and leaves: a command has its line here, once for all that is proved of every frame. An error has none:
-- the law of its command (proofs/Cases.antt of the command's crate) asks for one fact on all errors. Assumes nothing.
use Rattle.std.specs.Prelude.{Option}
use Rattle.bus.specs.declared.OpenTransfer.{OpenTransfer}
use mathlib.Core.Path.{◌≡◌, refl, sym, ap, ◌∙◌}
use mathlib.Core.Bool.{Bool, true, false, not, ◌&&◌, ◌||◌}
use mathlib.Core.List.{List, []}
use mathlib.Core.Logic.{◌⊎◌, inl, inr, ⊎_elim}
use Prim.Native.Nat.{ℕ, ◌+◌, ◌*◌, ◌-◌, ◌≤◌, ◌<◌}
use native.Mathlib.Omega.{arith}
use lib.Dec.{ltb, eqb}
use lib.ListN.{length}
use lib.Seq.{sets, length-sets}
use borrow.Author.Tests.{le-leb, leb-true, not-true}
use Rattle.parts.specs.Pick.{pick}
use Rattle.parts.specs.Bits.{is_set}
use Rattle.parts.specs.Bytes.{bytes_at}
use Rattle.parts.proofs.Below.{Below, run_below, sets_below}
use Rattle.parts.proofs.Bools.{and_left, and_right, or_first, or_second}
use Rattle.parts.proofs.Lists.{length_bytes_at}
use Rattle.parts.proofs.Picks.{pick_case}
use Rattle.rule_list.proofs.Laws.{says_passes}
use Rattle.register_types.specs.declared.RfMngt.{RfMngt}
use Rattle.register_types.specs.declared.MbMode.{MbMode}
use Rattle.register_table.specs.declared.WriteRule.{WriteRule}
use Rattle.register_table.specs.declared.WriteRule.TheVariants.{Plain, AreaEnd, MailboxMode}
use Rattle.register_table.specs.Table.{row_of}
use Rattle.ranges.specs.Ranges.{registers_in_range, air_in_range, mailbox_in_range}
use Rattle.ranges.proofs.AirKept.{session_kept, state_kept, quieted_kept, slots_kept}
use Rattle.ranges.proofs.MailboxKept.{empty_kept, radio_read_kept, controlled_kept, radio_put_kept}
use Rattle.ranges.proofs.RegistersKept.{written_kept, ccfile_kept}
use Rattle.keys.specs.declared.Passwords.{Passwords}
use Rattle.keys.specs.declared.Uid.{Uid}
use Rattle.keys.specs.Keys.{password_at, with_radio_password}
use Rattle.air.specs.declared.Air.{Air}
use Rattle.air.specs.declared.RadioState.TheVariants.{Ready, Selected}
use Rattle.air.specs.Parts.{with_slots}
use Rattle.air.specs.Radio.{is_quiet, deselected}
use Rattle.mailbox.specs.declared.Mailbox.{Mailbox}
use Rattle.mailbox.specs.Mailbox.{enabled, controlled}
use Rattle.errors.specs.declared.RadioError.{RadioError}
use Rattle.reply.specs.declared.RadioSide.{RadioSide}
use Rattle.reply.specs.Reply.{nothing, good, fault}
use Rattle.reply.specs.Outcome.{CommandResult, command_result, fails, with_air, side_mailbox}
use Rattle.commands.specs.declared.Command.{Command}
use Rattle.commands.specs.declared.Command.TheVariants.{StayQuiet, Select, ResetToReady, ReadSingleBlock, ReadMultipleBlocks, WriteSingleBlock, WriteMultipleBlocks, LockBlock, GetMultipleBlockSecurityStatus, ReadConfiguration, WriteConfiguration, ReadDynamicConfiguration, WriteDynamicConfiguration, WriteMessage, ReadMessageLength, ReadMessage, PresentPassword, WritePassword}
use Rattle.commands.specs.declared.CommandRow.{CommandRow}
use Rattle.std.specs.Prelude.{Option, None, Some}
use Rattle.commands.specs.Table.{CodedRow, command_table, command_of}
use Rattle.commands.proofs.Codes.{code_of, differs, as_in_table, named}
use Rattle.frame.specs.Fields.{command, inventory_flag}
use Rattle.inventory.proofs.Laws.{slots_most, part_awake}
use Rattle.inventory_reply.specs.Answers.{slots_left, inventory_of}
use Rattle.inventory_reply.proofs.Laws.{inventory_case}
use Rattle.judge.specs.declared.Verdict.{Verdict}
use Rattle.judge.specs.declared.Verdict.TheVariants.{Silence, Error, Request}
use Rattle.serve.specs.Passed.{read_of, status_reply, write_of, lock_of, mailbox_by_rule, mailbox_after_write, written_core, write_config_of, asked, mailbox_after_read, read_message_of, takes_message, write_message_of, present_of, write_password_of}
use Rattle.serve.proofs.Passed.{blocks_le, read_case, counted_le, length_statuses, status_case, write_case, lock_case, read_config_case, write_config_case, length_case, read_message_case, write_message_case, present_case, write_password_case}
use Rattle.dynamic_config.specs.DynamicConfig.{write_dynamic_of}
use Rattle.dynamic_config.proofs.Cases.{read_dynamic_case, write_dynamic_case}
use Rattle.radio_state.specs.RadioState.{select_uid_of}
use Rattle.radio_state.proofs.Cases.{stay_quiet_case, select_case, reset_case}
use Rattle.request.specs.declared.RequestFields.{RequestFields}
use Rattle.request.specs.Request.{request_of}
use Rattle.serve.specs.Commands.{serve_command, serve_code, serve_of}
use Rattle.radio.specs.Claims.{reply_size}
use Rattle.radio.specs.Radio.{dynamic_now, busy_now, verdict_result, verdict_of, radio_of}

-- ---- what is proved of a result
-- the ranges as facts
pub record SideFits (vcc : Bool) (v : RadioSide) : Type 0 where
  pub air : air_in_range v.air ≡ true
  pub registers : registers_in_range v.core.registers ≡ true
  pub mailbox : mailbox_in_range v.core.mailbox ≡ true
  pub supplied : (vcc || not v.core.mailbox.enabled) ≡ true

-- silence, a good reply, or an error that leaves the side `after` and the memory m
pub data Shape (after : RadioSide) (m : List ℕ) (x : CommandResult) : Type 0 where
  silent : x.reply ≡ nothing → Shape after m x
  served : (data- : List ℕ) → x.reply ≡ good data- → Shape after m x
  failed : (error : RadioError) → x ≡ command_result (fault error) after m → Shape after m x

-- the passwords stay, or one is replaced by bytes of the frame
pub data KeysAfter (f : List ℕ) (p next : Passwords) : Type 0 where
  same_keys : next ≡ p → KeysAfter f p next
  new_key : (n at : ℕ) → next ≡ with_radio_password n (password_at f at) p → KeysAfter f p next

-- all that is proved of the result x of request q in frame f: its reply has room, ranges are kept, the memory stays as long as it was
-- and of bytes, the passwords too, and an error changes nothing unless `presents`: the request is a B3
pub record Behaves (presents : Type 0) (q : RequestFields) (v : RadioSide) (vcc : Bool) (m f : List ℕ) (x : CommandResult) : Type 0 where
  pub room : mailbox_in_range v.core.mailbox ≡ true → reply_size x.reply ≤ 643
  pub range : q.first < 256 → SideFits vcc v → SideFits vcc x.side
  pub size : length x.memory ≡ length m
  pub bytes : Below m → Below f → Below x.memory
  pub keys : KeysAfter f v.core.passwords x.side.core.passwords
  pub errors : presents ⊎ Shape v m x

presents_too : (P Q : Type 0) (q : RequestFields) (v : RadioSide) (vcc : Bool) (m f : List ℕ) (x : CommandResult) → (P → Q)
    → Behaves P q v vcc m f x → Behaves Q q v vcc m f x
presents_too P Q q v vcc m f x g b =
    record { room = b.room; range = b.range; size = b.size; bytes = b.bytes; keys = b.keys; errors = ⊎_elim (λ p. inl (g p)) (λ s. inr s) b.errors }

module _ (q : RequestFields) (v : RadioSide) (vcc : Bool) (m f : List ℕ) where
  abbrev K : Type 0 → CommandResult → Type 0
  K presents x = Behaves presents q v vcc m f x

  abbrev Ranges : RadioSide → Type 0
  Ranges next = q.first < 256 → SideFits vcc v → SideFits vcc next

  -- ---- kinds of results
  fail : {P : Type 0} (error : RadioError) → K P (fails error v m)
  unfolding reply_size
  fail error =
      record { room = λ _. omega arith; range = λ _ h. h; size = refl; bytes = λ h _. h; keys = same_keys refl; errors = inr (failed error refl) }

  -- a good reply that leaves the side `next`
  gives : {P : Type 0} (s : List ℕ) (next : RadioSide) → (mailbox_in_range v.core.mailbox ≡ true → length s ≤ 640) → Ranges next
      → KeysAfter f v.core.passwords next.core.passwords → K P (command_result (good s) next m)
  unfolding reply_size
  gives s next l h k =
      record { room = λ r. omega (arith, l r); range = h; size = refl; bytes = λ b _. b; keys = k; errors = inr (served s refl) }

  -- a good reply that changes nothing
  replies : {P : Type 0} (s : List ℕ) → (mailbox_in_range v.core.mailbox ≡ true → length s ≤ 640) → K P (command_result (good s) v m)
  replies s l = gives s v l (λ _ h. h) (same_keys refl)

  -- done, and bytes of the frame stored into the memory
  stores : {P : Type 0} (next : RadioSide) (at place n : ℕ) → Ranges next → next.core.passwords ≡ v.core.passwords
      → K P (command_result (good []) next (sets m at (bytes_at f place n)))
  unfolding reply_size
  stores next at place n h k =
      record {
        room = λ _. omega arith;
        range = h;
        size = length-sets m at (bytes_at f place n);
        bytes = λ b d. sets_below (bytes_at f place n) m at (run_below f place n d) b;
        keys = same_keys k;
        errors = inr (served [] refl);
      }

  in_air : (a : Air) → (air_in_range v.air ≡ true → air_in_range a ≡ true) → Ranges (with_air a v)
  in_air a h _ fits = record { air = h fits.air; registers = fits.registers; mailbox = fits.mailbox; supplied = fits.supplied }

  -- silence, with the radio state changed
  hushes : {P : Type 0} (a : Air) → (air_in_range v.air ≡ true → air_in_range a ≡ true) → K P (command_result nothing (with_air a v) m)
  unfolding reply_size
  hushes a h =
      record { room = λ _. omega arith; range = in_air a h; size = refl; bytes = λ b _. b; keys = same_keys refl; errors = inr (silent refl) }

  -- ---- blocks
  reads : {P : Type 0} (option : Bool) (first more : ℕ) → K P (read_of v m option first more)
  reads {P} option first more =
      read_case (K P) v m option first more fail
      (λ h. replies _ (λ _. omega (arith, h, blocks_le v.core.registers v.air.session m option first (more + 1))))

  writes : {P : Type 0} (first more at : ℕ) → K P (write_of v m first more f at)
  writes {P} first more at = write_case (K P) v m first more f at fail (stores v (4 * first) at (4 * (more + 1)) (λ _ h. h) refl)

  locks : {P : Type 0} (block : ℕ) → K P (lock_of v m block)
  locks {P} block =
      lock_case (K P) v m block fail
      (gives [] _ (λ _. omega arith)
      (λ _ fits. record { air = fits.air; registers = ccfile_kept v.core.registers _ fits.registers; mailbox = fits.mailbox; supplied = fits.supplied })
      (same_keys refl))

  statuses : {P : Type 0} (first more : ℕ) → K P (status_reply v m first more)
  statuses {P} first more =
      let n = pick (ltb (128 - first) (more + 1)) (128 - first) (more + 1) in
      status_case (K P) v m first more fail
      (λ _. replies _ (λ _. omega (arith, counted_le first more, length_statuses v.core.registers v.air.session first n)))

  -- ---- registers
  abbrev Carried : Mailbox → Type 0
  Carried mailbox = (mailbox_in_range mailbox ≡ true) × ((vcc || not mailbox.enabled) ≡ true)

  mailbox_by : (rule : WriteRule) (x : ℕ) → SideFits vcc v → Carried (mailbox_by_rule rule x v.core.mailbox)
  mailbox_by Plain x fits = (fits.mailbox, fits.supplied)
  mailbox_by (AreaEnd i) x fits = (fits.mailbox, fits.supplied)
  mailbox_by MailboxMode x fits = pick_case Carried _ _ _ (λ h. (fits.mailbox, fits.supplied)) (λ h. (empty_kept, or_second vcc true refl))

  mailbox_after : (p x : ℕ) → SideFits vcc v → Carried (mailbox_after_write p x v.core.mailbox)
  unfolding mailbox_after_write
  mailbox_after p x fits = mailbox_by (row_of p).rule x fits

  configures : {P : Type 0} (p x : ℕ) → K P (write_config_of v m p x)
  unfolding written_core
  configures {P} p x =
      write_config_case (K P) v m p x fail
      (λ allowed.
      gives [] _ (λ _. omega arith)
      (λ _ fits.
      let b = mailbox_after p x fits in
      record { air = fits.air; registers = written_kept v.core.registers p x fits.registers allowed; mailbox = b.0; supplied = b.1 })
      (same_keys refl))

  -- ---- the mailbox
  in_mailbox : (mailbox : Mailbox) → (q.first < 256 → SideFits vcc v → Carried mailbox) → Ranges (side_mailbox mailbox v)
  in_mailbox mailbox h l fits = let b = h l fits in record { air = fits.air; registers = fits.registers; mailbox = b.0; supplied = b.1 }

  -- MB_EN is set only with VCC
  enabled_supplied : (mode : MbMode) → SideFits vcc v → (vcc || not (enabled mode vcc v.core.mailbox).enabled) ≡ true
  unfolding enabled
  enabled_supplied mode fits =
      pick_case (λ (b : Mailbox). (vcc || not b.enabled) ≡ true) (is_set 1 mode.bits && vcc) _ _
      (λ h. or_first vcc false (and_right (is_set 1 mode.bits) vcc h)) (λ h. fits.supplied)

  control_supplied : (x : ℕ) (mode : MbMode) → SideFits vcc v → (vcc || not (controlled x mode vcc v.core.mailbox).enabled) ≡ true
  unfolding controlled
  control_supplied x mode fits =
      pick_case (λ (b : Mailbox). (vcc || not b.enabled) ≡ true) _ _ _ (λ h. enabled_supplied mode fits) (λ h. or_second vcc true refl)

  controls : {P : Type 0} (p x : ℕ) → K P (write_dynamic_of v m vcc p x)
  controls {P} p x =
      let mode = v.core.registers.mode in
      write_dynamic_case (K P) v m fail vcc p x
      (gives [] _ (λ _. omega arith)
      (in_mailbox _ (λ _ fits. (controlled_kept x mode vcc v.core.mailbox fits.mailbox, control_supplied x mode fits)))
      (same_keys refl))

  puts : {P : Type 0} (at : ℕ) → K P (write_message_of v m q.first f at)
  unfolding takes_message
  puts {P} at =
      let b = v.core.mailbox in
      let more = q.first in
      write_message_case (K P) v m more f at fail
      (λ e.
      let free = and_left (b.enabled && not b.host.put) (not b.rf.put) e in
      stores _ 512 at (more + 1)
      (in_mailbox _ (λ l fits. (
        radio_put_kept b (more + 1) (and_left b.enabled (not b.host.put) free) (omega arith) (omega arith) (not-true b.host.put (and_right b.enabled (not b.host.put) free)),
        fits.supplied,
      )))
      refl)

  -- a message in range has at most 256 bytes
  longest : mailbox_in_range v.core.mailbox ≡ true → v.core.mailbox.length ≤ 256
  unfolding mailbox_in_range
  longest h = leb-true v.core.mailbox.length 256 (and_left _ _ (and_left _ _ (and_left _ _ (and_left _ _ (and_left _ _ h)))))

  takes : {P : Type 0} (p n : ℕ) → K P (read_message_of v m p n)
  unfolding mailbox_after_read
  takes {P} p n =
      let b = v.core.mailbox in
      read_message_case (K P) v m fail p n
      (λ h. gives _ _ (λ r. omega (arith, h, longest r, length_bytes_at m (512 + p) (asked b p n)))
      (in_mailbox _ (λ _ fits. (
        pick_case (λ (x : Mailbox). mailbox_in_range x ≡ true) _ _ _ (λ k. radio_read_kept b fits.mailbox) (λ k. fits.mailbox),
        pick_case (λ (x : Mailbox). (vcc || not x.enabled) ≡ true) _ _ _ (λ k. fits.supplied) (λ k. fits.supplied),
      )))
      (same_keys refl))

  -- ---- passwords and the radio state
  presents_password : (n at : ℕ) → K (PresentPassword ≡ PresentPassword) (present_of v m n f at)
  unfolding reply_size
  presents_password n at =
      let P = PresentPassword ≡ PresentPassword in
      present_case (K P) v m n f at (λ _. fail)
      (λ _ _ error. record { room = λ _. omega arith; range = in_air _ (session_kept v.air 0 refl); size = refl; bytes = λ b _. b; keys = same_keys refl; errors = inl refl })
      (λ h. gives [] _ (λ _. omega arith) (in_air _ (session_kept v.air (n + 1) (le-leb (n + 1) 4 (omega (arith, h))))) (same_keys refl))

  writes_password_lem : {P : Type 0} (n at : ℕ) → K P (write_password_of v m n f at)
  writes_password_lem {P} n at =
      write_password_case (K P) v m n f at fail
      (gives [] _ (λ _. omega arith)
      (λ _ fits. record { air = fits.air; registers = fits.registers; mailbox = fits.mailbox; supplied = fits.supplied })
      (new_key n at refl))

  selects : {P : Type 0} (own : Bool) → K P (select_uid_of v m own)
  unfolding is_quiet deselected
  selects {P} own =
      select_case (K P) v m own (gives [] _ (λ _. omega arith) (in_air _ (state_kept v.air Selected refl)) (same_keys refl))
      (hushes _ (λ h. pick_case (λ (a : Air). air_in_range a ≡ true) _ _ _ (λ k. state_kept v.air Ready refl h) (λ k. h)))

  -- ---- inventory
  leaves : {P : Type 0} (u : Uid) (n : ℕ) (answers : Bool) → (air_in_range v.air ≡ true → air_in_range (with_slots n v.air) ≡ true) → K P (slots_left v u n answers m)
  leaves {P} u n answers h =
      pick_case (K P) answers _ _ (λ _. gives _ _ (λ _. omega (arith, length_bytes_at u.bytes 0 8)) (in_air _ h) (same_keys refl)) (λ _. hushes _ h)

  pub inventories : {P : Type 0} (u : Uid) (dynamic : RfMngt) (busy : Bool) → K P (inventory_of v u dynamic busy m f)
  inventories {P} u dynamic busy =
      inventory_case (K P) v u dynamic busy m f
      (λ h. leaves u _ _ (slots_kept v.air _ (slots_most f u v.core.registers.afi) (part_awake v.air dynamic busy h)))
      (hushes v.air (λ h. h))

  -- ---- every command, a line each
  every_command : (c : Command) → K (c ≡ PresentPassword) (serve_command c q v vcc m f)
  unfolding serve_command is_quiet
  every_command StayQuiet = stay_quiet_case (K _) v m (hushes _ (quieted_kept v.air))
  every_command Select = selects q.own
  every_command ResetToReady = reset_case (K _) v m (gives [] _ (λ _. omega arith) (in_air _ (state_kept v.air Ready refl)) (same_keys refl))
  every_command ReadSingleBlock = reads q.option q.first 0
  every_command ReadMultipleBlocks = reads q.option q.first q.second
  every_command WriteSingleBlock = writes q.first 0 (q.at + 1)
  every_command WriteMultipleBlocks = writes q.first q.second (q.at + 2)
  every_command LockBlock = locks q.first
  every_command GetMultipleBlockSecurityStatus = statuses q.first q.second
  every_command ReadConfiguration = read_config_case (K _) v m q.first fail (replies _ (λ _. omega arith))
  every_command WriteConfiguration = configures q.first q.second
  every_command ReadDynamicConfiguration = read_dynamic_case (K _) v m fail q.first (replies _ (λ _. omega arith))
  every_command WriteDynamicConfiguration = controls q.first q.second
  every_command WriteMessage = puts (q.at + 1)
  every_command ReadMessageLength = length_case (K _) v m fail (replies _ (λ _. omega arith))
  every_command ReadMessage = takes q.first q.second
  every_command PresentPassword = presents_password q.first (q.at + 1)
  every_command WritePassword = writes_password_lem q.first (q.at + 1)

-- ---- every frame
module _ (v : RadioSide) (vcc : Bool) (m f : List ℕ) where
  abbrev F : RequestFields → CommandResult → Type 0
  F q x = Behaves (command f ≡ 0xB3) q v vcc m f x

  silence : (q : RequestFields) → F q (command_result nothing v m)
  silence q = hushes q v vcc m f v.air (λ h. h)

  pub request_behaves : (u : Uid) → F (request_of f u) (serve_of (request_of f u) v vcc m f)
  unfolding serve_of serve_code command_of code_of
  request_behaves u =
      let q = request_of f u in
      says_passes (λ (coded : CodedRow). eqb (command f) coded.code) differs (λ (coded : CodedRow). Some coded.row) None
      (λ (c : Option CommandRow). F q (serve_code c q v vcc m f)) command_table as_in_table
      (λ coded h k. presents_too _ _ q v vcc m f _ (λ e. sym (named (command f) coded h k) ∙ ap code_of e) (every_command q v vcc m f coded.row.command))
      (silence q)

  answer_behaves : (u : Uid) (verdict : Verdict) → F (request_of f u) (verdict_result verdict v u vcc m f)
  unfolding verdict_result
  answer_behaves u Silence = silence (request_of f u)
  answer_behaves u (Error error) = fail (request_of f u) v vcc m f error
  answer_behaves u Request = request_behaves u

  pub frame_behaves : (u : Uid) (transfer : Option OpenTransfer) (programming : Bool) → F (request_of f u) (radio_of v u vcc transfer programming m f)
  unfolding radio_of
  frame_behaves u transfer programming =
      pick_case (F (request_of f u)) (inventory_flag f) _ _ (λ h. inventories (request_of f u) v vcc m f u (dynamic_now v transfer) (busy_now transfer programming))
      (λ h. answer_behaves u (verdict_of v u transfer programming f))
