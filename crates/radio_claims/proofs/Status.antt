-- A status byte is 1 exactly when 21 on its block gives 12h. Assumes nothing.
use Rattle.std.specs.Prelude.{Option}
use Rattle.bus.specs.declared.OpenTransfer.{OpenTransfer}
use mathlib.Core.Path.{◌≡◌, refl, sym, ap, subst, ◌∙◌}
use mathlib.Core.Bool.{Bool, true, false, not, ◌&&◌}
use mathlib.Core.List.{List, [], ◌∷◌, ◌++◌, append_assoc, append-nil}
use mathlib.Core.Logic.{inl, inr, ⊎_elim}
use Prim.Native.Nat.{ℕ, zero, suc, ◌+◌, ◌*◌, ◌-◌, ◌<◌}
use native.Mathlib.Omega.{arith}
use lib.Dec.{leb, ltb}
use lib.ListN.{length, get_or, drop, length-append}
use lib.Seq.{get_or_at}
use borrow.Author.Tests.{ltb-true, ltb-false, lt-ltb, lt-leb}
use Rattle.parts.specs.Pick.{pick}
use Rattle.parts.specs.Bytes.{bytes_at}
use Rattle.parts.proofs.Picks.{pick_false}
use Rattle.registers.specs.declared.Registers.{Registers}
use Rattle.rights.specs.declared.Side.TheVariants.{Radio}
use Rattle.rights.specs.Rights.{may_write}
use Rattle.keys.specs.declared.Uid.{Uid}
use Rattle.errors.specs.declared.RadioError.TheVariants.{WriteForbidden}
use Rattle.reply.specs.declared.RadioSide.{RadioSide}
use Rattle.reply.specs.Reply.{ReplyBody, nothing, body, good, fault}
use Rattle.reply.specs.Outcome.{CommandResult}
use Rattle.rule_list.specs.RuleList.{first_says}
use Rattle.commands.specs.Table.{command_table, command_of}
use Rattle.judge.specs.declared.Verdict.{Verdict}
use Rattle.frame.specs.Fields.{command, option_flag, param_place, param, inventory_flag}
use Rattle.blocks.specs.Blocks.{leaves_area, blocks_of, read_of}
use Rattle.block_status.specs.Status.{status_of, statuses_of, status_reply}
use Rattle.block_bytes.specs.Block.{block_of}
use Rattle.block_bytes.proofs.Block.{block_with, length_with}
use Rattle.block_status.proofs.Statuses.{counted_le, length_statuses}
use Rattle.block_status.proofs.Cases.{status_case}
use Rattle.blocks.proofs.Cases.{read_case}
use Rattle.block_writes.specs.Writes.{may_write_all, write_of}
use Rattle.block_writes.proofs.Inside.{stays, write_right_lem}
use Rattle.request.specs.Request.{request_of}
use Rattle.serve.specs.Commands.{serve_command, serve_of}
use Rattle.serve.proofs.Rows.{known_row}
use Rattle.radio.specs.Radio.{verdict_result, radio_of}
use Rattle.radio_claims.proofs.Errors.{first_same}
use Rattle.radio_claims.specs.Claims.{Asks, StatusAgrees, StatusAsWrite, OptionStatusAsWrite}

-- ---- 21 on a block of the memory: 12h, or done
passed : {A : Type 0} (b : Bool) (x y : A) → b ≡ false → pick b x y ≡ y
passed b x y h = sym (pick_false x y y b h refl)

-- the last test of 21, turned round
forbids : (b c : Bool) (x y : CommandResult) → c ≡ b → (pick (not c) x y).reply ≡ pick b y.reply x.reply
unfolding pick
forbids true c x y h = rw h
forbids false c x y h = rw h

write_reply : (t : RadioSide) (m : List ℕ) (block : ℕ) (w : List ℕ) (at : ℕ) → block < 128
    → (write_of t m block 0 w at).reply ≡ pick (may_write t.core.registers (Radio t.air.session) block) (good []) (fault WriteForbidden)
unfolding write_of
write_reply t m block w at l =
    let r = t.core.registers in
    ap (λ (x : CommandResult). x.reply)
    (passed (ltb 3 0) _ _ refl
    ∙ passed (leb 128 block) _ _ (lt-leb 128 block l)
    ∙ passed (leaves_area r.ends block (block + 0)) _ _ (stays r.ends block (block + 0) (omega arith) (omega arith)))
    ∙ forbids (may_write r (Radio t.air.session) block) (may_write_all r t.air.session block (0 + 1)) _ _ (write_right_lem r t.air.session block)

-- the status byte of that block
agrees : (b : Bool) (x : ℕ) (reply : ReplyBody) → x ≡ pick b 0 1 → reply ≡ pick b (good []) (fault WriteForbidden) → StatusAgrees x reply
unfolding pick
agrees true x reply h k = inr (h, k)
agrees false x reply h k = inl (h, k)

status_write : (t : RadioSide) (m : List ℕ) (block : ℕ) (w : List ℕ) (at : ℕ) → block < 128
    → StatusAgrees (status_of t.core.registers t.air.session block) (write_of t m block 0 w at).reply
unfolding status_of
status_write t m block w at l =
    agrees (may_write t.core.registers (Radio t.air.session) block) _ _ (ap (λ (b : Bool). pick (b && may_write t.core.registers (Radio t.air.session) block) 0 1) (lt-ltb block 128 l)) (write_reply t m block w at l)

-- ---- parts of a reply, one after the other: part k stands after the k before it
run : (ℕ → List ℕ) → ℕ → List ℕ
run part zero = []
run part (suc n) = run part n ++ part n

abbrev Split : (ℕ → List ℕ) → ℕ → ℕ → Type 0
Split part n k = (rest : List ℕ) × (run part n ≡ run part k ++ (part k ++ rest))

last_part : (part : ℕ → List ℕ) (n : ℕ) → Split part (suc n) n
unfolding run
last_part part n = ([], ap (λ (l : List ℕ). run part n ++ l) (sym (append-nil (part n))))

one_more : (part : ℕ → List ℕ) (n k : ℕ) → Split part n k → Split part (suc n) k
unfolding run
one_more part n k p = (
  p.0 ++ part n,
  ap (λ (l : List ℕ). l ++ part n) p.1
      ∙ append_assoc (run part k) (part k ++ p.0) (part n)
      ∙ ap (λ (l : List ℕ). run part k ++ l) (append_assoc (part k) p.0 (part n)),
)

decide : (part : ℕ → List ℕ) (n k : ℕ) (b : Bool) → ltb k n ≡ b → k < suc n → (k < n → Split part n k) → Split part (suc n) k
decide part n k true e h before = one_more part n k (before (ltb-true k n e))
decide part n k false e h before =
    let same : n ≡ k = omega (arith, ltb-false k n e) in
    subst (λ (j : ℕ). Split part (suc n) j) same (last_part part n)

split : (part : ℕ → List ℕ) (n k : ℕ) → k < n → Split part n k
split part zero k h = absurd (omega arith)
split part (suc n) k h = decide part n k (ltb k n) refl h (split part n k)

-- the first byte of part k, where the parts before it have p bytes
run_at : (part : ℕ → List ℕ) (n k x : ℕ) (tail : List ℕ) (p : ℕ) → k < n → part k ≡ x ∷ tail → length (run part k) ≡ p → get_or (run part n) p 0 ≡ x
run_at part n k x tail p h e l =
    let parts = split part n k h in
    ap (λ (z : List ℕ). get_or z p 0) (parts.1 ∙ ap (λ (z : List ℕ). run part k ++ (z ++ parts.0)) e)
    ∙ get_or_at (run part k) x (tail ++ parts.0) 0 p l

module _ (r : Registers) (session first : ℕ) where
  status_part : ℕ → List ℕ
  status_part k = status_of r session (first + k) ∷ []

  statuses_run : (n : ℕ) → statuses_of r session first n ≡ run status_part n
  unfolding statuses_of run status_part
  statuses_run zero = refl
  statuses_run (suc n) = ap (λ (l : List ℕ). l ++ status_of r session (first + n) ∷ []) (statuses_run n)

  statuses_at : (n k : ℕ) → k < n → get_or (statuses_of r session first n) k 0 ≡ status_of r session (first + k)
  unfolding status_part
  statuses_at n k h =
      ap (λ (l : List ℕ). get_or l k 0) (statuses_run n)
      ∙ run_at status_part n k (status_of r session (first + k)) [] k h refl (ap length (sym (statuses_run k)) ∙ length_statuses r session first k)

  module _ (m : List ℕ) where
    block_part : ℕ → List ℕ
    block_part k = block_of r session m true (first + k)

    blocks_run : (n : ℕ) → blocks_of r session m true first n ≡ run block_part n
    unfolding blocks_of run block_part
    blocks_run zero = refl
    blocks_run (suc n) = ap (λ (l : List ℕ). l ++ block_of r session m true (first + n)) (blocks_run n)

    length_blocks : (n : ℕ) → length (blocks_of r session m true first n) ≡ 5 * n
    unfolding blocks_of
    length_blocks zero = refl
    length_blocks (suc n) =
        omega (
          arith,
          length_blocks n,
          length_with r session m true (first + n) refl,
          length-append (blocks_of r session m true first n) (block_of r session m true (first + n)),
        )

    blocks_at : (n k : ℕ) → k < n → get_or (blocks_of r session m true first n) (5 * k) 0 ≡ status_of r session (first + k)
    unfolding block_part
    blocks_at n k h =
        ap (λ (l : List ℕ). get_or l (5 * k) 0) (blocks_run n)
        ∙ run_at block_part n k (status_of r session (first + k)) (bytes_at m (4 * (first + k)) 4) (5 * k) h
        (block_with r session m true (first + k) refl) (ap length (sym (blocks_run k)) ∙ length_blocks k)

-- ---- the data of a good reply
data_of : ReplyBody → List ℕ
data_of nothing = []
data_of (body b) = drop 1 b

no_data : (code : ℕ) (data- : List ℕ) → body (0x01 ∷ code ∷ []) ≡ good data- → ⊥
no_data code data- h = omega (arith, first_same 1 0 (code ∷ []) data- h)

same_data : (x y : List ℕ) → good x ≡ good y → y ≡ x
unfolding data_of
same_data x y h = sym (ap data_of h)

abbrev Counted : ℕ → ℕ → ℕ
Counted first more = pick (ltb (128 - first) (more + 1)) (128 - first) (more + 1)

status_data : (t : RadioSide) (m : List ℕ) (first more : ℕ) (data- : List ℕ) → (status_reply t m first more).reply ≡ good data-
    → (first < 128) × (data- ≡ statuses_of t.core.registers t.air.session first (Counted first more))
status_data t m first more data- =
    status_case (λ (x : CommandResult). x.reply ≡ good data- → (first < 128) × (data- ≡ statuses_of t.core.registers t.air.session first (Counted first more))) t m first more
    (λ error k. absurd (no_data _ data- k))
    (λ h k. (h, same_data _ data- k))

read_data : (t : RadioSide) (m : List ℕ) (first more : ℕ) (data- : List ℕ) → (read_of t m true first more).reply ≡ good data-
    → (first + more < 128) × (data- ≡ blocks_of t.core.registers t.air.session m true first (more + 1))
read_data t m first more data- =
    let r = t.core.registers in
    read_case (λ (x : CommandResult). x.reply ≡ good data- → (first + more < 128) × (data- ≡ blocks_of r t.air.session m true first (more + 1))) t m true first more
    (λ error k. absurd (no_data _ data- k))
    (λ h k. (h, same_data _ data- k))

-- ---- the rows of the four commands
module _ (t : RadioSide) (u : Uid) (vcc : Bool) (m s : List ℕ) where
  status_row : command s ≡ 0x2C → serve_of (request_of s u) t vcc m s ≡ status_reply t m (param s 0) (param s 1)
  unfolding command_of command_table first_says pick serve_command
  status_row h = known_row (request_of s u) t vcc m s _ (ap command_of h)

  write_row : command s ≡ 0x21 → serve_of (request_of s u) t vcc m s ≡ write_of t m (param s 0) 0 s (param_place s + 1)
  unfolding command_of command_table first_says pick serve_command
  write_row h = known_row (request_of s u) t vcc m s _ (ap command_of h)

  read_row : command s ≡ 0x20 → serve_of (request_of s u) t vcc m s ≡ read_of t m (option_flag s) (param s 0) 0
  unfolding command_of command_table first_says pick serve_command
  read_row h = known_row (request_of s u) t vcc m s _ (ap command_of h)

  read_more_row : command s ≡ 0x23 → serve_of (request_of s u) t vcc m s ≡ read_of t m (option_flag s) (param s 0) (param s 1)
  unfolding command_of command_table first_says pick serve_command
  read_more_row h = known_row (request_of s u) t vcc m s _ (ap command_of h)

module _ (t : RadioSide) (u : Uid) (vcc : Bool) (transfer : Option OpenTransfer) (programming : Bool) (m : List ℕ) where
  asked : (c : ℕ) (s : List ℕ) → Asks t u transfer programming c s
      → radio_of t u vcc transfer programming m s ≡ serve_of (request_of s u) t vcc m s
  unfolding radio_of verdict_result
  asked c s a = sym (pick_false _ _ _ (inventory_flag s) a.plain (sym (ap (λ (v : Verdict). verdict_result v t u vcc m s) a.judged)))

  -- 21 on a block of the memory, and the block's status
  write_asked : (w : List ℕ) (block : ℕ) → Asks t u transfer programming 0x21 w → param w 0 ≡ block → block < 128
      → StatusAgrees (status_of t.core.registers t.air.session block) (radio_of t u vcc transfer programming m w).reply
  write_asked w block a e l =
      let wrote = asked 0x21 w a ∙ write_row t u vcc m w a.named ∙ ap (λ (n : ℕ). write_of t m n 0 w (param_place w + 1)) e in
      subst (λ (x : ReplyBody). StatusAgrees (status_of t.core.registers t.air.session block) x) (sym (ap (λ (x : CommandResult). x.reply) wrote))
      (status_write t m block w (param_place w + 1) l)

  -- a read with the option, of more + 1 blocks
  read_asked : (s w data- : List ℕ) (first more k : ℕ) → (read_of t m true first more).reply ≡ good data- → 5 * k < length data-
      → Asks t u transfer programming 0x21 w → param w 0 ≡ first + k
      → StatusAgrees (get_or data- (5 * k) 0) (radio_of t u vcc transfer programming m w).reply
  read_asked s w data- first more k h l b e =
      let r = t.core.registers in
      let d = read_data t m first more data- h in
      let long = ap length d.1 ∙ length_blocks r t.air.session first m (more + 1) in
      let near : k < more + 1 = omega (arith, l, long) in
      let at = ap (λ (z : List ℕ). get_or z (5 * k) 0) d.1 ∙ blocks_at r t.air.session first m (more + 1) k near in
      subst (λ (x : ℕ). StatusAgrees x (radio_of t u vcc transfer programming m w).reply) (sym at)
      (write_asked w (first + k) b e (omega (arith, d.0, near)))

pub status_as_write : StatusAsWrite
status_as_write t u vcc transfer programming m s w data- k a b e h l =
    let r = t.core.registers in
    let first = param s 0 in
    let n = Counted first (param s 1) in
    let row = asked t u vcc transfer programming m 0x2C s a ∙ status_row t u vcc m s a.named in
    let d = status_data t m first (param s 1) data- (sym (ap (λ (x : CommandResult). x.reply) row) ∙ h) in
    let near : k < n = omega (arith, l, ap length d.1 ∙ length_statuses r t.air.session first n) in
    let at = ap (λ (z : List ℕ). get_or z k 0) d.1 ∙ statuses_at r t.air.session first n k near in
    subst (λ (x : ℕ). StatusAgrees x (radio_of t u vcc transfer programming m w).reply) (sym at)
    (write_asked t u vcc transfer programming m w (first + k) b e (omega (arith, d.0, near, counted_le first (param s 1))))

with_option : (t : RadioSide) (m : List ℕ) (option : Bool) (first more : ℕ) → option ≡ true → read_of t m option first more ≡ read_of t m true first more
with_option t m option first more h = ap (λ (b : Bool). read_of t m b first more) h

pub option_status_as_write : OptionStatusAsWrite
option_status_as_write t u vcc transfer programming m s w data- k a o b e h l =
    ⊎_elim
    (λ one.
    let row = asked t u vcc transfer programming m 0x20 s one ∙ read_row t u vcc m s one.named ∙ with_option t m (option_flag s) (param s 0) 0 o in
    read_asked t u vcc transfer programming m s w data- (param s 0) 0 k (sym (ap (λ (x : CommandResult). x.reply) row) ∙ h) l b e)
    (λ many.
    let row = asked t u vcc transfer programming m 0x23 s many ∙ read_more_row t u vcc m s many.named ∙ with_option t m (option_flag s) (param s 0) (param s 1) o in
    read_asked t u vcc transfer programming m s w data- (param s 0) (param s 1) k (sym (ap (λ (x : CommandResult). x.reply) row) ∙ h) l b e)
    a
