-- What a line leaves, from what its call left. Assumes nothing.
use Rattle.std.proofs.Common.{◌≡◌, ℕ, Bool, List, ◌++◌, length, take, drop, sym, ap, ◌∙◌, take-append-drop}
use lib.Seq.{sets}
use Rattle.tag.specs.declared.Tag.{Tag}
use Rattle.refusals.specs.Call.{handed_in}
use Rattle.model.specs.declared.Answer.{Answer}
use Rattle.rack_model.specs.Passed.{call_answer, rack_of, rack_call, memory_sizes, RackResult, numbers_from, rack_answer, rack_result, rack_entry}
use Rattle.collision_search.specs.Passed.{SearchAnswer, SearchResult, search_result, search_entry}
use Rattle.rack_printing.specs.Passed.{line_text}
use Rattle.line_stream.specs.Step.{line_stored, stores_line}
use Rattle.rack_printing.specs.Text.{rack_text, search_text}
use Rattle.rack_start.specs.declared.RackBench.{RackBench}
use Rattle.rack_script.specs.Script.{rack_state, tags_added, script_begun, with_rack, next_rack_line, with_lines, numbered, call_answered, search_answered}

-- ---- a text, numbered
pub numbered_stored : (b : RackBench) (m o t buf out : List ℕ) (n len : ℕ) → n ≡ next_rack_line b → len ≡ length (line_text n t) → out ≡ sets buf 0 (line_text n t)
    → line_stored (rack_state (with_lines n b) m o) len out ≡ stores_line (numbered (rack_state b m o) t) buf
numbered_stored b m o t buf out n len en el eo =
    ap (λ (k : ℕ). line_stored (rack_state (with_lines n b) m o) k out) el
    ∙ ap (λ (z : List ℕ). line_stored (rack_state (with_lines n b) m o) (length (line_text n t)) z) eo
    ∙ ap (λ (k : ℕ). line_stored (rack_state (with_lines k b) m o) (length (line_text k t)) (sets buf 0 (line_text k t))) en

module _ (b : RackBench) (m o buf : List ℕ) (ts : List Tag) (ys q out : List ℕ) (end n len : ℕ)
    (size : end ≡ memory_sizes (tags_added b)) (kept : drop b.count ts ≡ drop b.count b.tags) (next : n ≡ next_rack_line b) where
  -- the places past the rack stay
  rack_stored : (t : List ℕ) → len ≡ length (line_text n t) → out ≡ sets buf 0 (line_text n t)
      → line_stored (rack_state (with_lines n (script_begun ts b.to b)) (ys ++ drop end m) q) len out
      ≡ stores_line (numbered (with_rack (rack_of (take b.count ts) ys) q (rack_state b m o)) t) buf
  rack_stored t el eo =
      let whole : ts ≡ take b.count ts ++ drop b.count b.tags =
      sym (take-append-drop b.count ts) ∙ ap (λ (z : List Tag). take b.count ts ++ z) kept in
      numbered_stored (script_begun ts b.to b) (ys ++ drop end m) q t buf out n len next el eo
      ∙ ap (λ (z : List Tag). stores_line (numbered (rack_state (script_begun z b.to b) (ys ++ drop end m) q) t) buf) whole
      ∙ ap (λ (k : ℕ). stores_line (numbered (rack_state (script_begun (take b.count ts ++ drop b.count b.tags) b.to b) (ys ++ drop k m) q) t) buf) size

  -- ---- a call
  pub call_stored : (code value : ℕ) (f : List ℕ) (x : Answer) (w : List Bool)
      → rack_result (rack_answer (call_answer x q) (numbers_from 0 w)) (rack_of (take b.count ts) ys) ≡ rack_entry (rack_of (take b.count b.tags) (take end m)) (rack_call (handed_in o code value f) b.to)
      → len ≡ length (line_text n (rack_text (rack_answer (call_answer x q) (numbers_from 0 w))))
      → out ≡ sets buf 0 (line_text n (rack_text (rack_answer (call_answer x q) (numbers_from 0 w))))
      → line_stored (rack_state (with_lines n (script_begun ts b.to b)) (ys ++ drop end m) q) len out ≡ stores_line (call_answered code value (rack_state b m o) f) buf
  unfolding call_answered
  call_stored code value f x w e el eo =
      rack_stored (rack_text (rack_answer (call_answer x q) (numbers_from 0 w))) el eo
      ∙ ap (λ (r : RackResult). stores_line (numbered (with_rack r.rack r.says.says.buffer (rack_state b m o)) (rack_text r.says)) buf)
      (e ∙ ap (λ (k : ℕ). rack_entry (rack_of (take b.count b.tags) (take k m)) (rack_call (handed_in o code value f) b.to)) size)

  -- ---- a search
  pub search_stored : (f : List ℕ) (x : SearchAnswer)
      → search_result x (rack_of (take b.count ts) ys) q ≡ search_entry (rack_of (take b.count b.tags) (take end m)) o f
      → len ≡ length (line_text n (search_text x))
      → out ≡ sets buf 0 (line_text n (search_text x))
      → line_stored (rack_state (with_lines n (script_begun ts b.to b)) (ys ++ drop end m) q) len out ≡ stores_line (search_answered (rack_state b m o) f) buf
  unfolding search_answered
  search_stored f x e el eo =
      rack_stored (search_text x) el eo
      ∙ ap (λ (r : SearchResult). stores_line (numbered (with_rack r.rack r.buffer (rack_state b m o)) (search_text r.answer)) buf)
      (e ∙ ap (λ (k : ℕ). search_entry (rack_of (take b.count b.tags) (take k m)) o f) size)
