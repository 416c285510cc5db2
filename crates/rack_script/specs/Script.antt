-- From line to line of a rack's script: what a line leaves, and what it prints.
use Rattle.std.specs.Prelude.{ℕ, ◌+◌, ◌%◌, true, List, [], ◌∷◌, ◌++◌, take, drop}
use Rattle.parts.specs.Pick.{pick}
use Rattle.crc.specs.Crc.{closed}
use Rattle.keys.specs.declared.Uid.{Uid}
use Rattle.tag.specs.declared.Tag.{Tag}
use Rattle.refusals.specs.Call.{handed_in}
use Rattle.rack_model.specs.Passed.{Rack, rack_of, rack_call, memory_sizes, rack_entry}
use Rattle.collision_search.specs.Passed.{search_entry}
use Rattle.reading.specs.Line.{bad_line, signal_line, frame_line}
use Rattle.rack_printing.specs.Passed.{bad_text, line_text}
use Rattle.line_stream.specs.State.{LineState, line_state}
use Rattle.line_stream.specs.Step.{LineAnswer, line_answer, LineProgram}
use Rattle.rack_reading.specs.Line.{RackLine, bench_line, add_line, name_line, search_line, rack_line_of}
use Rattle.rack_printing.specs.Text.{rack_text, search_text}
use Rattle.rack_start.specs.declared.RackBench.{RackBench}
use Rattle.rack_start.specs.Start.{takes_tag, added_tag}

-- ---- what goes from line to line
-- the tags and what else is on the bench, their memories, the reply buffer
abbrev pub RackState : Type 0
RackState = LineState RackBench (List ℕ)

abbrev pub rack_state : RackBench → List ℕ → List ℕ → RackState
rack_state bench m o = line_state bench m o

-- the tags that were added
abbrev pub tags_added : RackBench → List Tag
tags_added bench = take bench.count bench.tags

-- the rack: they and their memories
abbrev pub rack_in : RackState → Rack
rack_in state =
    let tags = tags_added state.bench in
    rack_of tags (take (memory_sizes tags) state.memory)

-- a good line that adds no tag begins the script proper: no more are added
abbrev pub script_begun : List Tag → ℕ → RackBench → RackBench
script_begun tags to bench = record { tags = tags; count = bench.count; to = to; begun = true; number = bench.number }

-- after a call that left that rack, and the reply buffer o: what stands past its tags and their memories stays
abbrev pub with_rack : Rack → List ℕ → RackState → RackState
with_rack rack o state =
    let bench = state.bench in
    rack_state (script_begun (rack.tags ++ drop bench.count bench.tags) bench.to bench) (rack.memory ++ drop (memory_sizes (tags_added bench)) state.memory) o

-- ---- line numbers from 1
abbrev pub next_rack_line : RackBench → ℕ
next_rack_line bench = (bench.number + 1) % 18446744073709551616

abbrev pub with_lines : ℕ → RackBench → RackBench
with_lines n bench = record { tags = bench.tags; count = bench.count; to = bench.to; begun = bench.begun; number = n }

-- a line that leaves that state and prints that answer, numbered
abbrev pub numbered : RackState → List ℕ → LineAnswer RackState
numbered state answer =
    let n = next_rack_line state.bench in
    line_answer (rack_state (with_lines n state.bench) state.memory state.reply) (line_text n answer)

-- ---- the lines
-- "answer `-`"
abbrev pub none_text : List ℕ
none_text = 0x2D ∷ []

-- a bad line is no call: it changes nothing but the number of lines
abbrev pub bad_answered : RackState → LineAnswer RackState
bad_answered state = numbered state bad_text

-- "V, S, B, G, P, D lines" go to the named tag, "F, R and E go to all"
unfoldable pub call_answered : ℕ → ℕ → LineProgram RackState
call_answered code value state f =
    let result = rack_entry (rack_in state) (rack_call (handed_in state.reply code value f) state.bench.to) in
    numbered (with_rack result.rack result.says.says.buffer state) (rack_text result.says)

-- "`L` tab frame (hex, no CRC) is the search"
unfoldable pub search_answered : LineProgram RackState
search_answered state f =
    let result = search_entry (rack_in state) state.reply f in
    numbered (with_rack result.rack result.buffer state) (search_text result.answer)

-- "adds a fresh tag with that UID .., answer `-`, only before the first good line of another kind and at most 16 times, else a bad line"
unfoldable pub add_answered : Uid → RackState → LineAnswer RackState
add_answered uid state =
    let result = added_tag uid state.bench state.memory in
    pick (takes_tag state.bench) (numbered (rack_state result.bench result.memory state.reply) none_text) (bad_answered state)

-- "names the tag for later V, S, B, G, P, D lines .., answer `-`"
unfoldable pub name_answered : ℕ → RackState → LineAnswer RackState
name_answered n state = numbered (rack_state (script_begun state.bench.tags n state.bench) state.memory state.reply) none_text

-- the program adds a frame's CRC
unfoldable pub rack_line_answer : RackLine → RackState → LineAnswer RackState
rack_line_answer (bench_line bad_line) state = bad_answered state
rack_line_answer (bench_line (signal_line code value)) state = call_answered code value state []
rack_line_answer (bench_line (frame_line f)) state = call_answered 8 0 state (closed f)
rack_line_answer (add_line uid) state = add_answered uid state
rack_line_answer (name_line n) state = name_answered n state
rack_line_answer (search_line f) state = search_answered state (closed f)

-- the line s
unfoldable pub rack_program : LineProgram RackState
rack_program state s = rack_line_answer (rack_line_of s) state

-- ---- the frame that a line hands over, with its CRC; any other line has none
unfoldable pub rack_frame : RackLine → List ℕ
rack_frame (bench_line bad_line) = []
rack_frame (bench_line (signal_line code value)) = []
rack_frame (bench_line (frame_line f)) = closed f
rack_frame (add_line uid) = []
rack_frame (name_line n) = []
rack_frame (search_line f) = closed f
