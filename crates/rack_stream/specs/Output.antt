-- The whole program `rack_bench`: what it writes for a whole input.
use Rattle.std.specs.Prelude.{List, ℕ, ◌*◌, replicate}
use Rattle.tag.specs.Layout.{memory_bytes, reply_bytes}
use Rattle.rack_start.specs.Passed.{most_tags}
use Rattle.line_stream.specs.Output.{output_of}
use Rattle.rack_start.specs.Start.{rack_start}
use Rattle.rack_script.specs.Script.{RackState, rack_state, rack_program}

-- before line 1: no tag, and both lent buffers are zeros
abbrev pub empty_rack : RackState
empty_rack = rack_state rack_start (replicate (most_tags * memory_bytes) 0) (replicate reply_bytes 0)

abbrev pub rack_output : List ℕ → List ℕ
rack_output s = output_of rack_program empty_rack s
