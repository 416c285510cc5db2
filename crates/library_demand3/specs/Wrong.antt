-- Library steps that demand 3 over the library's calls shuts out: each is the exported function with one thing changed.
-- Code 6 is a Stop, 7 a programming end.
use Rattle.std.specs.Prelude.{Bool, true, false, not, ◌&&◌, List, ℕ, ◌+◌, ◌%◌, leb, eqb, get_or, set}
use Rattle.parts.specs.Pick.{pick}
use Rattle.tag.specs.declared.Tag.{Tag}
use Rattle.tag.specs.Layout.{page_place}
use Rattle.air.specs.Parts.{with_field}
use Rattle.tag.specs.Parts.{with_vcc, with_tag_air, with_tag_host}
use Rattle.state.specs.Layout.{host_part_place, bytes_of, tag_of}
use Rattle.model.specs.Step.{transfer_open}
use Rattle.capi.specs.Interface.{CallResult, call_result}
use Rattle.refusals.specs.Call.{Call}
use Rattle.library_demand3.specs.Calls.{LibraryStep, exported}
use Rattle.library_demand3.specs.Claim.{library_struck, LibraryDemand3}

abbrev pub LibraryRefuted : LibraryStep → Type 0
LibraryRefuted step = LibraryDemand3 step → ⊥

-- ---- `same`: the numbers
-- one answer's number and no byte: a Stop is answered Ack
unfoldable pub acks_stop : List ℕ → List ℕ → Call → CallResult
acks_stop s m call =
    let result = exported s m call in
    call_result (pick (eqb call.code 6 && eqb result.number 0x100) 0x101 result.number) result.state result.memory result.reply

-- refusal 2 comes as refusal 3
unfoldable pub refuses_by3 : List ℕ → List ℕ → Call → CallResult
refuses_by3 s m call =
    let result = exported s m call in
    call_result (pick (eqb result.number 2) 3 result.number) result.state result.memory result.reply

-- ---- `same`: the reply buffers
-- a byte of a reply that is served is one more
unfoldable pub raises_reply : List ℕ → List ℕ → Call → CallResult
raises_reply s m call =
    let result = exported s m call in
    call_result result.number result.state result.memory
    (pick (leb 0x1000 result.number && not (transfer_open (tag_of s))) (set result.reply 1 (get_or result.reply 1 0 + 1)) result.reply)

-- a byte past it
unfoldable pub writes_past : List ℕ → List ℕ → Call → CallResult
writes_past s m call =
    let result = exported s m call in
    call_result result.number result.state result.memory
    (pick (leb 0x1000 result.number && not (transfer_open (tag_of s))) (set result.reply 642 1) result.reply)

-- a trace of a struck frame, in the reply buffer alone
unfoldable pub leaves_trace : List ℕ → List ℕ → Call → CallResult
leaves_trace s m call =
    let result = exported s m call in
    call_result result.number result.state result.memory (pick (library_struck exported s m call) (set result.reply 642 1) result.reply)

-- ---- `same`: the bytes at the end
-- it stores no state: the old bytes stay
unfoldable pub keeps_state : List ℕ → List ℕ → Call → CallResult
keeps_state s m call =
    let result = exported s m call in
    call_result result.number s result.memory result.reply

-- its own number, 2, for an open I2C session; it reads it as the 1 that it is, so that every answer is right
abbrev pub session_place : ℕ
session_place = host_part_place + 1

unfoldable pub coded : List ℕ → List ℕ
coded s = pick (eqb (get_or s session_place 0) 1) (set s session_place 2) s

unfoldable pub decoded : List ℕ → List ℕ
decoded s = pick (eqb (get_or s session_place 0) 2) (set s session_place 1) s

unfoldable pub codes_session : List ℕ → List ℕ → Call → CallResult
codes_session s m call =
    let result = exported (decoded s) m call in
    call_result result.number (coded result.state) result.memory result.reply

-- a Stop clears the page's first byte, which no later answer shows
unfoldable pub drops_page_byte : List ℕ → List ℕ → Call → CallResult
drops_page_byte s m call =
    let result = exported s m call in
    call_result result.number result.state (pick (eqb call.code 6) (set result.memory page_place 0) result.memory) result.reply

-- ---- `shut`: what is put right before the transfer ends, so that every answer and all bytes at the end are right
-- a struck frame leaves VCC 0 in the state
abbrev pub supplied_at : Bool → Tag → Tag
supplied_at on t = with_tag_host (with_vcc on t.host) t

unfoldable pub supplied : List ℕ → List ℕ
supplied s = pick (transfer_open (tag_of s)) (bytes_of (supplied_at true (tag_of s))) s

unfoldable pub marks_state : List ℕ → List ℕ → Call → CallResult
marks_state s m call =
    let result = exported (supplied s) m call in
    call_result result.number (pick (library_struck exported (supplied s) m call) (bytes_of (supplied_at false (tag_of result.state))) result.state) result.memory result.reply

-- a struck frame leaves 256 more in the memory's last place
unfoldable pub restored : List ℕ → List ℕ
restored m = set m 1023 (get_or m 1023 0 % 256)

unfoldable pub marks_memory : List ℕ → List ℕ → Call → CallResult
marks_memory s m call =
    let result = exported s (restored m) call in
    call_result result.number result.state (pick (library_struck exported s (restored m) call) (set result.memory 1023 (get_or result.memory 1023 0 + 256)) result.memory) result.reply

-- in a transfer the field stands the wrong way round in the state: by that state a struck frame's reply is another
abbrev pub field_turned : Tag → Tag
field_turned t = with_tag_air (with_field (not t.air.field) t.air) t

unfoldable pub turned : List ℕ → List ℕ
turned s = pick (transfer_open (tag_of s)) (bytes_of (field_turned (tag_of s))) s

unfoldable pub turns_field : List ℕ → List ℕ → Call → CallResult
turns_field s m call =
    let result = exported (turned s) m call in
    call_result result.number (turned result.state) result.memory result.reply

-- ---- the start: a programming end is answered Ack, but only where the tag has something that a narrower claim would leave out
unfoldable pub wrong_where : (Tag → Bool) → List ℕ → List ℕ → Call → CallResult
wrong_where has s m call =
    let result = exported s m call in
    call_result (pick (eqb call.code 7 && has (tag_of s)) 0x101 result.number) result.state result.memory result.reply
