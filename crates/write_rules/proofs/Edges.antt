-- The worked situations, by computation. Assumes nothing.
use Prim.{Unit, tt}
use mathlib.Core.Path.{refl}
use Rattle.parts.specs.Pick.{pick}
use Rattle.written_registers.specs.Passed.{place_bits, row_in, row_of}
use Rattle.rights.specs.Passed.{register_bytes, put_defined, written_to, written, with_end, area_of_block, area_of_byte, later_largest, exceeds_before, end_accepted, end_allows}
use Rattle.rights.specs.Rights.{security_of, session_opens, wire_bits, wire_guards, is_locked}
use Rattle.keys.specs.Keys.{fresh_passwords}
use Rattle.written_registers.specs.Written.{written_all}
use Rattle.write_rules.specs.Situation.{is_dynamic, user_place, is_system, system_place, byte_place, block_place, pointer_place, password_place}
use Rattle.write_rules.specs.Conditions.{needs_session}
use Rattle.write_rules.specs.Verdict.{area_key, write_verdict}
use Rattle.write_rules.specs.Edges.{wire_edges, radio_edges, EdgesHold}
use Rattle.write_rules.proofs.Chain.{chain_of}

-- all that a verdict on a written-down situation computes with
unfoldable computes : Unit {0}
unfolding chain_of write_verdict pick place_bits row_in row_of register_bytes put_defined written_to written with_end area_of_block area_of_byte later_largest exceeds_before end_accepted end_allows security_of session_opens wire_bits wire_guards is_locked fresh_passwords written_all is_dynamic user_place is_system system_place byte_place block_place pointer_place password_place needs_session area_key EdgesHold
computes = tt

pub wire_edges_lem : EdgesHold wire_edges
unfolding computes
wire_edges_lem = (refl, (refl, (refl, (refl, (refl, (refl, (refl, (refl, (refl, (refl, (refl, (refl, (refl, (refl, (refl, (refl, (refl, (refl, (refl, (refl, (refl, (refl, (refl, (refl, (refl, (refl, (refl, (refl, (refl, (refl, (refl, (refl, (refl, (refl, (refl, (refl, (refl, (refl, (refl, (refl, (refl, tt)))))))))))))))))))))))))))))))))))))))))

pub radio_edges_lem : EdgesHold radio_edges
unfolding computes
radio_edges_lem = (refl, (refl, (refl, (refl, (refl, (refl, (refl, (refl, (refl, (refl, (refl, (refl, (refl, (refl, (refl, (refl, (refl, (refl, tt))))))))))))))))))
