-- A name for a long `unfolding` line: to unfold it is to unfold all that the line names. Assumes nothing.
use Rattle.parts.specs.Bytes.{bytes_at, copied, agree, are_bytes}
use Rattle.parts.specs.Pick.{pick}
use Rattle.crc.specs.Crc.{shifted, bit, bits, byte, run, crc_of, good_frame, closed_at}
use Rattle.defined_bits.specs.Defined.{defined_to, defined_only}
use Rattle.registers.specs.Fresh.{fresh_registers}
use Rattle.register_table.specs.Table.{place_bits, row_in, row_of}
use Rattle.registers.specs.Map.{register_bytes, byte_of, register_at, with_end, put_defined, written_to, written}
use Rattle.areas.specs.Ends.{area_of_block, area_of_byte, ends_in_range, later_largest, exceeds_before, end_accepted, end_allows}
use Rattle.rights.specs.Rights.{security_of, session_opens, radio_writes, radio_reads, wire_bits, wire_guards, wire_writes, wire_reads, is_locked, read_right, write_right, may_read, may_write}
use Rattle.bus.specs.Bus.{counted_dynamic, kept_of, transfer_at, is_open_transfer, is_open, is_active, page_bytes}
use Rattle.keys.specs.Keys.{radio_password, with_radio_password, fresh_passwords}
use Rattle.mailbox.specs.Mailbox.{control_byte, length_byte, enabled, controlled}
use Rattle.air.specs.Radio.{is_quiet, is_selected, deselected, field_at}
use Rattle.tag.specs.Supply.{vcc_at, fresh_tag}
use Rattle.ranges.specs.Ranges.{registers_in_range, air_in_range, mailbox_in_range, supplied_in_range, transfer_in_range, host_in_range, core_in_range, wire_in_range, in_range}
use Rattle.rule.specs.UserRule.{memory_acked, mailbox_acked, user_acked}
use Rattle.written_registers.specs.Written.{written_all}
use Rattle.rule.specs.SystemRule.{register_acked, password_acked, system_acked}
use Rattle.rule.specs.Rule.{space_acked, acked}
use Rattle.model.specs.Passed.{page_acked, bus_in_range, leg_written, acts_at_start, settle, due_of, start_at, start_of, stop_at, data_of, select_by, send_at, fetch_at, signal_of, leaves_area, blocks_of, read_of, status_of, statuses_of, status_reply, block_of, may_write_all, write_of, lock_of, read_config_of, mailbox_after_write, written_core, write_config_of, present_of, write_password_of, serve_command, serve_code, serve_of, next_slot_of, verdict_result, radio_of, number, looks_at_tag, tag_in_range, judgement, unless_refused}
use Rattle.select.specs.Select.{select_of, choose, first_of}
use Rattle.user_leg.specs.UserLeg.{user_written}
use Rattle.system_leg.specs.SystemLeg.{password_written, system_written}
use Rattle.fetch.specs.Fetch.{memory_byte, mailbox_byte, user_byte, system_byte, fetched, is_last}
use Rattle.signal_table.specs.Table.{signal_table, signal_found, is_found, signal_in_range, signal_in, signal_by, sent_byte}
use Rattle.reply.specs.Reply.{answer_of, buffer_of}
use Rattle.frame.specs.Fields.{uid_place, param_place, own_uid, param}
use Rattle.rule_list.specs.RuleList.{any_holds, first_says}
use Rattle.commands.specs.Table.{command_table, command_of, is_known, takes_option, size_of, param_bytes}
use Rattle.silence_rules.specs.Silence.{maker_differs, uid_differs, silence_holds, reception_silences, address_silences, request_silences, is_silent}
use Rattle.judge.specs.Judge.{is_mute, error_of, shut_out, bad_flags, wrong_length, error_holds, rule_error, error_rules, judge}
use Rattle.dynamic_config.specs.DynamicConfig.{read_dynamic_of, write_dynamic_of}
use Rattle.message_writes.specs.WriteMessage.{takes_message, write_message_of}
use Rattle.message.specs.Message.{length_of, asked, mailbox_after_read, read_message_of}
use Rattle.radio_state.specs.RadioState.{stay_quiet_of, select_uid_of, reset_to_ready_of}
use Rattle.inventory.specs.Inventory.{mask_length_place, mask_bits, is_malformed, bit_at, same_bits, afi_asks, is_matched, slot_number, own_slot, slots_after, answers_now, takes_part}
use Rattle.inventory_reply.specs.Answers.{is_heard, inventory_of, end_of_frame_of}
use Rattle.model.specs.Step.{from_wire, from_radio, act_of, step_of, fresh_of}
use Rattle.calls.specs.Calls.{entry, run_by, frames_fit}
use Rattle.calls.specs.Examples.{sends}

-- all that a run of written-down calls computes with
unfoldable pub computes : Unit {0}
unfolding bytes_at copied agree pick shifted bit bits byte run crc_of good_frame closed_at defined_only fresh_registers register_bytes byte_of register_at with_end put_defined written_to written area_of_block area_of_byte ends_in_range later_largest exceeds_before end_accepted end_allows security_of session_opens radio_writes radio_reads wire_bits wire_guards wire_writes wire_reads is_locked read_right write_right may_read may_write is_open transfer_at is_open_transfer counted_dynamic kept_of is_active page_bytes radio_password with_radio_password fresh_passwords control_byte length_byte enabled controlled is_quiet is_selected deselected field_at vcc_at fresh_tag registers_in_range air_in_range mailbox_in_range supplied_in_range transfer_in_range host_in_range core_in_range wire_in_range in_range page_acked bus_in_range memory_acked mailbox_acked user_acked written_all register_acked password_acked system_acked space_acked acked select_of choose first_of user_written password_written system_written leg_written acts_at_start settle memory_byte mailbox_byte user_byte system_byte fetched is_last sent_byte due_of start_at start_of stop_at select_by data_of send_at fetch_at signal_of answer_of buffer_of uid_place param_place own_uid param is_known takes_option param_bytes is_silent is_mute error_of shut_out bad_flags wrong_length judge leaves_area status_of block_of blocks_of read_of may_write_all write_of lock_of statuses_of status_reply read_config_of mailbox_after_write written_core write_config_of read_dynamic_of write_dynamic_of takes_message write_message_of length_of asked mailbox_after_read read_message_of present_of write_password_of stay_quiet_of select_uid_of reset_to_ready_of serve_of mask_length_place mask_bits is_malformed bit_at same_bits afi_asks is_matched slot_number own_slot slots_after answers_now takes_part is_heard inventory_of end_of_frame_of verdict_result radio_of next_slot_of are_bytes signal_table signal_found is_found signal_in_range signal_in signal_by number looks_at_tag first_says judgement unless_refused from_wire from_radio tag_in_range act_of step_of fresh_of entry run_by sends frames_fit any_holds command_table command_of size_of maker_differs uid_differs silence_holds reception_silences address_silences request_silences error_holds rule_error error_rules serve_command serve_code place_bits row_in row_of defined_to
computes = tt
