-- `computing` opens every definition by its `unfolding` line: a proof that says `unfolding computing` can compute, and no other does.
use mathlib.Core.Bool.{Bool}
use mathlib.Core.List.{List}
use Rattle.words.specs.Word.{bit, nibble, fields, fields_from, pack, masked_bits}
use Rattle.lists.specs.Checks.{Row, right}
use Rattle.lists.specs.Table.{table_from, tabulate, each, any, least}
use Rattle.counters.specs.Counter.{counter_step, counter_tick, tick_counters, clear_counters, counter_at, overflow_word}
use Rattle.gates.specs.Gate.{gate_step, each_gate, gate_at, gate_bits, outputs_of, state_word}
use Rattle.lines.specs.Lines.{bad_levels, rise_of, rises_of, step_phases}
use Rattle.lines.specs.RawCounts.{count_rises}
use Rattle.loader.specs.Loader.{pushed, oldest, shifted, dropped, loader_step, queue_step, group_at, load_into}
use Rattle.loader.specs.Memory.{word_at, loaded, replaced}
use Rattle.watchdogs.specs.Watchdog.{watchdog_step, step_watchdogs, with_reset, reset_in, reset_watchdogs, watchdog_at, watchdog_word}
use Rattle.registers.specs.Calls.{download_answer, call_answer, called, answer, step, powered, powered_memory, from, after}
use Rattle.interlocks.specs.Interlock.{signals, trips_by, trips, interlocks}
use Rattle.interlocks.specs.Scan.{words_read, scan_of}
use Rattle.device.specs.Map.{backplane_map, status_map, control_map, event_map, counter_map, decode_of, kept}
use Rattle.reading.specs.Read.{module_word, readout_word, setting_word, shared_word, gate_word, word_in, read_of}
use Rattle.device.specs.State.{power_up, memory0}
use Rattle.tagging.specs.Tag.{tag_request, commanded, tag_of, tag_answer}
use Rattle.ticking.specs.Tick.{common_tick, status_tick, tick_of}
use Rattle.writing.specs.Write.{request_answer, requested, reload_answer, reload_write, control_write, key_write, enable_write, settings_write, shared_write, gates_write, write_answer, reset_by, write_at}

unfoldable pub computing : List Row → Bool
unfolding bit nibble fields fields_from pack masked_bits table_from tabulate each any least counter_step counter_tick tick_counters
    clear_counters counter_at overflow_word gate_step each_gate
    gate_at gate_bits outputs_of step_phases rise_of rises_of count_rises pushed oldest shifted dropped loader_step queue_step group_at load_into word_at loaded
    replaced watchdog_step step_watchdogs with_reset reset_in reset_watchdogs watchdog_at watchdog_word download_answer call_answer called answer step
    powered powered_memory from after signals trips_by trips interlocks words_read scan_of backplane_map status_map control_map event_map counter_map decode_of kept module_word state_word readout_word setting_word shared_word gate_word word_in
    read_of power_up memory0 tag_request commanded tag_of tag_answer bad_levels common_tick status_tick tick_of request_answer requested reload_answer
    reload_write control_write key_write enable_write settings_write shared_write gates_write write_answer reset_by write_at
computing rows = right rows
