-- The tables hold: one computed test for each.
use mathlib.Core.Bool.{true}
use mathlib.Core.Path.{◌≡◌, refl}
use Rattle.lists.specs.Checks.{right}
use Rattle.edges.proofs.Computing.{computing}
use Rattle.edges.proofs.Edges.{signal_rows, gate_rows, counter_rows, raw_rows, loader_rows, map_rows, power_up_rows, tag_rows, sheet_rows, watchdog_rows, trace_rows}

pub signals_right : right signal_rows ≡ true
unfolding computing signal_rows
signals_right = refl

pub gates_right : right gate_rows ≡ true
unfolding computing gate_rows
gates_right = refl

pub counters_right : right counter_rows ≡ true
unfolding computing counter_rows
counters_right = refl

pub raw_right : right raw_rows ≡ true
unfolding computing raw_rows
raw_right = refl

pub loader_right : right loader_rows ≡ true
unfolding computing loader_rows
loader_right = refl

pub map_right : right map_rows ≡ true
unfolding computing map_rows
map_right = refl

pub power_up_right : right power_up_rows ≡ true
unfolding computing power_up_rows
power_up_right = refl

pub tags_right : right tag_rows ≡ true
unfolding computing tag_rows
tags_right = refl

pub sheet_right : right sheet_rows ≡ true
unfolding computing sheet_rows
sheet_right = refl

pub watchdogs_right : right watchdog_rows ≡ true
unfolding computing watchdog_rows
watchdogs_right = refl

pub traces_right : right trace_rows ≡ true
unfolding computing trace_rows
traces_right = refl
