-- The register map: the Manual's sections 3.2.3 to 3.2.14 as document 01, "Writes and event tags", settles them; the raw counts of
-- document 02, request 1, and the queue's length of request 5.
use Rattle.std.specs.Prelude.{ℕ, ◌-◌, ◌/◌, ◌%◌, Option, Some, None, eqb, ltb}
use Rattle.std.specs.Option.{option_map_or}
use Rattle.bools.specs.Pick.{pick}
use Rattle.words.specs.Word.{lowest}
use Rattle.lines.specs.Lines.{gate_count}
use Rattle.device.specs.declared.map.GateWord.{GateWord}
use Rattle.device.specs.declared.map.GateWord.TheVariants.{Mode, Timeout, Prepare, Recover}
use Rattle.device.specs.declared.map.ReadoutWord.{ReadoutWord}
use Rattle.device.specs.declared.map.ReadoutWord.TheVariants.{Module, Negative, Positive, GateErrors, WatchdogErrors, GateInputs, GateOutputs, Outputs}
use Rattle.device.specs.declared.map.ReadoutWord.TheVariants.{GateStates, TagLow, TagHigh, Code, LoaderState, LoaderCounter, QueueLength, Count, Raw, Threshold}
use Rattle.device.specs.declared.map.Register.{Register}
use Rattle.device.specs.declared.map.Register.TheVariants.{Readout, Setting, Shared, Gates, Watchdogs, Input, Group, Word}
use Rattle.device.specs.declared.map.SettingWord.{SettingWord}
use Rattle.device.specs.declared.map.SettingWord.TheVariants.{Mask, WatchdogTimeout, Selection}
use Rattle.device.specs.declared.map.SharedWord.{SharedWord}
use Rattle.device.specs.declared.map.SharedWord.TheVariants.{Control, Key, Enable, Reload}

-- what stands below an edge, else what the rest of the map says
abbrev pub below : ℕ → ℕ → Option Register → Option Register → Option Register
below a edge here rest = pick (ltb a edge) here rest

-- six interlock outputs
abbrev pub output_count : ℕ
output_count = 6

-- the masks of two slots each
abbrev pub mask_count : ℕ
mask_count = 6

-- an output's block is 22 registers "with a raster of 32 addresses": output and place in its block
abbrev pub output_words : ℕ
output_words = 22

abbrev pub output_block : ℕ → Option Register
output_block k = pick (ltb (k % 32) output_words) (Some (Setting (Selection (k / 32) (k % 32)))) None

-- The map in address order, a superblock or two to a page. A row is the first address past it and what stands up to there; gaps are
-- rows of their own: "an address at which they name no register, or one not modelled, is not in it". A Readout is read-only;
-- any other register is read and write.

-- for addresses up to 0x06FF
unfoldable pub backplane_map : ℕ → Option Register
backplane_map a =
    below a 0x0630 None
    (below a 0x0636 (Some (Setting (Mask (a - 0x0630))))  -- IOBP_MASK BP_MASK0-1 to BP_MASK10-11
    (below a 0x0638 None
    (below a 0x063E (Some (Readout (Module (a - 0x0638))))  -- IOBP_ID BP_ID0-1 to BP_ID10-11
    None)))

-- for 0x0700 to 0x07FF; 0x071D IO_CTRL_STATE is not modelled
unfoldable pub status_map : ℕ → Option Register
status_map a =
    below a 0x0708 (Some (Readout (Negative (a - 0x0700))))  -- STATUS NEG_OVERFLOW
    (below a 0x0710 (Some (Readout (Positive (a - 0x0708))))  -- STATUS POS_OVERFLOW
    (below a 0x0711 (Some (Readout GateErrors))  -- STATUS GATE_ERROR
    (below a 0x0715 (Some (Readout (WatchdogErrors (a - 0x0711))))  -- STATUS WD_ERROR
    (below a 0x0717 None
    (below a 0x0718 (Some (Readout GateInputs))  -- STATUS GATE_IN
    (below a 0x0719 (Some (Readout GateOutputs))  -- STATUS GATE_OUT
    (below a 0x071A (Some (Readout Outputs))  -- STATUS OUT_SIGNAL
    (below a 0x071D (Some (Readout (GateStates (a - 0x071A))))  -- STATUS GATE_STATE
    None))))))))

-- for 0x0800 to 0x08FF
unfoldable pub control_map : ℕ → Option Register
control_map a =
    below a 0x0801 (Some (Setting WatchdogTimeout))  -- CTRL WDOG_TIMEOUT
    (below a 0x0802 (Some (Shared Control))  -- CTRL COUNTERS
    (below a 0x0803 (Some (Gates Mode))  -- CTRL GATE_MODE
    (below a 0x0804 None
    (below a 0x0810 (Some (Gates (Timeout (a - 0x0804))))  -- CTRL GATE_TIMEOUT
    (below a 0x0814 (Some (Watchdogs (a - 0x0810)))  -- CTRL WD_RESET
    None)))))

-- for 0x0900 to 0x0FFF; what 0x0905 reads is of document 02, request 5, as the Manual leaves it open
unfoldable pub event_map : ℕ → Option Register
event_map a =
    below a 0x0901 (Some (Readout TagLow))  -- EVT_STATUS TAG_LOW
    (below a 0x0902 (Some (Readout TagHigh))  -- EVT_STATUS TAG_HIGH
    (below a 0x0903 (Some (Readout Code))  -- EVT_STATUS CODE
    (below a 0x0904 (Some (Readout LoaderState))  -- EVT_STATUS THR_LOADER_STATE
    (below a 0x0905 (Some (Readout LoaderCounter))  -- EVT_STATUS THR_LOADER_ITER
    (below a 0x0906 (Some (Readout QueueLength))  -- EVT_STATUS THR_LOADER_ENQ_STATE
    (below a 0x0A00 None
    (below a 0x0A01 (Some (Shared Key))  -- EVT_CTRL KEY
    (below a 0x0A02 (Some (Shared Enable))  -- EVT_CTRL CTRL
    (below a 0x0A03 (Some (Shared Reload))  -- EVT_CTRL THR_RELOAD
    (below a 0x0A04 (Some (Gates Prepare))  -- EVT_CTRL GATE_PREP
    (below a 0x0A05 (Some (Gates Recover))  -- EVT_CTRL GATE_RECOVER
    None)))))))))))

-- for 0x1000 on
unfoldable pub counter_map : ℕ → Option Register
counter_map a =
    below a 0x1080 (Some (Input (a - 0x1000)))  -- IN_SEL
    (below a 0x1100 None
    (below a 0x11C0 (output_block (a - 0x1100))  -- OUT_SEL
    (below a 0x1200 None
    (below a 0x1300 (Some (Readout (Count (a - 0x1200))))  -- CTR_READOUT
    (below a 0x136C (Some (Readout (Raw (a - 0x1300))))  -- raw counts: 0x1300 + 2 × input, "low word first"
    (below a 0x1600 None
    (below a 0x1620 (Some (Group (a - 0x1600)))  -- CTR_GROUPS
    (below a 0x1800 None
    (below a 0x1A00 (Some (Readout (Threshold (a - 0x1800))))  -- THR
    (below a 0x8000 None
    (below a 0xC000 (Some (Word (a - 0x8000)))  -- THR_RAM
    None)))))))))))

unfoldable pub decode_of : ℕ → Option Register
decode_of a =
    below a 0x0700 (backplane_map a)
    (below a 0x0800 (status_map a)
    (below a 0x0900 (control_map a)
    (below a 0x1000 (event_map a)
    (counter_map a))))

-- of the 22 words of an output 0x10 and 0x15 are for gates, and 0x14 for inputs 48 to 53
abbrev pub selection_bits : ℕ → ℕ
selection_bits k = pick (eqb k 0x10) 12 (pick (eqb k 0x14) 6 (pick (eqb k 0x15) 12 16))

-- How many bits are used, from bit 0: watchdog words end at input 53, gate words at gate 11, outputs at 5. Registers that no line names use
-- all 16.

abbrev pub watchdog_bits : ℕ → ℕ
watchdog_bits k = pick (eqb k 3) 6 16

abbrev pub readout_bits : ReadoutWord → ℕ
readout_bits GateErrors = 12
readout_bits (WatchdogErrors k) = watchdog_bits k
readout_bits GateInputs = 12
readout_bits GateOutputs = 12
readout_bits Outputs = 6
readout_bits LoaderState = 2
readout_bits LoaderCounter = 7
readout_bits QueueLength = 5
readout_bits q = 16

abbrev pub setting_bits : SettingWord → ℕ
setting_bits (Mask k) = 12
setting_bits (Selection o k) = selection_bits k
setting_bits q = 16

abbrev pub shared_bits : SharedWord → ℕ
shared_bits Control = 2
shared_bits Enable = 1
shared_bits Reload = 13
shared_bits q = 16

abbrev pub gate_word_bits : GateWord → ℕ
gate_word_bits (Timeout g) = 16
gate_word_bits q = gate_count

abbrev pub used_bits : Register → ℕ
used_bits (Readout q) = readout_bits q
used_bits (Setting q) = setting_bits q
used_bits (Shared q) = shared_bits q
used_bits (Gates q) = gate_word_bits q
used_bits (Watchdogs k) = watchdog_bits k
used_bits q = 16

-- "Unused bits are dropped"
unfoldable pub kept : Register → ℕ → ℕ
kept r w = lowest (used_bits r) w

-- the same of what stands at an address: where there is no register, no bit is used
abbrev pub kept_at : ℕ → ℕ → ℕ
kept_at a w = option_map_or (λ (r : Register). kept r w) (decode_of a) 0
