-- Document 01, "Unused bits are dropped and read 0": how many bits each register has, written by hand from 01 and the Manual's tables. The must-fail
-- edit loader_counter_of_8_bits is refused here.
use mathlib.Core.Bool.{true}
use mathlib.Core.List.{List, [], ◌∷◌}
use mathlib.Core.Path.{◌≡◌, refl}
use Rattle.lists.specs.Checks.{Row, row, right}
use Rattle.device.specs.declared.map.GateWord.TheVariants.{Mode, Timeout, Prepare, Recover}
use Rattle.device.specs.declared.map.ReadoutWord.TheVariants.{Module, Negative, Positive, GateErrors, WatchdogErrors, GateInputs, GateOutputs, Outputs}
use Rattle.device.specs.declared.map.ReadoutWord.TheVariants.{GateStates, TagLow, TagHigh, Code, LoaderState, LoaderCounter, QueueLength, Count, Raw, Threshold}
use Rattle.device.specs.declared.map.Register.TheVariants.{Readout, Setting, Shared, Gates, Watchdogs, Input, Group, Word}
use Rattle.device.specs.declared.map.SettingWord.TheVariants.{Mask, WatchdogTimeout, Selection}
use Rattle.device.specs.declared.map.SharedWord.TheVariants.{Control, Key, Enable, Reload}
use Rattle.device.specs.Map.{used_bits}

unfoldable pub figures : List Row
figures =
    -- read-only registers; watchdogs 48 to 53 stand in word 3, twelve gates, six outputs, 0x0903 reads 3, 0x0904 a counter up to 127, 0x0905 a number up
    -- to 16
    row 16 (used_bits (Readout (Module 0)))
    ∷ row 16 (used_bits (Readout (Negative 0)))
    ∷ row 16 (used_bits (Readout (Positive 0)))
    ∷ row 12 (used_bits (Readout GateErrors))
    ∷ row 16 (used_bits (Readout (WatchdogErrors 2)))
    ∷ row 6 (used_bits (Readout (WatchdogErrors 3)))
    ∷ row 12 (used_bits (Readout GateInputs))
    ∷ row 12 (used_bits (Readout GateOutputs))
    ∷ row 6 (used_bits (Readout Outputs))
    ∷ row 16 (used_bits (Readout (GateStates 0)))
    ∷ row 16 (used_bits (Readout TagLow))
    ∷ row 16 (used_bits (Readout TagHigh))
    ∷ row 16 (used_bits (Readout Code))
    ∷ row 2 (used_bits (Readout LoaderState))
    ∷ row 7 (used_bits (Readout LoaderCounter))
    ∷ row 5 (used_bits (Readout QueueLength))
    ∷ row 16 (used_bits (Readout (Count 0)))
    ∷ row 16 (used_bits (Readout (Raw 0)))
    ∷ row 16 (used_bits (Readout (Threshold 0)))
    -- registers that are in no counter's sheet; of an output's 22 words 0x10 and 0x15 are for gates, 0x14 for inputs 48 to 53
    ∷ row 12 (used_bits (Setting (Mask 0)))
    ∷ row 16 (used_bits (Setting WatchdogTimeout))
    ∷ row 16 (used_bits (Watchdogs 2))
    ∷ row 6 (used_bits (Watchdogs 3))
    ∷ row 16 (used_bits (Setting (Selection 0 0x0F)))
    ∷ row 12 (used_bits (Setting (Selection 0 0x10)))
    ∷ row 16 (used_bits (Setting (Selection 0 0x13)))
    ∷ row 6 (used_bits (Setting (Selection 0 0x14)))
    ∷ row 12 (used_bits (Setting (Selection 0 0x15)))
    ∷ row 16 (used_bits (Setting (Selection 1 0)))
    -- the others
    ∷ row 2 (used_bits (Shared Control))
    ∷ row 12 (used_bits (Gates Mode))
    ∷ row 16 (used_bits (Gates (Timeout 0)))
    ∷ row 16 (used_bits (Shared Key))
    ∷ row 1 (used_bits (Shared Enable))
    ∷ row 13 (used_bits (Shared Reload))
    ∷ row 12 (used_bits (Gates Prepare))
    ∷ row 12 (used_bits (Gates Recover))
    ∷ row 16 (used_bits (Input 0))
    ∷ row 16 (used_bits (Group 0))
    ∷ row 16 (used_bits (Word 0))
    ∷ []

pub figures_right : right figures ≡ true
unfolding figures
figures_right = refl
