-- What a read of one register may give otherwise once another was written: document 01's side effects of writes, and no more. A request that a
-- write makes is read as one that waits (document 02, request 5).
use Rattle.std.specs.Prelude.{ℕ, Bool, true, false, eqb}
use Rattle.std.specs.Option.{option_map_or}
use Rattle.device.specs.Map.{decode_of}
use Rattle.device.specs.declared.map.ReadoutWord.{ReadoutWord}
use Rattle.device.specs.declared.map.ReadoutWord.TheVariants.{Negative, Positive, WatchdogErrors, Outputs, QueueLength, Count, Raw}
use Rattle.device.specs.declared.map.Register.{Register}
use Rattle.device.specs.declared.map.Register.TheVariants.{Readout, Setting, Shared, Watchdogs}
use Rattle.device.specs.declared.map.SettingWord.{SettingWord}
use Rattle.device.specs.declared.map.SettingWord.TheVariants.{Selection}
use Rattle.device.specs.declared.map.SharedWord.{SharedWord}
use Rattle.device.specs.declared.map.SharedWord.TheVariants.{Control, Reload}

-- ---- what is followed: sets of registers

abbrev pub is_control : SharedWord → Bool
is_control Control = true
is_control q = false

abbrev pub is_reload : SharedWord → Bool
is_reload Reload = true
is_reload q = false

abbrev pub is_selection : SettingWord → Bool
is_selection (Selection o k) = true
is_selection q = false

-- 0x0801
abbrev pub control : Register → Bool
control (Shared q) = is_control q
control r = false

-- 0x0A02
abbrev pub reload : Register → Bool
reload (Shared q) = is_reload q
reload r = false

-- 0x0810 + j
abbrev pub reset_word : ℕ → Register → Bool
reset_word j (Watchdogs k) = eqb j k
reset_word j r = false

-- 0x0801, 0x0810 to 0x0813, and the selection words, but not the masks 0x0630 to 0x0635
abbrev pub control_resets_selections : Register → Bool
control_resets_selections (Shared q) = is_control q
control_resets_selections (Watchdogs k) = true
control_resets_selections (Setting q) = is_selection q
control_resets_selections r = false

abbrev pub nothing : Register → Bool
nothing r = false

-- ---- what a read-only register follows

abbrev pub followed_by : ReadoutWord → Register → Bool
-- "While RESET (bit 0) is set all counts are 0"
followed_by (Count k) = control
-- "overflow bits and interlocks follow the state as it is, also right after a write"
followed_by (Negative k) = control
followed_by (Positive k) = control
-- "A write that takes its reset bit from 1 to 0 clears error and value", of the inputs of its own word
followed_by (WatchdogErrors k) = reset_word k
-- "Interlock o is 1 exactly when no selected overflow, gate error, watchdog error or low forwarded gate input exists"
followed_by Outputs = control_resets_selections
-- "A write to 0x0A02 that sets TRIGGER where it was clear makes a request", which waits
followed_by QueueLength = reload
-- raw counts: "Gates, selections and RESET have no effect"
followed_by (Raw k) = nothing
-- no other one follows a write
followed_by q = nothing

-- a write to r may change what a read of q gives, at once: only read-only registers follow others
abbrev pub follows : Register → Register → Bool
follows r (Readout q) = followed_by q r
follows r q = false

-- the same of two addresses: where there is no register, nothing follows and nothing is followed
abbrev pub follows_at : ℕ → ℕ → Bool
follows_at a b =
    option_map_or (λ (r : Register). option_map_or (λ (q : Register). follows r q) (decode_of b) false) (decode_of a) false
