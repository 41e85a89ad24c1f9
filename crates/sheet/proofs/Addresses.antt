-- Each register of the map has one address: so two addresses of the map name two registers.
use Prim.Native.Nat.{ℕ, ◌+◌, ◌-◌, ◌*◌, ◌<◌, ◌≤◌}
use native.Mathlib.Omega.{arith}
use mathlib.Core.Path.{◌≡◌, refl, sym, subst, ◌∙◌}
use Rattle.std.proofs.lemmas.Bool.Decides.{nat_tests}
use borrow.Author.Tests.{ltb-false, ltb-true}
use lib.Dec.{ltb}
use Rattle.bools.proofs.Tests.{pick_elim}
use Rattle.std.proofs.Common.{Option, Some, None}
use Rattle.device.specs.declared.map.Register.{Register}
use Rattle.device.specs.declared.map.Register.TheVariants.{Readout, Setting, Shared, Gates, Watchdogs, Input, Group, Word}
use Rattle.device.specs.declared.map.GateWord.{GateWord}
use Rattle.device.specs.declared.map.GateWord.TheVariants.{Mode, Timeout, Prepare, Recover}
use Rattle.device.specs.declared.map.ReadoutWord.{ReadoutWord}
use Rattle.device.specs.declared.map.ReadoutWord.TheVariants.{Module, Negative, Positive, GateErrors, WatchdogErrors, GateInputs, GateOutputs, Outputs}
use Rattle.device.specs.declared.map.ReadoutWord.TheVariants.{GateStates, TagLow, TagHigh, Code, LoaderState, LoaderCounter, QueueLength, Count, Raw, Threshold}
use Rattle.device.specs.declared.map.SettingWord.{SettingWord}
use Rattle.device.specs.declared.map.SettingWord.TheVariants.{Mask, WatchdogTimeout, Selection}
use Rattle.device.specs.declared.map.SharedWord.{SharedWord}
use Rattle.device.specs.declared.map.SharedWord.TheVariants.{Control, Key, Enable, Reload}
use Rattle.device.specs.Map.{backplane_map, below, control_map, counter_map, decode_of, event_map, output_block, status_map}

-- ---- the map from the registers' side

abbrev readout_address : ReadoutWord → ℕ
readout_address (Module k) = 0x0638 + k
readout_address (Negative k) = 0x0700 + k
readout_address (Positive k) = 0x0708 + k
readout_address GateErrors = 0x0710
readout_address (WatchdogErrors k) = 0x0711 + k
readout_address GateInputs = 0x0717
readout_address GateOutputs = 0x0718
readout_address Outputs = 0x0719
readout_address (GateStates k) = 0x071A + k
readout_address TagLow = 0x0900
readout_address TagHigh = 0x0901
readout_address Code = 0x0902
readout_address LoaderState = 0x0903
readout_address LoaderCounter = 0x0904
readout_address QueueLength = 0x0905
readout_address (Count k) = 0x1200 + k
readout_address (Raw k) = 0x1300 + k
readout_address (Threshold k) = 0x1800 + k

-- 22 selection words of an output, "with a raster of 32 addresses"
abbrev setting_address : SettingWord → ℕ
setting_address (Mask k) = 0x0630 + k
setting_address WatchdogTimeout = 0x0800
setting_address (Selection o k) = 0x1100 + (32 * o + k)

abbrev shared_address : SharedWord → ℕ
shared_address Control = 0x0801
shared_address Key = 0x0A00
shared_address Enable = 0x0A01
shared_address Reload = 0x0A02

abbrev gate_address : GateWord → ℕ
gate_address Mode = 0x0802
gate_address (Timeout g) = 0x0804 + g
gate_address Prepare = 0x0A03
gate_address Recover = 0x0A04

abbrev pub address_of : Register → ℕ
address_of (Readout q) = readout_address q
address_of (Setting q) = setting_address q
address_of (Shared q) = shared_address q
address_of (Gates q) = gate_address q
address_of (Watchdogs k) = 0x0810 + k
address_of (Input n) = 0x1000 + n
address_of (Group k) = 0x1600 + k
address_of (Word i) = 0x8000 + i

-- the numbers that the map gives are those of its blocks: of the registers that a write can change

abbrev pub InBlock : SettingWord → Type 0
InBlock (Mask k) = k < 6
InBlock (Selection o k) = (o < 6) × (k < 22)
InBlock q = Unit

abbrev pub InGates : GateWord → Type 0
InGates (Timeout g) = g < 12
InGates q = Unit

abbrev pub InMap : Register → Type 0
InMap (Setting q) = InBlock q
InMap (Gates q) = InGates q
InMap (Watchdogs k) = k < 4
InMap (Input n) = n < 128
InMap (Group k) = k < 32
InMap (Word i) = i < 16384
InMap r = Unit

-- what may stand at an address: nothing, or a register of the map with that address
pub record Stands (a : ℕ) (r : Register) : Type 0 where
  pub inside : InMap r
  pub address : address_of r ≡ a

abbrev pub Placed : ℕ → Option Register → Type 0
Placed a None = Unit
Placed a (Some r) = Stands a r

-- ---- page by page, row by row

-- what a row holds at the addresses from `low` to its edge, and what the map holds from `low` on
record Row (low edge a : ℕ) (o : Option Register) : Type 0 where
  placed : low ≤ a → a < edge → Placed a o

record From (low a : ℕ) (o : Option Register) : Type 0 where
  placed : low ≤ a → Placed a o

from_below : (low edge a : ℕ) (here rest : Option Register) → Row low edge a here → From edge a rest → From low a (below a edge here rest)
from_below low edge a here rest row more = record {
  placed = λ h. pick_elim (Placed a) (ltb a edge) (λ e. row.placed h (ltb-true a edge e)) (λ e. more.placed (ltb-false a edge e));
}

from_none : (low a : ℕ) → From low a None
from_none low a = record { placed = λ h. tt }

row_none : (low edge a : ℕ) → Row low edge a None
row_none low edge a = record { placed = λ h l. tt }

-- a block of registers, and a register alone
row_block : (low edge a : ℕ) (r : Register) → (a - low < edge - low → InMap r) → address_of r ≡ low + (a - low) → Row low edge a (Some r)
row_block low edge a r p e = record { placed = λ h l. record { inside = p (omega arith); address = e ∙ omega arith } }

row_one : (low edge a : ℕ) (r : Register) → InMap r → address_of r ≡ low → edge ≡ low + 1 → Row low edge a (Some r)
row_one low edge a r i e one = record { placed = λ h l. record { inside = i; address = e ∙ omega arith } }

row_outputs : (a : ℕ) → Row 0x1100 0x11C0 a (output_block (a - 0x1100))
row_outputs a = record { placed = λ h l. grind (arith, nat_tests) }

ruleset rows = (from_below, from_none, row_none, row_block, row_one, row_outputs)

backplane_from : (a : ℕ) → From 0 a (backplane_map a)
unfolding backplane_map
backplane_from a = search rows depth 40

status_from : (a : ℕ) → From 0x0700 a (status_map a)
unfolding status_map
status_from a = search rows depth 40

control_from : (a : ℕ) → From 0x0800 a (control_map a)
unfolding control_map
control_from a = search rows depth 40

event_from : (a : ℕ) → From 0x0900 a (event_map a)
unfolding event_map
event_from a = search rows depth 40

counter_from : (a : ℕ) → From 0x1000 a (counter_map a)
unfolding counter_map
counter_from a = search rows depth 40

-- a page is a row of the whole
row_page : (low edge a : ℕ) (o : Option Register) → From low a o → Row low edge a o
row_page low edge a o page = record { placed = λ h l. page.placed h }

map_from : (a : ℕ) → From 0 a (decode_of a)
unfolding decode_of
map_from a = search (from_below, row_page, backplane_from, status_from, control_from, event_from, counter_from) depth 40

placed : (a : ℕ) → Placed a (decode_of a)
placed a = (map_from a).placed (omega arith)

pub placed_as : (a : ℕ) (r : Register) → decode_of a ≡ Some r → Stands a r
placed_as a r e = subst (Placed a) e (placed a)

-- so two addresses at which registers stand are the same where the registers are
pub one_address : (a b : ℕ) → (decode_of a ≡ None → ⊥) → decode_of a ≡ decode_of b → a ≡ b
one_address a b full e = by (decode_of a) refl
  where
    by : (o : Option Register) → decode_of a ≡ o → a ≡ b
    by None p = absurd (full p)
    by (Some r) p = sym (placed_as a r p).address ∙ (placed_as b r (sym e ∙ p)).address

-- 0x0A02 and no other
pub decode_reload : decode_of 0x0A02 ≡ Some (Shared Reload)
unfolding decode_of event_map
decode_reload = refl

pub reload_at : (a : ℕ) → decode_of a ≡ Some (Shared Reload) → a ≡ 0x0A02
reload_at a e = sym (placed_as a (Shared Reload) e).address
