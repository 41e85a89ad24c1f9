-- Document 01, "The one-counter sheet": counter c's own lines.
-- In: a counter and a list of calls. Out: a set of inputs and a set of gates.
use Rattle.std.specs.Prelude.{ℕ, Bool, true, false, ◌&&◌, ◌||◌, List, [], ◌∷◌, ◌≡◌, eqb, ltb}
use Rattle.std.specs.Option.{option_map_or}
use Rattle.bools.specs.Pick.{pick}
use Rattle.counters.specs.Counter.{down_of, gate_of, up_of}
use Rattle.lines.specs.Lines.{gate_count, input_count}
use Rattle.device.specs.declared.map.Register.{Register}
use Rattle.device.specs.declared.map.Register.TheVariants.{Input}
use Rattle.registers.specs.Calls.{Call, write}
use Rattle.device.specs.Map.{decode_of}

pub record Lines : Type 0 where
  pub inputs : ℕ → Bool
  pub gates : ℕ → Bool

-- "the inputs 0 to 53 and gates 0 to 11 that stand in UP, DOWN or GATE" of a word
unfoldable pub lines_of : ℕ → Lines
lines_of w = record {
  inputs = λ i. ltb i input_count && (eqb i (up_of w) || eqb i (down_of w));
  gates = λ g. ltb g gate_count && eqb g (gate_of w);
}

-- "the power-up word has none"
abbrev pub no_lines : Lines
no_lines = record { inputs = λ i. false; gates = λ g. false }

unfoldable pub join : Lines → Lines → Lines
join a b = record { inputs = λ i. a.inputs i || b.inputs i; gates = λ g. a.gates g || b.gates g }

-- a write to c's input register has the lines of its word, any other call has none
unfoldable pub lines_at : ℕ → Register → ℕ → Lines
lines_at c (Input n) w = pick (eqb c n) (lines_of w) no_lines
lines_at c r w = no_lines

unfoldable pub lines_in : ℕ → Call → Lines
lines_in c (write a w) = option_map_or (λ (r : Register). lines_at c r w) (decode_of a) no_lines
lines_in c x = no_lines

-- "of at least one word that the list writes to its input register"
unfoldable pub own_lines : ℕ → List Call → Lines
own_lines c [] = no_lines
own_lines c (x ∷ l) = join (lines_in c x) (own_lines c l)

-- S has the lines of T
pub record Holds (S T : Lines) : Type 0 where
  pub inputs : (i : ℕ) → T.inputs i ≡ true → S.inputs i ≡ true
  pub gates : (g : ℕ) → T.gates g ≡ true → S.gates g ≡ true
