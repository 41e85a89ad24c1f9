-- The reader of traces reads what is written, record by record.
use Prim.Native.Nat.{ℕ, zero, suc, ◌+◌, ◌-◌, ◌*◌, ◌/◌, ◌%◌, ◌^◌, ◌≤◌, ◌<◌}
use native.Mathlib.Nat.{add_assoc, add-zero, div-add-mod', div-lt_iff_lt-mul, pow-suc}
use native.Mathlib.Omega.{arith}
use mathlib.Core.Bool.{false}
use mathlib.Core.List.{List, [], ◌∷◌, ◌++◌, append_assoc}
use mathlib.Core.Path.{◌≡◌, refl, sym, ap, ◌∙◌}
use Rattle.std.proofs.Common.{None, Ok}
use borrow.Author.Tests.{ne_eqb, le-ltb}
use lib.Dec.{eqb, lit<}
use lib.ListN.{length, get_or, length-append}
use lib.Seq.{get_or-append-add, get_or_at}
use Rattle.records.specs.Records.{number_at, next_at, levels_at, ticks_at, payload_at, record_at}
use Rattle.captures.specs.Repeats.{Repeat}
use Rattle.captures.specs.Written.{Frame, bytes, level_bytes, tick_record, record_bytes, record_of, written}

-- ---- bytes of numbers

pub length_bytes : (n v : ℕ) → length (bytes n v) ≡ n
unfolding bytes
length_bytes zero v = refl
length_bytes (suc n) v = length-append (bytes n (v / 256)) (v % 256 ∷ []) ∙ rw (length_bytes n (v / 256)) (omega arith)

-- the bytes of a number are read back, wherever they stand
pub number_bytes : (n v : ℕ) (p q : List ℕ) (at : ℕ) → length p ≡ at → v < 256 ^ n → number_at (p ++ (bytes n v ++ q)) at n ≡ v
unfolding number_at bytes
number_bytes zero v p q at e h = omega arith
number_bytes (suc n) v p q at e h =
    let d : v / 256 < 256 ^ n = (div-lt_iff_lt-mul {k = 256} (lit< tt)).1 (rw pow-suc at h) in
    let b : get_or (p ++ (bytes n (v / 256) ++ (v % 256 ∷ q))) (at + n) 0 ≡ v % 256 =
    rw (← e, get_or-append-add) (get_or_at (bytes n (v / 256)) (v % 256) q 0 n (length_bytes n (v / 256))) in
    let s : bytes (suc n) v ++ q ≡ bytes n (v / 256) ++ (v % 256 ∷ q) = append_assoc (bytes n (v / 256)) (v % 256 ∷ []) q in
    let f : number_at (p ++ (bytes (suc n) v ++ q)) at n ≡ v / 256 =
    ap (λ (u : List ℕ). number_at (p ++ u) at n) s ∙ number_bytes n (v / 256) p (v % 256 ∷ q) at e d in
    rw (f, s, b) (div-add-mod' v 256)

-- ---- reading behind other bytes

number_behind : (p t : List ℕ) (at n : ℕ) → number_at (p ++ t) (length p + at) n ≡ number_at t at n
unfolding number_at
number_behind p t at zero = refl
number_behind p t at (suc n) = rw (number_behind p t at n, add_assoc (length p) at n, get_or-append-add)

next_behind : (p t : List ℕ) (at : ℕ) → next_at (p ++ t) (length p + at) ≡ length p + next_at t at
unfolding next_at
next_behind p t at = rw (add_assoc (length p) at 1, number_behind p t (at + 1) 2) (omega arith)

payload_behind : (tag : ℕ) (p t : List ℕ) (at : ℕ) → payload_at tag (p ++ t) (length p + at) ≡ payload_at tag t at
unfolding payload_at ticks_at levels_at
payload_behind tag p t at = simp (add_assoc, number_behind)

pub record_behind : (p t : List ℕ) (at : ℕ) → record_at (p ++ t) (length p + at) ≡ record_at t at
unfolding record_at
record_behind p t at =
    let l : length (p ++ t) - (length p + at) ≡ length t - at = rw length-append (omega arith) in
    rw (l, get_or-append-add) (simp (add_assoc, number_behind, payload_behind))

-- ---- one record

-- the numbers of a record fit their bytes
pub record Narrow (width : ℕ) (r : Repeat Frame) : Type 0 where
  pub some : 1 ≤ r.times
  pub times : r.times < 256 ^ width
  pub inputs : r.element.inputs < 256 ^ 7
  pub gates : r.element.gates < 256 ^ 2

pub length_record : (r : Repeat Frame) → length (record_bytes r) ≡ 14
unfolding tick_record level_bytes bytes
length_record r = refl

-- the payload of a tick record, for a repeat of every width
pub ticks_read : (width : ℕ) (r : Repeat Frame) → Narrow width r → (p q : List ℕ) (at : ℕ) → length p ≡ at →
    ticks_at width (p ++ (bytes width r.times ++ (bytes 7 r.element.inputs ++ (bytes 2 r.element.gates ++ q)))) at ≡ record_of r
unfolding ticks_at levels_at
ticks_read width r h p q at e =
    let n = r.times in
    let i = r.element.inputs in
    let g = r.element.gates in
    let t = p ++ (bytes width n ++ (bytes 7 i ++ (bytes 2 g ++ q))) in
    let p₁ = p ++ bytes width n in
    let p₂ = p₁ ++ bytes 7 i in
    let e₁ : length p₁ ≡ at + width = length-append p (bytes width n) ∙ rw (e, length_bytes width n) in
    let e₂ : length p₂ ≡ at + width + 7 = length-append p₁ (bytes 7 i) ∙ rw (e₁, length_bytes 7 i) in
    let s₁ : p₁ ++ (bytes 7 i ++ (bytes 2 g ++ q)) ≡ t = append_assoc p (bytes width n) (bytes 7 i ++ (bytes 2 g ++ q)) in
    let s₂ : p₂ ++ (bytes 2 g ++ q) ≡ t = append_assoc p₁ (bytes 7 i) (bytes 2 g ++ q) ∙ s₁ in
    let a : number_at t at width ≡ n = number_bytes width n p (bytes 7 i ++ (bytes 2 g ++ q)) at e h.times in
    let b : number_at t (at + width) 7 ≡ i =
    ap (λ (u : List ℕ). number_at u (at + width) 7) (sym s₁) ∙ number_bytes 7 i p₁ (bytes 2 g ++ q) (at + width) e₁ h.inputs in
    let d : number_at t (at + width + 7) 2 ≡ g =
    ap (λ (u : List ℕ). number_at u (at + width + 7) 2) (sym s₂) ∙ number_bytes 2 g p₂ q (at + width + 7) e₂ h.gates in
    let z : eqb n 0 ≡ false = ne_eqb n 0 (λ f. omega (arith, f, h.some)) in
    rw (a, b, d, z)

-- a whole header of tag 0x01 leads to its payload
header_read : (b : List ℕ) → 11 ≤ length b → record_at (1 ∷ 0 ∷ 11 ∷ b) 0 ≡ ticks_at 2 (1 ∷ 0 ∷ 11 ∷ b) 3
unfolding record_at payload_at number_at
header_read b h =
    let l = length (1 ∷ 0 ∷ 11 ∷ b) in
    rw (ne_eqb (l - 0) 0 (λ e. omega (arith, e)), le-ltb (l - 0) 3 (omega arith), le-ltb (l - 0) 14 (omega arith))

-- a record is read back, whatever follows
pub record_read : (r : Repeat Frame) → Narrow 2 r → (rest : List ℕ) → record_at (record_bytes r ++ rest) 0 ≡ record_of r
unfolding tick_record level_bytes bytes
record_read r h rest =
    let n = r.times in
    let i = r.element.inputs in
    let g = r.element.gates in
    let b = bytes 2 n ++ (bytes 7 i ++ (bytes 2 g ++ rest)) in
    let s : (bytes 2 n ++ (bytes 7 i ++ bytes 2 g)) ++ rest ≡ b = simp append_assoc in
    let l : 11 ≤ length b = simp length-append (omega arith) in
    rw (s, header_read b l) (ticks_read 2 r h (1 ∷ 0 ∷ 11 ∷ []) rest 3 refl)

-- the next record stands behind it
pub next_read : (r : Repeat Frame) (rest : List ℕ) → next_at (record_bytes r ++ rest) 0 ≡ 14
unfolding next_at tick_record level_bytes number_at bytes
next_read r rest = refl

-- the same behind other bytes
pub record_read_at : (p : List ℕ) (r : Repeat Frame) → Narrow 2 r → (rest : List ℕ) → record_at (p ++ (record_bytes r ++ rest)) (length p) ≡ record_of r
record_read_at p r h rest = rw add-zero at (record_behind p (record_bytes r ++ rest) 0) ∙ record_read r h rest

pub next_read_at : (p : List ℕ) (r : Repeat Frame) (rest : List ℕ) → next_at (p ++ (record_bytes r ++ rest)) (length p) ≡ length p + 14
next_read_at p r rest = rw add-zero at (next_behind p (record_bytes r ++ rest) 0) ∙ rw next_read

-- at the end nothing is left
pub end_read : (p : List ℕ) → record_at p (length p) ≡ Ok None
unfolding record_at
end_read p = let e : length p - length p ≡ 0 = omega arith in rw e

-- ---- a trace of records

pub length_written : (rs : List (Repeat Frame)) → length (written rs) ≡ 14 * length rs
unfolding written
length_written [] = refl
length_written (r ∷ rs) = length-append (record_bytes r) (written rs) ∙ rw (length_record r, length_written rs) (omega arith)
