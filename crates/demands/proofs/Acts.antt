-- What the functions return of a list of acts is what is to be seen of it, and they leave what the calls of the list leave: by the contracts,
-- act by act. And every list of acts can be gone through so.
use Prim.Native.Nat.{ℕ}
use mathlib.Core.Bool.{Bool, true}
use mathlib.Core.List.{List, [], ◌∷◌, ◌++◌, append_assoc}
use mathlib.Core.Path.{◌≡◌, refl, sym, ap, subst, ◌∙◌}
use Rattle.std.proofs.Common.{Ok}
use Rattle.lists.proofs.Tables.{length_tabulate}
use Rattle.loader.specs.Memory.{is_whole, memory_words}
use Rattle.device.specs.declared.state.Crate.{Crate}
use Rattle.causes.specs.Causes.{Answer, number_of}
use Rattle.device.specs.State.{Machine, machine, memory0}
use Rattle.interlocks.specs.Scan.{scan_of}
use Rattle.reading.specs.Read.{read_of}
use Rattle.records.specs.Stops.{stop_number}
use Rattle.registers.specs.Calls.{Call, after, answer, from, machine0, powered, powered_memory}
use Rattle.registers.proofs.Lists.{from_append}
use Rattle.registers.proofs.Whole.{is_whole_lem}
use Rattle.sheet.proofs.Theorems.{run_halts, run_is_list}
use Rattle.trace.specs.Run.{Run, machine_of, progress_of, run, run_of}
use Rattle.demands.specs.Returned.{Acted, Powered, Rehearsed, Saw, Went}
use Rattle.demands.specs.Seen.{Act, calling, reading, scanning, tracing, Seen, answered, reported, numbered, callings, calls_by, leaving, list_from, list_of, seen_from, seen_of, showing}

-- ---- what is returned is what is to be seen

-- one act
pub acted : (m : Machine) (x : Act) (seen : Seen) (n : Machine) → Acted m x seen n → (seen ≡ showing m x) × (n ≡ leaving m x)
unfolding Acted showing calls_by from
acted m (calling x) seen n w = (cc, w.2.1)
acted m (reading a) seen n w = (cc, w.5)
acted m scanning seen n w = (cc, w.5)
acted m (tracing t budget) seen n w = (
  w.6 ∙ ap (reported w.1) w.5 ∙ ap (λ (r : Run). numbered r.progress.report) w.4,
  w.7 ∙ ap machine_of w.4 ∙ run_is_list t budget m,
)

-- one after the other
pub went : (m : Machine) (l : List Act) (seen : List Seen) (n : Machine) → Went m l seen n → (seen ≡ seen_from m l) × (n ≡ from m (list_from m l))
unfolding Went from list_from seen_from
went m [] seen n w = w
went m (x ∷ l) seen n w =
    let one = acted m x w.0 w.2 w.3 in
    let more = went w.2 l w.1 n w.5 in (cc, cc (from_append m (calls_by m x) (list_from (leaving m x) l)))

-- power-up on a memory of 16,384 words
powered_up : (memory : List ℕ) → is_whole memory ≡ true → (r : Crate × Answer) (left : List ℕ) → Powered memory r left →
    (r.1 ≡ Ok tt) × (machine r.0 left ≡ machine0)
unfolding powered powered_memory
powered_up memory e r left up = (rw (up.0, e), rw (up.0, up.1, e))

-- from power-up on
pub saw : (l : List Act) (seen : List Seen) (n : Machine) → Saw l seen n → (seen ≡ seen_of l) × (n ≡ after (list_of l))
unfolding Saw after list_of seen_of
saw l seen n h =
    let up = powered_up h.0 h.1 h.2 h.3 h.6 in
    let on = went _ l h.5 n h.9 in (cc, cc)

-- what went through power-up and all acts is what `after` says of the list of calls
pub rehearsed : (l : List Act) (n : Machine) → Rehearsed l n → n ≡ after (list_of l)
rehearsed l n h = (saw l h.0 n h.1).1

-- ---- and every list of acts can be gone through

act_can : (m : Machine) (x : Act) → Acted m x (showing m x) (leaving m x)
unfolding Acted showing calls_by from
act_can m (calling x) = (answer m x, number_of (answer m x), (refl, refl), refl, refl)
act_can m (reading a) = (read_of m a, number_of (read_of m a), refl, refl, refl, refl)
act_can m scanning = (scan_of m, number_of (scan_of m), refl, refl, refl, refl)
act_can m (tracing t budget) =
    let r : Run = run_of t budget m in (
      r.progress.state,
      r.progress.report,
      r.memory,
      stop_number r.progress.report.stop,
      ap (λ (b : Bool). run (progress_of r.progress.state r.progress.report b) r.memory) (sym (run_halts t budget m)),
      refl,
      refl,
      sym (run_is_list t budget m),
    )

go_can : (m : Machine) (l : List Act) → Went m l (seen_from m l) (from m (list_from m l))
unfolding Went from list_from seen_from
go_can m [] = (refl, refl)
go_can m (x ∷ l) = (
  showing m x,
  seen_from (leaving m x) l,
  leaving m x,
  act_can m x,
  refl,
  rw (from_append m (calls_by m x) (list_from (leaving m x) l)) (go_can (leaving m x) l),
)

whole_start : is_whole memory0 ≡ true
unfolding memory0
whole_start = is_whole_lem memory0 (length_tabulate memory_words _)

pub rehearsable : (l : List Act) → Saw l (seen_of l) (after (list_of l))
unfolding Saw seen_of after list_of powered powered_memory
rehearsable l = (
  memory0,
  whole_start,
  powered memory0,
  powered_memory memory0,
  0,
  seen_from machine0 l,
  (refl, refl),
  ap number_of (sym done),
  ap {B = List Seen} (λ (a : Answer). answered a 0 ∷ seen_from machine0 l) (sym done),
  subst (λ (k : Machine). Went k l (seen_from machine0 l) (from machine0 (list_from machine0 l))) (sym begun) (go_can machine0 l),
)
  where
    done : (powered memory0).1 ≡ Ok tt
    done = rw whole_start refl

    begun : machine (powered memory0).0 (powered_memory memory0) ≡ machine0
    begun = rw whole_start refl

-- ---- lists of acts, one behind the other

pub list_append : (m : Machine) (l k : List Act) → list_from m (l ++ k) ≡ list_from m l ++ list_from (from m (list_from m l)) k
unfolding list_from from
list_append m [] k = refl
list_append m (x ∷ l) k =
    rw (list_append (leaving m x) l k, from_append m (calls_by m x) (list_from (leaving m x) l), append_assoc (calls_by m x) (list_from (leaving m x) l) _)

-- calls made one by one are the list of them
pub one_by_one : (m : Machine) (l : List Call) → list_from m (callings l) ≡ l
unfolding list_from calls_by
one_by_one m [] = refl
one_by_one m (x ∷ l) = cc (one_by_one (leaving m (calling x)) l)
