-- What a caller learns from each of the library's functions, its contract as the prover reads it, is the statement of specs/Returned.antt:
-- the two are the same by computing. So the theorems of Returned.antt rest on the contracts and on nothing read by eye.
use mathlib.Core.Path.{◌≡◌, refl}
use contract.BorrowLft.{◌⊑◌}
use Rattle.registers.specs.Calls.{tick, write, tag, download}
use Rattle.device.specs.State.{machine}
use Rattle.registers.proofs.power_up.Reads as power_up_reads
use Rattle.registers.proofs.read.Reads as read_reads
use Rattle.registers.proofs.scan.Reads as scan_reads
use Rattle.registers.proofs.write.Reads as write_reads
use Rattle.registers.proofs.tag.Reads as tag_reads
use Rattle.registers.proofs.tick.Reads as tick_reads
use Rattle.registers.proofs.download.Reads as download_reads
use Rattle.trace.proofs.run.Reads as run_reads
use Rattle.causes.proofs.number.Reads as number_reads
use Rattle.records.proofs.U16FromStop.from.Reads as stop_number_reads
use Rattle.demands.specs.Returned.{Looked, Numbered, Powered, Ran, Returned, Scanned, StopNumbered}

-- a holds the arguments in their order, s what those lent to be written are at the end; what is lent to be read alone stays as it was
pub power_up_contract : power_up_reads.Learnt ≡ (λ κs a r s. Powered a.0.now r s.0.now)
power_up_contract = refl

pub read_contract : read_reads.Learnt ≡ (λ κs a q s. Looked (machine a.0.now a.1.0.now) a.1.1.0 q)
read_contract = refl

pub scan_contract : scan_reads.Learnt ≡ (λ κs a q s. Scanned (machine a.0.now a.1.0.now) q)
scan_contract = refl

pub write_contract : write_reads.Learnt ≡
    (λ κs a r s. Returned (machine a.0.now a.1.0.now) (write a.1.1.0 a.1.1.1.0) r (machine s.0.now s.1.0.now))
write_contract = refl

pub tag_contract : tag_reads.Learnt ≡ (λ κs a r s. Returned (machine a.0.now a.1.0.now) (tag a.1.1.0) r (machine s.0.now a.1.0.now))
tag_contract = refl

pub tick_contract : tick_reads.Learnt ≡
    (λ κs a r s. Returned (machine a.0.now a.1.0.now) (tick a.1.1.0.inputs a.1.1.0.gates) r (machine s.0.now a.1.0.now))
tick_contract = refl

pub download_contract : download_reads.Learnt ≡
    (λ κs a r s. Returned (machine a.0.now a.1.0.now) (download a.1.1.0 a.1.1.1.0.now) r (machine a.0.now s.1.0.now))
download_contract = refl

pub run_contract : run_reads.Learnt ≡
    (λ κs a report s. Ran (machine a.0.now a.1.0.now) a.1.1.0.now a.1.1.1.0 s.0.now report s.1.0.now)
run_contract = refl

-- of what any call returns, whatever the type T of the value of an accepted one
pub number_contract : number_reads.Learnt ≡ (λ T laws copies clones calls κs a k s. Numbered a.0 k)
number_contract = refl

pub stop_number_contract : stop_number_reads.Learnt ≡ (λ κs a k s. StopNumbered a.0 k)
stop_number_contract = refl

-- ---- And none of them asks anything of its caller: there is no `requires`.

pub power_up_asks : power_up_reads.Asked ≡ (λ κs a. Unit)
power_up_asks = refl

pub read_asks : read_reads.Asked ≡ (λ κs a. Unit)
read_asks = refl

pub scan_asks : scan_reads.Asked ≡ (λ κs a. Unit)
scan_asks = refl

pub write_asks_lem : write_reads.Asked ≡ (λ κs a. Unit)
write_asks_lem = refl

pub tag_asks_lem : tag_reads.Asked ≡ (λ κs a. Unit)
tag_asks_lem = refl

pub tick_asks : tick_reads.Asked ≡ (λ κs a. Unit)
tick_asks = refl

pub download_asks : download_reads.Asked ≡ (λ κs a. Unit)
download_asks = refl

pub run_asks : run_reads.Asked ≡ (λ κs a. Unit)
run_asks = refl

-- nor does `number`, but for Rust's own rule that what a value of type T borrows outlives the call
pub number_asks : number_reads.Asked ≡ (λ T laws copies clones calls κs a. κs.0 ⊑ T.lives)
number_asks = refl

pub stop_number_asks : stop_number_reads.Asked ≡ (λ κs a. Unit)
stop_number_asks = refl
