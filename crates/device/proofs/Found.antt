-- What stands at an address, by its two cases.
use Rattle.std.proofs.Common.{Option, Some, None}
use Rattle.std.specs.Option.{option_map_or}
use Rattle.device.specs.declared.map.Register.{Register}

-- what holds where there is no register, and for each one, holds
pub found : {A : Type 0} (P : A → Type 0) (f : Register → A) (d : A) → P d → ((r : Register) → P (f r)) → (o : Option Register) →
    P (option_map_or f o d)
found P f d p q None = p
found P f d p q (Some r) = q r
