-- When a file that is read is said to have changed.
use Rattle.std.proofs.Common.{◌≡◌, sym, subst, Result, Ok, Err}
use Rattle.snd_output.specs.Ends.{IfChanged, IsUnchanged}
use Rattle.snd_output.specs.declared.stop.Stop.{Stop}
use Rattle.snd_output.specs.declared.stop.Stop.TheVariants.{Changed, Fault, Memory}

-- what stopped one call stops another
pub changed_as : {T : Type 0} (P Q : Type 0) (stop : Stop) (result : Result T Stop) → result ≡ Err stop → (P → Q) → IfChanged {T = T} P (Err stop) → IfChanged Q result
changed_as P Q Fault result is so changed = subst (IfChanged Q) (sym is) tt
changed_as P Q Memory result is so changed = subst (IfChanged Q) (sym is) tt
changed_as P Q Changed result is so changed = subst (IfChanged Q) (sym is) (so changed)

pub unchanged_as : {T : Type 0} (P : Type 0) (stop : Stop) (result : Result T Stop) → result ≡ Err stop → IsUnchanged {T = T} (Err stop) → IfChanged P result
unchanged_as P Fault result is unchanged = subst (IfChanged P) (sym is) tt
unchanged_as P Memory result is unchanged = subst (IfChanged P) (sym is) tt
unchanged_as P Changed result is unchanged = absurd unchanged

-- of one call
pub if_changed : {T : Type 0} (P Q : Type 0) (result : Result T Stop) → (P → Q) → IfChanged P result → IfChanged Q result
if_changed P Q (Ok x) so changed = tt
if_changed P Q (Err Fault) so changed = tt
if_changed P Q (Err Memory) so changed = tt
if_changed P Q (Err Changed) so changed = so changed

pub if_unchanged : {T : Type 0} (P : Type 0) (result : Result T Stop) → IsUnchanged result → IfChanged P result
if_unchanged P (Ok x) unchanged = tt
if_unchanged P (Err Fault) unchanged = tt
if_unchanged P (Err Memory) unchanged = tt
if_unchanged P (Err Changed) unchanged = absurd unchanged

pub never_is : {T : Type 0} (result : Result T Stop) → IfChanged ⊥ result → IsUnchanged result
never_is (Ok x) never = tt
never_is (Err Fault) never = tt
never_is (Err Memory) never = tt
never_is (Err Changed) never = never

-- whatever is answered where nothing stops a call
pub changed_err : (P Q : Type 0) (stop : Stop) → (P → Q) → IfChanged {T = Unit {0}} P (Err stop) → IfChanged {T = Unit {0}} Q (Err stop)
changed_err P Q stop so changed = if_changed {T = Unit {0}} P Q (Err stop) so changed

pub unchanged_err : (P : Type 0) (stop : Stop) → IsUnchanged {T = Unit {0}} (Err stop) → IfChanged {T = Unit {0}} P (Err stop)
unchanged_err P stop unchanged = if_unchanged {T = Unit {0}} P (Err stop) unchanged

-- a fault is no change
pub fault_only : (P : Type 0) (stop : Stop) → stop ≡ Fault → IfChanged {T = Unit {0}} P (Err stop)
fault_only P stop is = subst (λ (x : Stop). IfChanged {T = Unit {0}} P (Err x)) (sym is) tt
