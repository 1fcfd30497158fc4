-- A fact of a result follows from another.
use Rattle.std.proofs.Common.{◌≡◌, Result, Ok, Err, OnOk}
use Rattle.interchange_io.specs.declared.fault.ReadFault.{ReadFault}
use Rattle.interchange_io.specs.declared.fault.Stop.{Stop}
use Rattle.interchange_io.specs.declared.fault.Stop.TheVariants as stop
use Rattle.interchange_io.specs.Steps.{IsRefusal}

pub OnOk-map : {T E P Q : Type 0} (r : Result T E) → (P → Q) → OnOk r P → OnOk r Q
OnOk-map (Ok x) f p = f p
OnOk-map (Err e) f p = tt

pub OnOk-map₂ : {T E P Q R : Type 0} (r : Result T E) → (P → Q → R) → OnOk r P → OnOk r Q → OnOk r R
OnOk-map₂ (Ok x) f p q = f p q
OnOk-map₂ (Err e) f p q = tt

-- what refuses a part refuses the whole
pub IsRefusal-whole : {A B : Type 0} (s : Stop) (part : Result A ReadFault) (whole : Result B ReadFault) → IsRefusal s part → ((e : ReadFault) → part ≡ Err e → whole ≡ Err e) → IsRefusal s whole
IsRefusal-whole stop.Memory part whole h f = tt
IsRefusal-whole (stop.Fault e) part whole h f = f e h
