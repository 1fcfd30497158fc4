-- A desk and a signer, and what steps make of them.
use Rattle.std.specs.Prelude.{◌≡◌, ℕ, ◌≤◌, Bool, true, List, Option}
use Rattle.edge_kit.specs.Causes.{Rose}
use Rattle.edge_kit.specs.Tellings.{Tells}
use Rattle.desk_machine.specs.declared.call.DeskCall.{DeskCall}
use Rattle.desk_machine.specs.declared.call.DeskReply.{DeskReply}
use Rattle.signer_link.specs.Outcomes.{CountsDenial}
use Rattle.signer_link.specs.declared.reply.Told.{Told}
use Rattle.call_plans.specs.Plans.{Follows}
use Rattle.client_calls.specs.Steps.{ClientPlan, ClientStep, Fits, step_calls, step_told, step_failed, step_denied, desk_calls, told_in, has_failed, has_denied}

-- what a signer tells, and how often it failed and refused
pub record SignerSeen : Type 0 where
  pub told : Option (List Told)
  pub faults : ℕ
  pub denials : ℕ

abbrev pub signer_seen : {S : Type 0} → (S → Option (List Told)) → (S → ℕ) → (S → ℕ) → S → SignerSeen
signer_seen told faults denials signer = record { told = told signer; faults = faults signer; denials = denials signer }

-- it told this more; its counts have not fallen, and rose where it failed or refused
pub record SignerTells (before now : SignerSeen) (more : List Told) (fails denies : Bool) : Type 0 where
  pub told : Tells before.told now.told more
  pub later : before.faults ≤ now.faults
  pub fault : fails ≡ true → Rose before.faults now.faults
  pub denials : before.denials ≤ now.denials
  pub denied : CountsDenial denies before.denials now.denials

pub record Seat (K : Type 0) : Type 0 where
  pub desk : K
  pub signer : SignerSeen

abbrev pub at_seat : {K : Type 0} → K → SignerSeen → Seat K
at_seat desk signer = record { desk = desk; signer = signer }

-- a step leads from the one to the other
pub record Does {K : Type 0} (leads : K → List (DeskCall × DeskReply) → K → Type 0) (before : Seat K) (s : ClientStep) (now : Seat K) : Type 0 where
  pub desk : leads before.desk (step_calls s) now.desk
  pub signer : SignerTells before.signer now.signer (step_told s) (step_failed s) (step_denied s)

-- these steps, one after another, were made of the desk and the signer
pub record Makes {K : Type 0} (leads : K → List (DeskCall × DeskReply) → K → Type 0) (before : Seat K) (steps : List ClientStep) (now : Seat K) : Type 0 where
  pub desk : leads before.desk (desk_calls steps) now.desk
  pub signer : SignerTells before.signer now.signer (told_in steps) (has_failed steps) (has_denied steps)

-- The desk and the signer did what the plan says, and it gave this value; None: memory ran out, and the first few steps of the
-- plan are done, each whole.
pub record Ran {K X : Type 0} (leads : K → List (DeskCall × DeskReply) → K → Type 0) (plan : ClientPlan X) (before now : Seat K) (value : Option X) : Type 0 where
  pub steps : List ClientStep
  pub follows : Follows Fits plan steps value
  pub desk : leads before.desk (desk_calls steps) now.desk
  pub signer : SignerTells before.signer now.signer (told_in steps) (has_failed steps) (has_denied steps)
