-- What steps make of a desk and a signer.
use Rattle.std.proofs.Common.{◌≡◌, ℕ, ◌≤◌, Bool, true, false, List, [], ◌∷◌, ◌++◌, Option, refl, sym, ◌∙◌, subst, arith}
use Rattle.std.specs.Prelude.{◌||◌}
use Rattle.std.proofs.lemmas.Grind.{flat_map-append}
use Rattle.std.proofs.lemmas.List.Folds.{list_any-append}
use Rattle.edge_kit.specs.Causes.{Rose}
use Rattle.edge_kit.proofs.TellingLemmas.{Tells-nil, Tells-trans}
use Rattle.desk_machine.specs.declared.call.DeskCall.{DeskCall}
use Rattle.desk_machine.specs.declared.call.DeskReply.{DeskReply}
use Rattle.signer_link.specs.Outcomes.{CountsDenial, sign_failed, import_failed, delete_failed}
use Rattle.signer_link.specs.declared.reply.SignReply.{SignReply}
use Rattle.signer_link.specs.declared.reply.SignReply.TheVariants as signing
use Rattle.signer_link.specs.declared.reply.ImportReply.{ImportReply}
use Rattle.signer_link.specs.declared.reply.ImportReply.TheVariants as importing
use Rattle.signer_link.specs.declared.reply.DeleteReply.{DeleteReply}
use Rattle.signer_link.specs.declared.reply.DeleteReply.TheVariants as deleting
use Rattle.signer_link.specs.declared.reply.Told.{Told}
use Rattle.call_plans.specs.Paths.{Path, Carries}
use Rattle.client_calls.specs.Steps.{ClientPlan, ClientStep, Fits, step_calls, step_told, step_failed, step_denied, desk_calls, told_in, has_failed, has_denied}
use Rattle.client_calls.specs.Seats.{SignerSeen, SignerTells, Seat, Does, Makes, Ran}

-- ---- the signer

not_true : {P : Type 0} → false ≡ true → P
not_true e = absurd cc

pub signer_none : (a : SignerSeen) → SignerTells a a [] false false
signer_none a = record { told = Tells-nil a.told; later = omega arith; fault = not_true; denials = omega arith; denied = refl }

rose_before : (a b c : ℕ) → Rose a b → b ≤ c → Rose a c
rose_before a b c r h = omega arith

rose_after : (a b c : ℕ) → a ≤ b → Rose b c → Rose a c
rose_after a b c h r = omega arith

faults_on : (f g : Bool) (a b c : ℕ) → a ≤ b → b ≤ c → (f ≡ true → Rose a b) → (g ≡ true → Rose b c) → (f || g) ≡ true → Rose a c
faults_on true g a b c l m p q e = rose_before a b c (p refl) m
faults_on false g a b c l m p q e = rose_after a b c l (q e)

denials_on : (f g : Bool) (a b c : ℕ) → a ≤ b → b ≤ c → CountsDenial f a b → CountsDenial g b c → CountsDenial (f || g) a c
denials_on true g a b c l m p q = rose_before a b c p m
denials_on false true a b c l m p q = rose_after a b c l q
denials_on false false a b c l m p q = q ∙ p

pub signer_on : (a b c : SignerSeen) (xs ys : List Told) (f g p q : Bool) → SignerTells a b xs f p → SignerTells b c ys g q → SignerTells a c (xs ++ ys) (f || g) (p || q)
signer_on a b c xs ys f g p q s t = record {
  told = Tells-trans a.told b.told c.told xs ys s.told t.told;
  later = (let l : a.faults ≤ b.faults = s.later in let m : b.faults ≤ c.faults = t.later in omega arith);
  fault = faults_on f g a.faults b.faults c.faults s.later t.later s.fault t.fault;
  denials = (let l : a.denials ≤ b.denials = s.denials in let m : b.denials ≤ c.denials = t.denials in omega arith);
  denied = denials_on p q a.denials b.denials c.denials s.denials t.denials s.denied t.denied;
}

pub import_fault : (r : ImportReply) (a b : ℕ) → (r ≡ importing.Fault → Rose a b) → import_failed r ≡ true → Rose a b
import_fault importing.Imported a b h e = not_true e
import_fault importing.Duplicate a b h e = not_true e
import_fault (importing.Refused text) a b h e = not_true e
import_fault importing.Fault a b h e = h refl
import_fault (importing.BadAnswer body) a b h e = not_true e
import_fault importing.OutOfMemory a b h e = not_true e

pub delete_fault : (r : DeleteReply) (a b : ℕ) → (r ≡ deleting.Fault → Rose a b) → delete_failed r ≡ true → Rose a b
delete_fault deleting.Deleted a b h e = not_true e
delete_fault deleting.NotActive a b h e = not_true e
delete_fault deleting.NotFound a b h e = not_true e
delete_fault (deleting.Refused text) a b h e = not_true e
delete_fault deleting.Fault a b h e = h refl
delete_fault (deleting.BadAnswer body) a b h e = not_true e
delete_fault deleting.OutOfMemory a b h e = not_true e

pub sign_fault : (r : SignReply) (a b : ℕ) → (r ≡ signing.Fault → Rose a b) → sign_failed r ≡ true → Rose a b
sign_fault (signing.Signed signature) a b h e = not_true e
sign_fault (signing.NoKey status) a b h e = not_true e
sign_fault (signing.Denied status) a b h e = not_true e
sign_fault signing.Fault a b h e = h refl
sign_fault (signing.BadAnswer body) a b h e = not_true e
sign_fault signing.OutOfMemory a b h e = not_true e

abbrev pub Leads : Type 0 → Type 1
Leads K = K → List (DeskCall × DeskReply) → K → Type 0

abbrev pub More : {K : Type 0} → Leads K → Type 0
More {K} leads = (d e f : K) (xs ys : List (DeskCall × DeskReply)) → leads d xs e → leads e ys f → leads d (xs ++ ys) f

abbrev pub NoneLed : {K : Type 0} → Leads K → Type 0
NoneLed {K} leads = (d : K) → leads d [] d

-- ---- what a whole run did

pub makes_none : {K : Type 0} (leads : Leads K) (none : NoneLed leads) (a : Seat K) → Makes leads a [] a
makes_none leads none a = record { desk = none a.desk; signer = signer_none a.signer }

-- one step before others
pub makes_step : {K : Type 0} (leads : Leads K) (more : More leads) (a b c : Seat K) (s : ClientStep) (steps : List ClientStep) → Does leads a s b → Makes leads b steps c → Makes leads a (s ∷ steps) c
makes_step leads more a b c s steps d m = record {
  desk = more a.desk b.desk c.desk (step_calls s) (desk_calls steps) d.desk m.desk;
  signer = signer_on a.signer b.signer c.signer (step_told s) (told_in steps) (step_failed s) (has_failed steps) (step_denied s) (has_denied steps) d.signer m.signer;
}

-- some steps and then others
pub makes_on : {K : Type 0} (leads : Leads K) (more : More leads) (a b c : Seat K) (xs ys : List ClientStep) → Makes leads a xs b → Makes leads b ys c → Makes leads a (xs ++ ys) c
makes_on leads more a b c xs ys p q = record {
  desk = subst (λ (l : List (DeskCall × DeskReply)). leads a.desk l c.desk) (sym (flat_map-append step_calls xs ys)) (more a.desk b.desk c.desk (desk_calls xs) (desk_calls ys) p.desk q.desk);
  signer =
      subst (λ (l : List Told). SignerTells a.signer c.signer l (has_failed (xs ++ ys)) (has_denied (xs ++ ys))) (sym (flat_map-append step_told xs ys))
      (subst (λ (f : Bool). SignerTells a.signer c.signer (told_in xs ++ told_in ys) f (has_denied (xs ++ ys))) (sym (list_any-append step_failed xs ys))
      (subst (λ (d : Bool). SignerTells a.signer c.signer (told_in xs ++ told_in ys) (has_failed xs || has_failed ys) d) (sym (list_any-append step_denied xs ys))
      (signer_on a.signer b.signer c.signer (told_in xs) (told_in ys) (has_failed xs) (has_failed ys) (has_denied xs) (has_denied ys) p.signer q.signer)));
}

pub makes_path : {K : Type 0} (leads : Leads K) (none : NoneLed leads) (more : More leads) (a b : Seat K) (steps : List ClientStep) → Path (Does leads) a steps b → Makes leads a steps b
makes_path {K} leads none more a b [] p = let P : Seat K → Type 0 = λ x. Makes leads a [] x in subst P (sym p) (makes_none leads none a)
makes_path leads none more a b (s ∷ steps) p = makes_step leads more a p.0 b s steps p.1 (makes_path leads none more p.0 b steps p.2)

pub ran_of : {K X : Type 0} (leads : Leads K) (none : NoneLed leads) (more : More leads) (plan : ClientPlan X) (a b : Seat K) (v : Option X) → Carries Fits (Does leads) plan a b v → Ran leads plan a b v
ran_of leads none more plan a b v c =
    let all = makes_path leads none more a b c.steps c.path in record { steps = c.steps; follows = c.follows; desk = all.desk; signer = all.signer }
