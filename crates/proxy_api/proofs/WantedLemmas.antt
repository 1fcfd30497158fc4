-- What a request wants, by its head and by what stands after that.
use Rattle.std.proofs.Common.{◌≡◌, ℕ, Bool, true, false, List, Option, Some, None, Result, Ok, Err, refl, sym, ap, ◌∙◌, subst, cond, eqb, Bor, if◌then◌else◌}
use Rattle.std.specs.Prelude.{codes, drop, length, option_map, unwrap_or, ◌==◌}
use Rattle.std.specs.List.{list_any, starts_with}
use Rattle.std.specs.Str.{bytes_eq, IsUtf8, is_utf8}
use Rattle.std.proofs.lemmas.Str.{IsUtf8-from_is_utf8}
use Rattle.edge_kit.specs.declared.bytes.Root.{Root}
use Rattle.call_plans.specs.Plans.{Done}
use Rattle.desk_machine.specs.declared.call.DeskCall.{DeskCall}
use Rattle.desk_machine.specs.declared.call.DeskReply.{DeskReply}
use Rattle.client_calls.specs.Seats.{Seat}
use Rattle.http_wire.specs.Plain.{HasHeadOf}
use Rattle.http_wire.specs.declared.message.Request.{Request}
use Rattle.keymanager_routes.specs.Refusals.{refusal_reply}
use Rattle.keymanager_routes.specs.Routes.{path_of}
use Rattle.keymanager_routes.specs.declared.refusal.Refusal.{Refusal}
use Rattle.keymanager_routes.specs.declared.refusal.Refusal.TheVariants as refusal
use Rattle.keymanager_api.specs.declared.serve.Served.{Served}
use Rattle.keymanager_api.proofs.ReadingLemmas.{action_same}
use Rattle.proxy_api.specs.Routes.{by_identifier, by_method, by_path, identifier_in, of_keys, part_in, sign_path, wanted_for}
use Rattle.proxy_api.specs.Signing.{ByPlan, DoesRead, DoesWanted}
use Rattle.proxy_api.specs.declared.route.Wanted.{Wanted}
use Rattle.proxy_api.specs.declared.route.Wanted.TheVariants as wanted

-- the text of a part, or of another
pub unwrapped : (o : Option (Bor (List ℕ))) (d : Bor (List ℕ)) → (unwrap_or o d).now ≡ unwrap_or (option_map (λ (b : Bor (List ℕ)). b.now) o) d.now
unwrapped (Some b) d = refl
unwrapped None d = refl

-- one part of a path
pub part_is : (bytes : List ℕ) → (length bytes == 0) ≡ false → list_any (λ b. b == 47) bytes ≡ false → is_utf8 bytes ≡ true → part_in bytes ≡ Some bytes
part_is bytes e a u = rw (e, a, u) refl

never : (b : Bool) → (b ≡ true → ⊥) → b ≡ false
never true h = absurd (h refl)
never false h = refl

pub part_not : (bytes : List ℕ) → (length bytes == 0) ≡ false → list_any (λ b. b == 47) bytes ≡ false → (IsUtf8 bytes → ⊥) → part_in bytes ≡ None
part_not bytes e a never_text = rw (e, a, never (is_utf8 bytes) (λ t. never_text (IsUtf8-from_is_utf8 bytes t))) refl

-- after the path of a call for a signature
pub identifier_is : (path : List ℕ) → starts_with eqb path sign_path ≡ true → identifier_in path ≡ part_in (drop (length sign_path) path)
identifier_is path s = rw s refl

method_same : (method : List ℕ) (what : Wanted) (head r : Request) → HasHeadOf head r → by_method method what r ≡ by_method method what head
method_same method what head r same = ap (λ (m : List ℕ). if bytes_eq m method then Ok what else Err refusal.NoMethod) same.method

identifier_same : (token : List ℕ) (head r : Request) (o : Option (List ℕ)) → HasHeadOf head r → by_identifier token r o ≡ by_identifier token head o
identifier_same token head r None same = ap of_keys (action_same token head r same)
identifier_same token head r (Some identifier) same = method_same (codes "POST") wanted.Signature head r same

either : {X : Type 0} (b : Bool) (x y z w : X) → x ≡ y → z ≡ w → cond b x z ≡ cond b y w
either true x y z w p q = p
either false x y z w p q = q

path_same : (token : List ℕ) (head r : Request) (path : List ℕ) → HasHeadOf head r → by_path token r path ≡ by_path token head path
path_same token head r path same =
    either (bytes_eq path (codes "/upcheck")) _ _ _ _ (method_same (codes "GET") wanted.Upcheck head r same)
    (either (bytes_eq path (codes "/api/v1/eth2/publicKeys")) _ _ _ _ (method_same (codes "GET") wanted.PublicKeys head r same)
    (identifier_same token head r (identifier_in path) same))

-- requests of one head want the same
pub wanted_same : (token : List ℕ) (head r : Request) → HasHeadOf head r → wanted_for token r ≡ wanted_for token head
wanted_same token head r same = ap (λ (target : List ℕ). by_path token r (path_of target)) same.target ∙ path_same token head r (path_of head.target.items) same

module _ {K : Type 0} (leads : K → List (DeskCall × DeskReply) → K → Type 0) (token : List ℕ) (genesis : Root) (now : ℕ) (h i : Option (List ℕ)) (f g : ℕ) (a b : Seat K) (s : Served) where
  -- what was done for a request whose head passes the checks
  pub does_behind : (head r : Request) (what : Wanted) → HasHeadOf head r → wanted_for token head ≡ Ok what → DoesWanted leads genesis now r (Ok what) h i f g a b s → DoesRead leads token genesis now (Ok r) h i f g a b s
  does_behind head r what same passes d = subst (λ (w : Result Wanted Refusal). DoesWanted leads genesis now r w h i f g a b s) (sym (wanted_same token head r same ∙ passes)) d

  -- and for a head that fails a check
  pub does_refused : (head : Request) (r : Refusal) → wanted_for token head ≡ Err r → ByPlan leads (Done (refusal_reply r)) h i f g a b s → DoesRead leads token genesis now (Ok head) h i f g a b s
  does_refused head r fails d = subst (λ (w : Result Wanted Refusal). DoesWanted leads genesis now head w h i f g a b s) (sym fails) d
