-- Custody's calls, one before others.
use Rattle.std.proofs.Common.{◌≡◌, ℕ, ◌≤◌, ◌+◌, ◌<◌, Bool, true, false, List, [], ◌∷◌, ◌++◌, length, drop, get_or, drop-cons, add-one, Option, Some, None, refl, sym, ◌∙◌, ap, subst, append_assoc, arith}
use Rattle.std.specs.Prelude.{cond}
use Rattle.std.proofs.lemmas.List.{drop_all, at_drop_more, at_drop_all}
use Rattle.edge_kit.specs.Causes.{Rose}
use Rattle.edge_kit.specs.Tellings.{Tells}
use Rattle.edge_kit.specs.declared.bytes.PubKey.{PubKey}
use Rattle.desk_machine.specs.Grants.{IsGrantFor}
use Rattle.desk_machine.specs.declared.call.DeskCall.{DeskCall}
use Rattle.desk_machine.specs.declared.call.DeskCall.TheVariants as call
use Rattle.desk_machine.specs.declared.call.DeskReply.{DeskReply}
use Rattle.desk_machine.specs.declared.call.DeskReply.TheVariants as reply
use Rattle.signer_link.specs.Outcomes.{CountsDenial, import_denied, delete_denied}
use Rattle.signer_link.specs.Signing.{imported, told_import, told_delete}
use Rattle.signer_link.specs.declared.request.ImportCall.{ImportCall}
use Rattle.signer_link.specs.declared.reply.ImportReply.{ImportReply}
use Rattle.signer_link.specs.declared.reply.ImportReply.TheVariants as importing
use Rattle.signer_link.specs.declared.reply.DeleteReply.{DeleteReply}
use Rattle.signer_link.specs.declared.reply.DeleteReply.TheVariants as deleting
use Rattle.call_plans.specs.Plans.{Done}
use Rattle.call_plans.specs.Paths.{Carries}
use Rattle.call_plans.proofs.PathLemmas.{carries_step, carries_end, carries_cut}
use Rattle.key_custody.specs.declared.ask.Replied.{Replied}
use Rattle.key_custody.specs.declared.delete.Deletion.{Deletion}
use Rattle.key_custody.specs.declared.status.KeyStatus.{KeyStatus}
use Rattle.key_custody.specs.declared.status.KeyStatus.TheVariants as status
use Rattle.desk_machine.specs.declared.call.KeyStanding.{KeyStanding}
use Rattle.key_custody.specs.Statuses.{is_handed, handed_keys}
use Rattle.key_custody.specs.Replies.{Asked, ClosesKey, IsNoGrant, IsOfCustody, is_listed_active, active_keys, is_active_in}
use Rattle.client_calls.specs.Steps.{Calls, Closes, Imports, Deletes, Replies, ClosedBy, Imported, Deleted, Fits, ClientPlan}
use Rattle.client_calls.specs.Seats.{SignerSeen, Seat, at_seat, Does}
use Rattle.client_calls.proofs.SeatLemmas.{Leads, NoneLed, signer_none, import_fault, delete_fault}
use Rattle.key_custody.specs.Plans.{asks, closes, imports, deletes, listed_plan, taken_plan, export_plan, exported_plan, paired}

-- no call of custody is answered with a grant
pub no_grant : (c : DeskCall) (r : DeskReply) → IsOfCustody c → IsGrantFor c r → IsNoGrant r
no_grant (call.Merge file) (reply.Granted grant) of h = absurd h
no_grant (call.Activate key now) (reply.Granted grant) of h = absurd h
no_grant (call.BeginClose key) (reply.Granted grant) of h = absurd h
no_grant (call.FinishClose key) (reply.Granted grant) of h = absurd h
no_grant (call.Export keys) (reply.Granted grant) of h = absurd h
no_grant call.Keys (reply.Granted grant) of h = absurd h
no_grant c (reply.Granted grant) of h = absurd of
no_grant c r of h = tt

-- ---- a call before the run of a plan

pub runs_ask : {K X : Type 0} (leads : Leads K) (d e : K) (s : SignerSeen) (now : Seat K) (c : DeskCall) (x : Replied) (next_by : Replied → ClientPlan X) (v : Option X)
    → Asked leads d e c x → Carries Fits (Does leads) (next_by x) (at_seat e s) now v → Carries Fits (Does leads) (asks c next_by) (at_seat d s) now v
runs_ask leads d e s now c x next_by v a rest =
    carries_step Fits (Does leads) (Calls c) (Replies a.reply) _ (at_seat d s) (at_seat e s) now v (record { desk = a.led; signer = signer_none s }) a.kind
    (subst (λ y. Carries Fits (Does leads) (next_by y) (at_seat e s) now v) a.is rest)

pub runs_close : {K X : Type 0} (leads : Leads K) (d e : K) (s : SignerSeen) (now : Seat K) (key : PubKey) (x : Replied) (next_by : Replied → ClientPlan X) (v : Option X)
    → ClosesKey leads d e key x → Carries Fits (Does leads) (next_by x) (at_seat e s) now v → Carries Fits (Does leads) (closes key next_by) (at_seat d s) now v
runs_close leads d e s now key x next_by v a rest =
    carries_step Fits (Does leads) (Closes key) (ClosedBy a.made a.reply) _ (at_seat d s) (at_seat e s) now v (record { desk = a.led; signer = signer_none s }) (a.idle, a.kind)
    (subst (λ y. Carries Fits (Does leads) (next_by y) (at_seat e s) now v) a.is rest)

pub runs_import : {K X : Type 0} (leads : Leads K) (none : NoneLed leads) (d : K) (s t : SignerSeen) (now : Seat K) (q : ImportCall) (r : ImportReply) (next_by : ImportReply → ClientPlan X) (v : Option X)
    → Tells s.told t.told (told_import q r) → s.faults ≤ t.faults → (r ≡ importing.Fault → Rose s.faults t.faults) → s.denials ≤ t.denials → CountsDenial (import_denied r) s.denials t.denials
    → Carries Fits (Does leads) (next_by r) (at_seat d t) now v → Carries Fits (Does leads) (imports q next_by) (at_seat d s) now v
runs_import leads none d s t now q r next_by v tells later fault denials denied rest =
    carries_step Fits (Does leads) (Imports q) (Imported r) _ (at_seat d s) (at_seat d t) now v
    (record { desk = none d; signer = record { told = tells; later = later; fault = import_fault r s.faults t.faults fault; denials = denials; denied = denied } }) tt rest

pub runs_delete : {K X : Type 0} (leads : Leads K) (none : NoneLed leads) (d : K) (s t : SignerSeen) (now : Seat K) (key : PubKey) (r : DeleteReply) (next_by : DeleteReply → ClientPlan X) (v : Option X)
    → Tells s.told t.told (told_delete key r) → s.faults ≤ t.faults → (r ≡ deleting.Fault → Rose s.faults t.faults) → s.denials ≤ t.denials → CountsDenial (delete_denied r) s.denials t.denials
    → Carries Fits (Does leads) (next_by r) (at_seat d t) now v → Carries Fits (Does leads) (deletes key next_by) (at_seat d s) now v
runs_delete leads none d s t now key r next_by v tells later fault denials denied rest =
    carries_step Fits (Does leads) (Deletes key) (Deleted r) _ (at_seat d s) (at_seat d t) now v
    (record { desk = none d; signer = record { told = tells; later = later; fault = delete_fault r s.faults t.faults fault; denials = denials; denied = denied } }) tt rest

-- ---- keystores with their passwords, one more

pub paired_more : {A : Type 0} (text : A → List ℕ) (ks ps : List A) (i : ℕ) (d e : A) → i < length ks → length ps ≡ length ks
    → paired text (drop i ks) (drop i ps) ≡ (text (get_or ks i d), text (get_or ps i e)) ∷ paired text (drop (i + 1) ks) (drop (i + 1) ps)
paired_more text ks ps i d e h same =
    let l : i < length ps = omega arith in
    let f = drop-cons ks i d h in
    let g = drop-cons ps i e l in
    rw (f, g, add-one) refl

-- the same by what was read there
pub paired_read : {A : Type 0} (text : A → List ℕ) (ks ps : List A) (i : ℕ) (d e : A) (t u : List ℕ) → i < length ks → length ps ≡ length ks
    → d ≡ get_or ks i d → e ≡ get_or ps i e → t ≡ text d → u ≡ text e
    → paired text (drop i ks) (drop i ps) ≡ (t, u) ∷ paired text (drop (i + 1) ks) (drop (i + 1) ps)
paired_read {A} text ks ps i d e t u h same p q x y =
    let rest : List (List ℕ × List ℕ) = paired text (drop (i + 1) ks) (drop (i + 1) ps) in
    let one : List ℕ → List ℕ → List (List ℕ × List ℕ) = λ a b. (a, b) ∷ rest in
    paired_more text ks ps i d e h same ∙ ap (λ a. one a (text (get_or ps i e))) (ap text (sym p) ∙ sym x) ∙ ap (λ b. one t b) (ap text (sym q) ∙ sym y)

pub paired_over : {A : Type 0} (text : A → List ℕ) (ks ps : List A) (i : ℕ) → length ks ≤ i → paired text (drop i ks) (drop i ps) ≡ []
paired_over text ks ps i h = ap (λ l. paired text l (drop i ps)) (drop_all i ks h)

-- ---- by what the reply was

pub asks_on : {K X : Type 0} (leads : Leads K) (d e : K) (s : SignerSeen) (now : Seat K) (c : DeskCall) (x : Replied) (next_by : Replied → ClientPlan X) (q : ClientPlan X) (v : Option X)
    → Asked leads d e c x → next_by x ≡ q → Carries Fits (Does leads) q (at_seat e s) now v → Carries Fits (Does leads) (asks c next_by) (at_seat d s) now v
asks_on leads d e s now c x next_by q v a is rest = runs_ask leads d e s now c x next_by v a (subst (λ p. Carries Fits (Does leads) p (at_seat e s) now v) (sym is) rest)

pub asks_end : {K X : Type 0} (leads : Leads K) (d e : K) (s : SignerSeen) (c : DeskCall) (x : Replied) (next_by : Replied → ClientPlan X) (y : X)
    → Asked leads d e c x → next_by x ≡ Done y → Carries Fits (Does leads) (asks c next_by) (at_seat d s) (at_seat e s) (Some y)
asks_end leads d e s c x next_by y a is = asks_on leads d e s (at_seat e s) c x next_by (Done y) (Some y) a is (carries_end Fits (Does leads) (Done y) (at_seat e s) (Some y) refl)

pub asks_cut : {K X : Type 0} (leads : Leads K) (d e : K) (s : SignerSeen) (c : DeskCall) (x : Replied) (next_by : Replied → ClientPlan X)
    → Asked leads d e c x → Carries Fits (Does leads) (asks c next_by) (at_seat d s) (at_seat e s) None
asks_cut leads d e s c x next_by a = runs_ask leads d e s (at_seat e s) c x next_by None a (carries_cut Fits (Does leads) (next_by x) (at_seat e s))

pub closes_end : {K X : Type 0} (leads : Leads K) (d e : K) (s : SignerSeen) (key : PubKey) (x : Replied) (next_by : Replied → ClientPlan X) (y : X)
    → ClosesKey leads d e key x → next_by x ≡ Done y → Carries Fits (Does leads) (closes key next_by) (at_seat d s) (at_seat e s) (Some y)
closes_end leads d e s key x next_by y a is =
    runs_close leads d e s (at_seat e s) key x next_by (Some y) a
    (subst (λ p. Carries Fits (Does leads) p (at_seat e s) (at_seat e s) (Some y)) (sym is) (carries_end Fits (Does leads) (Done y) (at_seat e s) (Some y) refl))

pub closes_cut : {K X : Type 0} (leads : Leads K) (d e : K) (s : SignerSeen) (key : PubKey) (x : Replied) (next_by : Replied → ClientPlan X)
    → ClosesKey leads d e key x → Carries Fits (Does leads) (closes key next_by) (at_seat d s) (at_seat e s) None
closes_cut leads d e s key x next_by a = runs_close leads d e s (at_seat e s) key x next_by None a (carries_cut Fits (Does leads) (next_by x) (at_seat e s))

-- ---- handed keys and active ones, one more

pub handed_more : (keys : List PubKey) (statuses : List KeyStatus) (i : ℕ) (d : PubKey) (e : KeyStatus) → i < length keys → length statuses ≡ length keys
    → handed_keys (drop i keys) (drop i statuses)
    ≡ cond (is_handed (get_or statuses i e)) (get_or keys i d ∷ handed_keys (drop (i + 1) keys) (drop (i + 1) statuses)) (handed_keys (drop (i + 1) keys) (drop (i + 1) statuses))
handed_more keys statuses i d e h same =
    let l : i < length statuses = omega arith in
    ap (λ l. handed_keys l (drop i statuses)) (drop-cons keys i d h ∙ ap (λ n. get_or keys i d ∷ drop n keys) (sym (add-one i)))
    ∙ ap (λ l. handed_keys (get_or keys i d ∷ drop (i + 1) keys) l) (drop-cons statuses i e l ∙ ap (λ n. get_or statuses i e ∷ drop n statuses) (sym (add-one i)))

pub handed_over : (keys : List PubKey) (statuses : List KeyStatus) (i : ℕ) → length keys ≤ i → handed_keys (drop i keys) (drop i statuses) ≡ []
handed_over keys statuses i h = ap (λ l. handed_keys l (drop i statuses)) (drop_all i keys h)

-- so far these are handed out, and of the rest those that its statuses say
pub handed_step : (keys : List PubKey) (statuses : List KeyStatus) (i : ℕ) (d : PubKey) (e : KeyStatus) (got : List PubKey) → i < length keys → length statuses ≡ length keys
    → got ++ handed_keys (drop i keys) (drop i statuses) ≡ handed_keys keys statuses → is_handed (get_or statuses i e) ≡ true
    → (got ++ get_or keys i d ∷ []) ++ handed_keys (drop (i + 1) keys) (drop (i + 1) statuses) ≡ handed_keys keys statuses
handed_step keys statuses i d e got h same so t =
    append_assoc got (get_or keys i d ∷ []) (handed_keys (drop (i + 1) keys) (drop (i + 1) statuses))
    ∙ ap (λ l. got ++ l)
    (sym (handed_more keys statuses i d e h same
    ∙ ap (λ b. cond b (get_or keys i d ∷ handed_keys (drop (i + 1) keys) (drop (i + 1) statuses)) (handed_keys (drop (i + 1) keys) (drop (i + 1) statuses))) t))
    ∙ so

pub handed_skip : (keys : List PubKey) (statuses : List KeyStatus) (i : ℕ) (d : PubKey) (e : KeyStatus) (got : List PubKey) → i < length keys → length statuses ≡ length keys
    → got ++ handed_keys (drop i keys) (drop i statuses) ≡ handed_keys keys statuses → is_handed (get_or statuses i e) ≡ false
    → got ++ handed_keys (drop (i + 1) keys) (drop (i + 1) statuses) ≡ handed_keys keys statuses
handed_skip keys statuses i d e got h same so t =
    ap (λ l. got ++ l)
    (sym (handed_more keys statuses i d e h same
    ∙ ap (λ b. cond b (get_or keys i d ∷ handed_keys (drop (i + 1) keys) (drop (i + 1) statuses)) (handed_keys (drop (i + 1) keys) (drop (i + 1) statuses))) t))
    ∙ so

active_more : (listed : List (PubKey × KeyStanding)) (i : ℕ) (d : PubKey × KeyStanding) (b : Bool) → i < length listed → is_listed_active (get_or listed i d) ≡ b
    → active_keys (drop i listed) ≡ cond b ((get_or listed i d).0 ∷ active_keys (drop (i + 1) listed)) (active_keys (drop (i + 1) listed))
active_more listed i d b h t = at_drop_more active_keys listed i d h ∙ at b t where
  at : (b : Bool) → is_listed_active (get_or listed i d) ≡ b → active_keys (get_or listed i d ∷ drop (i + 1) listed) ≡ cond b ((get_or listed i d).0 ∷ active_keys (drop (i + 1) listed)) (active_keys (drop (i + 1) listed))
  at true e = rw e refl
  at false e = rw e refl

pub active_step : (listed : List (PubKey × KeyStanding)) (i : ℕ) (d : PubKey × KeyStanding) (got : List PubKey) → i < length listed
    → got ++ active_keys (drop i listed) ≡ active_keys listed → is_listed_active (get_or listed i d) ≡ true
    → (got ++ (get_or listed i d).0 ∷ []) ++ active_keys (drop (i + 1) listed) ≡ active_keys listed
active_step listed i d got h so t =
    append_assoc got ((get_or listed i d).0 ∷ []) (active_keys (drop (i + 1) listed)) ∙ ap (λ l. got ++ l) (sym (active_more listed i d true h t)) ∙ so

pub active_skip : (listed : List (PubKey × KeyStanding)) (i : ℕ) (d : PubKey × KeyStanding) (got : List PubKey) → i < length listed
    → got ++ active_keys (drop i listed) ≡ active_keys listed → is_listed_active (get_or listed i d) ≡ false
    → got ++ active_keys (drop (i + 1) listed) ≡ active_keys listed
active_skip listed i d got h so t = ap (λ l. got ++ l) (sym (active_more listed i d false h t)) ∙ so

pub active_over : (listed : List (PubKey × KeyStanding)) (i : ℕ) → length listed ≤ i → active_keys (drop i listed) ≡ []
active_over listed i h = at_drop_all active_keys listed i h

-- ---- an active key is not taken in again

pub listed_end : {K : Type 0} (leads : Leads K) (a : Seat K) (now : ℕ) (keystore password : List ℕ) (key : PubKey) (listed : List (PubKey × KeyStanding))
    → is_active_in listed key ≡ true → Carries Fits (Does leads) (listed_plan now keystore password key listed) a a (Some status.Duplicate)
listed_end leads a now keystore password key listed e =
    subst (λ (b : Bool). Carries Fits (Does leads) (cond b (Done status.Duplicate) (imports (imported key keystore password) (λ r. taken_plan now key r))) a a (Some status.Duplicate)) (sym e)
    (carries_end Fits (Does leads) (Done status.Duplicate) a (Some status.Duplicate) refl)

pub listed_on : {K : Type 0} (leads : Leads K) (a b : Seat K) (now : ℕ) (keystore password : List ℕ) (key : PubKey) (listed : List (PubKey × KeyStanding)) (v : Option KeyStatus)
    → is_active_in listed key ≡ false → Carries Fits (Does leads) (imports (imported key keystore password) (λ r. taken_plan now key r)) a b v
    → Carries Fits (Does leads) (listed_plan now keystore password key listed) a b v
listed_on leads a b now keystore password key listed v e run =
    subst (λ (t : Bool). Carries Fits (Does leads) (cond t (Done status.Duplicate) (imports (imported key keystore password) (λ r. taken_plan now key r))) a b v) (sym e) run

-- ---- the end of a plan

pub given_end : {K X : Type 0} (leads : Leads K) (a : Seat K) (v : Option X) (x : X) → ((y : X) → v ≡ Some y → y ≡ x) → Carries Fits (Does leads) (Done x) a a v
given_end leads a None x h = carries_cut Fits (Does leads) (Done x) a
given_end leads a (Some y) x h = carries_end Fits (Does leads) (Done x) a (Some y) (h y refl)

pub export_on : {K : Type 0} (leads : Leads K) (a b : Seat K) (keys : List PubKey) (statuses : List KeyStatus) (handed : List PubKey) (v : Option Deletion) → handed ≡ handed_keys keys statuses
    → Carries Fits (Does leads) (asks (call.Export handed) (λ s. exported_plan statuses s)) a b v → Carries Fits (Does leads) (export_plan keys statuses) a b v
export_on leads a b keys statuses handed v e run = subst (λ (l : List PubKey). Carries Fits (Does leads) (asks (call.Export l) (λ s. exported_plan statuses s)) a b v) e run
