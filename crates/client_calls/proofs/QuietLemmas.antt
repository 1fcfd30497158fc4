-- Steps in which nothing is granted, settled or signed.
use Rattle.std.proofs.Common.{◌≡◌, List, [], ◌∷◌, ◌++◌, refl, sym, ◌∙◌, ap, subst}
use Rattle.edge_kit.specs.declared.bytes.PubKey.{PubKey}
use Rattle.desk_machine.specs.Given.{given, given_after}
use Rattle.desk_machine.specs.Making.{AllBusy, ClosesIdle}
use Rattle.desk_machine.specs.declared.open_grant.OpenGrant.{OpenGrant}
use Rattle.desk_machine.specs.declared.call.DeskCall.{DeskCall}
use Rattle.desk_machine.specs.declared.call.DeskCall.TheVariants as call
use Rattle.desk_machine.specs.declared.call.DeskReply.{DeskReply}
use Rattle.client_calls.specs.Steps.{ClientCall, ClientReply, ClientStep, Calls, Closes, Signs, SignsPlain, Imports, Deletes, Replies, ClosedBy, Signed, Imported, Deleted, Fits, step_calls, step_sent, desk_calls, sent_in}
use Rattle.client_calls.proofs.AskLemmas.{AllSteps}

-- it asks for no grant, and settles none
abbrev pub IsQuietCall : DeskCall → Type 0
IsQuietCall (call.Propose key m now) = ⊥
IsQuietCall (call.Allow key now) = ⊥
IsQuietCall (call.Settle grant o) = ⊥
IsQuietCall c = Unit {0}

-- nor is anything signed
abbrev pub IsQuiet : ClientCall → Type 0
IsQuiet (Calls c) = IsQuietCall c
IsQuiet (Signs grant q) = ⊥
IsQuiet c = Unit {0}

abbrev pub AllQuiet : List ClientStep → Type 0
AllQuiet steps = AllSteps (λ c r. IsQuiet c × Fits c r) steps

given_on : (gs : List OpenGrant) (xs ys : List (DeskCall × DeskReply)) → given gs (xs ++ ys) ≡ given (given gs xs) ys
given_on gs [] ys = refl
given_on gs (x ∷ xs) ys = given_on (given_after gs x.0 x.1) xs ys

quiet_call : (gs : List OpenGrant) (c : DeskCall) (r : DeskReply) → IsQuietCall c → given_after gs c r ≡ gs
quiet_call gs (call.Merge file) r h = refl
quiet_call gs (call.Activate key now) r h = refl
quiet_call gs (call.Propose key m now) r h = absurd h
quiet_call gs (call.Allow key now) r h = absurd h
quiet_call gs (call.Answer key epoch live now) r h = refl
quiet_call gs (call.Settle grant o) r h = absurd h
quiet_call gs (call.BeginClose key) r h = refl
quiet_call gs (call.FinishClose key) r h = refl
quiet_call gs (call.Export keys) r h = refl
quiet_call gs (call.Record ps now) r h = refl
quiet_call gs (call.Prune key) r h = refl
quiet_call gs call.Keys r h = refl
quiet_call gs call.HasFailed r h = refl
quiet_call gs call.Size r h = refl
quiet_call gs call.Compact r h = refl

-- calls to close a key give no grant
quiet_busy : (key : PubKey) (gs : List OpenGrant) (made : List (DeskCall × DeskReply)) → AllBusy (call.FinishClose key) made → given gs made ≡ gs
quiet_busy key gs [] h = refl
quiet_busy key gs (x ∷ made) h =
    let P : DeskCall → Type 0 = λ c. IsQuietCall c in
    ap (λ l. given l made) (quiet_call gs x.0 x.1 (subst P (sym h.0) tt)) ∙ quiet_busy key gs made h.2

quiet_idle : (key : PubKey) (r : DeskReply) (gs : List OpenGrant) (made : List (DeskCall × DeskReply)) → ClosesIdle (call.FinishClose key) r made → given gs made ≡ gs
quiet_idle key r gs made h =
    ap (λ l. given gs l) h.made_is ∙ given_on gs h.busy ((call.FinishClose key, r) ∷ []) ∙ ap (λ l. given l ((call.FinishClose key, r) ∷ [])) (quiet_busy key gs h.busy h.all_busy)

quiet_step : (gs : List OpenGrant) (c : ClientCall) (r : ClientReply) → IsQuiet c → Fits c r → given gs (step_calls (c, r)) ≡ gs
quiet_step gs (Calls c) (Replies r) h f = quiet_call gs c r h
quiet_step gs (Closes key) (ClosedBy made r) h f = quiet_idle key r gs made f.0
quiet_step gs (Calls c) (ClosedBy made r) h f = absurd f
quiet_step gs (Calls c) (Signed r) h f = absurd f
quiet_step gs (Calls c) (Imported r) h f = absurd f
quiet_step gs (Calls c) (Deleted r) h f = absurd f
quiet_step gs (Closes key) (Replies r) h f = absurd f
quiet_step gs (Closes key) (Signed r) h f = absurd f
quiet_step gs (Closes key) (Imported r) h f = absurd f
quiet_step gs (Closes key) (Deleted r) h f = absurd f
quiet_step gs (Signs grant q) r h f = absurd h
quiet_step gs (SignsPlain grant q) r h f = refl
quiet_step gs (Imports q) r h f = refl
quiet_step gs (Deletes key) r h f = refl

pub quiet_given : (gs : List OpenGrant) (steps : List ClientStep) → AllQuiet steps → given gs (desk_calls steps) ≡ gs
quiet_given gs [] h = refl
quiet_given gs (s ∷ steps) h = given_on gs (step_calls s) (desk_calls steps) ∙ ap (λ l. given l (desk_calls steps)) (quiet_step gs s.0 s.1 h.0.0 h.0.1) ∙ quiet_given gs steps h.1

unsent_step : (c : ClientCall) (r : ClientReply) → IsQuiet c → step_sent (c, r) ≡ []
unsent_step (Calls c) r h = refl
unsent_step (Closes key) r h = refl
unsent_step (Signs grant q) r h = absurd h
unsent_step (SignsPlain grant q) r h = refl
unsent_step (Imports q) r h = refl
unsent_step (Deletes key) r h = refl

pub quiet_sent : (steps : List ClientStep) → AllQuiet steps → sent_in steps ≡ []
quiet_sent [] h = refl
quiet_sent (s ∷ steps) h = ap (λ l. l ++ sent_in steps) (unsent_step s.0 s.1 h.0.0) ∙ quiet_sent steps h.1
