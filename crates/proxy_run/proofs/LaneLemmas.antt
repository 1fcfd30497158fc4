-- What lanes handed out, within the one history of all of them.
use Rattle.std.proofs.Common.{ℕ, suc, cond, Bool, true, false, List, [], ◌∷◌, ◌++◌, Contains, flat_map, map, Option, Result, sym, subst, inl, inr, ⊎_elim}
use Rattle.std.specs.Prelude.{slice_index_or}
use Rattle.std.proofs.lemmas.List.Elements.{Contains-append_cases, Contains-append_left, Contains-append_right, Contains-push}
use Rattle.edge_kit.specs.declared.bytes.PubKey.{PubKey}
use Rattle.slash_defs.specs.declared.message.Message.{Message}
use Rattle.desk_machine.specs.Grants.{IsGrantFor}
use Rattle.desk_machine.specs.declared.call.DeskCall.{DeskCall}
use Rattle.desk_machine.specs.declared.call.DeskCall.TheVariants as call
use Rattle.desk_machine.specs.declared.call.DeskReply.{DeskReply}
use Rattle.desk_machine.specs.declared.call.DeskReply.TheVariants as reply
use Rattle.desk_machine.specs.declared.call.Outcome.{Outcome}
use Rattle.desk_machine.specs.declared.open_grant.OpenGrant.{OpenGrant}
use Rattle.desk_lock.specs.declared.types.Entry.{Entry}
use Rattle.desk_seat.specs.Spans.{History, Spans}
use Rattle.desk_seat.specs.Turns.{calls_of}
use Rattle.duty_plans.specs.Guards.{granted_by, granted_in}
use Rattle.keymanager_api.specs.Serving.{LinkSeen}
use Rattle.door_lanes.specs.Doors.{DoorSeen}
use Rattle.door_lanes.specs.Runs.{Served as DoorServed}
use Rattle.door_lanes.specs.declared.lanes.LoopEnd.{LoopEnd}
use Rattle.proxy_api.specs.Attending.{Terms}
use Rattle.proxy_api.specs.Signing.{outcome_of}
use Rattle.proxy_lanes.specs.Lanes.{AttendsBy, LaneSeen}
use Rattle.proxy_run.specs.Begun.{Signed, joined, message_of, sent_by, sent_of, signed_in}
use Rattle.proxy_run.proofs.BegunLemmas.{lanes_settled, settled}
use Rattle.proxy_run.proofs.HandLemmas.{contains_cases, contains_none}

module _ {X A : Type 0} (f : X → List A) where
  flat_to : (xs : List X) (a : A) → Contains (flat_map f xs) a → (x : X) × Contains xs x × Contains (f x) a
  flat_to [] a h = contains_none a h
  flat_to (x ∷ xs) a h = ⊎_elim
      (λ here. (x, Contains-append_left (x ∷ []) xs x (Contains-push [] x), here))
      (λ later. let rest = flat_to xs a later in (rest.0, Contains-append_right (x ∷ []) xs rest.0 rest.1, rest.2))
      (Contains-append_cases (f x) (flat_map f xs) a h)

  flat_from : (xs : List X) (a : A) (x : X) → Contains xs x → Contains (f x) a → Contains (flat_map f xs) a
  flat_from [] a x at h = contains_none x at
  flat_from (y ∷ ys) a x at h = ⊎_elim
      (λ same. Contains-append_left (f y) (flat_map f ys) a (subst (λ (z : X). Contains (f z) a) (sym same) h))
      (λ later. Contains-append_right (f y) (flat_map f ys) a (flat_from ys a x later h))
      (contains_cases y ys x at)

joined_at : {X : Type 0} (xss : List (List X)) (x : X) → Contains (joined xss) x → (k : ℕ) × Contains (slice_index_or xss k []) x
joined_at [] x h = contains_none x h
joined_at (xs ∷ xss) x h = ⊎_elim (λ a. (0, a)) (λ b. (let r = joined_at xss x b in (suc r.0, r.1))) (Contains-append_cases xs (joined xss) x h)

-- a turn of the history is among its calls
calls_at : (before : History) (e : Entry DeskCall DeskReply) (rest : History) → Contains (calls_of (before ++ e ∷ rest)) (e.call, e.reply)
calls_at [] e rest = Contains-append_left ((e.call, e.reply) ∷ []) (calls_of rest) (e.call, e.reply) (Contains-push [] (e.call, e.reply))
calls_at (x ∷ before) e rest = Contains-append_right ((x.call, x.reply) ∷ []) (calls_of (before ++ e ∷ rest)) (e.call, e.reply) (calls_at before e rest)

-- the message of a grant is one that was asked for by the call that was granted
granted_one : (asked : DeskCall) (g : OpenGrant) (m : PubKey × Message) → IsGrantFor asked (reply.Granted g) → Contains (message_of g.key g.message) m → Contains (granted_by (asked, reply.Granted g)) m
granted_one (call.Propose key said now) g m is h = subst (λ (o : Option Message). Contains (message_of key o) m) is.1 (subst (λ (k : PubKey). Contains (message_of k g.message) m) is.0 h)
granted_one (call.Allow key now) g m is h = contains_none m (subst (λ (o : Option Message). Contains (message_of g.key o) m) is.1 h)
granted_one c g m is h = absurd is

spanned_granted : (log : History) (k : ℕ) (g : OpenGrant) (o : Outcome) (m : PubKey × Message) → Spans log k g o → Contains (message_of g.key g.message) m → Contains (granted_in (calls_of log)) m
spanned_granted log k g o m s h =
    let turn : Entry DeskCall DeskReply = record { by = k; call = s.asked; reply = reply.Granted g } in
    let there : Contains (calls_of log) (s.asked, reply.Granted g) = subst (λ (l : History). Contains (calls_of l) (s.asked, reply.Granted g)) (sym s.log_is) (calls_at s.before turn _) in
    flat_from granted_by (calls_of log) m (s.asked, reply.Granted g) there (granted_one s.asked g m s.granted h)

sent_granted : (log : History) (k : ℕ) (g : OpenGrant) (b : Bool) (o : Outcome) (m : PubKey × Message) → Spans log k g o → Contains (cond b (message_of g.key g.message) []) m → Contains (granted_in (calls_of log)) m
sent_granted log k g true o m s h = spanned_granted log k g o m s h
sent_granted log k g false o m s h = contains_none m h

-- so is each message whose signature was handed out, where each grant has its place in the history
pub messages_granted : (log : History) (signed : List (List Signed)) → ((k : ℕ) (g : OpenGrant) (b : Bool) → Contains (slice_index_or signed k []) (g, b) → Spans log k g (outcome_of b))
    → (m : PubKey × Message) → Contains (sent_of (joined signed)) m → Contains (granted_in (calls_of log)) m
messages_granted log signed spans m h =
    let at = flat_to sent_by (joined signed) m h in
    let place = joined_at signed at.0 at.1 in
    sent_granted log place.0 at.0.0 at.0.1 (outcome_of at.0.1) m (spans place.0 at.0.0 at.0.1 place.1) at.2

-- what lanes had signed they settled
pub in_settled : {C : Type 0} (see : C → LinkSeen) (terms : Terms) (wanted : ℕ) (before now : DoorSeen C) (befores nows : List LaneSeen) (result : Result (Unit {0}) LoopEnd) (served : DoorServed (AttendsBy see terms) wanted before now befores nows result) (k : ℕ) (g : Signed)
    → Contains (slice_index_or (signed_in see terms wanted before now befores nows result served) k []) g → Contains (slice_index_or (map (λ (lane : LaneSeen). lane.desk) nows) k []) (settled g)
in_settled see terms wanted before now befores nows result (inl none) k g h = contains_none g h
in_settled see terms wanted before now befores nows result (inr ran) k g h = lanes_settled see terms befores ran.visits nows ran.served k g h
