-- Connections that were served so far.
use Rattle.std.proofs.Common.{◌≡◌, ◌<◌, ◌≤◌, ◌+◌, ℕ, Bool, true, false, List, [], ◌∷◌, ◌++◌, length, Option, Some, None, Ok, Err, refl, sym, ◌∙◌, ap, subst, inl, inr, arith, length-append}
use Rattle.std.proofs.lemmas.Grind.{flat_map-append}
use Rattle.std.proofs.lemmas.List.Elements.{All-append, All-cons, All-nil}
use Rattle.edge_kit.specs.Doors.{Accepts}
use Rattle.edge_kit.specs.Links.{Stays}
use Rattle.edge_kit.specs.Tellings.{Tells}
use Rattle.desk_machine.specs.declared.call.DeskCall.{DeskCall}
use Rattle.desk_machine.specs.declared.call.DeskReply.{DeskReply}
use Rattle.call_plans.specs.Paths.{Path}
use Rattle.call_plans.proofs.PathLemmas.{path_on}
use Rattle.client_calls.specs.Seats.{Seat}
use Rattle.client_calls.specs.Steps.{desk_calls}
use Rattle.client_calls.proofs.SeatLemmas.{Leads, More, NoneLed}
use Rattle.keymanager_api.specs.Serving.{LinkSeen}
use Rattle.keymanager_api.specs.Doors.{DoorSeen, Hall}
use Rattle.keymanager_api.specs.Handling.{Handles}
use Rattle.keymanager_api.specs.Visits.{AllUp, DoorFailed, GivesNone, ServesAll, Visit, Visits, asks_failed, calls_in}
use Rattle.keymanager_api.specs.declared.connections.ConnectionsEnd.TheVariants as end

-- ---- what is told, after what stays and before it

accepts_stays : {C : Type 0} (a b c : Option (List C)) (conn : Option C) → Accepts a b conn → Stays b c → Accepts a c conn
accepts_stays None b c conn p q = tt
accepts_stays (Some xs) None c conn p q = absurd p
accepts_stays (Some xs) (Some y) None conn p q = absurd q
accepts_stays (Some []) (Some y) (Some z) conn p q = (p.0, q ∙ p.1)
accepts_stays (Some (x ∷ xs)) (Some y) (Some z) conn p q = (p.0, q ∙ p.1)

stays_tells : {X : Type 0} (a b c : Option (List X)) (more : List X) → Stays a b → Tells b c more → Tells a c more
stays_tells None b c more p q = tt
stays_tells (Some x) None c more p q = absurd p
stays_tells (Some x) (Some y) None more p q = absurd q
stays_tells (Some x) (Some y) (Some z) more p q = q ∙ ap (λ l. l ++ more) p

-- the hall with its door as it is after an `accept`
abbrev pub with_door : {K C : Type 0} → Hall K C → DoorSeen C → Hall K C
with_door a door = record { seat = a.seat; door = door }

-- that many connections were served, and no disk has failed
pub record VisitedSoFar {K C : Type 0} (leads : Leads K) (see : C → LinkSeen) (start : Option ℕ) (token : List ℕ) (genesis_time served : ℕ) (a b : Hall K C) : Type 0 where
  pub visits : List (Visit C)
  pub path : Path (Visits leads see start token genesis_time) a visits b
  pub up : AllUp visits
  pub count : length visits ≡ served
  pub desk : leads a.seat.desk (calls_in visits) b.seat.desk

abbrev IsUp : {C : Type 0} → Visit C → Type 0
IsUp v = v.failed ≡ false

-- the door gave the connection
pub record Gave {C : Type 0} (before now : DoorSeen C) (conn : C) : Type 0 where
  pub accepts : Accepts before.coming now.coming (Some conn)
  pub finished : Stays before.finished now.finished
  pub later : before.faults ≤ now.faults

module _ {K C : Type 0} (leads : Leads K) (see : C → LinkSeen) (start : Option ℕ) (token : List ℕ) (genesis_time : ℕ) where
  abbrev visit : (conn : C) (a b : Hall K C) (failed : Bool) → Handles leads see start token genesis_time conn a b failed → Visit C
  visit conn a b failed h = record {
    accepted = conn;
    finished = h.finished;
    moment = h.moment;
    served = h.served;
    failed = failed;
    made = desk_calls h.serves.ran.steps ++ asks_failed failed;
  }

  visited : (a : Hall K C) (door : DoorSeen C) (conn : C) (b : Hall K C) (failed : Bool) → Gave a.door door conn → (h : Handles leads see start token genesis_time conn (with_door a door) b failed)
      → Visits leads see start token genesis_time a (visit conn (with_door a door) b failed h) b
  visited a door conn b failed g h = record {
    shown = h.shown;
    gives = accepts_stays a.door.coming door.coming b.door.coming (Some conn) g.accepts h.coming;
    takes_back = stays_tells a.door.finished door.finished b.door.finished (h.finished ∷ []) g.finished h.takes_back;
    later = (let l : a.door.faults ≤ door.faults = g.later in let e : b.door.faults ≡ door.faults = h.faults in omega arith);
    answered = h.answered;
    serves = h.serves;
    asked = h.asked;
    signer = h.signer;
    made_are = refl;
  }

  module _ (none : NoneLed leads) (more : More leads) where
    pub visits_begun : (a : Hall K C) → VisitedSoFar leads see start token genesis_time 0 a a
    visits_begun a = record { visits = []; path = refl; up = All-nil IsUp; count = refl; desk = none a.seat.desk }

    -- one more after those so far
    path_more : (a b c : Hall K C) (vs : List (Visit C)) (v : Visit C) → Path (Visits leads see start token genesis_time) a vs b → Visits leads see start token genesis_time b v c
        → Path (Visits leads see start token genesis_time) a (vs ++ v ∷ []) c
    path_more a b c vs v p h = path_on (Visits leads see start token genesis_time) a b c vs (v ∷ []) p (c, h, refl)

    desk_more : (a b c : Hall K C) (vs : List (Visit C)) (v : Visit C) → leads a.seat.desk (calls_in vs) b.seat.desk → leads b.seat.desk v.made c.seat.desk → leads a.seat.desk (calls_in (vs ++ v ∷ [])) c.seat.desk
    desk_more a b c vs v p q =
        subst (λ (l : List (DeskCall × DeskReply)). leads a.seat.desk l c.seat.desk) (sym (flat_map-append (λ (w : Visit C). w.made) vs (v ∷ [])))
        (more a.seat.desk b.seat.desk c.seat.desk (calls_in vs) (v.made ++ []) p (more b.seat.desk c.seat.desk c.seat.desk v.made [] q (none c.seat.desk)))

    made_of : (conn : C) (a b : Hall K C) (failed : Bool) (h : Handles leads see start token genesis_time conn a b failed) → leads a.seat.desk (visit conn a b failed h).made b.seat.desk
    made_of conn a b failed h = more a.seat.desk h.answered.desk b.seat.desk (desk_calls h.serves.ran.steps) (asks_failed failed) h.serves.ran.desk h.asked

    pub visits_go : (n : ℕ) (a b : Hall K C) (door : DoorSeen C) (conn : C) (c : Hall K C) → VisitedSoFar leads see start token genesis_time n a b
        → Handles leads see start token genesis_time conn (with_door b door) c false → Gave b.door door conn → VisitedSoFar leads see start token genesis_time (n + 1) a c
    visits_go n a b door conn c w h g =
        let v : Visit C = visit conn (with_door b door) c false h in
        record {
          visits = w.visits ++ v ∷ [];
          path = path_more a b c w.visits v w.path (visited b door conn c false g h);
          up = All-append IsUp w.visits (v ∷ []) w.up (All-cons IsUp v [] refl (All-nil IsUp));
          count = length-append w.visits (v ∷ []) ∙ ap (λ k. k + 1) w.count;
          desk = desk_more a b c w.visits v w.desk (made_of conn (with_door b door) c false h);
        }

    pub visits_fail : (n wanted : ℕ) (a b : Hall K C) (door : DoorSeen C) (conn : C) (c : Hall K C) → n < wanted → VisitedSoFar leads see start token genesis_time n a b
        → Handles leads see start token genesis_time conn (with_door b door) c true → Gave b.door door conn → ServesAll leads see start token genesis_time wanted a c (Err end.Disk)
    visits_fail n wanted a b door conn c less w h g =
        let v : Visit C = visit conn (with_door b door) c true h in
        let count : length (w.visits ++ v ∷ []) ≡ n + 1 = length-append w.visits (v ∷ []) ∙ ap (λ k. k + 1) w.count in
        record {
          visits = w.visits ++ v ∷ [];
          last = c;
          path = path_more a b c w.visits v w.path (visited b door conn c true g h);
          ends = (record { front = w.visits; last = v; are = refl; up = w.up; failed = refl }, omega arith, refl);
          desk = desk_more a b c w.visits v w.desk (made_of conn (with_door b door) c true h);
        }

  pub visits_over : (n wanted : ℕ) (a b : Hall K C) → wanted ≤ n → n ≤ wanted → VisitedSoFar leads see start token genesis_time n a b → ServesAll leads see start token genesis_time wanted a b (Ok tt)
  visits_over n wanted a b least most w =
      let count : length w.visits ≡ n = w.count in
      record { visits = w.visits; last = b; path = w.path; ends = (w.up, inl (omega arith, refl)); desk = w.desk }

  pub visits_none : (n wanted : ℕ) (a b c : Hall K C) → n < wanted → VisitedSoFar leads see start token genesis_time n a b → GivesNone b c → ServesAll leads see start token genesis_time wanted a c (Ok tt)
  visits_none n wanted a b c less w gives =
      let count : length w.visits ≡ n = w.count in
      record { visits = w.visits; last = b; path = w.path; ends = (w.up, inr (omega arith, gives)); desk = subst (λ (s : Seat K). leads a.seat.desk (calls_in w.visits) s.desk) (sym gives.seat) w.desk }

  pub visits_door : (n wanted : ℕ) (a b c : Hall K C) → n < wanted → VisitedSoFar leads see start token genesis_time n a b → DoorFailed b c → ServesAll leads see start token genesis_time wanted a c (Err end.Door)
  visits_door n wanted a b c less w failed =
      let count : length w.visits ≡ n = w.count in
      record { visits = w.visits; last = b; path = w.path; ends = (w.up, omega arith, failed); desk = subst (λ (s : Seat K). leads a.seat.desk (calls_in w.visits) s.desk) (sym failed.seat) w.desk }
