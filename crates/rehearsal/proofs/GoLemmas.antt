-- That what a desk does is a list of events.
use Rattle.std.proofs.Common.{◌≡◌, ℕ, List, [], ◌∷◌, ◌++◌, Option, Some, None, refl, sym, ◌∙◌, ap, subst}
use Rattle.std.specs.Prelude.{Contains, IfOk, OnOk, Result, Ok, Err, is_ok, if◌then◌else◌}
use Rattle.std.proofs.lemmas.List.Elements.{Contains-push}
use Rattle.edge_kit.specs.declared.bytes.PubKey.{PubKey}
use Rattle.edge_kit.specs.declared.bytes.Root.{Root}
use Rattle.slash_defs.specs.declared.message.Message.{Message}
use Rattle.slash_defs.specs.declared.book.Book.{Book}
use Rattle.slash_defs.specs.declared.book.File.{File}
use Rattle.desk_machine.specs.States.{State}
use Rattle.desk_machine.specs.Machine.{after}
use Rattle.desk_machine.specs.Grants.{IsGrantFor}
use Rattle.desk_machine.specs.declared.open_grant.OpenGrant.{OpenGrant}
use Rattle.desk_machine.specs.declared.call.DeskCall.{DeskCall}
use Rattle.desk_machine.specs.declared.call.DeskCall.TheVariants as call
use Rattle.desk_machine.specs.declared.call.DeskReply.{DeskReply}
use Rattle.desk_machine.specs.declared.call.DeskReply.TheVariants as reply
use Rattle.desk_machine.specs.declared.call.Outcome.TheVariants as outcome
use Rattle.check_sign.specs.Contents.{Contents}
use Rattle.check_sign.specs.Calls.{Counted, IsStep}
use Rattle.check_sign.specs.Standing.{DeskStands}
use Rattle.world_law.specs.Worlds.{Event, state_after}
use Rattle.world_law.specs.Worlds.Event.{Call, Send}
use Rattle.world_law.specs.Clients.{RunsFrom, state_over, messages_in}
use Rattle.world_law.specs.Plans.{file_of}
use Rattle.rehearsal.specs.Draws.{genesis}
use Rattle.rehearsal.specs.Plays.{Activates, IsAnswered, IsGiven, sends_of}
use Rattle.rehearsal.specs.Clients.{Asks, GivesUp, GoesBy, IsNoGrant, Proposes, TakesIn, book_of, told_of, voted_of}
use Rattle.rehearsal.specs.declared.told.Told.{Told}
use Rattle.rehearsal.specs.declared.told.Told.TheVariants as told
use Rattle.rehearsal.specs.declared.told.Voted.{Voted}
use Rattle.rehearsal.specs.declared.told.Voted.TheVariants as voted

-- ---- lists of events

pub runs_both : (s : State) (xs ys : List Event) → RunsFrom s xs → RunsFrom (state_over s xs) ys → RunsFrom s (xs ++ ys)
runs_both s [] ys h k = k
runs_both s (x ∷ xs) ys h k = (h.0, runs_both (state_after s x) xs ys h.1 k)

pub over_both : (s : State) (xs ys : List Event) → state_over s (xs ++ ys) ≡ state_over (state_over s xs) ys
over_both s [] ys = refl
over_both s (x ∷ xs) ys = over_both (state_after s x) xs ys

pub goes_none : (d : Contents) → GoesBy [] d d
goes_none d = record { goes = λ s h. (tt, h); genesis = refl }

-- a call, and what comes after it
pub goes_call : (client : ℕ) (c : DeskCall) (r : DeskReply) (old mid new : Contents) (rest : List Event) → IsStep old c r mid → mid.genesis ≡ old.genesis → GoesBy rest mid new → GoesBy (Call client c r ∷ rest) old new
goes_call client c r old mid new rest step same more = record { goes = goes; genesis = more.genesis ∙ same } where
  goes : (s : State) → DeskStands old s → RunsFrom s (Call client c r ∷ rest) × DeskStands new (state_over s (Call client c r ∷ rest))
  goes s h = let here = step s h in let there = more.goes (after s c r) here.1 in ((here.0, there.0), there.1)

-- a message that is sent under an open grant, and what comes after it
pub goes_send : (client : ℕ) (grant : OpenGrant) (m : Message) (old new : Contents) (rest : List Event) → Contains old.grants grant → grant.message ≡ Some m → GoesBy rest old new → GoesBy (Send client grant m ∷ rest) old new
goes_send client grant m old new rest is_open says more = record { goes = goes; genesis = more.genesis } where
  goes : (s : State) → DeskStands old s → RunsFrom s (Send client grant m ∷ rest) × DeskStands new (state_over s (Send client grant m ∷ rest))
  goes s h =
      let there = more.goes s h in
      let G : List OpenGrant → Type 0 = λ gs. Contains gs grant in
      (((subst G h.grants is_open, says), there.0), there.1)

-- ---- replies

-- a call that asks for no leave gets none
abbrev pub AsksNoLeave : DeskCall → Type 0
AsksNoLeave (call.Propose key m now) = ⊥
AsksNoLeave (call.Allow key now) = ⊥
AsksNoLeave c = Unit {0}

pub no_grant : (c : DeskCall) (r : DeskReply) → AsksNoLeave c → IsGrantFor c r → IsNoGrant r
no_grant (call.Propose key m now) r asks h = absurd asks
no_grant (call.Allow key now) r asks h = absurd asks
no_grant c (reply.Granted grant) asks h = h
no_grant c r asks h = tt

pub asks_is : (c : DeskCall) (r : DeskReply) (old new : Contents) → IsGiven r → IsStep old c r new → new.genesis ≡ old.genesis → Asks c old new
asks_is c r old new given step same = record { reply = r; given = given; goes = λ client. goes_call client c r old new new [] step same (goes_none new) }

-- ---- proposals

refused : (key : PubKey) (m : Message) (now : ℕ) (r : DeskReply) (client : ℕ) → IsNoGrant r → sends_of client m r ≡ []
refused key m now (reply.Granted grant) client h = absurd h
refused key m now r client h = refl

given_answered : (r : DeskReply) → IsGiven r → IsAnswered r
given_answered reply.OutOfMemory h = h
given_answered reply.Disk h = tt
given_answered r h = tt

given_voted : (r : DeskReply) → IsNoGrant r → IsGiven r → voted.Refused ≡ voted_of r
given_voted (reply.Granted grant) h k = absurd h
given_voted reply.Disk h k = absurd k
given_voted r h k = refl

-- nothing is sent
pub proposes_none : (key : PubKey) (m : Message) (now : ℕ) (r : DeskReply) (old new : Contents) (before : List (PubKey × Message)) (v : Voted) → IsNoGrant r → IsAnswered r → v ≡ voted_of r → IsStep old (call.Propose key m now) r new → new.genesis ≡ old.genesis
    → Proposes key m now old new before before v
proposes_none key m now r old new before v none answered is step same = record {
  reply = r;
  answered = answered;
  voted_is = is;
  goes = λ client.
      let P : List Event → Type 0 = λ l. GoesBy (Call client (call.Propose key m now) r ∷ l) old new in
      subst P (sym (refused key m now r client none)) (goes_call client (call.Propose key m now) r old new new [] step same (goes_none new));
  sent = λ client.
      let P : List Event → Type 0 = λ l. before ≡ before ++ messages_in l in
      subst P (sym (refused key m now r client none)) (sym (append_none before));
} where
  append_none : {X : Type 0} (xs : List X) → xs ++ [] ≡ xs
  append_none [] = refl
  append_none (x ∷ xs) = ap (λ l. x ∷ l) (append_none xs)

pub proposes_refused : (key : PubKey) (m : Message) (now : ℕ) (r : DeskReply) (old new : Contents) (before : List (PubKey × Message)) → IsNoGrant r → IsGiven r → IsStep old (call.Propose key m now) r new → new.genesis ≡ old.genesis
    → Proposes key m now old new before before voted.Refused
proposes_refused key m now r old new before none given step same = proposes_none key m now r old new before voted.Refused none (given_answered r given) (given_voted r none given) step same

-- a message is sent
pub proposes_sent : (key : PubKey) (m : Message) (now : ℕ) (grant : OpenGrant) (old mid new : Contents) (before after : List (PubKey × Message)) → IsStep old (call.Propose key m now) (reply.Granted grant) mid → mid.genesis ≡ old.genesis → grant.key ≡ key
    → ((client : ℕ) → GoesBy (Send client grant m ∷ Call client (call.Settle grant outcome.Sent) reply.Settled ∷ []) mid new) → after ≡ before ++ (key, m) ∷ []
    → Proposes key m now old new before after voted.Sent
proposes_sent key m now grant old mid new before after step same of_key more sent = record {
  reply = reply.Granted grant;
  answered = tt;
  voted_is = refl;
  goes = λ client. goes_call client (call.Propose key m now) (reply.Granted grant) old mid new (Send client grant m ∷ Call client (call.Settle grant outcome.Sent) reply.Settled ∷ []) step same (more client);
  sent = λ client. sent ∙ ap (λ (k : PubKey). before ++ (k, m) ∷ []) (sym of_key);
}

-- the grant of a proposal is open, for what was proposed
pub record IsOpenFor (old new : Contents) (key : PubKey) (m : Message) (now : ℕ) (grant : OpenGrant) : Type 0 where
  pub is_open : Contains new.grants grant
  pub of_key : grant.key ≡ key
  pub says : grant.message ≡ Some m
  pub step : IsStep old (call.Propose key m now) (reply.Granted grant) new
  pub same : new.genesis ≡ old.genesis

pub open_for : (old new : Contents) (key : PubKey) (m : Message) (now : ℕ) (r : DeskReply) (grant : OpenGrant) → r ≡ reply.Granted grant → IsStep old (call.Propose key m now) r new → Counted old (call.Propose key m now) r new → IsOpenFor old new key m now grant
open_for old new key m now r grant is step counted =
    let C : DeskReply → Type 0 = λ x. Counted old (call.Propose key m now) x new in
    let S : DeskReply → Type 0 = λ x. IsStep old (call.Propose key m now) x new in
    let G : List OpenGrant → Type 0 = λ gs. Contains gs grant in
    let here = subst C is counted in
    record { is_open = subst G (sym here.grants) (Contains-push old.grants grant); of_key = here.granted.0; says = here.granted.1; step = subst S is step; same = here.genesis }

-- ---- handing over

pub closed_is : (r : DeskReply) (book : Book) → told.Closed book ≡ told_of r → r ≡ reply.Closed book
closed_is (reply.Closed other) book e = cc
closed_is (reply.Merged keys) book e = cc
closed_is r book e = cc

-- ---- results

pub if_ok : {A E : Type 0} (P Q : A → Type 0) (r : Result A E) → ((x : A) → P x → Q x) → IfOk r P → IfOk r Q
if_ok P Q (Ok x) f h = f x h
if_ok P Q (Err e) f h = tt

pub on_ok : {A E : Type 0} (P Q : Type 0) (r : Result A E) → (P → Q) → OnOk r P → OnOk r Q
on_ok P Q (Ok x) f h = f h
on_ok P Q (Err e) f h = tt

pub gives_up : (key : PubKey) (old mid new : Contents) (begun closed : DeskReply) (given : Option Book) → IsGiven begun → IsGiven closed → IsStep old (call.BeginClose key) begun mid → mid.genesis ≡ old.genesis → IsStep mid (call.FinishClose key) closed new → new.genesis ≡ mid.genesis → given ≡ book_of closed
    → GivesUp key old new given
gives_up key old mid new begun closed given gb gc first same last stays is = record {
  begun = begun;
  closed = closed;
  begun_given = gb;
  closed_given = gc;
  given_is = is;
  goes = λ client. goes_call client (call.BeginClose key) begun old mid new (Call client (call.FinishClose key) closed ∷ []) first same (goes_call client (call.FinishClose key) closed mid new new [] last stays (goes_none new));
}

pub book_none : (r : DeskReply) (t : Told) → t ≡ told_of r → ((b : Book) → t ≡ told.Closed b → ⊥) → None ≡ book_of r
book_none (reply.Closed b) t e not = absurd (not b e)
book_none r t e not = refl

pub book_some : (r : DeskReply) (t : Told) (b : Book) → t ≡ told_of r → t ≡ told.Closed b → Some b ≡ book_of r
book_some r t b e is = sym (ap book_of (closed_is r b (sym is ∙ e)))

pub not_merged : (to : ℕ) (key : PubKey) (now : ℕ) (r : DeskReply) (t : Told) → t ≡ told_of r → (t ≡ told.Merged → ⊥) → Activates to key now r []
not_merged to key now (reply.Merged keys) t e not = absurd (not e)
not_merged to key now r t e not = refl

pub merged_is : (r : DeskReply) (t : Told) → t ≡ told_of r → t ≡ told.Merged → (keys : ℕ) × (r ≡ reply.Merged keys)
merged_is (reply.Merged keys) t e is = (keys, refl)
merged_is (reply.Closed book) t e is = absurd (let bad : told.Closed book ≡ told.Merged = sym e ∙ is in cc)
merged_is r t e is = absurd (let bad : told.Other ≡ told.Merged = sym e ∙ is in cc)

file_same : (key : PubKey) (book : Book) (g : Root) (bs : List (PubKey × Book)) → g ≡ genesis → bs ≡ (key, book) ∷ [] → ◌≡◌ {A = File} (record { genesis = g; books = bs }) (file_of genesis key book)
file_same key book g bs e f = λ i. record { genesis = e i; books = f i }

-- a book is merged, and the key made active or not
pub takes_none : (key : PubKey) (book : Book) (now : ℕ) (g : Root) (bs : List (PubKey × Book)) (old new : Contents) (r : DeskReply) (t : Told) → g ≡ genesis → bs ≡ (key, book) ∷ [] → IsGiven r → t ≡ told_of r → (t ≡ told.Merged → ⊥)
    → IsStep old (call.Merge (record { genesis = g; books = bs })) r new → new.genesis ≡ old.genesis → TakesIn key book now old new
takes_none key book now g bs old new r t e f given told not step same =
    let S : File → Type 0 = λ x. IsStep old (call.Merge x) r new in
    record {
      merged = r;
      merged_given = given;
      rest = λ client. [];
      activates = λ client. not_merged client key now r t told not;
      goes = λ client. goes_call client (call.Merge (file_of genesis key book)) r old new new [] (subst S (file_same key book g bs e f) step) same (goes_none new);
    }

pub takes_in : (key : PubKey) (book : Book) (now : ℕ) (g : Root) (bs : List (PubKey × Book)) (old mid new : Contents) (r : DeskReply) (t : Told) → g ≡ genesis → bs ≡ (key, book) ∷ [] → IsGiven r → t ≡ told_of r → t ≡ told.Merged
    → IsStep old (call.Merge (record { genesis = g; books = bs })) r mid → mid.genesis ≡ old.genesis → Asks (call.Activate key now) mid new → TakesIn key book now old new
takes_in key book now g bs old mid new r t e f given told is step same asks =
    let S : File → Type 0 = λ x. IsStep old (call.Merge x) r mid in
    let m = merged_is r t told is in
    record {
      merged = r;
      merged_given = given;
      rest = λ client. Call client (call.Activate key now) asks.reply ∷ [];
      activates = λ client. let A : DeskReply → Type 0 = λ x. Activates client key now x (Call client (call.Activate key now) asks.reply ∷ []) in subst A (sym m.1) (asks.reply, asks.given, refl);
      goes = λ client. goes_call client (call.Merge (file_of genesis key book)) r old mid new (Call client (call.Activate key now) asks.reply ∷ []) (subst S (file_same key book g bs e f) step) same (asks.goes client);
    }

pub pushed : {X E : Type 0} (r : Result (Unit {0}) E) (x : Unit {0}) (xs ys : List X) (y : X) → r ≡ Ok x → ys ≡ (if is_ok r then xs ++ y ∷ [] else xs) → xs ≡ [] → ys ≡ y ∷ []
pushed {X} {E} r x xs ys y ok is none =
    let P : Result (Unit {0}) E → Type 0 = λ q. ys ≡ (if is_ok q then xs ++ y ∷ [] else xs) in
    subst P ok is ∙ ap (λ (l : List X). l ++ y ∷ []) none
