-- That what a client does is what happens among all of them.
use Rattle.std.proofs.Common.{◌≡◌, ℕ, zero, suc, ◌+◌, ◌^◌, ◌<◌, ◌≤◌, Bool, true, false, cond, List, [], ◌∷◌, ◌++◌, length, get_or, Option, Some, None, refl, sym, ◌∙◌, ap, subst, arith}
use Rattle.std.specs.Prelude.{count_by}
use Rattle.std.proofs.Math.ListN.{set}
use Rattle.std.proofs.lemmas.List.{length-set}
use Rattle.std.proofs.lemmas.List.Sums.{sum_by-cons}
use Rattle.edge_kit.specs.declared.bytes.PubKey.{PubKey}
use Rattle.slash_defs.specs.declared.message.Message.{Message}
use Rattle.slash_defs.specs.declared.book.Book.{Book}
use Rattle.desk_machine.specs.declared.call.DeskCall.{DeskCall}
use Rattle.desk_machine.specs.declared.call.DeskCall.TheVariants as call
use Rattle.desk_machine.specs.declared.call.DeskReply.{DeskReply}
use Rattle.desk_machine.specs.declared.call.DeskReply.TheVariants as reply
use Rattle.world_law.specs.Worlds.{World, Event, run}
use Rattle.world_law.specs.Worlds.Event.{Call, Crash}
use Rattle.world_law.specs.Clients.{messages_in}
use Rattle.world_law.specs.Plans.{file_of}
use Rattle.edge_kit.specs.declared.mem_disk.Crash.{Crash as CrashKind}
use Rattle.rehearsal.specs.Draws.{genesis}
use Rattle.rehearsal.specs.Plays.{Activates, IsAnswered, IsGiven, IsPlayable, Plays, TakesOver, counted, is_refusal, is_refused, proposal_events}
use Rattle.rehearsal.specs.Clients.{Asks, GivesUp, GoesBy, Proposes, Restarts, TakesIn, book_of, is_refusal_told, voted_of}
use Rattle.rehearsal.specs.Stages.{Calls, Happens, PlaysAt, Restarted, Stands, Votes}
use Rattle.rehearsal.specs.declared.acts.Act.{Act}
use Rattle.rehearsal.specs.declared.acts.Act.TheVariants as act
use Rattle.rehearsal.specs.declared.cast.Cast.{Cast}
use Rattle.rehearsal.specs.declared.client.Client.{Client}
use Rattle.rehearsal.specs.declared.told.Voted.{Voted}
use Rattle.rehearsal.specs.declared.told.Voted.TheVariants as voted
use Rattle.rehearsal.proofs.WorldLemmas.{AllAt, goes_at, happens_both, restarts_at, sends_at}

append_none : {X : Type 0} (xs : List X) → xs ++ [] ≡ xs
append_none [] = refl
append_none (x ∷ xs) = ap (λ l. x ∷ l) (append_none xs)

-- one client is another now
pub record Replaces (old new : Cast) (client : ℕ) (was mine : Client) : Type 0 where
  pub within : client < length old.clients.items
  pub items : new.clients.items ≡ set old.clients.items client mine
  pub was_there : was ≡ get_or old.clients.items client was

same_count : (old new : Cast) (client : ℕ) (was mine : Client) → Replaces old new client was mine → length new.clients.items ≡ length old.clients.items
same_count old new client was mine r = ap (λ (l : List Client). length l) r.items ∙ length-set old.clients.items client mine

goes_happens : (old new : Cast) (client : ℕ) (was mine : Client) (es : List Event) (w : World) → Replaces old new client was mine → AllAt client es → GoesBy es was.desk.contents mine.desk.contents → new.sent.items ≡ old.sent.items ++ messages_in es → new.refused ≡ old.refused + count_by is_refusal es
    → Stands old.clients.items w → Happens old new w es
goes_happens old new client was mine es w r at by sent refused stands =
    let here = goes_at old.clients.items w client was mine es r.within stands r.was_there at by in
    let S : List Client → Type 0 = λ l. Stands l (run w es) in
    record { runs = here.0; stands = subst S (sym r.items) here.1; sent = sent; refused = refused }

-- a call that proposes nothing
abbrev pub IsNoProposal : DeskCall → Type 0
IsNoProposal c = (client : ℕ) (r : DeskReply) → count_by is_refusal (Call client c r ∷ []) ≡ 0

pub calls_at : (old new : Cast) (client : ℕ) (was mine : Client) (c : DeskCall) → IsNoProposal c → Replaces old new client was mine → new.sent.items ≡ old.sent.items → new.refused ≡ old.refused → Asks c was.desk.contents mine.desk.contents → Calls old new client c
calls_at old new client was mine c none r sent refused asks =
    let more : length new.sent.items ≡ length old.sent.items = ap (λ (l : List (PubKey × Message)). length l) sent in
    let silent = none client asks.reply in
    record {
      grows = record { clients = same_count old new client was mine r; sent = omega (arith, more); refused = omega (arith, refused) };
      reply = asks.reply;
      given = asks.given;
      happens = λ w stands. goes_happens old new client was mine (Call client c asks.reply ∷ []) w r (refl, tt) (asks.goes client) (sent ∙ sym (append_none old.sent.items)) (omega (arith, refused, silent)) stands;
    }

-- ---- proposals

refused_told : (r : DeskReply) → is_refused r ≡ is_refusal_told (voted_of r)
refused_told (reply.Granted grant) = refl
refused_told reply.Disk = refl
refused_told r = refl

one_refusal : (client : ℕ) (key : PubKey) (m : Message) (now : ℕ) (r : DeskReply) → count_by is_refusal (proposal_events client key m now r) ≡ counted (is_refused r)
one_refusal client key m now (reply.Granted grant) = refl
one_refusal client key m now reply.Disk = refl
one_refusal client key m now r = refl

few_messages : (client : ℕ) (key : PubKey) (m : Message) (now : ℕ) (r : DeskReply) → length (messages_in (proposal_events client key m now r)) ≤ 1
few_messages client key m now (reply.Granted grant) = omega arith
few_messages client key m now r = omega arith

counted_few : (b : Bool) → counted b ≤ 1
counted_few true = omega arith
counted_few false = omega arith

pub votes_at : (old new : Cast) (client : ℕ) (was mine : Client) (key : PubKey) (m : Message) (now : ℕ) (v : Voted) → Replaces old new client was mine → Proposes key m now was.desk.contents mine.desk.contents old.sent.items new.sent.items v → new.refused ≡ old.refused + counted (is_refusal_told v)
    → Votes old new client key m now v
votes_at old new client was mine key m now v r proposes refused =
    let reply = proposes.reply in
    let told : counted (is_refusal_told v) ≡ count_by is_refusal (proposal_events client key m now reply) =
    ap (λ x. counted (is_refusal_told x)) proposes.voted_is ∙ (sym (ap counted (refused_told reply)) ∙ sym (one_refusal client key m now reply)) in
    let sent = proposes.sent client in
    let more : length new.sent.items ≡ length (old.sent.items ++ messages_in (proposal_events client key m now reply)) = ap (λ (l : List (PubKey × Message)). length l) sent in
    let both = length_both old.sent.items (messages_in (proposal_events client key m now reply)) in
    let few = few_messages client key m now reply in
    let one = counted_few (is_refusal_told v) in
    record {
      grows = record { clients = same_count old new client was mine r; sent = omega (arith, more, both, few); refused = omega (arith, refused, one) };
      reply = reply;
      answered = proposes.answered;
      voted_is = proposes.voted_is;
      happens = λ w stands. goes_happens old new client was mine (proposal_events client key m now reply) w r (refl, sends_at client m reply) (proposes.goes client) sent (omega (arith, refused, told)) stands;
    } where
      length_both : {X : Type 0} (xs ys : List X) → length (xs ++ ys) ≡ length xs + length ys
      length_both [] ys = omega arith
      length_both (x ∷ xs) ys = let rest = length_both xs ys in omega (arith, rest)

pub voted_given : (r : DeskReply) (v : Voted) → IsAnswered r → v ≡ voted_of r → (v ≡ voted.Torn → ⊥) → IsGiven r
voted_given reply.OutOfMemory v h e not = h
voted_given reply.Disk v h e not = not e
voted_given r v h e not = tt

pub proposes_at : (old new : Cast) (client : ℕ) (key : PubKey) (m : Message) (now : ℕ) (v : Voted) → client < length old.clients.items → (v ≡ voted.Torn → ⊥) → Votes old new client key m now v → PlaysAt old new client key now (act.Propose m) client
proposes_at old new client key m now v within not votes =
    let count = votes.grows.clients in
    record {
      grows = votes.grows;
      within = omega (arith, count, within);
      happens = λ w stands. (proposal_events client key m now votes.reply, (refl, votes.reply, voted_given votes.reply v votes.answered votes.voted_is not, refl), votes.happens w stands);
    }

-- ---- stops

pub restarted_at : (old new : Cast) (client : ℕ) (was mine : Client) (now : ℕ) → Replaces old new client was mine → new.sent.items ≡ old.sent.items → new.refused ≡ old.refused → (was.desk.contents.genesis ≡ genesis → Restarts now was.desk.contents mine.desk.contents)
    → Restarted old new client now
restarted_at old new client was mine now r sent refused restarts = record {
  clients = same_count old new client was mine r;
  sent = sent;
  refused = refused;
  happens = λ w stands.
      let here = restarts_at old.clients.items w client was mine now r.within stands r.was_there restarts in
      let S : List Client → Type 0 = λ l. Stands l (run w (Crash client None here.0 now false ∷ [])) in
      (here.0, record { runs = here.1; stands = subst S (sym r.items) here.2; sent = sent ∙ sym (append_none old.sent.items); refused = omega (arith, refused) });
}

pub stops_at : (old new : Cast) (client now : ℕ) (key : PubKey) → client < length old.clients.items → Restarted old new client now → PlaysAt old new client key now act.Stop client
stops_at old new client now key within r =
    let count = r.clients in
    let more : length new.sent.items ≡ length old.sent.items = ap (λ (l : List (PubKey × Message)). length l) r.sent in
    let refused = r.refused in
    record {
      grows = record { clients = count; sent = omega (arith, more); refused = omega (arith, refused) };
      within = omega (arith, count, within);
      happens = λ w stands. let here = r.happens w stands in (Crash client None here.0 now false ∷ [], (refl, here.0, refl), here.1);
    }

pub stops_within : (a b c d : Cast) (client : ℕ) (key : PubKey) (m : Message) (now : ℕ) (v : Voted) (disk_call : ℕ) (crash : CrashKind) → client < length a.clients.items → Restarted a b client now → Votes b c client key m now v → Restarted c d client now
    → PlaysAt a d client key now (act.StopWithin m disk_call crash) client
stops_within a b c d client key m now v disk_call crash within first votes last =
    let count1 = first.clients in
    let count2 = votes.grows.clients in
    let count3 = last.clients in
    let sent1 : length b.sent.items ≡ length a.sent.items = ap (λ (l : List (PubKey × Message)). length l) first.sent in
    let sent2 = votes.grows.sent in
    let sent3 : length d.sent.items ≡ length c.sent.items = ap (λ (l : List (PubKey × Message)). length l) last.sent in
    let refused1 = first.refused in
    let refused2 = votes.grows.refused in
    let refused3 = last.refused in
    record {
      grows = record { clients = count3 ∙ (count2 ∙ count1); sent = omega (arith, sent1, sent2, sent3); refused = omega (arith, refused1, refused2, refused3) };
      within = omega (arith, count1, count2, count3, within);
      happens = happens;
    } where
      happens : (w : World) → Stands a.clients.items w → (es : List Event) × Plays client key now (act.StopWithin m disk_call crash) es client × Happens a d w es
      happens w stands =
          let one = first.happens w stands in
          let e : Event = Crash client None one.0 now false in
          let two = votes.happens (run w (e ∷ [])) one.1.stands in
          let xs = proposal_events client key m now votes.reply in
          let three = last.happens (run (run w (e ∷ [])) xs) two.stands in
          let f : Event = Crash client None three.0 now false in
          let behind = happens_both b c d (run w (e ∷ [])) xs (f ∷ []) two three.1 in
          (e ∷ (xs ++ f ∷ []), (refl, votes.reply, votes.answered, one.0, three.0, refl), happens_both a b d w (e ∷ []) (xs ++ f ∷ []) one.1 behind)

-- ---- a prune

pub prunes_at : (old new : Cast) (client now : ℕ) (key : PubKey) → client < length old.clients.items → Calls old new client (call.Prune key) → PlaysAt old new client key now act.Prune client
prunes_at old new client now key within calls =
    let count = calls.grows.clients in
    record {
      grows = calls.grows;
      within = omega (arith, count, within);
      happens = λ w stands. (Call client (call.Prune key) calls.reply ∷ [], (refl, calls.reply, calls.given, refl), calls.happens w stands);
    }

-- ---- a handover

over_none : (from to : ℕ) (key : PubKey) (now : ℕ) (closed : DeskReply) → None ≡ book_of closed → TakesOver from to key now closed [] from
over_none from to key now (reply.Closed book) e = absurd (let bad : None ≡ Some book = e in cc)
over_none from to key now closed e = (refl, refl)

over_some : (from to : ℕ) (key : PubKey) (now : ℕ) (closed : DeskReply) (book : Book) (r : DeskReply) (rest : List Event) → Some book ≡ book_of closed → IsGiven r → Activates to key now r rest → TakesOver from to key now closed (Call to (call.Merge (file_of genesis key book)) r ∷ rest) to
over_some from to key now (reply.Closed other) book r rest e given activates =
    let same : other ≡ book = some_inj other book (sym e) in
    let P : Book → Type 0 = λ b. Call to (call.Merge (file_of genesis key book)) r ∷ rest ≡ Call to (call.Merge (file_of genesis key b)) r ∷ rest in
    (refl, r, given, rest, subst P (sym same) refl, activates) where
      some_inj : (a b : Book) → Some a ≡ Some b → a ≡ b
      some_inj a b e = cc
over_some from to key now closed book r rest e given activates = absurd (let bad : Some book ≡ None = e in cc)

activates_at : (to : ℕ) (key : PubKey) (now : ℕ) (r : DeskReply) (rest : List Event) → Activates to key now r rest → AllAt to rest × (messages_in rest ≡ []) × (count_by is_refusal rest ≡ 0)
activates_at to key now (reply.Merged keys) rest (r, given, is) = let P : List Event → Type 0 = λ l. AllAt to l × (messages_in l ≡ []) × (count_by is_refusal l ≡ 0) in subst P (sym is) ((refl, tt), refl, refl)
activates_at to key now r rest is = let P : List Event → Type 0 = λ l. AllAt to l × (messages_in l ≡ []) × (count_by is_refusal l ≡ 0) in subst P (sym is) (tt, refl, refl)

no_refusal : (e : Event) (rest : List Event) → is_refusal e ≡ false → count_by is_refusal rest ≡ 0 → count_by is_refusal (e ∷ rest) ≡ 0
no_refusal e rest is silent =
    let one = sum_by-cons (λ x. cond (is_refusal x) 1 0) e rest in
    let f : Bool → ℕ = λ b. cond b 1 0 in
    let none : f (is_refusal e) ≡ f false = ap f is in
    omega (arith, one, none, silent)

pub hands_none : (old new : Cast) (client to now : ℕ) (key : PubKey) (was mine : Client) (given : Option Book) → Replaces old new client was mine → new.sent.items ≡ old.sent.items → new.refused ≡ old.refused → given ≡ None → GivesUp key was.desk.contents mine.desk.contents given
    → PlaysAt old new client key now (act.HandOver to) client
hands_none old new client to now key was mine given r sent refused is gives =
    let count = same_count old new client was mine r in
    let inside = r.within in
    let more : length new.sent.items ≡ length old.sent.items = ap (λ (l : List (PubKey × Message)). length l) sent in
    let es : List Event = Call client (call.BeginClose key) gives.begun ∷ Call client (call.FinishClose key) gives.closed ∷ [] in
    record {
      grows = record { clients = count; sent = omega (arith, more); refused = omega (arith, refused) };
      within = omega (arith, count, inside);
      happens = λ w stands. (
        es,
        (gives.begun, gives.closed, gives.begun_given, gives.closed_given, [], refl, over_none client to key now gives.closed (sym is ∙ gives.given_is)),
        goes_happens old new client was mine es w r (refl, (refl, tt)) (gives.goes client) (sent ∙ sym (append_none old.sent.items)) (omega (arith, refused)) stands,
      );
    }

pub hands_over : (old mid new : Cast) (client to now : ℕ) (key : PubKey) (was mine other theirs : Client) (book : Book) (given : Option Book) → Replaces old mid client was mine → to < length old.clients.items → new.clients.items ≡ set mid.clients.items to theirs → other ≡ get_or mid.clients.items to other
    → mid.sent.items ≡ old.sent.items → new.sent.items ≡ mid.sent.items → mid.refused ≡ old.refused → new.refused ≡ mid.refused
    → given ≡ Some book → GivesUp key was.desk.contents mine.desk.contents given → TakesIn key book now other.desk.contents theirs.desk.contents → PlaysAt old new client key now (act.HandOver to) to
hands_over old mid new client to now key was mine other theirs book given r below items there sent1 sent2 refused1 refused2 is gives takes =
    let count1 = same_count old mid client was mine r in
    let s : Replaces mid new to other theirs = record { within = omega (arith, below, count1); items = items; was_there = there } in
    let count2 = same_count mid new to other theirs s in
    let more1 : length mid.sent.items ≡ length old.sent.items = ap (λ (l : List (PubKey × Message)). length l) sent1 in
    let more2 : length new.sent.items ≡ length mid.sent.items = ap (λ (l : List (PubKey × Message)). length l) sent2 in
    record {
      grows = record { clients = count2 ∙ count1; sent = omega (arith, more1, more2); refused = omega (arith, refused1, refused2) };
      within = omega (arith, count1, count2, below);
      happens = λ w stands. happens w stands s;
    } where
      happens : (w : World) → Stands old.clients.items w → Replaces mid new to other theirs → (es : List Event) × Plays client key now (act.HandOver to) es to × Happens old new w es
      happens w stands s =
          let xs : List Event = Call client (call.BeginClose key) gives.begun ∷ Call client (call.FinishClose key) gives.closed ∷ [] in
          let rest = takes.rest to in
          let ys : List Event = Call to (call.Merge (file_of genesis key book)) takes.merged ∷ rest in
          let at = activates_at to key now takes.merged rest (takes.activates to) in
          let silent = at.2 in
          let one = goes_happens old mid client was mine xs w r (refl, (refl, tt)) (gives.goes client) (sent1 ∙ sym (append_none old.sent.items)) (omega (arith, refused1)) stands in
          let none : messages_in ys ≡ [] = at.1 in
          let unrefused : count_by is_refusal ys ≡ 0 = no_refusal (Call to (call.Merge (file_of genesis key book)) takes.merged) rest refl silent in
          let two = goes_happens mid new to other theirs ys (run w xs) s (refl, at.0) (takes.goes to) (sent2 ∙ (sym (append_none mid.sent.items) ∙ ap (λ (l : List (PubKey × Message)). mid.sent.items ++ l) (sym none))) (omega (arith, refused2, unrefused)) one.stands in
          (xs ++ ys, (gives.begun, gives.closed, gives.begun_given, gives.closed_given, ys, refl, over_some client to key now gives.closed book takes.merged rest (sym is ∙ gives.given_is) takes.merged_given (takes.activates to)), happens_both old mid new w xs ys one two)

-- ---- other words for the same

pub plays_same : (old new : Cast) (client : ℕ) (key : PubKey) (now : ℕ) (a b : Act) (holder : ℕ) → b ≡ a → PlaysAt old new client key now a holder → PlaysAt old new client key now b holder
plays_same old new client key now a b holder e plays = let P : Act → Type 0 = λ x. PlaysAt old new client key now x holder in subst P (sym e) plays

pub plays_from : (old other new : Cast) (client there : ℕ) (key same : PubKey) (now : ℕ) (a : Act) (holder : ℕ) → old ≡ other → client ≡ there → key ≡ same → PlaysAt old new client key now a holder → PlaysAt other new there same now a holder
plays_from old other new client there key same now a holder e f g plays =
    let A : Cast → Type 0 = λ x. PlaysAt x new client key now a holder in
    let B : ℕ → Type 0 = λ x. PlaysAt other new x key now a holder in
    let C : PubKey → Type 0 = λ x. PlaysAt other new there x now a holder in
    subst C g (subst B f (subst A e plays))

pub sent_not_torn : (v : Voted) → v ≡ voted.Sent → v ≡ voted.Torn → ⊥
sent_not_torn v e f = let bad : voted.Sent ≡ voted.Torn = sym e ∙ f in cc

pub refused_not_torn : (v : Voted) → v ≡ voted.Refused → v ≡ voted.Torn → ⊥
refused_not_torn v e f = let bad : voted.Refused ≡ voted.Torn = sym e ∙ f in cc

pub playable_to : (n m : ℕ) (a : Act) (to : ℕ) → IsPlayable n a → n ≡ m → a ≡ act.HandOver to → to < m
playable_to n m a to playable same is =
    let P : Act → Type 0 = λ x. IsPlayable n x in
    let less : to < n = subst P is playable in
    omega (arith, less, same)

pub playable_stop : (n : ℕ) (a : Act) (m : Message) (disk_call : ℕ) (crash : CrashKind) → IsPlayable n a → a ≡ act.StopWithin m disk_call crash → disk_call < 2 ^ 32
playable_stop n a m disk_call crash playable is =
    let P : Act → Type 0 = λ x. IsPlayable n x in
    let few : disk_call ≤ 4 = subst P is playable in
    omega (arith, few)

pub any_default : {X : Type 0} (xs : List X) (i : ℕ) (d e : X) → i < length xs → get_or xs i d ≡ get_or xs i e
any_default [] i d e h = absurd (omega (arith, h))
any_default (x ∷ xs) zero d e h = refl
any_default (x ∷ xs) (suc i) d e h = any_default xs i d e (omega (arith, h))
