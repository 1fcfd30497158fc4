-- That each step of the stage goes on with the account of the rehearsal.
use Rattle.std.proofs.Common.{◌≡◌, ◌⊎◌, inl, inr, ℕ, ◌+◌, ◌/◌, ◌%◌, ◌<◌, ◌≤◌, Bool, true, false, cond, List, [], ◌∷◌, ◌++◌, length, get_or, refl, sym, ◌∙◌, ap, subst, append_assoc, arith}
use Rattle.std.specs.Prelude.{count_by}
use Rattle.std.specs.List.{AllByRecursion}
use Rattle.std.proofs.Math.ListN.{set}
use Rattle.std.proofs.lemmas.Bool.{cases_lt}
use Rattle.std.proofs.lemmas.List.{length-set, length_push, get_or-set_same, get_or-set_other, get_or_append_left, get_or_push}
use Rattle.std.proofs.lemmas.List.Sums.{sum_by-cons}
use Rattle.edge_kit.specs.declared.bytes.PubKey.{PubKey}
use Rattle.slash_defs.specs.declared.message.Message.{Message}
use Rattle.slash_defs.specs.Lists.{SafeList, unsafe_pairs}
use Rattle.desk_machine.specs.States.{no_state}
use Rattle.desk_machine.specs.declared.call.DeskCall.TheVariants as call
use Rattle.desk_machine.specs.declared.call.DeskReply.{DeskReply}
use Rattle.check_sign.specs.Standing.{DeskStands}
use Rattle.world_law.specs.Worlds.{World, Event, at_client, run, IsRun}
use Rattle.world_law.specs.Worlds.Event.{Call}
use Rattle.world_law.specs.Clients.{messages_in}
use Rattle.world_law.specs.Lawful.{IsLawful}
use Rattle.world_law.proofs.KeyStanding.{same_client}
use Rattle.world_law.proofs.WorldLemmas.{Invariant, at_here, at_there}
use Rattle.world_law.proofs.EventLemmas.{all_steps, begins_so, safe_overall}
use Rattle.world_law.proofs.ApartLemmas.{sends_all}
use Rattle.rehearsal.specs.Draws.{act_drawn, after_step, genesis, key_count, key_of, place_drawn}
use Rattle.rehearsal.specs.Plays.{IsGiven, Plays, counted, is_handover, is_refusal, is_stop}
use Rattle.rehearsal.specs.Clients.{OpensBy}
use Rattle.rehearsal.specs.Stages.{Calls, PlaysAt, Stands}
use Rattle.rehearsal.specs.Rehearsals.{IsRehearsal, NoneTorn, Stood, empty, first_events, first_scene, in_order, next_scene}
use Rattle.rehearsal.specs.declared.acts.Act.{Act}
use Rattle.rehearsal.specs.declared.cast.Cast.{Cast}
use Rattle.rehearsal.specs.declared.client.Client.{Client}
use Rattle.rehearsal.specs.declared.counts.Counts.{Counts}
use Rattle.rehearsal.specs.declared.stage.Stage.{Stage}
use Rattle.rehearsal.proofs.OpenLemmas.{nothing_stands}
use Rattle.rehearsal.proofs.WorldLemmas.{is_run_both, messages_both, refusals_both, run_both}
use Rattle.rehearsal.proofs.LawLemmas.{FreshFrom, first_lawful, fresh_on, lawful_both, plays_lawful}

abbrev Messages : Type 0
Messages = List (PubKey × Message)

-- what is safe of all clients so far
so_far : (es : List Event) → IsRun empty es → IsLawful [] empty es → Invariant [] (run empty es)
so_far es runs lawful = all_steps [] empty es (begins_so [] (λ client. genesis)) runs lawful

count_cons : {X : Type 0} (p : X → Bool) (x : X) (xs : List X) → count_by p (x ∷ xs) ≡ counted (p x) + count_by p xs
count_cons p x xs = sum_by-cons (λ y. cond (p y) 1 0) x xs ∙ ap (λ n. n + count_by p xs) (one (p x)) where
  one : (b : Bool) → cond b 1 0 ≡ counted b
  one true = refl
  one false = refl

counted_few : (b : Bool) → counted b ≤ 1
counted_few true = omega arith
counted_few false = omega arith

-- ---- the first activations

-- so many keys are dealt
pub record Dealt (clients n : ℕ) (cast : Cast) : Type 0 where
  pub replies : List DeskReply
  pub each_key : length replies ≡ n
  pub given : AllByRecursion IsGiven replies
  pub runs : IsRun empty (first_events clients replies)
  pub lawful : IsLawful [] empty (first_events clients replies)
  pub calm : NoneTorn (run empty (first_events clients replies))
  pub stands : Stands cast.clients.items (run empty (first_events clients replies))
  pub fresh : FreshFrom n (run empty (first_events clients replies))
  pub sent : cast.sent.items ≡ []
  pub refused : cast.refused ≡ 0
  pub clients_are : length cast.clients.items ≡ clients

pub none_dealt : (clients : ℕ) (cast : Cast) → Stands cast.clients.items empty → length cast.clients.items ≡ clients → cast.sent.items ≡ [] → cast.refused ≡ 0 → Dealt clients 0 cast
none_dealt clients cast stands count sent refused = record {
  replies = [];
  each_key = refl;
  given = tt;
  runs = tt;
  lawful = tt;
  calm = λ d. refl;
  stands = stands;
  fresh = λ j above. refl;
  sent = sent;
  refused = refused;
  clients_are = count;
}

pub deal_more : (clients n : ℕ) (old new : Cast) → Dealt clients n old → Calls old new (n % clients) (call.Activate (key_of n) 0) → Dealt clients (n + 1) new
deal_more clients n old new dealt calls =
    let rs = dealt.replies in
    let es = first_events clients rs in
    let w = run empty es in
    let r = calls.reply in
    let e : Event = Call (n % clients) (call.Activate (key_of n) 0) r in
    let here = calls.happens w dealt.stands in
    let law = first_lawful w (n % clients) (key_of n) r calls.given (so_far es dealt.runs dealt.lawful) dealt.calm (dealt.fresh n (omega arith)) in
    let E : ℕ → Event = λ k. Call (k % clients) (call.Activate (key_of k) 0) r in
    let all : es ++ e ∷ [] ≡ first_events clients (r ∷ rs) = ap (λ k. es ++ E k ∷ []) (sym dealt.each_key) in
    let behind : run w (e ∷ []) ≡ run empty (first_events clients (r ∷ rs)) = sym (run_both empty es (e ∷ [])) ∙ ap (λ (l : List Event). run empty l) all in
    let R : List Event → Type 0 = λ l. IsRun empty l in
    let L : List Event → Type 0 = λ l. IsLawful [] empty l in
    let S : World → Type 0 = λ v. Stands new.clients.items v in
    let F : World → Type 0 = λ v. FreshFrom (n + 1) v in
    let count = dealt.each_key in
    record {
      replies = r ∷ rs;
      each_key = omega (arith, count);
      given = (calls.given, dealt.given);
      runs = subst R all (is_run_both empty es (e ∷ []) dealt.runs here.runs);
      lawful = subst L all (lawful_both [] empty es (e ∷ []) dealt.lawful law.lawful);
      calm = subst NoneTorn behind law.calm;
      stands = subst S behind here.stands;
      fresh = subst F behind (fresh_on w (n % clients) n r dealt.fresh);
      sent = here.sent ∙ ap (λ (l : Messages). l ++ []) dealt.sent;
      refused = here.refused ∙ ap (λ k. k + 0) dealt.refused;
      clients_are = calls.grows.clients ∙ dealt.clients_are;
    }

-- nothing is sent or refused in them
first_sends : (clients : ℕ) (rs : List DeskReply) → messages_in (first_events clients rs) ≡ []
first_sends clients [] = refl
first_sends clients (r ∷ rs) = messages_both (first_events clients rs) (Call (length rs % clients) (call.Activate (key_of (length rs)) 0) r ∷ []) ∙ ap (λ (l : Messages). l ++ []) (first_sends clients rs)

first_refuses : (clients : ℕ) (rs : List DeskReply) → count_by is_refusal (first_events clients rs) ≡ 0
first_refuses clients [] = refl
first_refuses clients (r ∷ rs) = refusals_both (first_events clients rs) (Call (length rs % clients) (call.Activate (key_of (length rs)) 0) r ∷ []) ∙ ap (λ k. k + 0) (first_refuses clients rs)

append_none : {X : Type 0} (xs : List X) → xs ++ [] ≡ xs
append_none [] = refl
append_none (x ∷ xs) = ap (λ l. x ∷ l) (append_none xs)

-- the stage before the first step
pub stood_first : (number clients : ℕ) (stage : Stage) → Dealt clients (key_count clients) stage.cast → stage.state ≡ number → stage.handovers ≡ 0 → stage.stops ≡ 0 → length stage.holders.items ≡ key_count clients
    → ((place : ℕ) → place < key_count clients → get_or stage.holders.items place 0 ≡ place % clients) → ((place : ℕ) → place < key_count clients → get_or stage.holders.items place 0 < clients) → Stood number clients 0 stage
stood_first number clients stage dealt state handovers stops keys holders within =
    let first = first_events clients dealt.replies in
    let all : first ≡ first ++ [] = sym (append_none first) in
    let R : List Event → Type 0 = λ l. IsRun empty l in
    let L : List Event → Type 0 = λ l. IsLawful [] empty l in
    let N : List Event → Type 0 = λ l. NoneTorn (run empty l) in
    let S : List Event → Type 0 = λ l. Stands stage.cast.clients.items (run empty l) in
    let none = dealt.sent in
    let zero_sent : length stage.cast.sent.items ≡ 0 = ap (λ (l : Messages). length l) none in
    let zero_refused = dealt.refused in
    record {
      account = record {
        replies = dealt.replies;
        each_key = dealt.each_key;
        given = dealt.given;
        played = [];
        each_step = refl;
        scene = first_scene number clients;
        is_played = refl;
        events = first ++ [];
        events_are = refl;
        runs = subst R all dealt.runs;
        lawful = subst L all dealt.lawful;
      };
      calm = subst N all dealt.calm;
      stands = subst S all dealt.stands;
      sent = none ∙ sym (ap (λ (l : List Event). messages_in l) (sym all) ∙ first_sends clients dealt.replies);
      refused = dealt.refused ∙ sym (ap (λ (l : List Event). count_by is_refusal l) (sym all) ∙ first_refuses clients dealt.replies);
      handovers = handovers;
      stops = stops;
      state = state;
      holders = holders;
      within = within;
      clients_are = dealt.clients_are;
      keys_are = keys;
      few_sent = omega (arith, zero_sent);
      few_refused = omega (arith, zero_refused);
      few_handovers = omega (arith, handovers);
      few_stops = omega (arith, stops);
    }

-- ---- a step

plays_as : (c d : ℕ) (k l : PubKey) (now then : ℕ) (a b : Act) (es : List Event) (holder : ℕ) → c ≡ d → k ≡ l → now ≡ then → a ≡ b → Plays c k now a es holder → Plays d l then b es holder
plays_as c d k l now then a b es holder e f g h plays =
    let A : ℕ → Type 0 = λ x. Plays x k now a es holder in
    let B : PubKey → Type 0 = λ x. Plays d x now a es holder in
    let C : ℕ → Type 0 = λ x. Plays d l x a es holder in
    let D : Act → Type 0 = λ x. Plays d l then x es holder in
    subst D h (subst C g (subst B f (subst A e plays)))

-- which client has each key after a step
pub holders_on : (hs : List ℕ) (holder : ℕ → ℕ) (keys place next : ℕ) → length hs ≡ keys → ((q : ℕ) → q < keys → get_or hs q 0 ≡ holder q) → (q : ℕ) → q < keys → get_or (set hs place next) q 0 ≡ at_client holder place next q
holders_on hs holder keys place next size is q below = at (same_client q place) where
  at : (q ≡ place) ⊎ (q ≡ place → ⊥) → get_or (set hs place next) q 0 ≡ at_client holder place next q
  at (inl e) =
      let P : ℕ → Type 0 = λ n. get_or (set hs n next) q 0 ≡ at_client holder n next q in
      let less : q < length hs = omega (arith, size, below) in
      subst P e (get_or-set_same hs q next 0 less ∙ sym (at_here holder q next))
  at (inr not) = get_or-set_other hs place q next 0 not ∙ (is q below ∙ sym (at_there holder place q next not))

within_on : (hs : List ℕ) (keys place next clients : ℕ) → length hs ≡ keys → next < clients → ((q : ℕ) → q < keys → get_or hs q 0 < clients) → (q : ℕ) → q < keys → get_or (set hs place next) q 0 < clients
within_on hs keys place next clients size less is q below = at (same_client q place) where
  at : (q ≡ place) ⊎ (q ≡ place → ⊥) → get_or (set hs place next) q 0 < clients
  at (inl e) =
      let P : ℕ → Type 0 = λ n. get_or (set hs n next) q 0 < clients in
      let B : ℕ → Type 0 = λ n. n < clients in
      let fits : q < length hs = omega (arith, size, below) in
      subst P e (subst B (sym (get_or-set_same hs q next 0 fits)) less)
  at (inr not) = let B : ℕ → Type 0 = λ n. n < clients in subst B (sym (get_or-set_other hs place q next 0 not)) (is q below)

module _ (number clients n : ℕ) (old new : Stage) (place holder : ℕ) (a : Act) (stood : Stood number clients n old) (is_place : place ≡ place_drawn clients old.state) (is_act : a ≡ act_drawn clients n old.state)
    (played : PlaysAt old.cast new.cast (get_or old.holders.items place 0) (key_of place) (n / 4) a holder) (below : place < key_count clients)
    (is_state : new.state ≡ after_step old.state) (is_holders : new.holders.items ≡ set old.holders.items place holder)
    (is_handovers : new.handovers ≡ old.handovers + counted (is_handover a)) (is_stops : new.stops ≡ old.stops + counted (is_stop a)) where
  pub step_on : Stood number clients (n + 1) new
  step_on =
      let account = stood.account in
      let scene = account.scene in
      let steps = account.each_step in
      let w = run empty account.events in
      let done = played.happens w stood.stands in
      let es = done.0 in
      let here = done.2 in
      let law = plays_lawful w (get_or old.holders.items place 0) (key_of place) (n / 4) a es holder done.1 (so_far account.events account.runs account.lawful) stood.calm here.runs in
      let at_place : place ≡ place_drawn clients scene.state = is_place ∙ ap (λ x. place_drawn clients x) stood.state in
      let same_act : a ≡ act_drawn clients (length account.played) scene.state = is_act ∙ (ap (λ x. act_drawn clients n x) stood.state ∙ ap (λ x. act_drawn clients x scene.state) (sym steps)) in
      let same_holder : get_or old.holders.items place 0 ≡ scene.holder (place_drawn clients scene.state) = stood.holders place below ∙ ap scene.holder at_place in
      let plays = plays_as (get_or old.holders.items place 0) (scene.holder (place_drawn clients scene.state)) (key_of place) (key_of (place_drawn clients scene.state)) (n / 4) (length account.played / 4) a (act_drawn clients (length account.played) scene.state) es holder
      same_holder (ap key_of at_place) (ap (λ x. x / 4) (sym steps)) same_act done.1 in
      let behind : run w es ≡ run empty (account.events ++ es) = sym (run_both empty account.events es) in
      let S : World → Type 0 = λ v. Stands new.cast.clients.items v in
      let H : ℕ → Type 0 = λ p. (q : ℕ) → q < key_count clients → get_or new.holders.items q 0 ≡ at_client scene.holder p holder q in
      let Hs : List ℕ → Type 0 = λ hs. (q : ℕ) → q < key_count clients → get_or hs q 0 ≡ at_client scene.holder place holder q in
      let Ws : List ℕ → Type 0 = λ hs. (q : ℕ) → q < key_count clients → get_or hs q 0 < clients in
      let inside = played.within in
      let many = played.grows.clients in
      let were = stood.clients_are in
      let holder_less : holder < clients = omega (arith, inside, many, were) in
      let more_sent = played.grows.sent in
      let few_sent = stood.few_sent in
      let more_refused = played.grows.refused in
      let few_refused = stood.few_refused in
      let few_handovers = stood.few_handovers in
      let few_stops = stood.few_stops in
      let one_handover = counted_few (is_handover a) in
      let one_stop = counted_few (is_stop a) in
      let handovers_were = stood.handovers in
      let handovers_more = count_cons is_handover (act_drawn clients (length account.played) scene.state) scene.acts in
      let handovers_same : counted (is_handover a) ≡ counted (is_handover (act_drawn clients (length account.played) scene.state)) = ap (λ x. counted (is_handover x)) same_act in
      let stops_were = stood.stops in
      let stops_more = count_cons is_stop (act_drawn clients (length account.played) scene.state) scene.acts in
      let stops_same : counted (is_stop a) ≡ counted (is_stop (act_drawn clients (length account.played) scene.state)) = ap (λ x. counted (is_stop x)) same_act in
      record {
        account = record {
          replies = account.replies;
          each_key = account.each_key;
          given = account.given;
          played = es ∷ account.played;
          each_step = omega (arith, steps);
          scene = next_scene clients (length account.played) scene holder;
          is_played = (scene, holder, account.is_played, plays, refl);
          events = account.events ++ es;
          events_are = ap (λ (l : List Event). l ++ es) account.events_are ∙ append_assoc (first_events clients account.replies) (in_order account.played) es;
          runs = is_run_both empty account.events es account.runs here.runs;
          lawful = lawful_both [] empty account.events es account.lawful law.lawful;
        };
        calm = subst NoneTorn behind law.calm;
        stands = subst S behind here.stands;
        sent = here.sent ∙ (ap (λ (l : Messages). l ++ messages_in es) stood.sent ∙ sym (messages_both account.events es));
        refused = here.refused ∙ (ap (λ k. k + count_by is_refusal es) stood.refused ∙ sym (refusals_both account.events es));
        handovers = omega (arith, is_handovers, handovers_were, handovers_more, handovers_same);
        stops = omega (arith, is_stops, stops_were, stops_more, stops_same);
        state = is_state ∙ ap after_step stood.state;
        holders = subst H at_place (subst Hs (sym is_holders) (holders_on old.holders.items scene.holder (key_count clients) place holder stood.keys_are stood.holders));
        within = subst Ws (sym is_holders) (within_on old.holders.items (key_count clients) place holder clients stood.keys_are holder_less stood.within);
        clients_are = many ∙ were;
        keys_are = ap (λ (l : List ℕ). length l) is_holders ∙ (length-set old.holders.items place holder ∙ stood.keys_are);
        few_sent = omega (arith, more_sent, few_sent);
        few_refused = omega (arith, more_refused, few_refused);
        few_handovers = omega (arith, is_handovers, one_handover, few_handovers);
        few_stops = omega (arith, is_stops, one_stop, few_stops);
      }

-- ---- the end

-- no two messages that were sent are slashable
pub stood_safe : (number clients steps : ℕ) (stage : Stage) → Stood number clients steps stage → SafeList stage.cast.sent.items
stood_safe number clients steps stage stood =
    let account = stood.account in
    let law = safe_overall [] (λ client. genesis) account.events (none_safe) account.runs account.lawful in
    subst SafeList (sends_all empty account.events ∙ sym stood.sent) law where
      none_safe : SafeList []
      none_safe i j d before within = absurd (omega (arith, before, within))

pub rehearsed : (number clients steps : ℕ) (stage : Stage) (counts : Counts) → Stood number clients steps stage → counts.steps ≡ steps → counts.granted ≡ length stage.cast.sent.items → counts.refused ≡ stage.cast.refused → counts.handovers ≡ stage.handovers → counts.stops ≡ stage.stops
    → counts.conflicts ≡ unsafe_pairs stage.cast.sent.items → (SafeList stage.cast.sent.items → counts.conflicts ≡ 0) → IsRehearsal number clients steps counts
rehearsed number clients steps stage counts stood s g r h t c z = record {
  account = stood.account;
  steps_are = s;
  granted = g ∙ ap (λ (l : Messages). length l) stood.sent;
  refused = r ∙ stood.refused;
  handovers = h ∙ stood.handovers;
  stops = t ∙ stood.stops;
  conflicts = c ∙ ap unsafe_pairs stood.sent;
  none = z (stood_safe number clients steps stage stood);
}

-- ---- the loops

-- one client more that has done nothing
pub push_stands : (xs : List Client) (y : Client) → Stands xs empty → OpensBy ([], []) 0 y.desk.contents → Stands (xs ++ y ∷ []) empty
push_stands xs y stands opens c d below = at (cases_lt c (length xs)) where
  at : (c < length xs) ⊎ (length xs ≤ c) → DeskStands (get_or (xs ++ y ∷ []) c d).desk.contents (no_state genesis) × ((get_or (xs ++ y ∷ []) c d).desk.contents.genesis ≡ genesis)
  at (inl less) =
      let A : Client → Type 0 = λ x. DeskStands x.desk.contents (no_state genesis) × (x.desk.contents.genesis ≡ genesis) in
      subst A (sym (get_or_append_left xs (y ∷ []) d c less)) (stands c d less)
  at (inr more) =
      let A : Client → Type 0 = λ x. DeskStands x.desk.contents (no_state genesis) × (x.desk.contents.genesis ≡ genesis) in
      let size = length_push xs y in
      let last : length xs ≡ c = omega (arith, size, below, more) in
      subst A (sym (get_or_push xs y d c last)) (nothing_stands y.desk.contents opens, opens.genesis_is)

pub none_stand : Stands [] empty
none_stand c d below = absurd (omega (arith, below))

-- which client each key was dealt to
pub record DealtTo (clients n : ℕ) (hs : List ℕ) : Type 0 where
  pub count : length hs ≡ n
  pub each : (q : ℕ) → q < n → get_or hs q 0 ≡ q % clients
  pub within : (q : ℕ) → q < n → get_or hs q 0 < clients

pub dealt_to_none : (clients : ℕ) (hs : List ℕ) → hs ≡ [] → DealtTo clients 0 hs
dealt_to_none clients hs e = record { count = ap (λ (l : List ℕ). length l) e; each = λ q below. absurd (omega (arith, below)); within = λ q below. absurd (omega (arith, below)) }

pub deal_to : (clients n next : ℕ) (hs : List ℕ) → DealtTo clients n hs → next ≡ n % clients → next < clients → DealtTo clients (n + 1) (hs ++ next ∷ [])
deal_to clients n next hs dealt is less = record {
  count = let size = length_push hs next in let count = dealt.count in omega (arith, size, count);
  each = λ q below. each q (cases_lt q n) below;
  within = λ q below. within q (cases_lt q n) below;
} where
  each : (q : ℕ) → (q < n) ⊎ (n ≤ q) → q < n + 1 → get_or (hs ++ next ∷ []) q 0 ≡ q % clients
  each q (inl under) below = let count = dealt.count in let fits : q < length hs = omega (arith, count, under) in get_or_append_left hs (next ∷ []) 0 q fits ∙ dealt.each q under
  each q (inr over) below =
      let count = dealt.count in
      let last : length hs ≡ q = omega (arith, count, over, below) in
      let same : n ≡ q = omega (arith, over, below) in
      get_or_push hs next 0 q last ∙ (is ∙ ap (λ k. k % clients) same)

  within : (q : ℕ) → (q < n) ⊎ (n ≤ q) → q < n + 1 → get_or (hs ++ next ∷ []) q 0 < clients
  within q (inl under) below =
      let count = dealt.count in
      let fits : q < length hs = omega (arith, count, under) in
      let B : ℕ → Type 0 = λ k. k < clients in
      subst B (sym (get_or_append_left hs (next ∷ []) 0 q fits)) (dealt.within q under)
  within q (inr over) below =
      let count = dealt.count in
      let last : length hs ≡ q = omega (arith, count, over, below) in
      let B : ℕ → Type 0 = λ k. k < clients in
      subst B (sym (get_or_push hs next 0 q last)) less

-- with other words for what a stage plays
pub stood_as : (a b c d n : ℕ) (stage : Stage) → a ≡ b → c ≡ d → Stood a c n stage → Stood b d n stage
stood_as a b c d n stage e f stood =
    let A : ℕ → Type 0 = λ x. Stood x c n stage in
    let B : ℕ → Type 0 = λ x. Stood b x n stage in
    subst B f (subst A e stood)
