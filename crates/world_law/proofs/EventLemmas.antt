-- That each event keeps the invariant, and so each list of them.
use Rattle.std.proofs.Common.{◌≡◌, ◌⊎◌, inl, inr, ℕ, Bool, true, false, List, [], ◌∷◌, ◌++◌, get_or, length, Option, Some, None, refl, sym, ◌∙◌, ap, subst, append_assoc, append-nil, ◌<◌}
use Rattle.std.specs.Prelude.{Contains}
use Rattle.std.specs.BTreeMap.{is_at}
use Rattle.std.proofs.lemmas.List.Elements.{Contains-append_right, Contains-push_cases, Contains-get_or}
use Rattle.std.proofs.lemmas.List.Quantifiers.{all_pairs_push}
use Rattle.edge_kit.specs.declared.bytes.PubKey.{PubKey}
use Rattle.edge_kit.specs.declared.bytes.Root.{Root}
use Rattle.slash_defs.specs.declared.message.Message.{Message}
use Rattle.slash_defs.specs.Lists.{SafeList, IsUnsafe}
use Rattle.protect_record.proofs.MemberLemmas.{contains_none}
use Rattle.record_join.specs.Keys.{key_cmp}
use Rattle.desk_machine.specs.States.{State, Lasting, lasting, reopened}
use Rattle.desk_machine.specs.Machine.{Reply, lasting_after, Succeeds}
use Rattle.desk_machine.specs.declared.open_grant.OpenGrant.{OpenGrant}
use Rattle.desk_machine.specs.declared.call.DeskCall.{DeskCall}
use Rattle.desk_machine.specs.declared.call.DeskCall.TheVariants as call
use Rattle.desk_machine.specs.declared.call.DeskReply.{DeskReply}
use Rattle.desk_machine.specs.declared.call.DeskReply.TheVariants as reply
use Rattle.record_join.specs.KeyLaws.{at_itself}
use Rattle.world_law.specs.Worlds.{World, Event, Deed, sent_of, happens, run, IsRun, empty_world, MayHappen, MayBeDone, lasting_done, deeds_done, deeds_stopped, call_stopped}
use Rattle.desk_machine.specs.Kinds.{IsOkOf, HasOk}
use Rattle.world_law.specs.Worlds.Event.{Call, Send, Crash}
use Rattle.world_law.specs.Worlds.Deed.{Activated, Sent}
use Rattle.world_law.specs.Lawful.{IsActivation, HasCovered, Begins, IsLawfulNow, IsLawful, MayHold}
use Rattle.world_law.specs.Law.{SafeOverall, QuietWhileClosed, QuietWhileTorn, OneMayHold, HolderCovers}
use Rattle.world_law.proofs.KeyStanding.{Phase, View, IsKeySafe, Carries, true-false, held_inj}
use Rattle.world_law.proofs.KeyStanding as at_key
use Rattle.world_law.proofs.KeyStanding.Phase.{Fresh, Held, Resting}
use Rattle.world_law.proofs.DeedLemmas.{phase_of, SentWhileHeld, none_while_closed}
use Rattle.world_law.proofs.PastLemmas.{keeps_all}
use Rattle.world_law.proofs.ClientLemmas.{held, held_lasting, Moved, NoGrants, Changes, effect, TornFits, changes_ok, is_held, Effect}
use Rattle.world_law.proofs.ClientLemmas.Effect.{Opening, Staying, Shutting}
use Rattle.world_law.proofs.WorldLemmas.{Messages, HasOpen, view_of, Invariant, stepped, Free, step, client_cases, both_cases}
use Rattle.world_law.proofs.CallLemmas.{allowed, no_deeds, done_deeds, key_cases, not_opening, opens_own, shuts_none, call_step}

-- ---- a message is sent

send_step : (before : Messages) (w : World) (c : ℕ) (g : OpenGrant) (m : Message) → Invariant before w → MayHappen w (Send c g m) → Invariant before (happens w (Send c g m))
send_step before w c g m inv h = record {
  keys = λ k. at k (key_cases k g.key);
  torn = both_cases TornFits w.desks w.torn c (w.desks c) (w.torn c) (inv.torn c) inv.torn;
  held = ((inv.keys g.key).opened c m is_open, inv.held);
  safe = λ s. let P : Messages → Type 0 = λ l. SafeList l in subst P (append_assoc before (sent_of w.deeds) ((g.key, m) ∷ [])) (all_pairs_push (λ a b. ¬ (IsUnsafe a b)) (before ++ sent_of w.deeds) (g.key, m) (inv.safe s) apart);
} where
  is_open : HasOpen (w.desks c) g.key m
  is_open = (g, h.0, refl, h.1)

  apart : (i : ℕ) (d : PubKey × Message) → i < length (before ++ sent_of w.deeds) → ¬ (IsUnsafe (get_or (before ++ sent_of w.deeds) i d) (g.key, m))
  apart i d lt un =
      let x = get_or (before ++ sent_of w.deeds) i d in
      let P : PubKey → Type 0 = λ q. Contains (before ++ sent_of w.deeds) (q, x.1) in
      (inv.keys g.key).apart c m x.1 is_open (subst P un.0 (Contains-get_or (before ++ sent_of w.deeds) i d lt)) un.1

  carries : (k : PubKey) → Carries (view_of before w k) (view_of before (happens w (Send c g m)) k)
  carries k = record {
    covered = λ d n. client_cases (λ i s. HasCovered (w.desks i) k n → HasCovered s k n) w.desks c (w.desks c) (λ x. x) (λ i e x. x) d;
    activated = λ x. (x.0, later (Activated x.0 k) x.1);
    before = λ n x. x;
  } where
    later : (d : Deed) → Contains w.deeds d → Contains (Sent c g.key m ∷ w.deeds) d
    later d x = Contains-append_right (Sent c g.key m ∷ []) w.deeds d x

  holds : (k : PubKey) (d : ℕ) → held ((happens w (Send c g m)).desks d).states k ≡ held (w.desks d).states k
  holds k d = client_cases (λ i s. held s.states k ≡ held (w.desks i).states k) w.desks c (w.desks c) refl (λ i e. refl) d

  pending : (k : PubKey) (d : ℕ) → IsActivation ((happens w (Send c g m)).torn d) k → IsActivation (w.torn d) k
  pending k d = client_cases (λ i t. IsActivation t k → IsActivation (w.torn i) k) w.torn c (w.torn c) (λ x. x) (λ i e x. x) d

  opened : (k : PubKey) (d : ℕ) (n : Message) → HasOpen ((happens w (Send c g m)).desks d) k n → HasOpen (w.desks d) k n
  opened k d n = client_cases (λ i s. HasOpen s k n → HasOpen (w.desks i) k n) w.desks c (w.desks c) (λ x. x) (λ i e x. x) d

  -- the message that is sent, or another
  all : (k : PubKey) (n : Message) → Contains (before ++ (sent_of w.deeds ++ (g.key, m) ∷ [])) (k, n) → Contains (before ++ sent_of w.deeds) (k, n) ⊎ (◌≡◌ {A = PubKey × Message} (g.key, m) (k, n))
  all k n x = let P : Messages → Type 0 = λ l. Contains l (k, n) in Contains-push_cases (before ++ sent_of w.deeds) (g.key, m) (k, n) (subst P (sym (append_assoc before (sent_of w.deeds) ((g.key, m) ∷ []))) x)

  at : (k : PubKey) → (k ≡ g.key) ⊎ (k ≡ g.key → ⊥) → IsKeySafe (view_of before (happens w (Send c g m)) k)
  at k (inl is) = let P : PubKey → Type 0 = λ q. IsKeySafe (view_of before (happens w (Send c g m)) q) in subst P (sym is) (at_key.sends (view_of before w g.key) (view_of before (happens w (Send c g m)) g.key) c m (inv.keys g.key) (record {
    carries = carries g.key;
    was = is_open;
    phase = refl;
    holds = holds g.key;
    pending = pending g.key;
    open' = opened g.key;
    all = λ n x. cases n (all g.key n x);
  })) where
    cases : (n : Message) → Contains (before ++ sent_of w.deeds) (g.key, n) ⊎ (◌≡◌ {A = PubKey × Message} (g.key, m) (g.key, n)) → Contains (before ++ sent_of w.deeds) (g.key, n) ⊎ (n ≡ m)
    cases n (inl x) = inl x
    cases n (inr e) = inr (sym (ap (λ (p : PubKey × Message). p.1) e))
  at k (inr not) = at_key.keeps (view_of before w k) (view_of before (happens w (Send c g m)) k) (inv.keys k) (record {
    carries = carries k;
    phase = refl;
    holds = holds k;
    pending = pending k;
    open' = opened k;
    all = λ n x. cases n (all k n x);
    handed = λ d b x. inl x;
  }) where
    cases : (n : Message) → Contains (before ++ sent_of w.deeds) (k, n) ⊎ (◌≡◌ {A = PubKey × Message} (g.key, m) (k, n)) → Contains (before ++ sent_of w.deeds) (k, n)
    cases n (inl x) = x
    cases n (inr e) = absurd (not (sym (ap (λ (p : PubKey × Message). p.0) e)))

-- ---- a client stops

sent_none : (c : ℕ) (cl : DeskCall) (ds : List Deed) → (sent_of (deeds_done c cl ++ ds) ≡ sent_of ds) × (SentWhileHeld ds → SentWhileHeld (deeds_done c cl ++ ds))
sent_none c (call.Activate key now) ds = (refl, λ x. x)
sent_none c (call.FinishClose key) ds = (refl, λ x. x)
sent_none c cl ds = (refl, λ x. x)

none_left : (g : OpenGrant) (grants : List OpenGrant) → Contains [] g → Contains grants g
none_left g grants x = contains_none g x

-- it was done, what was torn or in progress
stopped_done : (before : Messages) (w : World) (c : ℕ) (cl : DeskCall) (l : Lasting) (genesis : Root) (watch : Bool) (now : ℕ) → Invariant before w → Changes (w.desks c) cl l → ((k : PubKey) → effect cl k ≡ Opening → Free before w c k)
    → Invariant before (stepped w c (reopened genesis l watch now) None (deeds_done c cl))
stopped_done before w c cl l genesis watch now inv changes free =
    let S : PubKey → Bool → Type 0 = λ k b. Moved (effect cl k) (held (w.desks c).states k) b (NoGrants (w.desks c).grants k) in
    step before w c (reopened genesis l watch now) None (deeds_done c cl) (effect cl) inv (record {
      kept = changes.kept;
      moved = λ k. subst (S k) (sym (held_lasting l.states k)) (changes.moved k);
      fewer = λ g n says x. none_left g (w.desks c).grants x;
      fits = refl;
      pending = λ k x. absurd x;
      deeds = λ k. done_deeds w c cl k;
      sent = (sent_none c cl w.deeds).0;
      held_on = (sent_none c cl w.deeds).1;
      free = free;
    })

-- nothing was done
stopped : (before : Messages) (w : World) (c : ℕ) (genesis : Root) (watch : Bool) (now : ℕ) → Invariant before w → Invariant before (stepped w c (reopened genesis (lasting (w.desks c)) watch now) None [])
stopped before w c genesis watch now inv =
    step before w c (reopened genesis (lasting (w.desks c)) watch now) None [] (λ k. Staying) inv (record {
      kept = keeps_all (w.desks c).keys;
      moved = λ k. held_lasting (w.desks c).states k;
      fewer = λ g n says x. none_left g (w.desks c).grants x;
      fits = refl;
      pending = λ k x. absurd x;
      deeds = λ k. no_deeds w c k;
      sent = refl;
      held_on = λ x. x;
      free = λ k e. absurd (not_opening e);
    })

-- the call that opens a key is an activation of it
opens_active : (cl : DeskCall) (k : PubKey) → effect cl k ≡ Opening → IsActivation (Some cl) k
opens_active (call.Activate key now) k e = opens_own key k (is_at (key_cmp k) key) refl e
opens_active (call.FinishClose key) k e = absurd (shuts_none (is_at (key_cmp k) key) e)
opens_active cl k e = absurd (not_opening e)

-- where an activation is torn, the key is free for the client
pending_free : (before : Messages) (w : World) (c : ℕ) (k : PubKey) → Invariant before w → IsActivation (w.torn c) k → Free before w c k
pending_free before w c k inv p = record {
  none = λ d. none d (held (w.desks d).states k) refl;
  only = λ d q. (inv.keys k).one d c q p;
  covers = λ m a. (inv.keys k).by_waiting c m p a;
} where
  none : (d : ℕ) (b : Bool) → held (w.desks d).states k ≡ b → b ≡ false
  none d true e = absurd ((inv.keys k).waits c d p ((inv.keys k).holder d e))
  none d false e = refl

-- an activation that may be done has begun
ok_active : (state : State) (key : PubKey) (now : ℕ) (r : DeskReply) → IsOkOf (call.Activate key now) r → Reply state (call.Activate key now) r → Succeeds state (call.Activate key now)
ok_active state key now reply.Active ok h = h
ok_active state key now r ok h = absurd ok

begins_within : (state : State) (c : ℕ) (cl : DeskCall) (k : PubKey) (now : ℕ) (watch : Bool) → HasOk state cl → IsActivation (Some cl) k → Begins state (Crash c (Some cl) true now watch) k
begins_within state c (call.Activate key moment) k now watch ok x = (x, ok_active state key moment ok.0 ok.1 ok.2)
begins_within state c cl k now watch ok x = absurd x

none_deeds : (c : ℕ) (o : Option DeskCall) → deeds_stopped c o false ≡ []
none_deeds c None = refl
none_deeds c (Some cl) = refl

crash_step : (before : Messages) (w : World) (c : ℕ) (within : Option DeskCall) (done : Bool) (now : ℕ) (watch : Bool) → Invariant before w → MayHappen w (Crash c within done now watch) → IsLawfulNow before w (Crash c within done now watch)
    → Invariant before (happens w (Crash c within done now watch))
crash_step before w c within false now watch inv h law =
    let P : List Deed → Type 0 = λ ds. Invariant before (stepped w c (reopened (w.desks c).genesis (lasting (w.desks c)) watch now) None ds) in
    subst P (sym (none_deeds c (call_stopped (w.torn c) within))) (stopped before w c (w.desks c).genesis watch now inv)
crash_step before w c within true now watch inv h law = at (w.torn c) refl (inv.torn c) within h law where
  at : (t : Option DeskCall) → w.torn c ≡ t → TornFits (w.desks c) t → (within : Option DeskCall) → MayBeDone (w.desks c) (w.desks c).torn within → IsLawfulNow before w (Crash c within true now watch)
      → Invariant before (stepped w c (reopened (w.desks c).genesis (lasting_done (w.desks c) (w.desks c).torn within) watch now) None (deeds_stopped c (call_stopped (w.torn c) within) true))
  at (Some cl) e fits within h law =
      let P : Option Lasting → Type 0 = λ lt. Invariant before (stepped w c (reopened (w.desks c).genesis (lasting_done (w.desks c) lt within) watch now) None (deeds_stopped c (call_stopped (Some cl) within) true)) in
      let Q : Option DeskCall → Type 0 = λ t. Invariant before (stepped w c (reopened (w.desks c).genesis (lasting_done (w.desks c) (w.desks c).torn within) watch now) None (deeds_stopped c (call_stopped t within) true)) in
      let A : PubKey → Option DeskCall → Type 0 = λ k t. IsActivation t k in
      subst Q (sym e) (subst P (sym fits.1) (stopped_done before w c cl fits.0 (w.desks c).genesis watch now inv fits.2 (λ k x. pending_free before w c k inv (subst (A k) (sym e) (opens_active cl k x)))))
  at None e up None h law = let P : Option Lasting → Type 0 = λ lt. MayBeDone (w.desks c) lt None in absurd (subst P up h)
  at None e up (Some cl) h law =
      let H : Option Lasting → Type 0 = λ lt. MayBeDone (w.desks c) lt (Some cl) in
      let ok : HasOk (w.desks c) cl = subst H up h in
      let P : Option Lasting → Type 0 = λ lt. Invariant before (stepped w c (reopened (w.desks c).genesis (lasting_done (w.desks c) lt (Some cl)) watch now) None (deeds_stopped c (call_stopped None (Some cl)) true)) in
      let Q : Option DeskCall → Type 0 = λ t. Invariant before (stepped w c (reopened (w.desks c).genesis (lasting_done (w.desks c) (w.desks c).torn (Some cl)) watch now) None (deeds_stopped c (call_stopped t (Some cl)) true)) in
      subst Q (sym e) (subst P (sym up) (stopped_done before w c cl (lasting_after (w.desks c) cl) (w.desks c).genesis watch now inv (changes_ok (w.desks c) cl ok.0 ok.1 ok.2)
      (λ k x. allowed before w c k inv (law k (begins_within (w.desks c) c cl k now watch ok (opens_active cl k x))))))

-- ---- lists of events

pub event_step : (before : Messages) (w : World) (e : Event) → Invariant before w → MayHappen w e → IsLawfulNow before w e → Invariant before (happens w e)
event_step before w (Call c cl r) inv h law = call_step before w c cl r inv h law
event_step before w (Send c g m) inv h law = send_step before w c g m inv h
event_step before w (Crash c within done now watch) inv h law = crash_step before w c within done now watch inv h law

pub all_steps : (before : Messages) (w : World) (es : List Event) → Invariant before w → IsRun w es → IsLawful before w es → Invariant before (run w es)
all_steps before w [] inv h law = inv
all_steps before w (e ∷ es) inv h law = all_steps before (happens w e) es (event_step before w e inv h.0 law.0) h.1 law.1

pub begins_so : (before : Messages) (roots : ℕ → Root) → Invariant before (empty_world roots)
begins_so before roots = record {
  keys = λ k. record {
    holder = λ c h. absurd (let bad : false ≡ true = h in cc);
    held = λ c h. absurd (let bad : Fresh ≡ Held c = h in cc);
    waits = λ c d p h. p;
    one = λ c d p q. absurd p;
    by_holder = λ c m h a. absurd (let bad : Fresh ≡ Held c = h in cc);
    by_waiting = λ c m p a. absurd p;
    by_last = λ c m h a. absurd (let bad : Fresh ≡ Resting c = h in cc);
    by_book = λ c b m h x a. absurd x;
    opened = λ c m x. contains_none x.0 x.1;
    granted = λ c m x. contains_none x.0 x.1;
    apart = λ c m n x a. contains_none x.0 x.1;
    pairs = λ c m n x y. contains_none x.0 x.1;
    known = λ h. absurd (h refl);
    silent = λ h m a. let P : Messages → Type 0 = λ l. Contains l (k, m) in subst P (append-nil before) a;
  };
  torn = λ c. refl;
  held = tt;
  safe = λ s. let P : Messages → Type 0 = λ l. SafeList l in subst P (sym (append-nil before)) s;
}

pub safe_overall : SafeOverall
safe_overall before roots events safe runs law = (all_steps before (empty_world roots) events (begins_so before roots) runs law).safe safe

pub quiet_while_closed : QuietWhileClosed
quiet_while_closed before roots events runs law = none_while_closed (run (empty_world roots) events).deeds (all_steps before (empty_world roots) events (begins_so before roots) runs law).held

-- ---- what the invariant says of a holder

pub quiet_while_torn : QuietWhileTorn
quiet_while_torn before roots events runs law closer sender key g m torn may is = clash (inv.torn closer) where
  inv : Invariant before (run (empty_world roots) events)
  inv = all_steps before (empty_world roots) events (begins_so before roots) runs law

  at_key_itself : effect (call.FinishClose key) key ≡ Shutting
  at_key_itself = rw (at_itself key) refl

  sender_holds : phase_of (run (empty_world roots) events).deeds key ≡ Held sender
  sender_holds = (inv.keys key).opened sender m (g, may.0, is, may.1)

  closer_holds : Moved Shutting (held ((run (empty_world roots) events).desks closer).states key) false (NoGrants ((run (empty_world roots) events).desks closer).grants key) → ⊥
  closer_holds moved =
      let e = held_inj closer sender (sym ((inv.keys key).holder closer moved.0) ∙ sender_holds) in
      let P : ℕ → Type 0 = λ c. Contains ((run (empty_world roots) events).desks c).grants g in
      moved.2 g m may.1 (subst P (sym e) may.0) is

  clash : TornFits ((run (empty_world roots) events).desks closer) ((run (empty_world roots) events).torn closer) → ⊥
  clash fits =
      let P : Option DeskCall → Type 0 = λ t. TornFits ((run (empty_world roots) events).desks closer) t in
      let f = subst P torn fits in
      let Q : Effect → Type 0 = λ e. Moved e (held ((run (empty_world roots) events).desks closer).states key) (held f.0.states key) (NoGrants ((run (empty_world roots) events).desks closer).grants key) in
      let moved = subst Q at_key_itself (f.2.moved key) in
      closer_holds (moved.0, refl, moved.2)

holder_or_waiting : (before : Messages) (w : World) (c : ℕ) (k : PubKey) → Invariant before w → MayHold w c k → (phase_of w.deeds k ≡ Held c) ⊎ IsActivation (w.torn c) k
holder_or_waiting before w c k inv (inl (inl active)) = inl ((inv.keys k).holder c (ap is_held active))
holder_or_waiting before w c k inv (inl (inr closing)) = inl ((inv.keys k).holder c (ap is_held closing))
holder_or_waiting before w c k inv (inr waiting) = inr waiting

pub one_may_hold : OneMayHold
one_may_hold before roots events runs law c d k hc hd =
    let w = run (empty_world roots) events in
    let inv = all_steps before (empty_world roots) events (begins_so before roots) runs law in
    one before w c d k inv (holder_or_waiting before w c k inv hc) (holder_or_waiting before w d k inv hd) where
      one : (before : Messages) (w : World) (c d : ℕ) (k : PubKey) → Invariant before w → (phase_of w.deeds k ≡ Held c) ⊎ IsActivation (w.torn c) k → (phase_of w.deeds k ≡ Held d) ⊎ IsActivation (w.torn d) k → c ≡ d
      one before w c d k inv (inl x) (inl y) = held_inj c d (sym x ∙ y)
      one before w c d k inv (inl x) (inr y) = absurd ((inv.keys k).waits d c y x)
      one before w c d k inv (inr x) (inl y) = absurd ((inv.keys k).waits c d x y)
      one before w c d k inv (inr x) (inr y) = (inv.keys k).one c d x y

pub holder_covers : HolderCovers
holder_covers before roots events runs law c k m h a =
    let w = run (empty_world roots) events in
    let inv = all_steps before (empty_world roots) events (begins_so before roots) runs law in
    covers before w c k m inv (holder_or_waiting before w c k inv h) a where
      covers : (before : Messages) (w : World) (c : ℕ) (k : PubKey) (m : Message) → Invariant before w → (phase_of w.deeds k ≡ Held c) ⊎ IsActivation (w.torn c) k → Contains (before ++ sent_of w.deeds) (k, m) → HasCovered (w.desks c) k m
      covers before w c k m inv (inl x) a = (inv.keys k).by_holder c m x a
      covers before w c k m inv (inr x) a = (inv.keys k).by_waiting c m x a
