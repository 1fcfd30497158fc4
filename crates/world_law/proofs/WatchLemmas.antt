-- What was told of a key whose watch lets it sign.
use Rattle.std.proofs.Common.{◌≡◌, ◌≢◌, ◌⊎◌, inl, inr, ℕ, ◌+◌, ◌<◌, ◌≤◌, ◌&&◌, ◌||◌, not, nat_lt, max, Bool, true, false, List, [], ◌∷◌, ◌++◌, refl, sym, ◌∙◌, ap, subst, arith}
use Rattle.std.specs.Prelude.{All, Contains, unwrap_or}
use Rattle.std.specs.BTreeMap.{is_at}
use Rattle.std.proofs.lemmas.Bool.{cases_eq, cases_lt}
use Rattle.std.proofs.lemmas.Grind.{common_steps}
use Rattle.std.proofs.lemmas.List.Elements.{All-head, All-tail, Contains-append_left, Contains-append_right}
use Rattle.edge_kit.specs.declared.bytes.PubKey.{PubKey}
use Rattle.protect_record.proofs.MemberLemmas.{contains_cases, contains_none}
use Rattle.record_join.specs.Keys.{key_cmp, with_key}
use Rattle.record_join.specs.KeyLaws.{same_key, at_itself, kept_here, kept_apart}
use Rattle.doppel_watch.specs.Watching.{Telling, IsSeenSilent, latest, was_live, was_absent}
use Rattle.doppel_watch.proofs.TellingLemmas.{latest-push, was_live-push, was_live-push_other, was_absent-push, was_absent-push_other}
use Rattle.doppel_watch.proofs.StateLemmas.{state_allowed}
use Rattle.desk_machine.specs.States.{State, IsAllowed}
use Rattle.record_replay.specs.Watches.{Watched, fresh_watch, told_more}
use Rattle.desk_machine.specs.Watches.{Watching, standing_under, watch_of}
use Rattle.desk_machine.specs.Machine.{Reply, after}
use Rattle.desk_machine.specs.declared.call.DeskCall.{DeskCall}
use Rattle.desk_machine.specs.declared.call.DeskCall.TheVariants as call
use Rattle.desk_machine.specs.declared.call.DeskReply.{DeskReply}
use Rattle.desk_machine.specs.declared.call.DeskReply.TheVariants as reply
use Rattle.world_law.specs.Worlds.{World, Event, client_of, MayHappen, state_after, happens, run, IsRun}
use Rattle.world_law.specs.Worlds.Event.{Call, Send, Crash}
use Rattle.world_law.specs.Watched.{BeginsWatch, LeavesWatch, GrantsAt, IsOver, IsToldAbsent, WatchesFirst}
use Rattle.world_law.proofs.KeyStanding.{same_client}
use Rattle.world_law.proofs.ApartLemmas.{desk_here, desk_there}

-- ---- the watch of one key at one desk

-- the key is watched since the start, and this was told of it
record Watches (state : State) (k : PubKey) (start : ℕ) (told : List Telling) : Type 0 where
  on : state.watching.on ≡ true
  watch : watch_of state.watching k ≡ record { start = start; told = told }

-- what was told before and since: where an absence counts now it counted before, or Absent; a moment that was told is from before, or
-- Moment; and what was told live stays
record More (new : State) (k : PubKey) (start : ℕ) (told : List Telling) (Absent Moment : ℕ → Type 0) : Type 0 where
  now : List Telling
  watches : Watches new k start now
  absent : (e : ℕ) → was_absent start e now ≡ true → (was_absent start e told ≡ true) ⊎ Absent e
  seen : (m : ℕ) → m < latest start now → (m < latest start told) ⊎ Moment m
  live : (e : ℕ) → was_live e told ≡ true → was_live e now ≡ true

-- nothing is told of the key, and its watch stays
stays : (old new : State) (k : PubKey) (start : ℕ) (told : List Telling) (Absent Moment : ℕ → Type 0) → Watches old k start told → new.watching.on ≡ old.watching.on → watch_of new.watching k ≡ watch_of old.watching k
    → More new k start told Absent Moment
stays old new k start told Absent Moment w on watch = record {
  now = told;
  watches = record { on = on ∙ w.on; watch = watch ∙ w.watch };
  absent = λ e x. inl x;
  seen = λ m x. inl x;
  live = λ e x. x;
}

apart_at : (key k : PubKey) → key ≢ k → is_at (key_cmp key) k ≡ false
apart_at key k not = at (is_at (key_cmp key) k) refl where
  at : (b : Bool) → is_at (key_cmp key) k ≡ b → b ≡ false
  at true e = absurd (not (same_key key k e))
  at false e = refl

other_watch : (w : Watching) (key k : PubKey) (x : Watched) → key ≢ k → watch_of (record { on = w.on; opened = w.opened; kept = with_key w.kept key x }) k ≡ watch_of w k
other_watch w key k x not = ap (λ o. unwrap_or o (fresh_watch w.opened)) (kept_apart w.kept key k x (apart_at key k not))

own_watch : (w : Watching) (key : PubKey) (x : Watched) → watch_of (record { on = w.on; opened = w.opened; kept = with_key w.kept key x }) key ≡ x
own_watch w key x = ap (λ o. unwrap_or o (fresh_watch w.opened)) (kept_here w.kept key x)

-- ---- one thing more is told

lt-true : (a b : ℕ) → nat_lt a b ≡ true → a < b
lt-true a b e = grind (arith, common_steps)

or_cases : (a b : Bool) → (a || b) ≡ true → (a ≡ true) ⊎ (b ≡ true)
or_cases true b e = inl refl
or_cases false b e = inr e

or_first : (a b : Bool) → a ≡ true → (a || b) ≡ true
or_first true b e = refl
or_first false b e = absurd (let bad : false ≡ true = e in cc)

or_second : (a b : Bool) → b ≡ true → (a || b) ≡ true
or_second true b e = refl
or_second false b e = e

-- the telling says that the key was not live in the epoch, which was over by a moment
abbrev SaysAbsent : Telling → ℕ → ℕ → Type 0
SaysAbsent t e moment = (t.epoch ≡ e) × (t.live ≡ false) × (e < moment)

absence : (live : Bool) (e moment : ℕ) → (not live && nat_lt e moment) ≡ true → (live ≡ false) × (e < moment)
absence true e moment h = absurd (let bad : false ≡ true = h in cc)
absence false e moment h = (refl, lt-true e moment h)

push_absent : (start : ℕ) (told : List Telling) (t : Telling) (e : ℕ) → was_absent start e (told ++ t ∷ []) ≡ true → (was_absent start e told ≡ true) ⊎ SaysAbsent t e (max (latest start told) t.moment)
push_absent start told t e h = elim (cases_eq t.epoch e) [
  | inl is ↦ said is (or_cases (was_absent start e told) (not t.live && nat_lt e (max (latest start told) t.moment)) (sym (was_absent-push start e told t is) ∙ h))
  | inr other ↦ inl (sym (was_absent-push_other start e told t other) ∙ h)
] where
  said : t.epoch ≡ e → (was_absent start e told ≡ true) ⊎ ((not t.live && nat_lt e (max (latest start told) t.moment)) ≡ true) → (was_absent start e told ≡ true) ⊎ SaysAbsent t e (max (latest start told) t.moment)
  said is (inl x) = inl x
  said is (inr x) = let a = absence t.live e (max (latest start told) t.moment) x in inr (is, a.0, a.1)

push_live : (told : List Telling) (t : Telling) (e : ℕ) → was_live e told ≡ true → was_live e (told ++ t ∷ []) ≡ true
push_live told t e h = elim (cases_eq t.epoch e) [
  | inl is ↦ was_live-push e told t is ∙ or_first (was_live e told) t.live h
  | inr other ↦ was_live-push_other e told t other ∙ h
]

-- ---- one call

-- what is told of a key at a moment
abbrev telling : ℕ → Bool → ℕ → Telling
telling epoch live now = record { epoch = epoch; live = live; moment = now }

-- the call tells the desk so, or at such a moment
abbrev TellsAbsent : DeskCall → DeskReply → PubKey → ℕ → List Telling → ℕ → Type 0
TellsAbsent c r k start told e = (now : ℕ) × (c ≡ call.Answer k e false now) × (r ≡ reply.Noted) × (e < max (latest start told) now)

abbrev TellsAt : DeskCall → DeskReply → PubKey → ℕ → Type 0
TellsAt c r k m = (other : ℕ) × (live : Bool) × (now : ℕ) × (c ≡ call.Answer k other live now) × (r ≡ reply.Noted) × (m < now)

-- what a call makes of the watch of the key
abbrev Called : State → DeskCall → DeskReply → PubKey → ℕ → List Telling → Type 0
Called state c r k start told = More (after state c r) k start told (TellsAbsent c r k start told) (TellsAt c r k)

told_watch : (state : State) (k : PubKey) (epoch : ℕ) (live : Bool) (now start : ℕ) (told : List Telling) → Watches state k start told
    → Watches (after state (call.Answer k epoch live now) reply.Noted) k start (told ++ telling epoch live now ∷ [])
told_watch state k epoch live now start told w = record {
  on = w.on;
  watch = own_watch state.watching k (told_more (watch_of state.watching k) (telling epoch live now)) ∙ ap (λ x. told_more x (telling epoch live now)) w.watch;
}

told_here : (state : State) (k : PubKey) (epoch : ℕ) (live : Bool) (now start : ℕ) (told : List Telling) → Watches state k start told → Called state (call.Answer k epoch live now) reply.Noted k start told
told_here state k epoch live now start told w = record {
  now = told ++ telling epoch live now ∷ [];
  watches = told_watch state k epoch live now start told w;
  absent = λ e h. said e (push_absent start told (telling epoch live now) e h);
  seen = λ m lt. moment m lt (cases_lt m (latest start told));
  live = λ e h. push_live told (telling epoch live now) e h;
} where
  said : (e : ℕ) → (was_absent start e told ≡ true) ⊎ SaysAbsent (telling epoch live now) e (max (latest start told) now) → (was_absent start e told ≡ true) ⊎ TellsAbsent (call.Answer k epoch live now) reply.Noted k start told e
  said e (inl x) = inl x
  said e (inr x) = inr (now, (λ i. call.Answer k (x.0 i) (x.1 i) now), refl, x.2)

  moment : (m : ℕ) → m < latest start (told ++ telling epoch live now ∷ []) → (m < latest start told) ⊎ (latest start told ≤ m) → (m < latest start told) ⊎ TellsAt (call.Answer k epoch live now) reply.Noted k m
  moment m lt (inl x) = inl x
  moment m lt (inr x) = let pushed = latest-push start told (telling epoch live now) in inr (epoch, live, now, refl, refl, omega (arith, lt, pushed, x))

told_of : (state : State) (key k : PubKey) (epoch : ℕ) (live : Bool) (now start : ℕ) (told : List Telling) → (key ≡ k) ⊎ (key ≡ k → ⊥) → Watches state k start told → Called state (call.Answer key epoch live now) reply.Noted k start told
told_of state key k epoch live now start told (inl is) w =
    let P : PubKey → Type 0 = λ q. Called state (call.Answer q epoch live now) reply.Noted k start told in
    subst P (sym is) (told_here state k epoch live now start told w)
told_of state key k epoch live now start told (inr not) w =
    let c = call.Answer key epoch live now in
    stays state (after state c reply.Noted) k start told (TellsAbsent c reply.Noted k start told) (TellsAt c reply.Noted k) w refl (other_watch state.watching key k (told_more (watch_of state.watching key) (telling epoch live now)) not)

keys_apart : (key k : PubKey) → (key ≡ k) ⊎ (key ≡ k → ⊥)
keys_apart key k = at (is_at (key_cmp key) k) refl where
  at : (b : Bool) → is_at (key_cmp key) k ≡ b → (key ≡ k) ⊎ (key ≡ k → ⊥)
  at true e = inl (same_key key k e)
  at false e = inr (λ h. let P : PubKey → Type 0 = λ x. is_at (key_cmp key) x ≡ true in let bad : true ≡ false = sym (subst P h (at_itself key)) ∙ e in cc)

-- a call that tells nothing, and makes no key active
keeps : (state : State) (c : DeskCall) (r : DeskReply) (k : PubKey) (start : ℕ) (told : List Telling) → Watches state k start told → (after state c r).watching ≡ state.watching → Called state c r k start told
keeps state c r k start told w e = stays state (after state c r) k start told (TellsAbsent c r k start told) (TellsAt c r k) w (ap (λ x. x.on) e) (ap (λ x. watch_of x k) e)

call_tells : (state : State) (client : ℕ) (c : DeskCall) (r : DeskReply) (k : PubKey) (start : ℕ) (told : List Telling) → LeavesWatch client k (Call client c r) → Watches state k start told → Called state c r k start told
call_tells state client (call.Activate key now) reply.Active k start told leaves w =
    let c = call.Activate key now in
    stays state (after state c reply.Active) k start told (TellsAbsent c reply.Active k start told) (TellsAt c reply.Active k) w refl (other_watch state.watching key k (fresh_watch (max state.latest now)) (leaves refl))
call_tells state client (call.Answer key epoch live now) reply.Noted k start told leaves w = told_of state key k epoch live now start told (keys_apart key k) w
call_tells state client (call.Merge file) (reply.Merged keys) k start told leaves w = keeps state (call.Merge file) (reply.Merged keys) k start told w refl
call_tells state client (call.Propose key m now) (reply.Granted grant) k start told leaves w = keeps state (call.Propose key m now) (reply.Granted grant) k start told w refl
call_tells state client (call.Allow key now) (reply.Granted grant) k start told leaves w = keeps state (call.Allow key now) (reply.Granted grant) k start told w refl
call_tells state client (call.Settle grant o) reply.Settled k start told leaves w = keeps state (call.Settle grant o) reply.Settled k start told w refl
call_tells state client (call.BeginClose key) reply.CloseBegun k start told leaves w = keeps state (call.BeginClose key) reply.CloseBegun k start told w refl
call_tells state client (call.FinishClose key) (reply.Closed book) k start told leaves w = keeps state (call.FinishClose key) (reply.Closed book) k start told w refl
call_tells state client (call.Record ps now) reply.Recorded k start told leaves w = keeps state (call.Record ps now) reply.Recorded k start told w refl
call_tells state client (call.Prune key) (reply.Pruned book) k start told leaves w = keeps state (call.Prune key) (reply.Pruned book) k start told w refl
call_tells state client call.Compact (reply.Compacted before size) k start told leaves w = keeps state call.Compact (reply.Compacted before size) k start told w refl
call_tells state client c reply.Disk k start told leaves w = keeps state c reply.Disk k start told w refl
call_tells state client c r k start told leaves w = keeps state c r k start told w refl

-- ---- one event

-- the event tells the client so, or at such a moment
abbrev EventTells : Event → ℕ → PubKey → ℕ → List Telling → ℕ → Type 0
EventTells ev c k start told e = (now : ℕ) × (ev ≡ Call c (call.Answer k e false now) reply.Noted) × (e < max (latest start told) now)

abbrev EventAt : Event → ℕ → PubKey → ℕ → Type 0
EventAt ev c k m = (other : ℕ) × (live : Bool) × (now : ℕ) × (ev ≡ Call c (call.Answer k other live now) reply.Noted) × (m < now)

-- what it makes of the watch of the key
abbrev Happened : State → Event → ℕ → PubKey → ℕ → List Telling → Type 0
Happened new ev c k start told = More new k start told (EventTells ev c k start told) (EventAt ev c k)

of_call : (state : State) (c : ℕ) (cl : DeskCall) (r : DeskReply) (k : PubKey) (start : ℕ) (told : List Telling) → Called state cl r k start told → Happened (after state cl r) (Call c cl r) c k start told
of_call state c cl r k start told m = record {
  now = m.now;
  watches = m.watches;
  absent = λ e h. said e (m.absent e h);
  seen = λ n h. moment n (m.seen n h);
  live = m.live;
} where
  said : (e : ℕ) → (was_absent start e told ≡ true) ⊎ TellsAbsent cl r k start told e → (was_absent start e told ≡ true) ⊎ EventTells (Call c cl r) c k start told e
  said e (inl x) = inl x
  said e (inr x) = inr (x.0, (λ i. Call c (x.1 i) (x.2 i)), x.3)

  moment : (n : ℕ) → (n < latest start told) ⊎ TellsAt cl r k n → (n < latest start told) ⊎ EventAt (Call c cl r) c k n
  moment n (inl x) = inl x
  moment n (inr x) = inr (x.0, x.1, x.2, (λ i. Call c (x.3 i) (x.4 i)), x.5)

-- at the client itself
here_tells : (w : World) (ev : Event) (k : PubKey) (start : ℕ) (told : List Telling) → LeavesWatch (client_of ev) k ev → Watches (w.desks (client_of ev)) k start told
    → Happened (state_after (w.desks (client_of ev)) ev) ev (client_of ev) k start told
here_tells w (Call c cl r) k start told leaves h = of_call (w.desks c) c cl r k start told (call_tells (w.desks c) c cl r k start told leaves h)
here_tells w (Send c g m) k start told leaves h = stays (w.desks c) (w.desks c) k start told (EventTells (Send c g m) c k start told) (EventAt (Send c g m) c k) h refl refl
here_tells w (Crash c within done now watch) k start told leaves h = absurd (leaves refl)

event_tells : (w : World) (ev : Event) (c : ℕ) (k : PubKey) (start : ℕ) (told : List Telling) → LeavesWatch c k ev → Watches (w.desks c) k start told → Happened ((happens w ev).desks c) ev c k start told
event_tells w ev c k start told leaves h = at (same_client (client_of ev) c) where
  at : (client_of ev ≡ c) ⊎ (client_of ev ≡ c → ⊥) → Happened ((happens w ev).desks c) ev c k start told
  at (inl is) =
      let L : ℕ → Type 0 = λ n. LeavesWatch n k ev in
      let W : ℕ → Type 0 = λ n. Watches (w.desks n) k start told in
      let M : ℕ → Type 0 = λ n. Happened (state_after (w.desks n) ev) ev n k start told in
      let S : State → Type 0 = λ s. Happened s ev c k start told in
      subst S (sym (desk_here w ev c is)) (subst M is (here_tells w ev k start told (subst L (sym is) leaves) (subst W (sym is) h)))
  at (inr not) =
      let S : State → Type 0 = λ s. Happened s ev c k start told in
      subst S (sym (desk_there w ev c not)) (stays (w.desks c) (w.desks c) k start told (EventTells ev c k start told) (EventAt ev c k) h refl refl)

-- what was told live is live
told_same : (a b : Watched) → a ≡ b → a.told ≡ b.told
told_same a b e = ap (λ (x : Watched). x.told) e

live_told : (w : World) (c : ℕ) (k : PubKey) (start : ℕ) (told now : List Telling) (e moment : ℕ) → Watches (w.desks c) k start told
    → Watches ((happens w (Call c (call.Answer k e true moment) reply.Noted)).desks c) k start now → was_live e now ≡ true
live_told w c k start told now e moment h after_it =
    let ev = Call c (call.Answer k e true moment) reply.Noted in
    let t = telling e true moment in
    let W : State → Type 0 = λ s. Watches s k start now in
    let mine = told_watch (w.desks c) k e true moment start told h in
    let theirs = subst W (desk_here w ev c refl) after_it in
    let same : told ++ t ∷ [] ≡ now = told_same (record { start = start; told = told ++ t ∷ [] }) (record { start = start; told = now }) (sym mine.watch ∙ theirs.watch) in
    let L : List Telling → Type 0 = λ l. was_live e l ≡ true in
    subst L same (was_live-push e told t refl ∙ or_second (was_live e told) true refl)

-- ---- lists of events

-- so it was told in these events, or the epoch was over before them
abbrev Absent : List Event → ℕ → PubKey → ℕ → List Telling → ℕ → Type 0
Absent es c k start told e =
    (earlier : List Event) × (later : List Event) × (now : ℕ) × (es ≡ earlier ++ Call c (call.Answer k e false now) reply.Noted ∷ later) × (IsOver earlier c k e now ⊎ (e < latest start told))

abbrev MomentIn : List Event → ℕ → PubKey → ℕ → Type 0
MomentIn es c k m = (other : ℕ) × (live : Bool) × (moment : ℕ) × Contains es (Call c (call.Answer k other live moment) reply.Noted) × (m < moment)

record MoreOver (w : World) (es : List Event) (c : ℕ) (k : PubKey) (start : ℕ) (told : List Telling) : Type 0 where
  more : More ((run w es).desks c) k start told (Absent es c k start told) (MomentIn es c k)
  lives : (e moment : ℕ) → Contains es (Call c (call.Answer k e true moment) reply.Noted) → was_live e more.now ≡ true

first_in : (ev x : Event) (es : List Event) → ev ≡ x → Contains (ev ∷ es) x
first_in ev x es e = let P : Event → Type 0 = λ y. Contains (ev ∷ es) y in subst P e (Contains-append_left (ev ∷ []) es ev (0, grind arith, refl))

later_in : (ev x : Event) (es : List Event) → Contains es x → Contains (ev ∷ es) x
later_in ev x es h = Contains-append_right (ev ∷ []) es x h

more_over : (w : World) (es : List Event) (c : ℕ) (k : PubKey) (start : ℕ) (told : List Telling) → All (LeavesWatch c k) es → Watches (w.desks c) k start told → MoreOver w es c k start told
more_over w [] c k start told leaves h = record {
  more = stays (w.desks c) (w.desks c) k start told (Absent [] c k start told) (MomentIn [] c k) h refl refl;
  lives = λ e moment x. contains_none (Call c (call.Answer k e true moment) reply.Noted) x;
}
more_over w (ev ∷ es) c k start told leaves h = both (event_tells w ev c k start told (All-head (LeavesWatch c k) ev es leaves) h) (λ now x. more_over (happens w ev) es c k start now (All-tail (LeavesWatch c k) ev es leaves) x) where
  both : (m : Happened ((happens w ev).desks c) ev c k start told) → ((now : List Telling) → Watches ((happens w ev).desks c) k start now → MoreOver (happens w ev) es c k start now) → MoreOver w (ev ∷ es) c k start told
  both m rest = record {
    more = record {
      now = r.more.now;
      watches = r.more.watches;
      absent = λ e x. later e (r.more.absent e x);
      seen = λ n x. moment n (r.more.seen n x);
      live = λ e x. r.more.live e (m.live e x);
    };
    lives = λ e at x. lives e at (contains_cases ev es (Call c (call.Answer k e true at) reply.Noted) x);
  } where
    r : MoreOver (happens w ev) es c k start m.now
    r = rest m.now m.watches

    when : (e now : ℕ) → e < max (latest start told) now → (e < now) ⊎ (now ≤ e) → IsOver [] c k e now ⊎ (e < latest start told)
    when e now lt (inl less) = inl (inl less)
    when e now lt (inr le) = inr (omega (arith, lt, le))

    -- the first event tells it
    now_or : (e : ℕ) → (was_absent start e told ≡ true) ⊎ EventTells ev c k start told e → (was_absent start e told ≡ true) ⊎ Absent (ev ∷ es) c k start told e
    now_or e (inl x) = inl x
    now_or e (inr x) = inr ([], es, x.0, ap (λ y. y ∷ es) x.1, when e x.0 x.2 (cases_lt e x.0))

    by_first : (e : ℕ) (earlier : List Event) (now : ℕ) → (e < latest start told) ⊎ EventAt ev c k e → IsOver (ev ∷ earlier) c k e now ⊎ (e < latest start told)
    by_first e earlier now (inl x) = inr x
    by_first e earlier now (inr x) = inl (inr (x.0, x.1, x.2, first_in ev (Call c (call.Answer k x.0 x.1 x.2) reply.Noted) earlier x.3, x.4))

    over : (e : ℕ) (earlier : List Event) (now : ℕ) → IsOver earlier c k e now ⊎ (e < latest start m.now) → IsOver (ev ∷ earlier) c k e now ⊎ (e < latest start told)
    over e earlier now (inl (inl x)) = inl (inl x)
    over e earlier now (inl (inr x)) = inl (inr (x.0, x.1, x.2, later_in ev (Call c (call.Answer k x.0 x.1 x.2) reply.Noted) earlier x.3, x.4))
    over e earlier now (inr x) = by_first e earlier now (m.seen e x)

    later : (e : ℕ) → (was_absent start e m.now ≡ true) ⊎ Absent es c k start m.now e → (was_absent start e told ≡ true) ⊎ Absent (ev ∷ es) c k start told e
    later e (inl x) = now_or e (m.absent e x)
    later e (inr x) = inr (ev ∷ x.0, x.1, x.2, ap (λ l. ev ∷ l) x.3, over e x.0 x.2 x.4)

    first_moment : (n : ℕ) → (n < latest start told) ⊎ EventAt ev c k n → (n < latest start told) ⊎ MomentIn (ev ∷ es) c k n
    first_moment n (inl x) = inl x
    first_moment n (inr x) = inr (x.0, x.1, x.2, first_in ev (Call c (call.Answer k x.0 x.1 x.2) reply.Noted) es x.3, x.4)

    moment : (n : ℕ) → (n < latest start m.now) ⊎ MomentIn es c k n → (n < latest start told) ⊎ MomentIn (ev ∷ es) c k n
    moment n (inl x) = first_moment n (m.seen n x)
    moment n (inr x) = inr (x.0, x.1, x.2, later_in ev (Call c (call.Answer k x.0 x.1 x.2) reply.Noted) es x.3, x.4)

    lives : (e at : ℕ) → (ev ≡ Call c (call.Answer k e true at) reply.Noted) ⊎ Contains es (Call c (call.Answer k e true at) reply.Noted) → was_live e r.more.now ≡ true
    lives e at (inl is) =
        let W : Event → Type 0 = λ x. Watches ((happens w x).desks c) k start m.now in
        r.more.live e (live_told w c k start told m.now e at h (subst W is m.watches))
    lives e at (inr x) = r.lives e at x

-- ---- what lets a key sign

silent : (state : State) (k : PubKey) (start : ℕ) (told : List Telling) → Watches state k start told → IsAllowed state k → IsSeenSilent start told
silent state k start told w allowed = (state_allowed start told).0 (sym (ap (λ b. standing_under b (record { start = start; told = told })) w.on) ∙ (sym (ap (λ x. standing_under state.watching.on x) w.watch) ∙ allowed))

allowed_at : (state : State) (c : ℕ) (k : PubKey) (cl : DeskCall) (r : DeskReply) → Reply state cl r → GrantsAt c k (Call c cl r) → IsAllowed state k
allowed_at state c k (call.Propose key m now) (reply.Granted grant) h g = let P : PubKey → Type 0 = λ q. IsAllowed state q in subst P g.1 h.0.1.1
allowed_at state c k (call.Allow key now) (reply.Granted grant) h g = let P : PubKey → Type 0 = λ q. IsAllowed state q in subst P g.1 h.0.1.1
allowed_at state c k cl r h g = absurd g

grants_there : (c d : ℕ) (k : PubKey) (cl : DeskCall) (r : DeskReply) → GrantsAt c k (Call d cl r) → d ≡ c
grants_there c d k (call.Propose key m now) (reply.Granted grant) g = g.0
grants_there c d k (call.Allow key now) (reply.Granted grant) g = g.0
grants_there c d k cl r g = absurd g

allowed_by : (w : World) (ev : Event) (c : ℕ) (k : PubKey) → MayHappen w ev → GrantsAt c k ev → IsAllowed (w.desks c) k
allowed_by w (Call d cl r) c k may g =
    let is = grants_there c d k cl r g in
    let R : ℕ → Type 0 = λ n. Reply (w.desks n) cl r in
    let G : ℕ → Type 0 = λ n. GrantsAt c k (Call n cl r) in
    allowed_at (w.desks c) c k cl r (subst R is may) (subst G is g)
allowed_by w (Send d g m) c k may x = absurd x
allowed_by w (Crash d within done now watch) c k may x = absurd x

-- ---- where a watch begins

begun_at : (state : State) (ev : Event) (k : PubKey) (start : ℕ) → BeginsWatch state ev k start → Watches (state_after state ev) k start []
begun_at state (Call c (call.Activate key now) reply.Active) k start b =
    let P : PubKey → Type 0 = λ q. Watches (state_after state (Call c (call.Activate key now) reply.Active)) q start [] in
    let S : ℕ → Type 0 = λ n. Watches (state_after state (Call c (call.Activate key now) reply.Active)) key n [] in
    subst P b.0 (subst S (sym b.2) (record { on = b.1; watch = own_watch state.watching key (fresh_watch (max state.latest now)) }))
begun_at state (Crash c within done now true) k start b =
    let S : ℕ → Type 0 = λ n. Watches (state_after state (Crash c within done now true)) k n [] in
    subst S (sym b) (record { on = refl; watch = refl })
begun_at state ev k start b = absurd b

run_split : (w : World) (es : List Event) (last : Event) → IsRun w (es ++ last ∷ []) → MayHappen (run w es) last
run_split w [] last h = h.0
run_split w (e ∷ es) last h = run_split (happens w e) es last h.1

pub watches_first : WatchesFirst
watches_first w first last between c k start runs at begins leaves grants =
    let v = happens w first in
    let S : State → Type 0 = λ s. Watches s k start [] in
    let begun : Watches (v.desks c) k start [] = subst S (sym (desk_here w first c at)) (begun_at (w.desks c) first k start begins) in
    let over = more_over v between c k start [] leaves begun in
    let quiet = silent ((run v between).desks c) k start over.more.now over.more.watches (allowed_by (run v between) last c k (run_split v between last runs.1) grants) in (
      (told (start + 1) (omega arith) (over.more.absent (start + 1) quiet.first_absent), λ moment x. never (was_live (start + 1) over.more.now) (over.lives (start + 1) moment x) quiet.first_not_live),
      (told (start + 2) (omega arith) (over.more.absent (start + 2) quiet.second_absent), λ moment x. never (was_live (start + 2) over.more.now) (over.lives (start + 2) moment x) quiet.second_not_live),
    ) where
      sure : (e now : ℕ) (es : List Event) → start < e → IsOver es c k e now ⊎ (e < start) → IsOver es c k e now
      sure e now es lt (inl y) = y
      sure e now es lt (inr y) = absurd (omega (arith, lt, y))

      told : (e : ℕ) → start < e → (was_absent start e [] ≡ true) ⊎ Absent between c k start [] e → IsToldAbsent between c k e
      told e lt (inl x) = absurd (let bad : false ≡ true = x in cc)
      told e lt (inr x) = (x.0, x.1, x.2, x.3, sure e x.2 x.0 lt x.4)

      never : (b : Bool) → b ≡ true → b ≡ false → ⊥
      never b was not = let bad : true ≡ false = sym was ∙ not in cc
