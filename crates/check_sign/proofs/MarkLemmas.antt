-- The states of keys where one of them is changed, and the desk beside them.
use Rattle.std.proofs.Common.{◌≡◌, ◌⊎◌, inl, inr, ℕ, max, Bool, true, false, cond, List, [], ◌∷◌, Option, Some, None, refl, sym, ◌∙◌, ap}
use Rattle.std.specs.Prelude.{IsSome, is_some}
use Rattle.std.specs.BTreeMap.{is_at}
use Rattle.std.specs.Map.{keys_of, remove_entry}
use Rattle.std.specs.List.Sorted.{IsStrictlySortedBy}
use Rattle.std.specs.Option.{unwrap_or}
use Rattle.std.proofs.lemmas.Map.Steps.{set_value_same}
use Rattle.edge_kit.specs.declared.bytes.PubKey.{PubKey}
use Rattle.record_join.specs.Keys.{key_cmp, kept_of, with_key, with_kept}
use Rattle.record_join.specs.KeyLaws.{kept_here, put_kept, taken_out}
use Rattle.record_codec.specs.declared.version.JournalVersion.TheVariants.{One}
use Rattle.record_replay.specs.declared.state.KeyState.{KeyState}
use Rattle.record_replay.specs.declared.state.KeyState.TheVariants.{Known, Active, Closing, Closed}
use Rattle.protect_record.specs.Parts.{Parts}
use Rattle.record_join.specs.BooksPasts.{BooksStand}
use Rattle.record_replay.specs.Items.{items_in}
use Rattle.record_replay.specs.Replaying.{ItemsStand}
use Rattle.check_sign.specs.Contents.{Contents}
use Rattle.desk_machine.specs.declared.event.DeskEvent.{DeskEvent}
use Rattle.desk_machine.specs.declared.open_grant.OpenGrant.{OpenGrant}
use Rattle.desk_machine.specs.States.{State, key_state}
use Rattle.desk_machine.specs.Watches.{KeptWatches, WatchesStand}
use Rattle.check_sign.specs.Standing.{DeskStands}

-- ---- a key is again what it was

kept_twice : (es : List (PubKey × KeyState)) (key : PubKey) (s t : KeyState) → with_kept (with_kept es key s) key t ≡ with_kept es key t
kept_twice [] key s t = refl
kept_twice (e ∷ es) key s t = at (is_at (key_cmp key) e.0) refl (kept_twice es key s t) where
  at : (b : Bool) → is_at (key_cmp key) e.0 ≡ b → with_kept (with_kept es key s) key t ≡ with_kept es key t
      → with_kept (cond b ((e.0, s) ∷ es) (e ∷ with_kept es key s)) key t ≡ cond b ((e.0, t) ∷ es) (e ∷ with_kept es key t)
  at true is rest = rw is refl
  at false is rest = rw is (ap (λ l. e ∷ l) rest)

pub restored : (old marked new : List (PubKey × KeyState)) (key : PubKey) (s : KeyState) → IsStrictlySortedBy key_cmp (keys_of old) → kept_of old key ≡ Some s → marked ≡ with_key old key Active
    → (IsSome (kept_of marked key) → new ≡ with_kept marked key s) → new ≡ old
restored old marked new key s sorted found is set =
    let some : IsSome (kept_of marked key) = rw (is, kept_here old key Active) refl in
    set some ∙ ap (λ l. with_kept l key s) (is ∙ put_kept old key Active sorted (rw found refl)) ∙ kept_twice old key Active s ∙ set_value_same (is_at (key_cmp key)) old s found

pub unnoted : (old marked new : List (PubKey × KeyState)) (key : PubKey) → kept_of old key ≡ None → marked ≡ with_key old key Active → new ≡ remove_entry (is_at (key_cmp key)) marked → new ≡ old
unnoted old marked new key none is removed = removed ∙ ap (λ l. remove_entry (is_at (key_cmp key)) l) is ∙ taken_out old key Active none

-- ---- the state of a key, at the desk and at the state

pub none_if : {X : Type 0} (b : Bool) (o : Option X) → b ≡ is_some o → b ≡ false → o ≡ None
none_if b None e off = refl
none_if b (Some x) e off = absurd (let bad : true ≡ false = sym e ∙ off in cc)

pub state_at : (r : KeyState) (states held : List (PubKey × KeyState)) (key : PubKey) (s : KeyState) → r ≡ key_state states key → states ≡ held → kept_of held key ≡ Some s → r ≡ s
state_at r states held key s is same found = is ∙ ap (λ l. key_state l key) same ∙ ap (λ o. unwrap_or o Known) found

not_both : (r : KeyState) → (r ≡ Known) ⊎ (r ≡ Closed) → (r ≡ Active → ⊥) × (r ≡ Closing → ⊥)
not_both r (inl e) = (λ h. let bad : Known ≡ Active = sym e ∙ h in cc, λ h. let bad : Known ≡ Closing = sym e ∙ h in cc)
not_both r (inr e) = (λ h. let bad : Closed ≡ Active = sym e ∙ h in cc, λ h. let bad : Closed ≡ Closing = sym e ∙ h in cc)

pub idle_at : (r : KeyState) (states held : List (PubKey × KeyState)) (key : PubKey) → r ≡ key_state states key → states ≡ held → (r ≡ Known) ⊎ (r ≡ Closed)
    → (kept_of held key ≡ Some Active → ⊥) × (kept_of held key ≡ Some Closing → ⊥)
idle_at r states held key is same either =
    let not = not_both r either in
    (λ h. not.0 (state_at r states held key Active is same h), λ h. not.1 (state_at r states held key Closing is same h))

some_state : (o : Option KeyState) (s : KeyState) → (s ≡ Known → ⊥) → unwrap_or o Known ≡ s → o ≡ Some s
some_state None s known e = absurd (known (sym e))
some_state (Some t) s known e = ap (λ x. Some x) e

pub found_at : (r : KeyState) (states held : List (PubKey × KeyState)) (key : PubKey) (s : KeyState) → r ≡ key_state states key → states ≡ held → (s ≡ Known → ⊥) → r ≡ s → kept_of held key ≡ Some s
found_at r states held key s is same known e = some_state (kept_of held key) s known (sym (is ∙ ap (λ l. key_state l key) same) ∙ e)

-- ---- a desk that is as it was but for room, and a later moment

pub later : (desk : Contents) (state : State) (keys : List (PubKey × Parts)) (states : List (PubKey × KeyState)) (grants : List OpenGrant) (next : ℕ) (watches : KeptWatches) (events : List DeskEvent) (latest now : ℕ) → DeskStands desk state
    → BooksStand keys state.keys → states ≡ desk.states → grants ≡ desk.grants → next ≡ desk.next → WatchesStand watches state.watching → latest ≡ max desk.latest now
    → DeskStands (record desk { keys = keys; states = states; grants = grants; next = next; watches = watches; events = events; latest = latest }) (record state { latest = max state.latest now })
later desk state keys states grants next watches events latest now s each held granted counts watched moment = record {
  genesis = s.genesis;
  keys = each;
  states = held ∙ s.states;
  grants = granted ∙ s.grants;
  next = counts ∙ s.next;
  latest = moment ∙ ap (λ m. max m now) s.latest;
  watches = watched;
  size = s.size;
  payloads = s.payloads;
  torn = s.torn;
}

-- ---- an active key that begins to be closed

active_known : Active ≡ Known → ⊥
active_known e = cc

closing_known : Closing ≡ Known → ⊥
closing_known e = cc

pub active_at : (r : KeyState) (states held : List (PubKey × KeyState)) (key : PubKey) → r ≡ key_state states key → states ≡ held → r ≡ Active → kept_of held key ≡ Some Active
active_at r states held key is same e = found_at r states held key Active is same active_known e

pub closing_at : (r : KeyState) (states held : List (PubKey × KeyState)) (key : PubKey) → r ≡ key_state states key → states ≡ held → r ≡ Closing → kept_of held key ≡ Some Closing
closing_at r states held key is same e = found_at r states held key Closing is same closing_known e

pub begun_closing : (desk : Contents) (state : State) (key : PubKey) (states : List (PubKey × KeyState)) (events : List DeskEvent) → DeskStands desk state → states ≡ with_kept desk.states key Closing
    → ItemsStand (items_in One desk.payloads) state.keys (with_kept state.states key Closing) []
    → DeskStands (record desk { states = states; events = events }) (record state { states = with_kept state.states key Closing })
begun_closing desk state key states events s is items = record {
  genesis = s.genesis;
  keys = s.keys;
  states = is ∙ ap (λ l. with_kept l key Closing) s.states;
  grants = s.grants;
  next = s.next;
  latest = s.latest;
  watches = s.watches;
  size = s.size;
  payloads = record { items = items; size = s.payloads.size; generation = s.payloads.generation };
  torn = s.torn;
}
