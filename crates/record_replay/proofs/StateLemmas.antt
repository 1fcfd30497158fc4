-- The states that items say, and those that outlast a stop.
use Rattle.std.proofs.Common.{◌≡◌, Bool, true, false, cond, List, [], ◌∷◌, ◌++◌, fold, None, Some, Option, refl, sym, ◌∙◌, ap, subst}
use Rattle.std.specs.Prelude.{IsSome}
use Rattle.std.specs.BTreeMap.{is_at}
use Rattle.std.specs.List.Sorted.{IsStrictlySortedBy}
use Rattle.std.specs.Map.{keys_of}
use Rattle.std.specs.Option.{option_map}
use Rattle.std.specs.Ordering.{match_ordering}
use Rattle.std.specs.declared.cmp.Ordering.{Ordering}
use Rattle.std.specs.declared.cmp.Ordering.TheVariants.{Less, Equal, Greater}
use Rattle.std.proofs.lemmas.List.Sums.{fold-append}
use Rattle.std.proofs.lemmas.Map.Steps.{set_value_same}
use Rattle.edge_kit.specs.declared.bytes.PubKey.{PubKey}
use Rattle.interchange_io.proofs.OnceLemmas.{nothing_sorted, sorted_inserted}
use Rattle.record_codec.specs.declared.item.JournalItem.{JournalItem}
use Rattle.record_codec.specs.declared.item.JournalItem.TheVariants as item
use Rattle.record_join.specs.Keys.{key_cmp, kept_of, with_key, with_kept}
use Rattle.record_join.specs.KeyLaws.{key_total, put_kept}
use Rattle.record_replay.specs.Items.{states_in, with_state}
use Rattle.record_replay.specs.Watches.{Watched, watches_in, with_watch}
use Rattle.record_replay.specs.Replaying.{lasting_state, lasting_states}
use Rattle.record_replay.specs.declared.state.KeyState.{KeyState}
use Rattle.record_replay.specs.declared.state.KeyState.TheVariants.{Active, Closing, Closed}
use Rattle.record_replay.proofs.NamedLemmas.{keys_with}

lasting_with : (states : List (PubKey × KeyState)) (k : PubKey) (s : KeyState) → lasting_states (with_key states k s) ≡ with_key (lasting_states states) k (lasting_state s)
lasting_with [] k s = refl
lasting_with (a ∷ more) k s = at (key_cmp k a.0) (lasting_with more k s) where
  at : (o : Ordering) → lasting_states (with_key more k s) ≡ with_key (lasting_states more) k (lasting_state s)
      → lasting_states (match_ordering o ((k, s) ∷ a ∷ more) ((a.0, s) ∷ more) (a ∷ with_key more k s))
      ≡ match_ordering o ((k, lasting_state s) ∷ (a.0, lasting_state a.1) ∷ lasting_states more) ((a.0, lasting_state s) ∷ lasting_states more) ((a.0, lasting_state a.1) ∷ with_key (lasting_states more) k (lasting_state s))
  at Less rest = refl
  at Equal rest = refl
  at Greater rest = ap (λ l. (a.0, lasting_state a.1) ∷ l) rest

lasting_kept : (states : List (PubKey × KeyState)) (k : PubKey) (s : KeyState) → lasting_states (with_kept states k s) ≡ with_kept (lasting_states states) k (lasting_state s)
lasting_kept [] k s = refl
lasting_kept (a ∷ more) k s = at (is_at (key_cmp k) a.0) (lasting_kept more k s) where
  at : (b : Bool) → lasting_states (with_kept more k s) ≡ with_kept (lasting_states more) k (lasting_state s)
      → lasting_states (cond b ((a.0, s) ∷ more) (a ∷ with_kept more k s)) ≡ cond b ((a.0, lasting_state s) ∷ lasting_states more) ((a.0, lasting_state a.1) ∷ with_kept (lasting_states more) k (lasting_state s))
  at true rest = refl
  at false rest = ap (λ l. (a.0, lasting_state a.1) ∷ l) rest

kept_lasting : (states : List (PubKey × KeyState)) (k : PubKey) → kept_of (lasting_states states) k ≡ option_map lasting_state (kept_of states k)
kept_lasting [] k = refl
kept_lasting (a ∷ more) k = at (is_at (key_cmp k) a.0) (kept_lasting more k) where
  at : (b : Bool) → kept_of (lasting_states more) k ≡ option_map lasting_state (kept_of more k) → cond b (Some (lasting_state a.1)) (kept_of (lasting_states more) k) ≡ option_map lasting_state (cond b (Some a.1) (kept_of more k))
  at true rest = refl
  at false rest = rest

some_lasting : (o : Option KeyState) → IsSome o → IsSome (option_map lasting_state o)
some_lasting None found = found
some_lasting (Some s) found = refl

step_sorted : (states : List (PubKey × KeyState)) (i : JournalItem) → IsStrictlySortedBy key_cmp (keys_of states) → IsStrictlySortedBy key_cmp (keys_of (with_state states i))
step_sorted states (item.ActivateUndated key) sorted = subst (IsStrictlySortedBy key_cmp) (sym (keys_with states key Active)) (sorted_inserted key_cmp key_total key (keys_of states) sorted)
step_sorted states (item.Activate key epoch) sorted = subst (IsStrictlySortedBy key_cmp) (sym (keys_with states key Active)) (sorted_inserted key_cmp key_total key (keys_of states) sorted)
step_sorted states (item.Answer key epoch live moment) sorted = sorted
step_sorted states (item.Close key) sorted = subst (IsStrictlySortedBy key_cmp) (sym (keys_with states key Closed)) (sorted_inserted key_cmp key_total key (keys_of states) sorted)
step_sorted states (item.Block key entry) sorted = sorted
step_sorted states (item.Vote key entry) sorted = sorted
step_sorted states (item.Floors key block vote) sorted = sorted

all_sorted : (states : List (PubKey × KeyState)) (items : List JournalItem) → IsStrictlySortedBy key_cmp (keys_of states) → IsStrictlySortedBy key_cmp (keys_of (fold with_state states items))
all_sorted states [] sorted = sorted
all_sorted states (i ∷ items) sorted = all_sorted (with_state states i) items (step_sorted states i sorted)

states_sorted : (items : List JournalItem) → IsStrictlySortedBy key_cmp (keys_of (states_in items))
states_sorted items = all_sorted [] items nothing_sorted

-- items that change no state
pub states_more : (items more : List JournalItem) → ((states : List (PubKey × KeyState)) → fold with_state states more ≡ states) → states_in (items ++ more) ≡ states_in items
states_more items more none = fold-append with_state [] items more ∙ none (states_in items)

-- items that change no watch
pub watches_more : (items more : List JournalItem) → ((watched : List (PubKey × Watched)) → fold with_watch watched more ≡ watched) → watches_in (items ++ more) ≡ watches_in items
watches_more items more none = fold-append with_watch [] items more ∙ none (watches_in items)

-- one more item
pub watches_one : (items : List JournalItem) (i : JournalItem) (watched : List (PubKey × Watched)) → watches_in items ≡ watched → watches_in (items ++ i ∷ []) ≡ with_watch watched i
watches_one items i watched is = fold-append with_watch [] items (i ∷ []) ∙ ap (λ l. with_watch l i) is

-- an activation, of whichever version
pub states_activated : (items : List JournalItem) (states : List (PubKey × KeyState)) (key : PubKey) (i : JournalItem) → ((l : List (PubKey × KeyState)) → with_state l i ≡ with_key l key Active) → states_in items ≡ lasting_states states
    → states_in (items ++ i ∷ []) ≡ lasting_states (with_key states key Active)
states_activated items states key i says is = fold-append with_state [] items (i ∷ []) ∙ says (states_in items) ∙ ap (λ l. with_key l key Active) is ∙ sym (lasting_with states key Active)

pub states_closing : (items : List JournalItem) (states : List (PubKey × KeyState)) (key : PubKey) → states_in items ≡ lasting_states states → kept_of states key ≡ Some Active
    → states_in items ≡ lasting_states (with_kept states key Closing)
states_closing items states key is active =
    is ∙ sym (lasting_kept states key Closing ∙ set_value_same (is_at (key_cmp key)) (lasting_states states) Active (kept_lasting states key ∙ ap (λ o. option_map lasting_state o) active))

pub states_closed : (items : List JournalItem) (states : List (PubKey × KeyState)) (key : PubKey) → states_in items ≡ lasting_states states → IsSome (kept_of states key)
    → states_in (items ++ item.Close key ∷ []) ≡ lasting_states (with_kept states key Closed)
states_closed items states key is found =
    fold-append with_state [] items (item.Close key ∷ []) ∙ ap (λ l. with_key l key Closed) is
    ∙ put_kept (lasting_states states) key Closed (subst (λ l. IsStrictlySortedBy key_cmp (keys_of l)) is (states_sorted items)) (subst IsSome (sym (kept_lasting states key)) (some_lasting (kept_of states key) found))
    ∙ sym (lasting_kept states key Closed)
