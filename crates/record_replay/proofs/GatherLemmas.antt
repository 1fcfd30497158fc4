-- What is gathered where one more item comes.
use Rattle.std.proofs.Common.{◌≡◌, ℕ, ◌+◌, ◌<◌, Bool, true, false, List, [], ◌∷◌, ◌++◌, length, get_or, map, take, drop, fold, Some, None, Result, refl, sym, ◌∙◌, ap, subst}
use Rattle.std.specs.Prelude.{IsSome, OnOk}
use Rattle.std.specs.List.{slice_get}
use Rattle.std.specs.List.Sorted.{IsStrictlySortedBy}
use Rattle.std.specs.Ordering.{match_ordering}
use Rattle.std.specs.declared.cmp.Ordering.{Ordering}
use Rattle.std.specs.declared.cmp.Ordering.TheVariants.{Less, Equal, Greater}
use Rattle.std.specs.BTreeMap.{is_at}
use Rattle.std.specs.BTreeSet.{insert_key}
use Rattle.std.specs.Map.{keys_of}
use Rattle.std.proofs.lemmas.List.{append-nil, append_assoc, map-append, take_more}
use Rattle.std.proofs.lemmas.List.Concat.{flat_map-append}
use Rattle.std.proofs.lemmas.List.Sums.{fold-append}
use Rattle.std.proofs.lemmas.Option.{none-some}
use Rattle.std.proofs.lemmas.Result.{MatchResult-weaker}
use Rattle.edge_kit.specs.declared.bytes.PubKey.{PubKey}
use Rattle.protect_record.specs.declared.floors.Floors.{Floors}
use Rattle.protect_record.specs.Parts.{no_floors}
use Rattle.protect_record.specs.Floors.{greater_floors}
use Rattle.protect_record.proofs.BoundLemmas.{same_floors, greater-none, greater_pair-none}
use Rattle.doppel_watch.specs.declared.watch.Watch.{Watch}
use Rattle.record_codec.specs.declared.version.JournalVersion.{JournalVersion}
use Rattle.record_codec.specs.declared.item.JournalItem.{JournalItem}
use Rattle.record_codec.specs.declared.item.JournalItem.TheVariants as item
use Rattle.record_join.specs.Keys.{key_cmp, kept_of, with_key, with_kept}
use Rattle.record_join.specs.KeyLaws.{at_itself, same_key, apart_back, kept_here, kept_apart, put_kept}
use Rattle.record_codec.specs.Reading.{batch_of}
use Rattle.record_replay.specs.Items.{items_in, items_or_none, key_of, named_keys, blocks_of, votes_of, floors_of_item, blocks_in, votes_in, floors_in, states_in, with_state}
use Rattle.record_replay.specs.Watches.{AreWatchesOf, Watched, watches_in, with_watch}
use Rattle.record_replay.specs.Gathering.{Gains, with_gain, gains_in, known_gains, with_item, IsGathered}
use Rattle.record_replay.specs.declared.state.KeyState.{KeyState}

-- what one more item adds to each part
blocks_more : (items : List JournalItem) (one : JournalItem) (key : PubKey) → blocks_in (items ++ one ∷ []) key ≡ blocks_in items key ++ blocks_of key one
blocks_more items one key = flat_map-append (blocks_of key) items (one ∷ []) ∙ ap (λ xs. blocks_in items key ++ xs) (append-nil (blocks_of key one))

votes_more : (items : List JournalItem) (one : JournalItem) (key : PubKey) → votes_in (items ++ one ∷ []) key ≡ votes_in items key ++ votes_of key one
votes_more items one key = flat_map-append (votes_of key) items (one ∷ []) ∙ ap (λ xs. votes_in items key ++ xs) (append-nil (votes_of key one))

floors_more : (items : List JournalItem) (one : JournalItem) (key : PubKey) → floors_in (items ++ one ∷ []) key ≡ greater_floors (floors_in items key) (floors_of_item key one)
floors_more items one key =
    ap (λ xs. fold greater_floors no_floors xs) (map-append (floors_of_item key) items (one ∷ []))
    ∙ fold-append greater_floors no_floors (map (floors_of_item key) items) (floors_of_item key one ∷ [])

named_more : (items : List JournalItem) (one : JournalItem) → named_keys (items ++ one ∷ []) ≡ insert_key key_cmp (named_keys items) (key_of one)
named_more items one =
    ap (λ xs. fold (insert_key key_cmp) [] xs) (map-append key_of items (one ∷ []))
    ∙ fold-append (insert_key key_cmp) [] (map key_of items) (key_of one ∷ [])

states_more : (items : List JournalItem) (one : JournalItem) → states_in (items ++ one ∷ []) ≡ with_state (states_in items) one
states_more items one = fold-append with_state [] items (one ∷ [])

greater_none : (floors : Floors) → greater_floors floors no_floors ≡ floors
greater_none floors = same_floors _ _ (greater-none floors.block) (greater_pair-none floors.vote)

same_gains : (a b : Gains) → a.floors ≡ b.floors → a.blocks ≡ b.blocks → a.votes ≡ b.votes → a ≡ b
same_gains a b p q r = ap (λ f. record { floors = f; blocks = a.blocks; votes = a.votes }) p ∙ ap (λ x. record { floors = b.floors; blocks = x; votes = a.votes }) q ∙ ap (λ x. record { floors = b.floors; blocks = b.blocks; votes = x }) r

-- what an item adds to what is said of a key
gains_more : (items : List JournalItem) (one : JournalItem) (key : PubKey)
    → gains_in (items ++ one ∷ []) key ≡ record { floors = greater_floors (floors_in items key) (floors_of_item key one); blocks = blocks_in items key ++ blocks_of key one; votes = votes_in items key ++ votes_of key one }
gains_more items one key = same_gains _ _ (floors_more items one key) (blocks_more items one key) (votes_more items one key)

-- of its own key
said : (gains : Gains) (one : JournalItem)
    → with_gain gains one ≡ record { floors = greater_floors gains.floors (floors_of_item (key_of one) one); blocks = gains.blocks ++ blocks_of (key_of one) one; votes = gains.votes ++ votes_of (key_of one) one }
said gains (item.Block key entry) = rw (at_itself key) (same_gains _ _ (sym (greater_none gains.floors)) refl (sym (append-nil gains.votes)))
said gains (item.Vote key entry) = rw (at_itself key) (same_gains _ _ (sym (greater_none gains.floors)) (sym (append-nil gains.blocks)) refl)
said gains (item.Floors key block vote) = rw (at_itself key) (same_gains _ _ refl (sym (append-nil gains.blocks)) (sym (append-nil gains.votes)))
said gains (item.ActivateUndated key) = same_gains _ _ (sym (greater_none gains.floors)) (sym (append-nil gains.blocks)) (sym (append-nil gains.votes))
said gains (item.Answer key epoch live moment) = same_gains _ _ (sym (greater_none gains.floors)) (sym (append-nil gains.blocks)) (sym (append-nil gains.votes))
said gains (item.Activate key epoch) = same_gains _ _ (sym (greater_none gains.floors)) (sym (append-nil gains.blocks)) (sym (append-nil gains.votes))
said gains (item.Close key) = same_gains _ _ (sym (greater_none gains.floors)) (sym (append-nil gains.blocks)) (sym (append-nil gains.votes))

-- of another key
unsaid : (gains : Gains) (one : JournalItem) (key : PubKey) → is_at (key_cmp key) (key_of one) ≡ false
    → gains ≡ record { floors = greater_floors gains.floors (floors_of_item key one); blocks = gains.blocks ++ blocks_of key one; votes = gains.votes ++ votes_of key one }
unsaid gains (item.Block k entry) key other = rw other (same_gains _ _ (sym (greater_none gains.floors)) (sym (append-nil gains.blocks)) (sym (append-nil gains.votes)))
unsaid gains (item.Vote k entry) key other = rw other (same_gains _ _ (sym (greater_none gains.floors)) (sym (append-nil gains.blocks)) (sym (append-nil gains.votes)))
unsaid gains (item.Floors k block vote) key other = rw other (same_gains _ _ (sym (greater_none gains.floors)) (sym (append-nil gains.blocks)) (sym (append-nil gains.votes)))
unsaid gains (item.ActivateUndated k) key other = same_gains _ _ (sym (greater_none gains.floors)) (sym (append-nil gains.blocks)) (sym (append-nil gains.votes))
unsaid gains (item.Answer k epoch live moment) key other = same_gains _ _ (sym (greater_none gains.floors)) (sym (append-nil gains.blocks)) (sym (append-nil gains.votes))
unsaid gains (item.Activate k epoch) key other = same_gains _ _ (sym (greater_none gains.floors)) (sym (append-nil gains.blocks)) (sym (append-nil gains.votes))
unsaid gains (item.Close k) key other = same_gains _ _ (sym (greater_none gains.floors)) (sym (append-nil gains.blocks)) (sym (append-nil gains.votes))

keys_with_key : {X : Type 0} (xs : List (PubKey × X)) (k : PubKey) (x : X) → keys_of (with_key xs k x) ≡ insert_key key_cmp (keys_of xs) k
keys_with_key [] k x = refl
keys_with_key {X} (a ∷ more) k x = at (key_cmp k a.0) (keys_with_key more k x) where
  at : (r : Ordering) → keys_of (with_key more k x) ≡ insert_key key_cmp (keys_of more) k
      → keys_of (match_ordering r ((k, x) ∷ a ∷ more) ((a.0, x) ∷ more) (a ∷ with_key more k x)) ≡ match_ordering r (k ∷ a.0 ∷ keys_of more) (a.0 ∷ keys_of more) (a.0 ∷ insert_key key_cmp (keys_of more) k)
  at Less rest = refl
  at Equal rest = refl
  at Greater rest = ap (λ ks. a.0 ∷ ks) rest

-- what is gathered of each key after one more item
each_more : (items : List JournalItem) (kept : List (PubKey × Gains)) (one : JournalItem) → ((key : PubKey) → known_gains (kept_of kept key) ≡ gains_in items key)
    → (q : PubKey) → known_gains (kept_of (with_item kept one) q) ≡ gains_in (items ++ one ∷ []) q
each_more items kept one each q = at (is_at (key_cmp (key_of one)) q) refl where
  here : known_gains (kept_of (with_item kept one) (key_of one)) ≡ gains_in (items ++ one ∷ []) (key_of one)
  here =
      ap known_gains (kept_here kept (key_of one) (with_gain (known_gains (kept_of kept (key_of one))) one))
      ∙ ap (λ g. with_gain g one) (each (key_of one)) ∙ said (gains_in items (key_of one)) one ∙ sym (gains_more items one (key_of one))

  at : (b : Bool) → is_at (key_cmp (key_of one)) q ≡ b → known_gains (kept_of (with_item kept one) q) ≡ gains_in (items ++ one ∷ []) q
  at true is = subst (λ (k : PubKey). known_gains (kept_of (with_item kept one) k) ≡ gains_in (items ++ one ∷ []) k) (same_key (key_of one) q is) here
  at false is =
      ap known_gains (kept_apart kept (key_of one) q (with_gain (known_gains (kept_of kept (key_of one))) one) is)
      ∙ each q ∙ unsaid (gains_in items q) one q (apart_back (key_of one) q is) ∙ sym (gains_more items one q)

-- what an item makes of watches, whatever they stand for
abbrev pub Takes : List (PubKey × Watch) → List (PubKey × Watch) → JournalItem → Type 0
Takes watches later one = (watched : List (PubKey × Watched)) → AreWatchesOf watches watched → AreWatchesOf later (with_watch watched one)

watches_more : (items : List JournalItem) (one : JournalItem) → watches_in (items ++ one ∷ []) ≡ with_watch (watches_in items) one
watches_more items one = fold-append with_watch [] items (one ∷ [])

pub gathered_more : (items : List JournalItem) (one : JournalItem) (kept new : List (PubKey × Gains)) (states stated : List (PubKey × KeyState)) (watches later : List (PubKey × Watch)) → IsGathered items kept states watches
    → new ≡ with_item kept one → stated ≡ with_state states one → Takes watches later one → IsGathered (items ++ one ∷ []) new stated later
gathered_more items one kept new states stated watches later gathered is has takes = record {
  named = ap keys_of is ∙ keys_with_key kept (key_of one) _ ∙ ap (λ ks. insert_key key_cmp ks (key_of one)) gathered.named ∙ sym (named_more items one);
  each = λ q. ap (λ xs. known_gains (kept_of xs q)) is ∙ each_more items kept one gathered.each q;
  stated = has ∙ ap (λ xs. with_state xs one) gathered.stated ∙ sym (states_more items one);
  watched = let W : List (PubKey × Watched) → Type 0 = λ xs. AreWatchesOf later xs in subst W (sym (watches_more items one)) (takes (watches_in items) gathered.watched);
}

-- nothing is gathered of no items
pub gathered_none : IsGathered [] [] [] []
gathered_none = record { named = refl; each = λ key. refl; stated = refl; watched = tt }

-- so far in a list of items
pub gathered_next : (before items : List JournalItem) (i : ℕ) (d : JournalItem) (kept new : List (PubKey × Gains)) (states stated : List (PubKey × KeyState)) (watches later : List (PubKey × Watch)) → i < length items
    → IsGathered (before ++ take i items) kept states watches → new ≡ with_item kept (get_or items i d) → stated ≡ with_state states (get_or items i d) → Takes watches later (get_or items i d)
    → IsGathered (before ++ take (i + 1) items) new stated later
gathered_next before items i d kept new states stated watches later lt gathered is has takes =
    let one : JournalItem = get_or items i d in
    let P : List JournalItem → Type 0 = λ xs. IsGathered xs new stated later in
    subst P (append_assoc before (take i items) (one ∷ []) ∙ ap (λ xs. before ++ xs) (sym (take_more items i d lt))) (gathered_more (before ++ take i items) one kept new states stated watches later gathered is has takes)

some_injective : {A : Type 0} (x y : A) → Some x ≡ Some y → x ≡ y
some_injective x y h = cc

-- so far in payloads that are lent one at a time
pub record SoFar (version : JournalVersion) (all left : List (List ℕ)) (kept : List (PubKey × Gains)) (states : List (PubKey × KeyState)) (watches : List (PubKey × Watch)) : Type 0 where
  pub done : List (List ℕ)
  pub split : done ++ left ≡ all
  pub gathered : IsGathered (items_in version done) kept states watches

pub lent_begun : (version : JournalVersion) (all : List (List ℕ)) (kept : List (PubKey × Gains)) (states : List (PubKey × KeyState)) (watches : List (PubKey × Watch)) → IsGathered [] kept states watches → SoFar version all all kept states watches
lent_begun version all kept states watches h = record { done = []; split = refl; gathered = h }

-- the next one was taken in
pub lent_next : (version : JournalVersion) (all left : List (List ℕ)) (p : List ℕ) (kept more : List (PubKey × Gains)) (states more_states : List (PubKey × KeyState)) (watches more_watches : List (PubKey × Watch))
    → SoFar version all left kept states watches → Some p ≡ slice_get left 0
    → ((before : List JournalItem) → IsGathered before kept states watches → IsGathered (before ++ items_or_none (batch_of version p)) more more_states more_watches) → SoFar version all (drop 1 left) more more_states more_watches
lent_next version all [] p kept more states more_states watches more_watches so is takes = absurd (none-some p (sym is))
lent_next version all (x ∷ left) p kept more states more_states watches more_watches so is takes = record {
  done = so.done ++ p ∷ [];
  split = append_assoc so.done (p ∷ []) left ∙ ap (λ q. so.done ++ q ∷ left) (some_injective p x is) ∙ so.split;
  gathered = subst P (sym longer) (takes (items_in version so.done) so.gathered);
} where
  P : List JournalItem → Type 0
  P items = IsGathered items more more_states more_watches

  longer : items_in version (so.done ++ p ∷ []) ≡ items_in version so.done ++ items_or_none (batch_of version p)
  longer = flat_map-append (λ q. items_or_none (batch_of version q)) so.done (p ∷ []) ∙ ap (λ items. items_in version so.done ++ items) (append-nil (items_or_none (batch_of version p)))

-- none is left
pub lent_all : (version : JournalVersion) (all left : List (List ℕ)) (kept : List (PubKey × Gains)) (states : List (PubKey × KeyState)) (watches : List (PubKey × Watch)) → SoFar version all left kept states watches → None ≡ slice_get left 0
    → IsGathered (items_in version all) kept states watches
lent_all version all [] kept states watches so is =
    let P : List (List ℕ) → Type 0 = λ ps. IsGathered (items_in version ps) kept states watches in
    subst P (sym (append-nil so.done) ∙ so.split) so.gathered
lent_all version all (x ∷ left) kept states watches so is = absurd (none-some x is)

-- an item of a key that is kept
pub took_known : {E : Type 0} (r : Result (Unit {0}) E) (old new : List (PubKey × Gains)) (key : PubKey) (one : JournalItem) (was after : Gains) → IsStrictlySortedBy key_cmp (keys_of old) → key ≡ key_of one
    → kept_of old key ≡ Some was → new ≡ with_kept old key after → OnOk r (after ≡ with_gain was one) → OnOk r (new ≡ with_item old one)
took_known r old new key one was after sorted is found changed took = MatchResult-weaker r took (λ x gained. ending gained) (λ y h. h) where
  some : IsSome (kept_of old key)
  some = rw found refl

  ending : after ≡ with_gain was one → new ≡ with_item old one
  ending gained =
      changed ∙ sym (put_kept old key after sorted some) ∙ ap (λ g. with_key old key g) (gained ∙ ap (λ o. with_gain (known_gains o) one) (sym found)) ∙ ap (λ k. with_key old k (with_gain (known_gains (kept_of old k)) one)) is
