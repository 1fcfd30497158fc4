-- What each change makes of the items and of the pasts that they stand for.
use Rattle.std.proofs.Common.{◌≡◌, Bool, true, false, cond, List, [], ◌∷◌, ◌++◌, map, fold, None, Some, Option, refl, sym, ◌∙◌, ap, subst, append-nil, arith, Contains}
use Rattle.doppel_watch.specs.Watching.{Telling}
use Rattle.std.specs.Prelude.{ℕ, ◌↔◌, IsSome, is_some, if◌then◌else◌}
use Rattle.std.specs.BTreeMap.{is_at}
use Rattle.std.specs.BTreeSet.{insert_key}
use Rattle.std.specs.List.Sorted.{IsStrictlySortedBy}
use Rattle.std.specs.List.{IsDistinct}
use Rattle.std.specs.Map.{keys_of}
use Rattle.std.specs.Ordering.{eq_by_cmp}
use Rattle.std.proofs.lemmas.Map.{keys-set_value}
use Rattle.std.proofs.lemmas.Map.Keys.{IsDistinct-from_sorted}
use Rattle.edge_kit.specs.declared.bytes.PubKey.{PubKey}
use Rattle.slash_defs.specs.declared.book.Book.{Book}
use Rattle.slash_defs.specs.declared.book.File.{File}
use Rattle.slash_defs.specs.declared.message.Message.{Message}
use Rattle.slash_defs.specs.declared.message.Message.TheVariants as message
use Rattle.slash_defs.specs.declared.entry.BlockEntry.{BlockEntry}
use Rattle.slash_defs.specs.declared.entry.VoteEntry.{VoteEntry}
use Rattle.protect_record.specs.Floors.{book_floors}
use Rattle.protect_record.specs.Parts.{no_floors}
use Rattle.protect_record.specs.Pasts.{Past, no_past, with_book, with_own}
use Rattle.protect_record.proofs.FloorLemmas.{some-injective}
use Rattle.interchange_io.specs.Contents.{HoldSame}
use Rattle.interchange_io.specs.WrittenOrder.{book_at, canonical}
use Rattle.interchange_io.proofs.ContentLemmas.{canonical_in_order, canonical_same}
use Rattle.record_codec.specs.declared.item.JournalItem.{JournalItem}
use Rattle.record_codec.specs.declared.item.JournalItem.TheVariants as item
use Rattle.record_join.specs.Keys.{key_cmp, kept_of, with_key, with_kept}
use Rattle.record_join.specs.BooksPasts.{EachOnce, gained, known_past, own_grown, own_grown_from, with_file}
use Rattle.record_join.specs.KeyLaws.{apart_back, at_itself, changed, kept_apart, kept_here, same_key, distinct_once}
use Rattle.record_join.specs.BooksPastsLaws.{gained_listed}
use Rattle.record_replay.specs.Batches.{answer_item, book_items, file_items, message_item}
use Rattle.record_replay.specs.Items.{blocks_in, floors_in, key_of, named_keys, votes_in, with_state}
use Rattle.record_replay.specs.Replaying.{ItemsStand, KeyStands, with_known}
use Rattle.record_replay.specs.Watches.{Watched, fresh_watch, with_telling, with_watch, without_watch}
use Rattle.record_replay.specs.declared.state.KeyState.{KeyState}
use Rattle.record_replay.specs.declared.state.KeyState.TheVariants.{Active, Closing, Closed}
use Rattle.record_replay.proofs.NamedLemmas.{has, has_kept, has_named, inserted_same, inserted_there, keys_with, keys_with_file, named_more, named_sorted}
use Rattle.record_replay.proofs.StateLemmas.{states_activated, states_closed, states_closing, states_more, watches_more, watches_one}
use Rattle.record_replay.proofs.GrowLemmas.{Grows, grown_stands, grows_block, grows_gained, grows_nothing, grows_same, grows_vote, unnamed_first, unnamed_stands}
use Rattle.record_replay.proofs.BookItemLemmas.{file_blocks, file_names, file_sets, file_state, file_votes, file_watch}
use Rattle.record_replay.proofs.SameBookLemmas.{hold_same_itself, same_blocks, same_book_floors, same_listed, same_votes}

-- ---- keys and their pasts

module _ (items : List JournalItem) (keys : List (PubKey × Past)) (states : List (PubKey × KeyState)) (watched : List (PubKey × Watched)) (stand : ItemsStand items keys states watched) where
  keys_sorted : IsStrictlySortedBy key_cmp (keys_of keys)
  keys_sorted = subst (IsStrictlySortedBy key_cmp) (sym stand.named) (named_sorted items)

  -- a key of which nothing is kept has no items
  known_stands : (key : PubKey) → KeyStands items key (known_past (kept_of keys key))
  known_stands key = at (kept_of keys key) refl where
    at : (o : Option Past) → kept_of keys key ≡ o → KeyStands items key (known_past o)
    at None none =
        let off : has key (map key_of items) ≡ false = sym (has_named items key) ∙ ap (λ ks. has key ks) (sym stand.named) ∙ sym (has_kept keys key) ∙ ap is_some none in
        unnamed_first items key off
    at (Some past) is = stand.each key past is

  -- one more item of a key that is kept
  named_there : (i : JournalItem) → IsSome (kept_of keys (key_of i)) → keys_of keys ≡ named_keys (items ++ i ∷ [])
  named_there i found =
      let there : has (key_of i) (keys_of keys) ≡ true = sym (has_kept keys (key_of i)) ∙ found in
      sym (named_more items (i ∷ []) ∙ ap (λ ks. insert_key key_cmp ks (key_of i)) (sym stand.named) ∙ inserted_there (keys_of keys) (key_of i) keys_sorted there)

  -- ---- a key is activated, or closed

  known_keys : (key : PubKey) → keys_of (with_known keys key) ≡ insert_key key_cmp (keys_of keys) key
  known_keys key = at (is_some (kept_of keys key)) refl where
    at : (b : Bool) → is_some (kept_of keys key) ≡ b → keys_of (if b then keys else with_key keys key no_past) ≡ insert_key key_cmp (keys_of keys) key
    at true found = sym (inserted_there (keys_of keys) key keys_sorted (sym (has_kept keys key) ∙ found))
    at false none = keys_with keys key no_past

  none_if : {X : Type 0} (o : Option X) → is_some o ≡ false → o ≡ None
  none_if None e = refl
  none_if (Some x) e = absurd (let bad : true ≡ false = e in cc)

  known_kept : (key q : PubKey) (past : Past) → kept_of (with_known keys key) q ≡ Some past → known_past (kept_of keys q) ≡ past
  known_kept key q past = at (is_some (kept_of keys key)) refl where
    here : is_some (kept_of keys key) ≡ false → (b : Bool) → is_at (key_cmp key) q ≡ b → kept_of (with_key keys key no_past) q ≡ Some past → known_past (kept_of keys q) ≡ past
    here none true e is =
        let same : key ≡ q = same_key key q e in
        ap (λ k. known_past (kept_of keys k)) (sym same) ∙ ap known_past (none_if (kept_of keys key) none)
        ∙ some-injective no_past past (sym (kept_here keys key no_past) ∙ ap (λ k. kept_of (with_key keys key no_past) k) same ∙ is)
    here none false e is = ap known_past (sym (kept_apart keys key q no_past e) ∙ is)

    at : (b : Bool) → is_some (kept_of keys key) ≡ b → kept_of (if b then keys else with_key keys key no_past) q ≡ Some past → known_past (kept_of keys q) ≡ past
    at true found is = ap known_past is
    at false none is = here none (is_at (key_cmp key) q) refl is

  -- an activation, of whichever version
  activated_by : (key : PubKey) (i : JournalItem) → key_of i ≡ key → ((l : List (PubKey × KeyState)) → with_state l i ≡ with_key l key Active)
      → ((past : Past) (q : PubKey) → Grows past past (floors_in (i ∷ []) q) (blocks_in (i ∷ []) q) (votes_in (i ∷ []) q)) → ItemsStand (items ++ i ∷ []) (with_known keys key) (with_key states key Active) (with_watch watched i)
  activated_by key i names says nothing = record {
    named = known_keys key ∙ ap (λ ks. insert_key key_cmp ks key) stand.named ∙ ap (λ k. insert_key key_cmp (named_keys items) k) (sym names) ∙ sym (named_more items (i ∷ []));
    each = λ q past is. grown_stands items (i ∷ []) q past past (subst (λ (p : Past). KeyStands items q p) (known_kept key q past is) (known_stands q)) (nothing past q);
    states = states_activated items states key i says stand.states;
    watches = watches_one items i watched stand.watches;
  }

  pub activated : (key : PubKey) (epoch : ℕ) → ItemsStand (items ++ item.Activate key epoch ∷ []) (with_known keys key) (with_key states key Active) (with_key watched key (fresh_watch epoch))
  activated key epoch = activated_by key (item.Activate key epoch) refl (λ l. refl) (λ past q. grows_nothing past)

  pub undated : (key : PubKey) → ItemsStand (items ++ item.ActivateUndated key ∷ []) (with_known keys key) (with_key states key Active) (without_watch watched key)
  undated key = activated_by key (item.ActivateUndated key) refl (λ l. refl) (λ past q. grows_nothing past)

  pub answered : (key : PubKey) (telling : Telling) → IsSome (kept_of keys key) → ItemsStand (items ++ answer_item key telling ∷ []) keys states (with_telling watched key telling)
  answered key telling found = record {
    named = named_there (answer_item key telling) found;
    each = λ q past is. grown_stands items (answer_item key telling ∷ []) q past past (stand.each q past is) (grows_nothing past);
    states = states_more items (answer_item key telling ∷ []) (λ said. refl) ∙ stand.states;
    watches = watches_one items (answer_item key telling) watched stand.watches;
  }

  pub closing : (key : PubKey) → kept_of states key ≡ Some Active → ItemsStand items keys (with_kept states key Closing) watched
  closing key active = record { named = stand.named; each = stand.each; states = states_closing items states key stand.states active; watches = stand.watches }

  pub closed : (key : PubKey) → IsSome (kept_of keys key) → IsSome (kept_of states key) → ItemsStand (items ++ item.Close key ∷ []) keys (with_kept states key Closed) (without_watch watched key)
  closed key found active = record {
    named = named_there (item.Close key) found;
    each = λ q past is. grown_stands items (item.Close key ∷ []) q past past (stand.each q past is) (grows_nothing past);
    states = states_closed items states key stand.states active;
    watches = watches_one items (item.Close key) watched stand.watches;
  }

  -- ---- an own message

  own_names : (key : PubKey) (m : Message) → key_of (message_item key m) ≡ key
  own_names key (message.Block slot root) = refl
  own_names key (message.Vote source target root) = refl

  own_state : (key : PubKey) (m : Message) (said : List (PubKey × KeyState)) → fold with_state said (message_item key m ∷ []) ≡ said
  own_state key (message.Block slot root) said = refl
  own_state key (message.Vote source target root) said = refl

  own_watch : (key : PubKey) (m : Message) (kept : List (PubKey × Watched)) → fold with_watch kept (message_item key m ∷ []) ≡ kept
  own_watch key (message.Block slot root) kept = refl
  own_watch key (message.Vote source target root) kept = refl

  own_apart : (key q : PubKey) (m : Message) → is_at (key_cmp key) q ≡ false → has q (map key_of (message_item key m ∷ [])) ≡ false
  own_apart key q m apart = let back : is_at (key_cmp q) key ≡ false = apart_back key q apart in rw (own_names key m, back) refl

  own_here : (key : PubKey) (m : Message) (past : Past) → KeyStands items key past → KeyStands (items ++ message_item key m ∷ []) key (with_own past m)
  own_here key (message.Block slot root) past stands =
      let entry : BlockEntry = record { slot = slot; root = Some root } in
      let grows : Grows past (with_own past (message.Block slot root)) no_floors (blocks_in (item.Block key entry ∷ []) key) [] = rw (at_itself key) (grows_block past slot root) in
      grown_stands items (item.Block key entry ∷ []) key past (with_own past (message.Block slot root)) stands grows
  own_here key (message.Vote source target root) past stands =
      let entry : VoteEntry = record { target = target; source = source; root = Some root } in
      let grows : Grows past (with_own past (message.Vote source target root)) no_floors [] (votes_in (item.Vote key entry ∷ []) key) = rw (at_itself key) (grows_vote past source target root) in
      grown_stands items (item.Vote key entry ∷ []) key past (with_own past (message.Vote source target root)) stands grows

  own_each : (key q : PubKey) (m : Message) (past after : Past) → kept_of keys key ≡ Some past → (b : Bool) → is_at (key_cmp key) q ≡ b → cond b (Some (with_own past m)) (kept_of keys q) ≡ Some after
      → KeyStands (items ++ message_item key m ∷ []) q after
  own_each key q m past after is true e h =
      let here = own_here key m past (stand.each key past is) in
      let there = subst (λ (k : PubKey). KeyStands (items ++ message_item key m ∷ []) k (with_own past m)) (same_key key q e) here in
      subst (λ (p : Past). KeyStands (items ++ message_item key m ∷ []) q p) (some-injective (with_own past m) after h) there
  own_each key q m past after is false e h = unnamed_stands items (message_item key m ∷ []) q after (own_apart key q m e) (stand.each q after h)

  pub own : (key : PubKey) (m : Message) → IsSome (kept_of keys key) → ItemsStand (items ++ message_item key m ∷ []) (own_grown keys key m) states watched
  own key m found = at (kept_of keys key) refl found where
    at : (o : Option Past) → kept_of keys key ≡ o → IsSome o → ItemsStand (items ++ message_item key m ∷ []) (own_grown_from keys key m o) states watched
    at None is some = absurd (let bad : false ≡ true = some in cc)
    at (Some past) is some = record {
      named = keys-set_value (is_at (key_cmp key)) keys (with_own past m) ∙ named_there (message_item key m) (subst (λ (k : PubKey). IsSome (kept_of keys k)) (sym (own_names key m)) found);
      each = λ q after h. own_each key q m past after is (is_at (key_cmp key) q) refl (sym (changed keys key q (with_own past m) found) ∙ h);
      states = states_more items (message_item key m ∷ []) (own_state key m) ∙ stand.states;
      watches = watches_more items (message_item key m ∷ []) (own_watch key m) ∙ stand.watches;
    }

  -- ---- books, written in another order of the same keys and entries

  file_stands : (books written : List (PubKey × Book)) → EachOnce books → IsDistinct (eq_by_cmp key_cmp) (keys_of written) → HoldSame books written → ItemsStand (items ++ file_items written) (with_file keys books) states watched
  file_stands books written once also same = record {
    named =
        keys_with_file keys books
        ∙ ap (λ ks. fold (insert_key key_cmp) ks (keys_of books)) stand.named
        ∙ inserted_same (named_keys items) (keys_of books) (map key_of (file_items written)) (named_sorted items) (λ q. same_listed books written same q ∙ sym (file_names q written))
        ∙ sym (named_more items (file_items written));
    each = λ q past is. grown_stands items (file_items written) q (known_past (kept_of keys q)) past (known_stands q) (grows q past (sym (gained_listed with_book keys books q once) ∙ is));
    states = states_more items (file_items written) (λ said. file_state said written) ∙ stand.states;
    watches = watches_more items (file_items written) (λ kept. file_watch kept written) ∙ stand.watches;
  } where
    distinct : IsDistinct (eq_by_cmp key_cmp) (keys_of books)
    distinct = distinct_once books once

    grows : (q : PubKey) (past : Past) → gained with_book (kept_of keys q) (kept_of books q) ≡ Some past
        → Grows (known_past (kept_of keys q)) past (floors_in (file_items written) q) (blocks_in (file_items written) q) (votes_in (file_items written) q)
    grows q past is =
        let listed = book_at books q in
        let out = book_at written q in
        let blocks = same_blocks books written same distinct also q in
        let votes = same_votes books written same distinct also q in
        grows_same (known_past (kept_of keys q)) past (book_floors listed) (floors_in (file_items written) q) listed.blocks (blocks_in (file_items written) q) listed.votes (votes_in (file_items written) q)
        (grows_gained (kept_of keys q) (kept_of books q) past is)
        (same_book_floors listed out blocks votes ∙ sym (file_sets q written also))
        (subst (λ (bs : List BlockEntry). (e : BlockEntry) → Contains listed.blocks e ↔ Contains bs e) (sym (file_blocks q written also)) blocks)
        (subst (λ (vs : List VoteEntry). (e : VoteEntry) → Contains listed.votes e ↔ Contains vs e) (sym (file_votes q written also)) votes)

  pub merged : (file : File) → EachOnce file.books → ItemsStand (items ++ file_items (canonical file).books) (with_file keys file.books) states watched
  merged file once =
      file_stands file.books (canonical file).books once (IsDistinct-from_sorted key_cmp (keys_of (canonical file).books) (canonical_in_order file).keys) (canonical_same file)

  pub gained_one : (key : PubKey) (book : Book) → ItemsStand (items ++ book_items (key, book)) (with_file keys ((key, book) ∷ [])) states watched
  gained_one key book =
      let one : List (PubKey × Book) = (key, book) ∷ [] in
      let once : EachOnce one = λ i j d before within. absurd (omega arith) in
      subst (λ (more : List JournalItem). ItemsStand (items ++ more) (with_file keys one) states watched) (append-nil (book_items (key, book))) (file_stands one one once (distinct_once one once) (hold_same_itself one))
