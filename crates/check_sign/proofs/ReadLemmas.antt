-- The items of books as one batch; what is handed out; and what a desk is opened to.
use Rattle.std.proofs.Common.{◌≡◌, ◌≤◌, ◌⊎◌, inl, inr, ℕ, Bool, true, List, [], ◌∷◌, ◌++◌, arith, length, Option, Some, None, refl, sym, ◌∙◌, ap, subst}
use Rattle.std.specs.Prelude.{map}
use Rattle.std.specs.List.{AllByRecursion}
use Rattle.std.proofs.lemmas.List.{length-map, map-append}
use Rattle.std.specs.Map.{keys_of}
use Rattle.edge_kit.specs.declared.bytes.PubKey.{PubKey}
use Rattle.edge_kit.specs.declared.bytes.Root.{Root}
use Rattle.slash_defs.specs.declared.book.Book.{Book}
use Rattle.protect_record.specs.Parts.{Parts}
use Rattle.protect_record.specs.Pasts.{Past}
use Rattle.protect_record.specs.Standing.{Stands}
use Rattle.record_codec.specs.Spelling.{IsBatch, IsOf, MomentFits, is_record}
use Rattle.record_codec.specs.declared.version.JournalVersion.TheVariants.{One}
use Rattle.key_snapshot.proofs.BatchLemmas.{records_old}
use Rattle.record_codec.specs.declared.item.JournalItem.{JournalItem}
use Rattle.record_codec.specs.declared.item.JournalItem.TheVariants as item
use Rattle.record_replay.specs.Batches.{book_items, file_items}
use Rattle.record_replay.specs.Items.{items_in, named_keys, states_in}
use Rattle.record_replay.specs.Replaying.{IsReplayed, ItemsStand, lasting_state, lasting_states}
use Rattle.record_replay.specs.declared.state.KeyState.{KeyState}
use Rattle.record_replay.specs.declared.state.KeyState.TheVariants.{Known, Active, Closing, Closed}
use Rattle.record_journal.specs.Journals.{Journaled, MayRead, disks_of, journal_size}
use Rattle.record_journal.specs.TwoDisks.{LeftPair}
use Rattle.record_join.specs.Keys.{kept_of}
use Rattle.record_join.specs.BooksPasts.{BooksStand, key_limit}
use Rattle.record_join.specs.EachKeyLaws.{each_keys}
use Rattle.check_sign.specs.Contents.{Contents, Seen}
use Rattle.desk_machine.specs.States.{State, Lasting, reopened, key_state, key_standing, state_in}
use Rattle.desk_machine.specs.Watches.{Watching, WatchesStand, fresh_watching, standing_of}
use Rattle.check_sign.specs.Standing.{DeskStands, PayloadsStand, TornStands}
use Rattle.desk_machine.specs.Machine.{key_standings}
use Rattle.desk_machine.specs.declared.call.KeyStanding.{KeyStanding}
use Rattle.check_sign.specs.Opening.{IsBroughtBack}
use Rattle.check_sign.specs.Writing.{IsWritable, Moved, HoldsJournal, journal_of}
use Rattle.check_sign.proofs.OpenLemmas.{still}

-- each of the items is a record
abbrev pub Records : List JournalItem → Type 0
Records items = AllByRecursion (λ i. is_record i ≡ true) items

records_append : (xs ys : List JournalItem) → Records xs → Records ys → Records (xs ++ ys)
records_append [] ys x y = y
records_append (i ∷ xs) ys x y = (x.0, records_append xs ys x.1 y)

pub records_map : {A : Type 0} (f : A → JournalItem) → ((a : A) → is_record (f a) ≡ true) → (es : List A) → Records (map f es)
records_map f is [] = tt
records_map f is (e ∷ es) = (is e, records_map f is es)

book_records : (listed : PubKey × Book) → Records (book_items listed)
book_records listed = records_append _ _ (records_map (item.Block listed.0) (λ e. refl) listed.1.blocks) (records_append _ _ (records_map (item.Vote listed.0) (λ e. refl) listed.1.votes) (refl, tt))

file_records : (books : List (PubKey × Book)) → Records (file_items books)
file_records [] = tt
file_records (b ∷ books) = records_append _ _ (book_records b) (file_records books)

-- an item that the first version has says no moment
moment_old : (i : JournalItem) → IsOf One i → MomentFits i
moment_old (item.Block key entry) is = tt
moment_old (item.Vote key entry) is = tt
moment_old (item.Floors key block vote) is = tt
moment_old (item.ActivateUndated key) is = tt
moment_old (item.Activate key epoch) is = absurd cc
moment_old (item.Answer key epoch live moment) is = absurd cc
moment_old (item.Close key) is = tt

pub moments_old : (items : List JournalItem) → AllByRecursion (IsOf One) items → AllByRecursion MomentFits items
moments_old [] all = tt
moments_old (i ∷ items) all = (moment_old i all.0, moments_old items all.1)

one_batch : (items : List JournalItem) → Records items → (items ≡ []) ⊎ IsBatch items
one_batch [] all = inl refl
one_batch (i ∷ []) all = inr tt
one_batch (i ∷ j ∷ items) all = inr all

pub as_batch : (items : List JournalItem) → Records items → IsWritable items
as_batch items all = (one_batch items all, records_old items all)

pub book_batch : (items : List JournalItem) (listed : PubKey × Book) → items ≡ book_items listed → IsWritable items
book_batch items listed is = subst IsWritable (sym is) (as_batch (book_items listed) (book_records listed))

pub file_batch : (items : List JournalItem) (books : List (PubKey × Book)) → items ≡ file_items books → IsWritable items
file_batch items books is = subst IsWritable (sym is) (as_batch (file_items books) (file_records books))

-- ---- where nothing was written

pub still_seen : {D : Type 0} (moment : D → ℕ) (leaves : D → ℕ → List ℕ → Type 0) (faults : D → ℕ) (j : Journaled D) (seen now : Seen D) → seen ≡ now → journal_of seen ≡ record j { root = seen.contents.genesis.0 }
    → HoldsJournal moment leaves seen.contents.genesis j → Moved moment leaves faults (journal_of now) (journal_of now)
still_seen {D} moment leaves faults j seen now same is holds =
    let at_root : List ℕ → Type 0 = λ r. LeftPair moment leaves (disks_of j) (MayRead (record j { root = r })) in
    let left : LeftPair moment leaves (disks_of j) (MayRead (record j { root = seen.contents.genesis.0 })) = subst at_root holds.root holds.left in
    let at_journal : Journaled D → Type 0 = λ k. Moved moment leaves faults k k in
    let at_now : Seen D → Type 0 = λ s. Moved moment leaves faults (journal_of s) (journal_of s) in
    subst at_now same (subst at_journal (sym is) (still moment leaves faults (record j { root = seen.contents.genesis.0 }) left))

-- ---- the keys with their states

abbrev pub states_of : List (PubKey × KeyState) → List PubKey → List (PubKey × KeyState)
states_of states keys = map {B = PubKey × KeyState} (λ key. (key, key_state states key)) keys

abbrev pub standings_of : List (PubKey × KeyState) → Watching → List PubKey → List (PubKey × KeyStanding)
standings_of states w keys = map {B = PubKey × KeyStanding} (λ key. (key, key_standing (key_state states key) (standing_of w key))) keys

abbrev pub told_states : List (PubKey × KeyStanding) → List (PubKey × KeyState)
told_states listed = map {B = PubKey × KeyState} (λ l. (l.0, state_in l.1)) listed

-- one key more
pub one_state : (states : List (PubKey × KeyState)) (keys : List PubKey) (listed : List (PubKey × KeyStanding)) (key : PubKey) (x : KeyStanding) → told_states listed ≡ states_of states keys → state_in x ≡ key_state states key
    → told_states (listed ++ (key, x) ∷ []) ≡ states_of states (keys ++ key ∷ [])
one_state states keys listed key x before is =
    let f : PubKey × KeyStanding → PubKey × KeyState = λ l. (l.0, state_in l.1) in
    let g : PubKey → PubKey × KeyState = λ k. (k, key_state states k) in
    map-append f listed ((key, x) ∷ []) ∙ ap (λ l. l ++ (key, state_in x) ∷ []) before ∙ ap (λ s. states_of states keys ++ (key, s) ∷ []) is
    ∙ sym (map-append g keys (key ∷ []))

pub one_standing : (states : List (PubKey × KeyState)) (w : Watching) (keys : List PubKey) (listed : List (PubKey × KeyStanding)) (key : PubKey) (x : KeyStanding) → listed ≡ standings_of states w keys → x ≡ key_standing (key_state states key) (standing_of w key)
    → listed ++ (key, x) ∷ [] ≡ standings_of states w (keys ++ key ∷ [])
one_standing states w keys listed key x before is =
    let g : PubKey → PubKey × KeyStanding = λ k. (k, key_standing (key_state states k) (standing_of w k)) in
    ap (λ l. l ++ (key, x) ∷ []) before ∙ ap (λ s. standings_of states w keys ++ (key, s) ∷ []) is ∙ sym (map-append g keys (key ∷ []))

pub standings_listed : (desk : Contents) (state : State) → DeskStands desk state → standings_of desk.states state.watching (keys_of desk.keys) ≡ key_standings state
standings_listed desk state s =
    let by_keys : List PubKey → List (PubKey × KeyStanding) = λ keys. standings_of desk.states state.watching keys in
    let by_states : List (PubKey × KeyState) → List (PubKey × KeyStanding) = λ states. standings_of states state.watching (keys_of state.keys) in
    ap by_keys (each_keys Stands desk.keys state.keys s.keys) ∙ ap by_states s.states

-- ---- what a desk is opened to

lasts : (s : KeyState) → lasting_state (lasting_state s) ≡ lasting_state s
lasts Known = refl
lasts Active = refl
lasts Closing = refl
lasts Closed = refl

last : (states : List (PubKey × KeyState)) → lasting_states (lasting_states states) ≡ lasting_states states
last [] = refl
last (s ∷ states) = ap (λ x. (s.0, x) ∷ lasting_states (lasting_states states)) (lasts s.1) ∙ ap (λ l. (s.0, lasting_state s.1) ∷ l) (last states)

stand_on : (payloads : List (List ℕ)) (l : Lasting) → PayloadsStand payloads l → PayloadsStand payloads (record { keys = l.keys; states = lasting_states l.states; size = l.size; generation = l.generation })
stand_on payloads l s = record {
  items = record { named = s.items.named; each = s.items.each; states = s.items.states ∙ sym (last l.states); watches = s.items.watches };
  size = s.size;
  generation = s.generation;
}

-- a desk without grants stands for what lasts, reopened
pub record IsFresh (desk : Contents) (root : Root) (watched : Bool) (now : ℕ) : Type 0 where
  pub genesis : desk.genesis ≡ root
  pub grants : desk.grants ≡ []
  pub next : desk.next ≡ 0
  pub latest : desk.latest ≡ now
  pub watches : WatchesStand desk.watches (fresh_watching watched now)
  pub size : desk.size ≡ journal_size desk.payloads
  pub torn : desk.torn ≡ None

reopens : (desk : Contents) (genesis : Root) (watch : Bool) (now : ℕ) (l : Lasting) → IsFresh desk genesis watch now → BooksStand desk.keys l.keys → desk.states ≡ lasting_states l.states → PayloadsStand desk.payloads l
    → DeskStands desk (reopened genesis l watch now)
reopens desk genesis watch now l fresh keys states s = let at_torn : Option (List (List ℕ)) → Type 0 = λ t. TornStands t None in record {
  genesis = fresh.genesis;
  keys = keys;
  states = states;
  grants = fresh.grants;
  next = fresh.next;
  latest = fresh.latest;
  watches = fresh.watches;
  size = fresh.size ∙ sym s.size;
  payloads = stand_on desk.payloads l s;
  torn = subst at_torn (sym fresh.torn) tt;
}

pub opened_stands : (desk : Contents) (genesis : Root) (watch : Bool) (now : ℕ) (payloads : List (List ℕ)) → IsFresh desk genesis watch now
    → payloads ≡ desk.payloads → ((pasts : List (PubKey × Past)) (states : List (PubKey × KeyState)) → ItemsStand (items_in One payloads) pasts states [] → BooksStand desk.keys pasts × (desk.states ≡ lasting_states states))
    → (l : Lasting) → PayloadsStand desk.payloads l → DeskStands desk (reopened genesis l watch now)
opened_stands desk genesis watch now payloads fresh same replayed l s =
    let P : List (List ℕ) → Type 0 = λ ps. PayloadsStand ps l in
    let here : PayloadsStand payloads l = subst P (sym same) s in
    let both = replayed l.keys l.states here.items in
    reopens desk genesis watch now l fresh both.0 both.1 s

-- what was replayed of these payloads, the desk's own, is brought back
pub brought_back : (desk : Contents) (payloads : List (List ℕ)) → payloads ≡ desk.payloads → keys_of desk.keys ≡ named_keys (items_in One payloads)
    → length desk.keys ≤ key_limit → ((key : PubKey) (parts : Parts) → kept_of desk.keys key ≡ Some parts → IsReplayed (items_in One payloads) key parts) → desk.states ≡ states_in (items_in One payloads) → IsBroughtBack desk
brought_back desk payloads same keys limit each states =
    let K : List (List ℕ) → Type 0 = λ ps. keys_of desk.keys ≡ named_keys (items_in One ps) in
    let E : List (List ℕ) → Type 0 = λ ps. (key : PubKey) (parts : Parts) → kept_of desk.keys key ≡ Some parts → IsReplayed (items_in One ps) key parts in
    let S : List (List ℕ) → Type 0 = λ ps. desk.states ≡ states_in (items_in One ps) in record {
      keys = subst K same keys;
      limit = let listed : length (keys_of desk.keys) ≡ length desk.keys = length-map desk.keys (λ (e : PubKey × Parts). e.0) in
          let named = ap (λ (l : List PubKey). length l) (subst K same keys) in omega (arith, listed, named, limit);
      each = subst E same each;
      states = subst S same states;
    }
