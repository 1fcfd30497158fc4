-- What own messages of several keys make of the items and of the pasts that they stand for.
use Rattle.std.proofs.Common.{◌≡◌, ◌⊎◌, inl, inr, Bool, true, false, cond, List, [], ◌∷◌, ◌++◌, Option, None, Some, refl, sym, ap, subst, append_assoc, append-nil}
use Rattle.std.specs.Prelude.{Contains, IsSome, is_some}
use Rattle.std.specs.BTreeMap.{is_at}
use Rattle.edge_kit.specs.declared.bytes.PubKey.{PubKey}
use Rattle.slash_defs.specs.declared.message.Message.{Message}
use Rattle.protect_record.specs.Pasts.{Past, with_own}
use Rattle.protect_record.proofs.MemberLemmas.{contains_first, contains_later}
use Rattle.record_codec.specs.declared.item.JournalItem.{JournalItem}
use Rattle.record_join.specs.Keys.{key_cmp, kept_of}
use Rattle.record_join.specs.BooksPasts.{own_grown, own_grown_from, with_messages}
use Rattle.record_join.specs.KeyLaws.{changed}
use Rattle.record_replay.specs.Batches.{message_item, message_items}
use Rattle.record_replay.specs.Replaying.{ItemsStand}
use Rattle.record_replay.specs.Watches.{Watched}
use Rattle.record_replay.specs.declared.state.KeyState.{KeyState}
use Rattle.record_replay.proofs.ChangeLemmas.{own}

-- a key that is kept stays so
pub still_kept : (keys : List (PubKey × Past)) (key q : PubKey) (m : Message) → IsSome (kept_of keys q) → IsSome (kept_of (own_grown keys key m) q)
still_kept keys key q m found = at (kept_of keys key) refl where
  either : (b : Bool) (past : Past) → IsSome (cond b (Some past) (kept_of keys q))
  either true past = refl
  either false past = found

  at : (o : Option Past) → kept_of keys key ≡ o → IsSome (kept_of (own_grown_from keys key m o) q)
  at None is = found
  at (Some past) is =
      let P : Option Past → Type 0 = λ o. IsSome o in
      subst P (sym (changed keys key q (with_own past m) (ap is_some is))) (either (is_at (key_cmp key) q) (with_own past m))

pub recorded : (items : List JournalItem) (keys : List (PubKey × Past)) (states : List (PubKey × KeyState)) (watched : List (PubKey × Watched)) (listed : List (PubKey × Message)) → ItemsStand items keys states watched
    → ((one : PubKey × Message) → Contains listed one → IsSome (kept_of keys one.0)) → ItemsStand (items ++ message_items listed) (with_messages keys listed) states watched
recorded items keys states watched [] stand found = let P : List JournalItem → Type 0 = λ i. ItemsStand i keys states watched in subst P (sym (append-nil items)) stand
recorded items keys states watched (p ∷ listed) stand found =
    let first = own items keys states watched stand p.0 p.1 (found p (contains_first p listed)) in
    let grown = own_grown keys p.0 p.1 in
    let rest = recorded (items ++ message_item p.0 p.1 ∷ []) grown states watched listed first (λ one c. still_kept keys p.0 one.0 p.1 (found one (contains_later p listed one c))) in
    let P : List JournalItem → Type 0 = λ i. ItemsStand i (with_messages grown listed) states watched in
    subst P (append_assoc items (message_item p.0 p.1 ∷ []) (message_items listed)) rest
