-- A message that leave was given for stays in its key's past, over calls and stops: where it comes again there is nothing to write.
use Rattle.std.proofs.Common.{◌≡◌, inl, inr, ℕ, ◌+◌, Bool, true, false, cond, List, [], ◌∷◌, Option, Some, None, refl, sym, ◌∙◌, ap, subst, arith}
use Rattle.std.specs.Prelude.{IsSome, IsSomeAnd, is_some, Contains, ◌↔◌}
use Rattle.std.specs.BTreeMap.{is_at}
use Rattle.std.proofs.lemmas.List.Elements.{Contains-append_left, Contains-push, Contains-push_cases}
use Rattle.edge_kit.specs.declared.bytes.PubKey.{PubKey}
use Rattle.slash_defs.specs.declared.book.Book.{Book}
use Rattle.slash_defs.specs.declared.entry.BlockEntry.{BlockEntry}
use Rattle.slash_defs.specs.declared.entry.VoteEntry.{VoteEntry}
use Rattle.slash_defs.specs.declared.message.Message.{Message}
use Rattle.slash_defs.specs.declared.message.Message.TheVariants as message
use Rattle.protect_record.specs.Parts.{Parts}
use Rattle.protect_record.specs.Passing.{Passes}
use Rattle.protect_record.specs.Pasts.{Past, no_past, with_own, with_book, IsPastBlock, IsPastVote}
use Rattle.protect_record.specs.Standing.{Stands}
use Rattle.record_join.specs.Keys.{key_cmp, kept_of, with_key, with_kept}
use Rattle.record_join.specs.BooksPasts.{known_past, own_grown, own_grown_from, with_file, with_file_book, with_messages}
use Rattle.record_join.specs.KeyLaws.{same_key, at_itself, kept_here, kept_apart, changed}
use Rattle.record_join.specs.Repeats.{IsRepeat, repeats}
use Rattle.record_join.specs.RepeatLaws.{repeats_decides}
use Rattle.record_replay.specs.Pruning.{pruning_of}
use Rattle.desk_machine.specs.States.{State, Lasting, past_of}
use Rattle.desk_machine.specs.Machine.{Reply, after, lasting_after, torn_first, pruned_keys, MayFail}
use Rattle.desk_machine.specs.Written.{proposal_items, frame_size, IsWritten}
use Rattle.desk_machine.specs.declared.open_grant.OpenGrant.{OpenGrant}
use Rattle.desk_machine.specs.declared.call.DeskCall.{DeskCall}
use Rattle.desk_machine.specs.declared.call.DeskCall.TheVariants as call
use Rattle.desk_machine.specs.declared.call.DeskReply.{DeskReply}
use Rattle.desk_machine.specs.declared.call.DeskReply.TheVariants as reply
use Rattle.call_plans.specs.Paths.{Path}
use Rattle.key_custody.specs.Once.{Change, Made, Restarts, Changes, MayLast, SameRecord}
use Rattle.key_custody.proofs.HoldLemmas.{Kept, Leaves, leaves, same_self}
use Rattle.serve_world.specs.Repeating.{ChangesNoRecord, RepeatsChangeNothing}

some_inj : {X : Type 0} (a b : X) → Some a ≡ Some b → a ≡ b
some_inj a b e = cc

-- ---- a key whose past has a message of this client

module _ (key : PubKey) (m : Message) where
  abbrev HasOwn : Kept → Type 0
  HasOwn keys = (p : Past) × (kept_of keys key ≡ Some p) × Contains p.own m

  has_put : (xs : Kept) (k : PubKey) (x : Past) → ((p : Past) → kept_of xs k ≡ Some p → Contains p.own m → Contains x.own m) → HasOwn xs → HasOwn (with_key xs k x)
  has_put xs k x more h = at (is_at (key_cmp k) key) refl where
    at : (b : Bool) → is_at (key_cmp k) key ≡ b → HasOwn (with_key xs k x)
    at true is =
        let same : k ≡ key = same_key k key is in
        (x, ap (λ z. kept_of (with_key xs k x) z) (sym same) ∙ kept_here xs k x, more h.0 (ap (λ z. kept_of xs z) same ∙ h.1) h.2)
    at false is = (h.0, kept_apart xs k key x is ∙ h.1, h.2)

  has_change : (xs : Kept) (k : PubKey) (x p0 : Past) → kept_of xs k ≡ Some p0 → (Contains p0.own m → Contains x.own m) → HasOwn xs → HasOwn (with_kept xs k x)
  has_change xs k x p0 has more h = at (is_at (key_cmp k) key) refl where
    found : kept_of (with_kept xs k x) key ≡ cond (is_at (key_cmp k) key) (Some x) (kept_of xs key)
    found = changed xs k key x (ap is_some has)

    at : (b : Bool) → is_at (key_cmp k) key ≡ b → HasOwn (with_kept xs k x)
    at true is =
        let one : h.0 ≡ p0 = some_inj h.0 p0 (sym h.1 ∙ ap (λ z. kept_of xs z) (sym (same_key k key is)) ∙ has) in
        (x, found ∙ ap (λ b. cond b (Some x) (kept_of xs key)) is, more (subst (λ (z : Past). Contains z.own m) one h.2))
    at false is = (h.0, found ∙ ap (λ b. cond b (Some x) (kept_of xs key)) is ∙ h.1, h.2)

  known_own : (o : Option Past) (b : Book) (p : Past) → o ≡ Some p → Contains p.own m → Contains (with_book (known_past o) b).own m
  known_own o b p e h = subst (λ (z : Option Past). Contains (with_book (known_past z) b).own m) (sym e) h

  has_file : (xs : Kept) (books : List (PubKey × Book)) → HasOwn xs → HasOwn (with_file xs books)
  has_file xs [] h = h
  has_file xs (b ∷ bs) h = has_file (with_file_book xs b) bs (has_put xs b.0 (with_book (known_past (kept_of xs b.0)) b.1) (λ p e c. known_own (kept_of xs b.0) b.1 p e c) h)

  has_known : (xs : Kept) (k : PubKey) (b : Bool) → is_some (kept_of xs k) ≡ b → HasOwn xs → HasOwn (cond b xs (with_key xs k no_past))
  has_known xs k true e h = h
  has_known xs k false e h = has_put xs k no_past (λ p is c. absurd (let bad : true ≡ false = sym (ap is_some is) ∙ e in cc)) h

  has_own : (xs : Kept) (k : PubKey) (n : Message) (o : Option Past) → kept_of xs k ≡ o → HasOwn xs → HasOwn (own_grown_from xs k n o)
  has_own xs k n None e h = h
  has_own xs k n (Some p) e h = has_change xs k (with_own p n) p e (λ c. Contains-append_left p.own (n ∷ []) m c) h

  has_pruned : (xs : Kept) (k : PubKey) (o : Option Past) → HasOwn xs → HasOwn (pruned_keys xs k o)
  has_pruned xs k None h = h
  has_pruned xs k (Some p) h = has_file xs ((k, pruning_of p) ∷ []) h

  has_messages : (xs : Kept) (listed : List (PubKey × Message)) → HasOwn xs → HasOwn (with_messages xs listed)
  has_messages xs [] h = h
  has_messages xs (one ∷ listed) h = has_messages (own_grown xs one.0 one.1) listed (has_own xs one.0 one.1 (kept_of xs one.0) refl h)

  has_lasting : (a : State) (c : DeskCall) → HasOwn a.keys → HasOwn (lasting_after a c).keys
  has_lasting a (call.Merge file) h = has_file a.keys file.books h
  has_lasting a (call.Activate k now) h = has_known a.keys k (is_some (kept_of a.keys k)) refl h
  has_lasting a (call.Propose k n now) h = has_own a.keys k n (kept_of a.keys k) refl h
  has_lasting a (call.Record ps now) h = has_messages a.keys ps h
  has_lasting a (call.Prune k) h = has_pruned a.keys k (past_of a k) h
  has_lasting a (call.Allow k now) h = h
  has_lasting a (call.Answer k e l now) h = h
  has_lasting a (call.Settle g o) h = h
  has_lasting a (call.BeginClose k) h = h
  has_lasting a (call.FinishClose k) h = h
  has_lasting a (call.Export keys) h = h
  has_lasting a call.Keys h = h
  has_lasting a call.HasFailed h = h
  has_lasting a call.Size h = h
  has_lasting a call.Compact h = h

  -- also where a torn call lasts
  abbrev HasTorn : Option Lasting → Type 0
  HasTorn None = Unit {0}
  HasTorn (Some l) = HasOwn l.keys

  abbrev Has : State → Type 0
  Has a = HasOwn a.keys × HasTorn a.torn

  torn_has : (o : Option Lasting) (l : Lasting) → HasTorn o → HasOwn l.keys → HasTorn (torn_first o l)
  torn_has None l h new = new
  torn_has (Some first) l h new = h

  has_leaves : (a b : State) (c : DeskCall) → Leaves a c b → Has a → Has b
  has_leaves a b c (inl s) h = (subst HasOwn (sym s.keys) h.0, subst HasTorn (sym s.torn) h.1)
  has_leaves a b c (inr (inl s)) h = (subst HasOwn (sym s.keys) (has_lasting a c h.0), subst HasTorn (sym s.torn) h.1)
  has_leaves a b c (inr (inr s)) h = (subst HasOwn (sym s.keys) h.0, subst HasTorn (sym s.torn) (torn_has a.torn (lasting_after a c) h.1 (has_lasting a c h.0)))

  has_lasts : (a : State) (l : Lasting) → MayLast a l → Has a → HasOwn l.keys
  has_lasts a l (inl e) h = subst (λ (x : Lasting). HasOwn x.keys) (sym e) h.0
  has_lasts a l (inr e) h = subst HasTorn e h.1

  has_between : (a b : State) (between : List Change) → Path Changes a between b → Has a → Has b
  has_between a b [] w h = subst Has (sym w) h
  has_between a b (Made c r ∷ xs) w h = has_between w.0 b xs w.2 (subst Has (sym w.1.1) (has_leaves a (after a c r) c (leaves a c r w.1.0) h))
  has_between a b (Restarts watch now ∷ xs) w h = has_between w.0 b xs w.2 (subst Has (sym w.1.2) (has_lasts a w.1.0 w.1.1 h, tt))

  -- ---- leave was given

  has_now : (xs : Kept) (o : Option Past) (P : Past → Type 0) → kept_of xs key ≡ o → IsSomeAnd o P → HasOwn (own_grown_from xs key m o)
  has_now xs None P e some = absurd some
  has_now xs (Some p) P e some = (
    with_own p m,
    changed xs key key (with_own p m) (ap is_some e) ∙ ap (λ b. cond b (Some (with_own p m)) (kept_of xs key)) (at_itself key),
    Contains-push p.own m,
  )

  granted_has : (a : State) (now : ℕ) (grant : OpenGrant) → Reply a (call.Propose key m now) (reply.Granted grant) → Has (after a (call.Propose key m now) (reply.Granted grant))
  granted_has a now grant ok = (has_now a.keys (kept_of a.keys key) (λ past. Passes past m) refl ok.0.1.0.1, subst HasTorn (sym ok.0.0) tt)

-- ---- what comes again

is_repeat : (p : Past) (m : Message) → Contains p.own m → IsRepeat p m
is_repeat p (message.Block slot root) h = inr (root, refl, h)
is_repeat p (message.Vote source target root) h = inr (root, refl, h)

nothing_new : (p : Past) (key : PubKey) (m : Message) → Contains p.own m → proposal_items (Some p) key m ≡ []
nothing_new p key m h = let there : repeats p m ≡ true = (repeats_decides p m).1 (is_repeat p m h) in rw there refl

own_again : (p : Past) (m n : Message) → Contains p.own m → Contains (with_own p m).own n → Contains p.own n
own_again p m n h c = elim (Contains-push_cases p.own m n c) [
  | inl there ↦ there
  | inr same ↦ subst (λ (x : Message). Contains p.own x) same h
]

block_forth : (p : Past) (m : Message) (e : BlockEntry) → IsPastBlock p e → IsPastBlock (with_own p m) e
block_forth p m e (inl x) = inl x
block_forth p m e (inr x) = inr (x.0, x.1, Contains-append_left p.own (m ∷ []) (message.Block e.slot x.0) x.2)

block_back : (p : Past) (m : Message) (e : BlockEntry) → Contains p.own m → IsPastBlock (with_own p m) e → IsPastBlock p e
block_back p m e h (inl x) = inl x
block_back p m e h (inr x) = inr (x.0, x.1, own_again p m (message.Block e.slot x.0) h x.2)

vote_forth : (p : Past) (m : Message) (e : VoteEntry) → IsPastVote p e → IsPastVote (with_own p m) e
vote_forth p m e (inl x) = inl x
vote_forth p m e (inr x) = inr (x.0, x.1, Contains-append_left p.own (m ∷ []) (message.Vote e.source e.target x.0) x.2)

vote_back : (p : Past) (m : Message) (e : VoteEntry) → Contains p.own m → IsPastVote (with_own p m) e → IsPastVote p e
vote_back p m e h (inl x) = inl x
vote_back p m e h (inr x) = inr (x.0, x.1, own_again p m (message.Vote e.source e.target x.0) h x.2)

-- a record stands for the past with the message again where it stands for the past
stands_own : (p : Past) (m : Message) (parts : Parts) → Contains p.own m → Stands parts p ↔ Stands parts (with_own p m)
stands_own p m parts has = (
  λ s. record {
    floors = s.floors;
    blocks = λ e. (λ h. let x = (s.blocks e).0 h in (block_forth p m e x.0, x.1), λ x. (s.blocks e).1 (block_back p m e has x.0, x.1));
    votes = λ e. (λ h. let x = (s.votes e).0 h in (vote_forth p m e x.0, x.1), λ x. (s.votes e).1 (vote_back p m e has x.0, x.1));
    blocks_in_order = s.blocks_in_order;
    votes_in_order = s.votes_in_order;
  },
  λ s. record {
    floors = s.floors;
    blocks = λ e. (λ h. let x = (s.blocks e).0 h in (block_back p m e has x.0, x.1), λ x. (s.blocks e).1 (block_forth p m e x.0, x.1));
    votes = λ e. (λ h. let x = (s.votes e).0 h in (vote_back p m e has x.0, x.1), λ x. (s.votes e).1 (vote_forth p m e x.0, x.1));
    blocks_in_order = s.blocks_in_order;
    votes_in_order = s.votes_in_order;
  },
)

-- each key has the record that it had
same_grown : (xs : Kept) (key : PubKey) (m : Message) (p : Past) (o : Option Past) → kept_of xs key ≡ o → o ≡ Some p → Contains p.own m → (k : PubKey) → SameRecord (kept_of xs k) (kept_of (own_grown_from xs key m o) k)
same_grown xs key m p None e is has k = same_self (kept_of xs k)
same_grown xs key m p (Some q) e is has k = subst (λ (o : Option Past). SameRecord (kept_of xs k) o) (sym (changed xs key k (with_own q m) (ap is_some e))) (at (is_at (key_cmp key) k) refl) where
  own : Contains q.own m
  own = subst (λ (x : Past). Contains x.own m) (sym (some_inj q p is)) has

  here : (o : Option Past) → o ≡ Some q → SameRecord o (Some (with_own q m))
  here None f = absurd cc
  here (Some x) f = subst (λ (z : Past). SameRecord (Some z) (Some (with_own q m))) (sym (some_inj x q f)) (λ parts. stands_own q m parts own)

  at : (b : Bool) → is_at (key_cmp key) k ≡ b → SameRecord (kept_of xs k) (cond b (Some (with_own q m)) (kept_of xs k))
  at true f = here (kept_of xs k) (ap (λ z. kept_of xs z) (sym (same_key key k f)) ∙ e)
  at false f = same_self (kept_of xs k)

torn_again : (o : Option Lasting) (l : Lasting) → IsSome o → torn_first o l ≡ o
torn_again None l h = absurd (let bad : false ≡ true = h in cc)
torn_again (Some first) l h = refl

grew_none : (size : ℕ) (o : Option Past) (key : PubKey) (m : Message) → proposal_items o key m ≡ [] → size + frame_size (proposal_items o key m) ≡ size
grew_none size o key m none = rw none (omega arith)

-- nothing of it is written, so no disk fails by it
fails_before : (c : State) (key : PubKey) (m : Message) (later : ℕ) → proposal_items (past_of c key) key m ≡ [] → MayFail c (call.Propose key m later) → IsSome c.torn
fails_before c key m later none (inl some) = some
fails_before c key m later none (inr x) = absurd (subst (IsWritten c.size) none x.2)

changes_none : (c : State) (key : PubKey) (m : Message) (later : ℕ) (r : DeskReply) (p : Past) → past_of c key ≡ Some p → Contains p.own m → proposal_items (past_of c key) key m ≡ []
    → Reply c (call.Propose key m later) r → ChangesNoRecord c (after c (call.Propose key m later) r)
changes_none c key m later (reply.Granted grant) p is has none ok = record {
  records = λ k. same_grown c.keys key m p (kept_of c.keys key) refl is has k;
  states = refl;
  watching = refl;
  size = grew_none c.size (past_of c key) key m none;
  generation = refl;
  torn = refl;
}
changes_none c key m later reply.Disk p is has none ok = record {
  records = λ k. same_self (past_of c k);
  states = refl;
  watching = refl;
  size = refl;
  generation = refl;
  torn = torn_again c.torn (lasting_after c (call.Propose key m later)) (fails_before c key m later none ok);
}
changes_none c key m later r p is has none ok = record { records = λ k. same_self (past_of c k); states = refl; watching = refl; size = refl; generation = refl; torn = refl }

pub repeats_change_nothing : RepeatsChangeNothing
repeats_change_nothing a c key m now later grant r between ok way again =
    let has : Has key m c = has_between key m (after a (call.Propose key m now) (reply.Granted grant)) c between way (granted_has key m a now grant ok) in
    let none : proposal_items (past_of c key) key m ≡ [] = ap (λ o. proposal_items o key m) has.0.1 ∙ nothing_new has.0.0 key m has.0.2 in
    (none, changes_none c key m later r has.0.0 has.0.1 has.0.2 none again)
