-- The two plans.
use Rattle.std.proofs.Common.{◌≡◌, ◌≢◌, ◌⊎◌, inl, inr, ℕ, List, [], ◌∷◌, ◌++◌, Option, Some, None, refl, sym, ◌∙◌, ap, subst, arith}
use Rattle.std.specs.Prelude.{Contains, IsSomeAnd}
use Rattle.std.proofs.lemmas.List.Elements.{Contains-push}
use Rattle.edge_kit.specs.declared.bytes.PubKey.{PubKey}
use Rattle.edge_kit.specs.declared.bytes.Root.{Root}
use Rattle.slash_defs.specs.declared.message.Message.{Message}
use Rattle.slash_defs.specs.declared.book.Book.{Book}
use Rattle.protect_record.specs.Pasts.{Past, no_past, with_book}
use Rattle.protect_record.proofs.MemberLemmas.{contains_none, contains_cases}
use Rattle.record_join.specs.Keys.{kept_of}
use Rattle.record_join.specs.BooksPasts.{known_past, with_file}
use Rattle.record_join.specs.KeyLaws.{at_itself, kept_here}
use Rattle.desk_machine.specs.States.{past_of}
use Rattle.desk_machine.specs.declared.open_grant.OpenGrant.{OpenGrant}
use Rattle.desk_machine.specs.declared.call.DeskCall.{DeskCall}
use Rattle.desk_machine.specs.declared.call.DeskCall.TheVariants as call
use Rattle.desk_machine.specs.declared.call.DeskReply.TheVariants as reply
use Rattle.desk_machine.specs.declared.call.Outcome.TheVariants as outcome
use Rattle.world_law.specs.Worlds.{World, Event, at_client, run, IsRun}
use Rattle.world_law.specs.Worlds.Event.{Call, Send}
use Rattle.world_law.specs.Worlds.Deed.{Activated}
use Rattle.world_law.specs.Lawful.{IsActivation, MayHold, MayActivate, IsHandedOut, IsLawfulNow, IsLawful, closed_by}
use Rattle.world_law.specs.Plans.{there_and_back, one_chain, file_of, IsLawfulBack, IsUnlawfulBack}
use Rattle.world_law.proofs.KeyStanding.Phase.{Fresh, Held, Resting}
use Rattle.world_law.proofs.DeedLemmas.{phase_of}
use Rattle.world_law.proofs.ClientLemmas.{is_held}
use Rattle.world_law.proofs.WorldLemmas.{Invariant, client_cases}
use Rattle.world_law.proofs.EventLemmas.{all_steps, begins_so}

-- no call is torn
abbrev NoneTorn : World → Type 0
NoneTorn w = (d : ℕ) → w.torn d ≡ None

-- a call that is not torn tears none
still_none : (torn : ℕ → Option DeskCall) (c : ℕ) → ((d : ℕ) → torn d ≡ None) → (d : ℕ) → at_client torn c (torn c) d ≡ None
still_none torn c none d = client_cases (λ n t. t ≡ None) torn c (torn c) (none c) (λ n e. none n) d

-- where the key rests, no client may hold it
resting_free : (w : World) (key : PubKey) (c : ℕ) → Invariant [] w → NoneTorn w → phase_of w.deeds key ≡ Resting c → (d : ℕ) → ¬ (MayHold w d key)
resting_free w key c inv none rests d (inl (inl active)) = let h = (inv.keys key).holder d (ap is_held active) in let bad : Held d ≡ Resting c = sym h ∙ rests in cc
resting_free w key c inv none rests d (inl (inr closing)) = let h = (inv.keys key).holder d (ap is_held closing) in let bad : Held d ≡ Resting c = sym h ∙ rests in cc
resting_free w key c inv none rests d (inr pending) = let P : Option DeskCall → Type 0 = λ t. IsActivation t key in subst P (none d) pending

-- what a merged file brings is in the past
merged_has : (keys : List (PubKey × Past)) (key : PubKey) (book : Book) → IsSomeAnd (kept_of (with_file keys ((key, book) ∷ [])) key) (λ past. Contains past.books book)
merged_has keys key book = rw (kept_here keys key (with_book (known_past (kept_of keys key)) book)) (Contains-push (known_past (kept_of keys key)).books book)

-- and nothing else, where the past was empty
merged_only : (key : PubKey) (book other : Book) → IsSomeAnd (kept_of (with_file ((key, no_past) ∷ []) ((key, book) ∷ [])) key) (λ past. Contains past.books other) → book ≡ other
merged_only key book other h = at (contains_cases book [] other has) where
  here : kept_of ((key, no_past) ∷ []) key ≡ Some no_past
  here = rw (at_itself key) refl

  has : Contains (book ∷ []) other
  has =
      let P : Option Past → Type 0 = λ o. IsSomeAnd o (λ x. Contains x.books other) in
      let all : Contains ((known_past (kept_of ((key, no_past) ∷ []) key)).books ++ book ∷ []) other = subst P (kept_here ((key, no_past) ∷ []) key (with_book (known_past (kept_of ((key, no_past) ∷ []) key)) book)) h in
      let R : Option Past → Type 0 = λ o. Contains ((known_past o).books ++ book ∷ []) other in
      subst R here all

  at : (book ≡ other) ⊎ Contains [] other → book ≡ other
  at (inl e) = e
  at (inr x) = contains_none other x

lacks : (o : Option Past) (has lacking : Book) → IsSomeAnd o (λ past. Contains past.books has) → (IsSomeAnd o (λ past. Contains past.books lacking) → ⊥) → IsSomeAnd o (λ past. Contains past.books lacking → ⊥)
lacks None has lacking h none = h
lacks (Some past) has lacking h none = none

some_inj : {X : Type 0} (a b : X) → Some a ≡ Some b → a ≡ b
some_inj a b e = cc

one_zero : ◌≡◌ {A = ℕ} 1 0 → ⊥
one_zero e = absurd (omega (arith, e))

module _ (genesis : Root) (key : PubKey) (m : Message) (grant : OpenGrant) (first second brought : Book) (now : ℕ) where
  abbrev w0 : World
  w0 = one_chain genesis

  abbrev e1 : Event
  e1 = Call 0 (call.Activate key now) reply.Active

  abbrev e2 : Event
  e2 = Call 0 (call.BeginClose key) reply.CloseBegun

  abbrev e3 : Event
  e3 = Call 0 (call.FinishClose key) (reply.Closed first)

  abbrev e4 : Event
  e4 = Call 1 (call.Merge (file_of genesis key first)) (reply.Merged 1)

  abbrev e5 : Event
  e5 = Call 1 (call.Activate key now) reply.Active

  abbrev e6 : Event
  e6 = Call 1 (call.Propose key m now) (reply.Granted grant)

  abbrev e7 : Event
  e7 = Send 1 grant m

  abbrev e8 : Event
  e8 = Call 1 (call.Settle grant outcome.Sent) reply.Settled

  abbrev e9 : Event
  e9 = Call 1 (call.BeginClose key) reply.CloseBegun

  abbrev e10 : Event
  e10 = Call 1 (call.FinishClose key) (reply.Closed second)

  abbrev e11 : Event
  e11 = Call 0 (call.Merge (file_of genesis key brought)) (reply.Merged 1)

  abbrev w4 : World
  w4 = run w0 (e1 ∷ e2 ∷ e3 ∷ e4 ∷ [])

  abbrev w11 : World
  w11 = run w0 (e1 ∷ e2 ∷ e3 ∷ e4 ∷ e5 ∷ e6 ∷ e7 ∷ e8 ∷ e9 ∷ e10 ∷ e11 ∷ [])

  -- ---- the first activation

  first_free : MayActivate [] w0 0 key
  first_free = (free, inl (λ d x. contains_none (Activated d key) x, λ n x. contains_none (key, n) x)) where
    free : (d : ℕ) → ¬ (MayHold (one_chain genesis) d key)
    free d (inl (inl e)) = cc
    free d (inl (inr e)) = cc
    free d (inr x) = x

  -- ---- the second

  none4 : NoneTorn w4
  none4 = still_none (run w0 (e1 ∷ e2 ∷ e3 ∷ [])).torn 1 (still_none (run w0 (e1 ∷ e2 ∷ [])).torn 0 (still_none (run w0 (e1 ∷ [])).torn 0 (still_none w0.torn 0 (λ d. refl))))

  rests4 : phase_of w4.deeds key ≡ Resting 0
  rests4 = rw (at_itself key) refl

  module _ (h : IsRun w0 (there_and_back genesis key m grant first second brought now)) where
    law1 : IsLawfulNow [] w0 e1
    law1 k e = let P : PubKey → Type 0 = λ q. MayActivate [] w0 0 q in subst P e first_free

    inv4 : Invariant [] w4
    inv4 = all_steps [] w0 (e1 ∷ e2 ∷ e3 ∷ e4 ∷ []) (begins_so [] (λ d. genesis)) (h.0, (h.1.0, (h.1.1.0, (h.1.1.1.0, tt)))) (law1, (λ k x. absurd x, (λ k x. absurd x, (λ k x. absurd x, tt))))

    second_free : MayActivate [] w4 1 key
    second_free = (resting_free w4 key 0 inv4 none4 rests4, inr (inr (0, rw (at_itself key) refl, first, inl (refl, rw (at_itself key) refl), merged_has [] key first)))

    law5 : IsLawfulNow [] w4 e5
    law5 k e = let P : PubKey → Type 0 = λ q. MayActivate [] w4 1 q in subst P e second_free

    -- ---- the third

    inv11 : Invariant [] w11
    inv11 = all_steps [] w4 (e5 ∷ e6 ∷ e7 ∷ e8 ∷ e9 ∷ e10 ∷ e11 ∷ []) inv4
        (h.1.1.1.1.0, (h.1.1.1.1.1.0, (h.1.1.1.1.1.1.0, (h.1.1.1.1.1.1.1.0, (h.1.1.1.1.1.1.1.1.0, (h.1.1.1.1.1.1.1.1.1.0, (h.1.1.1.1.1.1.1.1.1.1.0, tt)))))))
        (law5, (λ k x. absurd x, (λ k x. absurd x, (λ k x. absurd x, (λ k x. absurd x, (λ k x. absurd x, (λ k x. absurd x, tt)))))))

    none11 : NoneTorn w11
    none11 =
        still_none (run w4 (e5 ∷ e6 ∷ e7 ∷ e8 ∷ e9 ∷ e10 ∷ [])).torn 0
        (still_none (run w4 (e5 ∷ e6 ∷ e7 ∷ e8 ∷ e9 ∷ [])).torn 1
        (still_none (run w4 (e5 ∷ e6 ∷ e7 ∷ e8 ∷ [])).torn 1
        (still_none (run w4 (e5 ∷ e6 ∷ e7 ∷ [])).torn 1
        (still_none (run w4 (e5 ∷ e6 ∷ [])).torn 1
        (still_none (run w4 (e5 ∷ [])).torn 1
        (still_none w4.torn 1 none4))))))

    rests11 : phase_of w11.deeds key ≡ Resting 1
    rests11 = rw (at_itself key) refl

    lawful : MayActivate [] w11 0 key → IsLawful [] w0 (there_and_back genesis key m grant first second brought now)
    lawful may = (
      law1,
      (λ k x. absurd x, (λ k x. absurd x, (λ k x. absurd x, (law5, (λ k x. absurd x, (λ k x. absurd x, (λ k x. absurd x, (λ k x. absurd x, (λ k x. absurd x, (λ k x. absurd x, (last, tt))))))))))),
    ) where
      last : (k : PubKey) → key ≡ k → MayActivate [] w11 0 k
      last k e = let P : PubKey → Type 0 = λ q. MayActivate [] w11 0 q in subst P e may

    closed11 : closed_by w11.deeds key ≡ Some 1
    closed11 = rw (at_itself key) refl

    out11 : IsHandedOut w11.deeds key 1 second
    out11 = inl (refl, rw (at_itself key) refl)

    only11 : (d : ℕ) (b : Book) → IsHandedOut w11.deeds key d b → second ≡ b
    only11 d b (inl x) = let e : Some second ≡ Some b = rw (at_itself key) at x.1 in some_inj second b e
    only11 d b (inr x) = let no : ⊥ = rw (at_itself key) at x in absurd no

    back_free : IsSomeAnd (past_of (w11.desks 0) key) (λ past. Contains past.books second) → MayActivate [] w11 0 key
    back_free has = (resting_free w11 key 1 inv11 none11 rests11, inr (inr (1, closed11, second, out11, has)))

    not_back : first ≢ second → IsSomeAnd (past_of (w11.desks 0) key) (λ past. Contains past.books second → ⊥) → MayActivate [] w11 0 key → ⊥
    not_back differ none (free, inl never) =
        let x = (inv11.keys key).known (λ e. let bad : Resting 1 ≡ Fresh = sym rests11 ∙ e in cc) in
        never.0 x.0 x.1
    not_back differ none (free, inr (inl own)) = one_zero (some_inj 1 0 (sym closed11 ∙ own))
    not_back differ none (free, inr (inr imported)) = at (past_of (w11.desks 0) key) none imported.4 where
      at : (o : Option Past) → IsSomeAnd o (λ past. Contains past.books second → ⊥) → IsSomeAnd o (λ past. Contains past.books imported.2) → ⊥
      at None x y = x
      at (Some past) x y = let P : Book → Type 0 = λ b. Contains past.books b in x (subst P (sym (only11 imported.0 imported.2 imported.3)) y)

pub lawful_back : IsLawfulBack
lawful_back genesis key m grant first second now h =
    lawful genesis key m grant first second second now h (back_free genesis key m grant first second second now h (merged_has ((key, no_past) ∷ []) key second))

pub unlawful_back : IsUnlawfulBack
unlawful_back genesis key m grant first second now differ h law =
    not_back genesis key m grant first second first now h differ (lacks (kept_of (with_file ((key, no_past) ∷ []) ((key, first) ∷ [])) key) first second (merged_has ((key, no_past) ∷ []) key first) (λ x. differ (merged_only key first second x))) (law.1.1.1.1.1.1.1.1.1.1.1.0 key refl)
