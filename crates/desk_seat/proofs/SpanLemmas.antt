-- A grant in a pass's hand is open at the desk, and its number is given once: so it is in hand from its giving to its settling.
use Rattle.std.proofs.Common.{◌≡◌, ◌⊎◌, inl, inr, ⊎_elim, ℕ, ◌+◌, ◌<◌, ◌≤◌, ◌==◌, cond, Bool, true, false, List, [], ◌∷◌, ◌++◌, refl, sym, ap, ◌∙◌, subst, append-nil, append_assoc, arith, Contains}
use Rattle.std.specs.BTreeMap.{is_at}
use Rattle.std.proofs.lemmas.List.Sums.{sum_by-cons}
use Rattle.std.proofs.lemmas.List.Elements.{Contains-push_cases}
use mathlib.Core.Logic.{dite}
use native.Mathlib.Decide.{ℕ_discrete}
use Rattle.edge_kit.specs.declared.bytes.PubKey.{PubKey}
use Rattle.slash_defs.specs.declared.book.Book.{Book}
use Rattle.protect_record.proofs.MemberLemmas.{contains_cases, contains_first, contains_later, contains_none}
use Rattle.record_join.specs.Keys.{key_cmp}
use Rattle.record_join.specs.KeyLaws.{at_itself}
use Rattle.desk_machine.specs.Given.{MayMake, given, given_after}
use Rattle.desk_machine.specs.Grants.{IsGrantFor, IsIdleOrBusy, IsNumbered, next_after, open_grants}
use Rattle.desk_machine.specs.HandLaws.{any_other, given_split}
use Rattle.desk_machine.specs.Kinds.{IsKind}
use Rattle.desk_machine.specs.declared.open_grant.OpenGrant.{OpenGrant}
use Rattle.desk_machine.specs.declared.call.Outcome.{Outcome}
use Rattle.desk_machine.specs.declared.call.Outcome.TheVariants as outcome
use Rattle.desk_machine.specs.declared.call.DeskCall.{DeskCall}
use Rattle.desk_machine.specs.declared.call.DeskCall.TheVariants as call
use Rattle.desk_machine.specs.declared.call.DeskReply.{DeskReply}
use Rattle.desk_machine.specs.declared.call.DeskReply.TheVariants as reply
use Rattle.check_sign.specs.Contents.{Seen}
use Rattle.desk_lock.specs.declared.types.Entry.{Entry}
use Rattle.desk_lock.specs.Histories.{entry, own, Legal}
use Rattle.desk_lock.proofs.HistoryLemmas.{legal_more, own-append, own-mine, own_same}
use Rattle.desk_seat.specs.FairLaws.{admitted}
use Rattle.desk_seat.specs.Steps.{DeskStep}
use Rattle.desk_seat.specs.Turns.{calls_of}
use Rattle.desk_seat.specs.Spans.{ClosesKey, History, NoneCloses, NoneInHand, Spans}
use Rattle.desk_seat.proofs.PlaceLemmas.{Place, Splits, Turn, legal_joined, place, splits, turn_at}

-- the grants that a pass has in hand
abbrev hand : ℕ → History → List OpenGrant
hand k turns = given [] (own k turns)

-- ---- one turn

-- the numbers of grants ascend
next_ascends : (next : ℕ) (c : DeskCall) (r : DeskReply) → next ≤ next_after next c r
next_ascends next (call.Propose key m now) (reply.Granted grant) = omega arith
next_ascends next (call.Allow key now) (reply.Granted grant) = omega arith
next_ascends next c r = omega arith

-- the number of a grant that is given is below the next one from then on
below_next : (next : ℕ) (c : DeskCall) (grant : OpenGrant) → IsGrantFor c (reply.Granted grant) → IsNumbered next c (reply.Granted grant)
    → grant.number < next_after next c (reply.Granted grant)
below_next next (call.Propose key m now) grant for is = let number : grant.number ≡ next = is in omega (arith, number)
below_next next (call.Allow key now) grant for is = let number : grant.number ≡ next = is in omega (arith, number)
below_next next c grant for is = absurd for

earlier : (held : List OpenGrant) (next : ℕ) (grant g : OpenGrant) → grant.number ≡ next → g.number < next → Contains (held ++ grant ∷ []) g → Contains held g
earlier held next grant g is low has = ⊎_elim
    (λ there. there)
    (λ same. let number : grant.number ≡ g.number = ap (λ (y : OpenGrant). y.number) same in absurd (omega (arith, low, number, is)))
    (Contains-push_cases held grant g has)

-- a grant of an earlier number was not given by this call
in_hand_before : (held : List OpenGrant) (next : ℕ) (c : DeskCall) (r : DeskReply) (g : OpenGrant) → IsNumbered next c r → g.number < next
    → Contains (given_after held c r) g → Contains held g
in_hand_before held next (call.Propose key m now) (reply.Granted grant) g is low has = earlier held next grant g is low has
in_hand_before held next (call.Allow key now) (reply.Granted grant) g is low has = earlier held next grant g is low has
in_hand_before held next (call.Settle grant o) reply.Settled g is low has = (any_other held grant.number g has).0
in_hand_before held next c r g is low has = has

-- a grant that is settled is answered so
settled_reply : (grant : OpenGrant) (o : Outcome) (r : DeskReply) → IsKind (call.Settle grant o) r → r ≡ reply.Settled
settled_reply grant o reply.Settled kind = refl
settled_reply grant o r kind = absurd kind

-- ---- the open grants of a key

open_cons : (g : OpenGrant) (gs : List OpenGrant) (key : PubKey) (b : Bool) → is_at (key_cmp key) g.key ≡ b → open_grants (g ∷ gs) key ≡ cond b 1 0 + open_grants gs key
open_cons g gs key b e = sum_by-cons (λ x. cond (is_at (key_cmp key) x.key) 1 0) g gs ∙ ap (λ t. cond t 1 0 + open_grants gs key) e

none_open : (grants : List OpenGrant) (key : PubKey) → open_grants grants key ≡ 0 → (g : OpenGrant) → Contains grants g → g.key ≡ key → ⊥
none_open [] key e g has is = contains_none g has
none_open (h ∷ hs) key e g has is = at (is_at (key_cmp key) h.key) refl (contains_cases h hs g has) (λ d. none_open hs key d g) where
  at : (b : Bool) → is_at (key_cmp key) h.key ≡ b → (h ≡ g) ⊎ Contains hs g → (open_grants hs key ≡ 0 → Contains hs g → g.key ≡ key → ⊥) → ⊥
  at true f w rest = let total : 1 + open_grants hs key ≡ 0 = sym (open_cons h hs key true f) ∙ e in omega (arith, total)
  at false f (inl same) rest =
      let P : PubKey → Type 0 = λ q. is_at (key_cmp key) q ≡ false in
      let here = subst P (ap (λ x. x.key) same ∙ is) f in
      let bad : true ≡ false = sym (at_itself key) ∙ here in cc
  at false f (inr there) rest = let total : 0 + open_grants hs key ≡ 0 = sym (open_cons h hs key false f) ∙ e in rest (omega (arith, total)) there is

idle_at : (grants : List OpenGrant) (key : PubKey) (turn : Entry DeskCall DeskReply) → ClosesKey key turn → IsIdleOrBusy grants turn.call turn.reply → open_grants grants key ≡ 0
idle_at grants key turn closes idle = subst (λ (x : DeskCall × DeskReply). IsIdleOrBusy grants x.0 x.1) (λ i. (closes.call_is i, closes.reply_is i)) idle

-- ---- the calls of a pass

-- a grant of an earlier number that is in hand after a turn was in hand before it
in_hand_push : (k : ℕ) (before : History) (turn : Entry DeskCall DeskReply) (next : ℕ) (g : OpenGrant) → IsNumbered next turn.call turn.reply → g.number < next
    → Contains (hand k (before ++ turn ∷ [])) g → Contains (hand k before) g
in_hand_push k before turn next g is low has = dite (ℕ_discrete turn.by k)
    (λ same.
    let grows : own k (before ++ turn ∷ []) ≡ own k before ++ (turn.call, turn.reply) ∷ [] =
    own-append k before (turn ∷ []) ∙ ap (λ (l : List (DeskCall × DeskReply)). own k before ++ l) (own-mine k turn.by turn.call turn.reply same) in
    let after : hand k (before ++ turn ∷ []) ≡ given_after (hand k before) turn.call turn.reply = ap (given []) grows ∙ given_split [] (own k before) ((turn.call, turn.reply) ∷ []) in
    in_hand_before (hand k before) next turn.call turn.reply g is low (subst (λ (l : List OpenGrant). Contains l g) after has))
    (λ other. subst (λ (l : List (DeskCall × DeskReply)). Contains (given [] l) g) (own_same k turn.by before turn.call turn.reply other) has)

pub among : (log : History) (k : ℕ) (x : DeskCall × DeskReply) → Contains (own k log) x → Contains (calls_of log) x
among [] k x has = has
among (e ∷ es) k x has = at (e.by == k) (among es k x) has where
  at : (b : Bool) → (Contains (own k es) x → Contains (calls_of es) x) → Contains (cond b ((e.call, e.reply) ∷ own k es) (own k es)) x → Contains ((e.call, e.reply) ∷ calls_of es) x
  at true more h = ⊎_elim
      (λ same. subst (λ (y : DeskCall × DeskReply). Contains ((e.call, e.reply) ∷ calls_of es) y) same (contains_first (e.call, e.reply) (calls_of es)))
      (λ there. contains_later (e.call, e.reply) (calls_of es) x (more there))
      (contains_cases (e.call, e.reply) (own k es) x h)
  at false more h = contains_later (e.call, e.reply) (calls_of es) x (more h)

-- ---- legal histories

module _ {D : Type 0} (moment : D → ℕ) (leaves : D → ℕ → List ℕ → Type 0) (faults : D → ℕ) where
  abbrev Leads : History → Seen D → History → Seen D → Type 0
  Leads before s turns t = Legal (DeskStep moment leaves faults) MayMake before s turns t

  next_later : (before : History) (s : Seen D) (turns : History) (t : Seen D) → Leads before s turns t → s.contents.next ≤ t.contents.next
  next_later before s [] t l = let same : t.contents.next ≡ s.contents.next = ap (λ (x : Seen D). x.contents.next) l in omega (arith, same)
  next_later before s (e ∷ es) t l =
      let next : l.0.contents.next ≡ next_after s.contents.next e.call e.reply = l.2.counted.next in
      let one : s.contents.next ≤ next_after s.contents.next e.call e.reply = next_ascends s.contents.next e.call e.reply in
      let more : l.0.contents.next ≤ t.contents.next = next_later (before ++ e ∷ []) l.0 es t l.3 in
      omega (arith, next, one, more)

  -- a grant of an earlier number that is in hand after these turns was in hand before them
  in_hand_earlier : (k : ℕ) (g : OpenGrant) (before : History) (s : Seen D) (turns : History) (t : Seen D) → Leads before s turns t → g.number < s.contents.next
      → Contains (hand k (before ++ turns)) g → Contains (hand k before) g
  in_hand_earlier k g before s [] t l low has = subst (λ (x : History). Contains (hand k x) g) (append-nil before) has
  in_hand_earlier k g before s (e ∷ es) t l low has =
      let next : l.0.contents.next ≡ next_after s.contents.next e.call e.reply = l.2.counted.next in
      let one : s.contents.next ≤ next_after s.contents.next e.call e.reply = next_ascends s.contents.next e.call e.reply in
      in_hand_push k before e s.contents.next g l.2.counted.number low
      (in_hand_earlier k g (before ++ e ∷ []) l.0 es t l.3 (omega (arith, low, next, one)) (subst (λ (x : History). Contains (hand k x) g) (sym (append_assoc before (e ∷ []) es)) has))

  -- a grant in a pass's hand is open at the desk
  open_at : (opened : Seen D) (turns : History) (s : Seen D) (k : ℕ) (g : OpenGrant) → Leads [] opened turns s → Contains (hand k turns) g → Contains s.contents.grants g
  open_at opened turns s k g l has = admitted moment leaves faults opened s turns k (call.Settle g outcome.Sent) l has

  -- a key is not closed by turns after which a grant of it is in hand that was given before them
  stays_unclosed : (opened : Seen D) (before : History) (s : Seen D) (turns : History) (t : Seen D) (k : ℕ) (g : OpenGrant) → Leads [] opened before s → Leads before s turns t
      → g.number < s.contents.next → Contains (hand k (before ++ turns)) g → NoneCloses g.key turns
  stays_unclosed opened before s turns t k g begun led low has e in_turns closes =
      let parts : Splits turns e = splits turns e in_turns in
      let at : Turn (DeskStep moment leaves faults) MayMake before s parts.front e parts.behind t =
      turn_at (DeskStep moment leaves faults) MayMake before s parts.front e parts.behind t (subst (λ (x : History). Leads before s x t) parts.whole led) in
      let more : s.contents.next ≤ at.here.contents.next = next_later before s parts.front at.here at.leads in
      let same : before ++ turns ≡ (before ++ parts.front) ++ e ∷ parts.behind =
      ap (λ (x : History). before ++ x) parts.whole ∙ sym (append_assoc before parts.front (e ∷ parts.behind)) in
      let held : Contains (hand k (before ++ parts.front)) g =
      in_hand_earlier k g (before ++ parts.front) at.here (e ∷ parts.behind) t (at.next, at.allowed, at.stepped, at.rest) (omega (arith, low, more))
      (subst (λ (x : History). Contains (hand k x) g) same has) in
      let led_here : Leads [] opened (before ++ parts.front) at.here = legal_joined (DeskStep moment leaves faults) MayMake [] opened before parts.front s at.here begun at.leads in
      none_open at.here.contents.grants g.key (idle_at at.here.contents.grants g.key e closes at.stepped.counted.idle) g (open_at opened (before ++ parts.front) at.here k g led_here held) refl

  pub closed_idle : (opened closed : Seen D) (log before later : History) (n : ℕ) (key : PubKey) (book : Book)
      → Leads [] opened log closed → log ≡ before ++ entry n (call.FinishClose key) (reply.Closed book) ∷ later → NoneInHand before key
  closed_idle opened closed log before later n key book led log_is k g is has =
      let e : Entry DeskCall DeskReply = entry n (call.FinishClose key) (reply.Closed book) in
      let at : Turn (DeskStep moment leaves faults) MayMake [] opened before e later closed =
      turn_at (DeskStep moment leaves faults) MayMake [] opened before e later closed (subst (λ (x : History). Leads [] opened x closed) log_is led) in
      none_open at.here.contents.grants key at.stepped.counted.idle g (open_at opened before at.here k g at.leads has) is

  pub spans : (opened closed : Seen D) (log : History) (k : ℕ) (xs ys zs : List (DeskCall × DeskReply)) (c : DeskCall) (r : DeskReply) (grant : OpenGrant) (o : Outcome)
      → Leads [] opened log closed → own k log ≡ xs ++ (c, reply.Granted grant) ∷ (ys ++ (call.Settle grant o, r) ∷ zs) → Spans log k grant o
  spans opened closed log k xs ys zs c r grant o led is =
      let gave : Place k log xs c (reply.Granted grant) (ys ++ (call.Settle grant o, r) ∷ zs) = place k log xs c (reply.Granted grant) (ys ++ (call.Settle grant o, r) ∷ zs) is in
      let took : Place k gave.later ys (call.Settle grant o) r zs = place k gave.later ys (call.Settle grant o) r zs gave.own_later in
      let g : Entry DeskCall DeskReply = entry k c (reply.Granted grant) in
      let e : Entry DeskCall DeskReply = entry k (call.Settle grant o) r in
      let log_is : log ≡ gave.before ++ g ∷ (took.before ++ e ∷ took.later) = gave.log_is ∙ ap (λ (x : History). gave.before ++ g ∷ x) took.log_is in
      let at : Turn (DeskStep moment leaves faults) MayMake [] opened gave.before g (took.before ++ e ∷ took.later) closed =
      turn_at (DeskStep moment leaves faults) MayMake [] opened gave.before g (took.before ++ e ∷ took.later) closed (subst (λ (x : History). Leads [] opened x closed) log_is led) in
      let front : History = gave.before ++ g ∷ [] in
      let end : Turn (DeskStep moment leaves faults) MayMake front at.next took.before e took.later closed =
      turn_at (DeskStep moment leaves faults) MayMake front at.next took.before e took.later closed at.rest in
      let begun : Leads [] opened front at.next =
      legal_more (DeskStep moment leaves faults) MayMake [] opened gave.before at.here k c (reply.Granted grant) at.next at.leads at.allowed at.stepped in
      let below : grant.number < next_after at.here.contents.next c (reply.Granted grant) = below_next at.here.contents.next c grant at.stepped.counted.granted at.stepped.counted.number in
      let next : at.next.contents.next ≡ next_after at.here.contents.next c (reply.Granted grant) = at.stepped.counted.next in
      record {
        before = gave.before;
        asked = c;
        between = took.before;
        later = took.later;
        log_is = log_is ∙ ap (λ (x : DeskReply). gave.before ++ g ∷ (took.before ++ entry k (call.Settle grant o) x ∷ took.later)) (settled_reply grant o r end.stepped.counted.kind);
        granted = at.stepped.counted.granted;
        unclosed = stays_unclosed opened front at.next took.before end.here k grant begun end.leads (omega (arith, below, next)) end.allowed;
      }
