-- Each node asked whether it is syncing.
use Rattle.std.proofs.Common.{◌≡◌, ℕ, ◌+◌, ◌<◌, ◌≤◌, Bool, List, [], ◌∷◌, ◌++◌, map, length, get_or, drop, Option, Result, Ok, Err, IfOk, OnOk, OnErr, refl, sym, ◌∙◌, ap, subst, arith}
use Rattle.std.proofs.Math.ListN.{set}
use Rattle.std.proofs.lemmas.List.{length_push}
use Rattle.std.specs.declared.alloc.AllocError.{AllocError}
use Rattle.node_calls.specs.declared.answer.Answer.{Answer}
use Rattle.node_calls.specs.declared.answer.NodeFault.{NodeFault}
use Rattle.node_calls.specs.declared.told.NodeCall.{NodeCall}
use Rattle.node_fallback.specs.Refreshing.{AllButLastGiven, AreAsked, AreAskedFirst, AreFlagged, IsGiven, IsHeardOf, WithReplies, says_syncing}
use Rattle.node_fallback.specs.Seen.{Seen, seen_of}
use Rattle.node_fallback.specs.Turns.{IsHeard, place_seen}
use Rattle.node_fallback.proofs.SeenLemmas.{flag_at, get_or-seen_of, length-seen_of, seen_of-set}

-- the next node was asked
AreAsked-push : (old new : List Seen) (rs : List (Result Answer NodeFault)) (r : Result Answer NodeFault) (d s : Seen)
    → length rs < length new → AreAsked old rs new → IsHeardOf (get_or new (length rs) d) r s (get_or new (length rs) d).syncing → AreAsked old (rs ++ r ∷ []) (set new (length rs) s)
AreAsked-push [] [] [] r d s h f q = absurd (omega arith)
AreAsked-push [] (n ∷ new) [] r d s h f q = absurd cc
AreAsked-push (o ∷ old) [] [] r d s h f q = absurd (omega arith)
AreAsked-push (o ∷ old) (n ∷ new) [] r d s h f q =
    let same : n ≡ o = cc in
    let rest : new ≡ old = cc in
    (subst (λ (x : Seen). IsHeardOf x r s x.syncing) same q, rest)
AreAsked-push [] new (x ∷ rs) r d s h f q = absurd f
AreAsked-push (o ∷ old) [] (x ∷ rs) r d s h f q = absurd f
AreAsked-push (o ∷ old) (n ∷ new) (x ∷ rs) r d s h f q =
    let below : length rs < length new = omega arith in
    (f.0, AreAsked-push old new rs r d s below f.1 q)

-- each says something of its node
abbrev pub AllGiven : List (Result Answer NodeFault) → Type 0
AllGiven [] = Unit {0}
AllGiven (r ∷ rs) = IsGiven r × AllGiven rs

AllGiven-push : (rs : List (Result Answer NodeFault)) (r : Result Answer NodeFault) → AllGiven rs → IsGiven r → AllGiven (rs ++ r ∷ [])
AllGiven-push [] r a g = (g, tt)
AllGiven-push (x ∷ rs) r a g = (a.0, AllGiven-push rs r a.1 g)

AllButLastGiven-push : (rs : List (Result Answer NodeFault)) (r : Result Answer NodeFault) → AllGiven rs → AllButLastGiven (rs ++ r ∷ [])
AllButLastGiven-push [] r a = tt
AllButLastGiven-push (x ∷ []) r a = (a.0, tt)
AllButLastGiven-push (x ∷ y ∷ rs) r a = (a.0, AllButLastGiven-push (y ∷ rs) r a.1)

-- each was asked, and has the flag of its reply
AreFlagged-all : {N : Type 0} (calls : N → Option (List NodeCall)) (faults : N → ℕ) (os ns : List N) (flags kept : List Bool) (rs : List (Result Answer NodeFault))
    → AllGiven rs → AreAsked (seen_of calls faults os flags) rs (seen_of calls faults ns kept) → length ns ≤ length rs → AreFlagged (seen_of calls faults os flags) rs (seen_of calls faults ns (map says_syncing rs))
AreFlagged-all calls faults [] [] flags kept [] a f h = tt
AreFlagged-all calls faults [] (n ∷ ns) flags kept [] a f h = absurd (omega arith)
AreFlagged-all calls faults (o ∷ os) [] flags kept [] a f h = absurd cc
AreFlagged-all calls faults (o ∷ os) (n ∷ ns) flags kept [] a f h = absurd (omega arith)
AreFlagged-all calls faults [] ns flags kept (r ∷ rs) a f h = absurd f
AreFlagged-all calls faults (o ∷ os) [] flags kept (r ∷ rs) a f h = absurd f
AreFlagged-all calls faults (o ∷ os) (n ∷ ns) flags kept (r ∷ rs) a f h =
    (a.0, record { syncing = refl; tells = f.0.tells; later = f.0.later; fault = f.0.fault }, AreFlagged-all calls faults os ns (drop 1 flags) (drop 1 kept) rs a.1 f.1 (omega arith))

-- ---- the loop

-- the nodes in front of this place were asked, and gave these flags
pub record HeardSoFar (old new : List Seen) (i : ℕ) (heard : List Bool) : Type 0 where
  pub replies : List (Result Answer NodeFault)
  pub count : length replies ≡ i
  pub given : AllGiven replies
  pub asked : AreAsked old replies new
  pub heard_by : heard ≡ map says_syncing replies

pub HeardSoFar-none : (old : List Seen) (heard : List Bool) → heard ≡ [] → HeardSoFar old old 0 heard
HeardSoFar-none old heard e = record { replies = []; count = refl; given = tt; asked = refl; heard_by = e }

-- the next node was asked
AreAsked-heard : {N : Type 0} (calls : N → Option (List NodeCall)) (faults : N → ℕ) (old : List Seen) (ns : List N) (flags : List Bool) (i : ℕ) (heard : List Bool) (d n : N) (result : Result Bool AllocError)
    → (s : HeardSoFar old (seen_of calls faults ns flags) i heard) → i < length ns → d ≡ get_or ns i d → (t : IsHeard calls faults d n result)
    → AreAsked old (s.replies ++ t.reply ∷ []) (seen_of calls faults (set ns i n) flags)
AreAsked-heard {N} calls faults old ns flags i heard d n result s h at t =
    let was : Seen = place_seen calls faults d (flag_at flags i) in
    let is : Seen = place_seen calls faults n (flag_at flags i) in
    let now : List Seen = seen_of calls faults ns flags in
    let asked : IsHeardOf was t.reply is was.syncing = record { syncing = refl; tells = t.tells; later = t.later; fault = t.fault } in
    let here : IsHeardOf (place_seen calls faults (get_or ns i d) (flag_at flags i)) t.reply is (flag_at flags i) = subst (λ (x : N). IsHeardOf (place_seen calls faults x (flag_at flags i)) t.reply is (flag_at flags i)) at asked in
    let there : IsHeardOf (get_or now i was) t.reply is (get_or now i was).syncing = subst (λ (x : Seen). IsHeardOf x t.reply is x.syncing) (sym (get_or-seen_of calls faults ns flags i d)) here in
    let heard_there : IsHeardOf (get_or now (length s.replies) was) t.reply is (get_or now (length s.replies) was).syncing = subst (λ (k : ℕ). IsHeardOf (get_or now k was) t.reply is (get_or now k was).syncing) (sym s.count) there in
    let below : length s.replies < length now = omega (arith, s.count, length-seen_of calls faults ns flags) in
    subst (λ (l : List Seen). AreAsked old (s.replies ++ t.reply ∷ []) l) (sym (seen_of-set calls faults ns flags i n))
    (subst (λ (k : ℕ). AreAsked old (s.replies ++ t.reply ∷ []) (set now k is)) s.count
    (AreAsked-push old now s.replies t.reply was is below s.asked heard_there))

map-push : (rs : List (Result Answer NodeFault)) (r : Result Answer NodeFault) → map says_syncing (rs ++ r ∷ []) ≡ map says_syncing rs ++ says_syncing r ∷ []
map-push [] r = refl
map-push (x ∷ rs) r = ap (λ (l : List Bool). says_syncing x ∷ l) (map-push rs r)

-- a flag was given
pub HeardSoFar-more : {N : Type 0} (calls : N → Option (List NodeCall)) (faults : N → ℕ) (old : List Seen) (ns : List N) (flags : List Bool) (i : ℕ) (heard : List Bool) (d n : N) (result : Result Bool AllocError) (flag : Bool) (heard_now : List Bool)
    → HeardSoFar old (seen_of calls faults ns flags) i heard → i < length ns → d ≡ get_or ns i d → IsHeard calls faults d n result → result ≡ Ok flag → heard_now ≡ heard ++ flag ∷ []
    → HeardSoFar old (seen_of calls faults (set ns i n) flags) (i + 1) heard_now
HeardSoFar-more {N} calls faults old ns flags i heard d n result flag heard_now s h at t e more =
    let says : flag ≡ says_syncing t.reply = subst (λ (x : Result Bool AllocError). IfOk x (λ b. b ≡ says_syncing t.reply)) e t.says in
    record {
      replies = s.replies ++ t.reply ∷ [];
      count = length_push s.replies t.reply ∙ ap (λ k. k + 1) s.count;
      given = AllGiven-push s.replies t.reply s.given (subst (λ (x : Result Bool AllocError). OnOk x (IsGiven t.reply)) e t.given);
      asked = AreAsked-heard calls faults old ns flags i heard d n result s h at t;
      heard_by = more ∙ ap (λ (l : List Bool). l ++ flag ∷ []) s.heard_by ∙ ap (λ (b : Bool). map says_syncing s.replies ++ b ∷ []) says ∙ sym (map-push s.replies t.reply);
    }

-- memory ran out
pub HeardSoFar-out : {N : Type 0} (calls : N → Option (List NodeCall)) (faults : N → ℕ) (old : List Seen) (ns : List N) (flags : List Bool) (i : ℕ) (heard : List Bool) (d n : N) (result : Result Bool AllocError)
    → HeardSoFar old (seen_of calls faults ns flags) i heard → i < length ns → d ≡ get_or ns i d → IsHeard calls faults d n result
    → WithReplies (λ replies. AreAskedFirst old replies (seen_of calls faults (set ns i n) flags))
HeardSoFar-out calls faults old ns flags i heard d n result s h at t = (s.replies ++ t.reply ∷ [], (AllButLastGiven-push s.replies t.reply s.given, AreAsked-heard calls faults old ns flags i heard d n result s h at t))

-- each was asked
pub HeardSoFar-all : {N : Type 0} (calls : N → Option (List NodeCall)) (faults : N → ℕ) (os ns : List N) (flags kept : List Bool) (i : ℕ) (heard : List Bool)
    → HeardSoFar (seen_of calls faults os flags) (seen_of calls faults ns kept) i heard → length ns ≤ i
    → WithReplies (λ replies. AreFlagged (seen_of calls faults os flags) replies (seen_of calls faults ns heard))
HeardSoFar-all calls faults os ns flags kept i heard s h =
    let all = AreFlagged-all calls faults os ns flags kept s.replies s.given s.asked (omega (arith, s.count)) in
    (s.replies, subst (λ (l : List Bool). AreFlagged (seen_of calls faults os flags) s.replies (seen_of calls faults ns l)) (sym s.heard_by) all)

pub OnErr-any : {T E : Type 0} {P : Type 0} (result : Result T E) → P → OnErr result P
OnErr-any (Ok value) p = tt
OnErr-any (Err error) p = p
