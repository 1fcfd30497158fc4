-- Nodes tried one after another.
use Rattle.std.proofs.Common.{◌≡◌, ℕ, ◌+◌, ◌<◌, ◌≤◌, Bool, true, false, List, [], ◌∷◌, ◌++◌, length, get_or, Option, Some, None, Result, Ok, Err, refl, sym, ◌∙◌, ap, subst, inl, arith}
use Rattle.std.proofs.Math.ListN.{set}
use Rattle.std.proofs.lemmas.List.{length_push}
use Rattle.node_calls.specs.declared.answer.NodeFault.{NodeFault}
use Rattle.node_calls.specs.declared.answer.NodeFault.TheVariants as fault
use Rattle.node_calls.specs.declared.told.NodeCall.{NodeCall}
use Rattle.node_fallback.specs.declared.no_node.Cause.{Cause}
use Rattle.node_fallback.specs.declared.no_node.Cause.TheVariants as cause
use Rattle.node_fallback.specs.declared.no_node.NoAnswer.{NoAnswer}
use Rattle.node_fallback.specs.declared.no_node.NoAnswer.TheVariants as none
use Rattle.node_fallback.specs.declared.one_node.Refused.{Refused}
use Rattle.node_fallback.specs.declared.one_node.Refused.TheVariants as refused
use Rattle.node_fallback.specs.InOrder.{IsTried, AreTried, EndsWith, Tries, causes, ends, given_by}
use Rattle.node_fallback.specs.Seen.{Seen, seen_of}
use Rattle.node_fallback.specs.Turns.{IsTurn, came_of, place_seen}
use Rattle.node_fallback.proofs.SeenLemmas.{flag_at, get_or-seen_of, length-seen_of, seen_of-set}

-- none of these replies ends the trying
abbrev pub GoesOn : {A : Type 0} → List (Option (Result A NodeFault)) → Type 0
GoesOn [] = Unit {0}
GoesOn (r ∷ rs) = (ends r ≡ false) × GoesOn rs

GoesOn-push : {A : Type 0} (rs : List (Option (Result A NodeFault))) (r : Option (Result A NodeFault)) → GoesOn rs → ends r ≡ false → GoesOn (rs ++ r ∷ [])
GoesOn-push [] r on e = (e, tt)
GoesOn-push (x ∷ rs) r on e = (on.0, GoesOn-push rs r on.1 e)

-- the next node has its turn
AreTried-push : {A : Type 0} (told : Result A NodeFault → List NodeCall) (old new : List Seen) (rs : List (Option (Result A NodeFault))) (r : Option (Result A NodeFault)) (d s : Seen)
    → length rs < length new → AreTried told old rs new → IsTried told (get_or new (length rs) d) r s → AreTried told old (rs ++ r ∷ []) (set new (length rs) s)
AreTried-push told [] [] [] r d s h f o = absurd (omega arith)
AreTried-push told [] (n ∷ new) [] r d s h f o = absurd cc
AreTried-push told (o ∷ old) [] [] r d s h f q = absurd (omega arith)
AreTried-push {A} told (o ∷ old) (n ∷ new) [] r d s h f q =
    let same : n ≡ o = cc in
    let rest : new ≡ old = cc in
    (subst (λ (x : Seen). IsTried told x r s) same q, rest)
AreTried-push told [] new (x ∷ rs) r d s h f o = absurd f
AreTried-push told (o ∷ old) [] (x ∷ rs) r d s h f q = absurd f
AreTried-push told (o ∷ old) (n ∷ new) (x ∷ rs) r d s h f q =
    let below : length rs < length new = omega arith in
    (f.0, AreTried-push told old new rs r d s below f.1 q)

EndsWith-last : {A : Type 0} (told : Result A NodeFault → List NodeCall) (old new : List Seen) (rs : List (Option (Result A NodeFault))) (r : Option (Result A NodeFault))
    → AreTried told old (rs ++ r ∷ []) new → GoesOn rs → ends r ≡ true → EndsWith false old (rs ++ r ∷ [])
EndsWith-last told [] new [] r f on e = absurd f
EndsWith-last told (o ∷ old) [] [] r f on e = absurd f
EndsWith-last {A} told (o ∷ old) (n ∷ new) [] r f on e =
    let P : Bool → Type 0 = λ b. EndsWith {A = A} b old [] in subst P (sym e) refl
EndsWith-last told [] new (x ∷ rs) r f on e = absurd f
EndsWith-last told (o ∷ old) [] (x ∷ rs) r f on e = absurd f
EndsWith-last {A} told (o ∷ old) (n ∷ new) (x ∷ rs) r f on e =
    let P : Bool → Type 0 = λ b. EndsWith b old (rs ++ r ∷ []) in subst P (sym on.0) (EndsWith-last told old new rs r f.1 on.1 e)

EndsWith-all : {A : Type 0} (told : Result A NodeFault → List NodeCall) (old new : List Seen) (rs : List (Option (Result A NodeFault)))
    → AreTried told old rs new → GoesOn rs → length new ≤ length rs → EndsWith false old rs
EndsWith-all told [] new [] f on h = tt
EndsWith-all told (o ∷ old) [] [] f on h = absurd cc
EndsWith-all told (o ∷ old) (n ∷ new) [] f on h = absurd (omega arith)
EndsWith-all told [] new (x ∷ rs) f on h = absurd f
EndsWith-all told (o ∷ old) [] (x ∷ rs) f on h = absurd f
EndsWith-all {A} told (o ∷ old) (n ∷ new) (x ∷ rs) f on h =
    let P : Bool → Type 0 = λ b. EndsWith b old rs in subst P (sym on.0) (EndsWith-all told old new rs f.1 on.1 (omega arith))

-- what came after replies that give nothing is given
given_by-push : {A : Type 0} (why : List Cause) (rs : List (Option (Result A NodeFault))) (r : Option (Result A NodeFault)) → GoesOn rs → given_by why (rs ++ r ∷ []) ≡ given_by why (r ∷ [])
given_by-push why [] r on = refl
given_by-push why (None ∷ rs) r on = given_by-push why rs r on.1
given_by-push why (Some (Ok value) ∷ rs) r on = absurd (let no : true ≡ false = on.0 in cc)
given_by-push why (Some (Err fault.Fault) ∷ rs) r on = given_by-push why rs r on.1
given_by-push why (Some (Err (fault.Status status)) ∷ rs) r on = given_by-push why rs r on.1
given_by-push why (Some (Err (fault.Unreadable body)) ∷ rs) r on = given_by-push why rs r on.1
given_by-push why (Some (Err fault.OutOfMemory) ∷ rs) r on = absurd (let no : true ≡ false = on.0 in cc)

given_by-all : {A : Type 0} (why : List Cause) (rs : List (Option (Result A NodeFault))) → GoesOn rs → given_by why rs ≡ Err (none.NoNode why)
given_by-all why [] on = refl
given_by-all why (None ∷ rs) on = given_by-all why rs on.1
given_by-all why (Some (Ok value) ∷ rs) on = absurd (let no : true ≡ false = on.0 in cc)
given_by-all why (Some (Err fault.Fault) ∷ rs) on = given_by-all why rs on.1
given_by-all why (Some (Err (fault.Status status)) ∷ rs) on = given_by-all why rs on.1
given_by-all why (Some (Err (fault.Unreadable body)) ∷ rs) on = given_by-all why rs on.1
given_by-all why (Some (Err fault.OutOfMemory) ∷ rs) on = absurd (let no : true ≡ false = on.0 in cc)

causes-push : {A : Type 0} (rs : List (Option (Result A NodeFault))) (r : Option (Result A NodeFault)) → GoesOn rs → causes (rs ++ r ∷ []) ≡ causes rs ++ causes (r ∷ [])
causes-push [] r on = refl
causes-push (None ∷ rs) r on = ap (λ (l : List Cause). cause.Syncing ∷ l) (causes-push rs r on.1)
causes-push (Some (Ok value) ∷ rs) r on = absurd (let no : true ≡ false = on.0 in cc)
causes-push (Some (Err fault.Fault) ∷ rs) r on = ap (λ (l : List Cause). cause.Fault ∷ l) (causes-push rs r on.1)
causes-push (Some (Err (fault.Status status)) ∷ rs) r on = ap (λ (l : List Cause). cause.Status status ∷ l) (causes-push rs r on.1)
causes-push (Some (Err (fault.Unreadable body)) ∷ rs) r on = ap (λ (l : List Cause). cause.Unreadable body ∷ l) (causes-push rs r on.1)
causes-push (Some (Err fault.OutOfMemory) ∷ rs) r on = absurd (let no : true ≡ false = on.0 in cc)

-- ---- what comes of one turn

-- a value ends the trying
came_of-ok : {A : Type 0} (r : Option (Result A NodeFault)) (value : A) → came_of r ≡ Ok value → r ≡ Some (Ok value)
came_of-ok None value e = absurd cc
came_of-ok (Some (Ok v)) value e = cc
came_of-ok (Some (Err fault.Fault)) value e = absurd cc
came_of-ok (Some (Err (fault.Status status))) value e = absurd cc
came_of-ok (Some (Err (fault.Unreadable body))) value e = absurd cc
came_of-ok (Some (Err fault.OutOfMemory)) value e = absurd cc

-- want of memory does too
came_of-out : {A : Type 0} (r : Option (Result A NodeFault)) → came_of r ≡ Err refused.OutOfMemory → r ≡ Some (Err fault.OutOfMemory)
came_of-out None e = absurd cc
came_of-out (Some (Ok v)) e = absurd cc
came_of-out (Some (Err fault.Fault)) e = absurd cc
came_of-out (Some (Err (fault.Status status))) e = absurd cc
came_of-out (Some (Err (fault.Unreadable body))) e = absurd cc
came_of-out (Some (Err fault.OutOfMemory)) e = refl

-- a cause does not, and is what is named
came_of-because : {A : Type 0} (r : Option (Result A NodeFault)) (why : Cause) → came_of r ≡ Err (refused.Because why) → (ends r ≡ false) × (causes (r ∷ []) ≡ why ∷ [])
came_of-because None why e = (refl, cc)
came_of-because (Some (Ok v)) why e = absurd cc
came_of-because (Some (Err fault.Fault)) why e = (refl, cc)
came_of-because (Some (Err (fault.Status status))) why e = (refl, cc)
came_of-because (Some (Err (fault.Unreadable body))) why e = (refl, cc)
came_of-because (Some (Err fault.OutOfMemory)) why e = absurd cc

-- ---- the loop

-- the nodes in front of this place had their turn, gave nothing, and were named with these causes
pub record SoFar {A : Type 0} (told : Result A NodeFault → List NodeCall) (old new : List Seen) (i : ℕ) (named : List Cause) : Type 0 where
  pub replies : List (Option (Result A NodeFault))
  pub count : length replies ≡ i
  pub tried : AreTried told old replies new
  pub goes_on : GoesOn replies
  pub named_by : named ≡ causes replies

pub SoFar-none : {A : Type 0} (told : Result A NodeFault → List NodeCall) (old : List Seen) (named : List Cause) → named ≡ [] → SoFar told old old 0 named
SoFar-none told old named e = record { replies = []; count = refl; tried = refl; goes_on = tt; named_by = e }

-- the next node had its turn
AreTried-turn : {A N : Type 0} (calls : N → Option (List NodeCall)) (faults : N → ℕ) (told : Result A NodeFault → List NodeCall) (old : List Seen) (ns : List N) (flags : List Bool) (i : ℕ) (named : List Cause) (d n : N) (r : Option (Result A NodeFault))
    → (s : SoFar told old (seen_of calls faults ns flags) i named) → i < length ns → d ≡ get_or ns i d → IsTried told (place_seen calls faults d (flag_at flags i)) r (place_seen calls faults n (flag_at flags i))
    → AreTried told old (s.replies ++ r ∷ []) (seen_of calls faults (set ns i n) flags)
AreTried-turn {A} {N} calls faults told old ns flags i named d n r s h at t =
    let was : Seen = place_seen calls faults d (flag_at flags i) in
    let is : Seen = place_seen calls faults n (flag_at flags i) in
    let now : List Seen = seen_of calls faults ns flags in
    let here : IsTried told (place_seen calls faults (get_or ns i d) (flag_at flags i)) r is = subst (λ (x : N). IsTried told (place_seen calls faults x (flag_at flags i)) r is) at t in
    let there : IsTried told (get_or now i was) r is = subst (λ (x : Seen). IsTried told x r is) (sym (get_or-seen_of calls faults ns flags i d)) here in
    let tried : IsTried told (get_or now (length s.replies) was) r is = subst (λ (k : ℕ). IsTried told (get_or now k was) r is) (sym s.count) there in
    let below : length s.replies < length now = omega (arith, s.count, length-seen_of calls faults ns flags) in
    subst (λ (l : List Seen). AreTried told old (s.replies ++ r ∷ []) l) (sym (seen_of-set calls faults ns flags i n))
    (subst (λ (k : ℕ). AreTried told old (s.replies ++ r ∷ []) (set now k is)) s.count
    (AreTried-push told old now s.replies r was is below s.tried tried))

-- it gave nothing
pub SoFar-more : {A N : Type 0} (calls : N → Option (List NodeCall)) (faults : N → ℕ) (told : Result A NodeFault → List NodeCall) (old : List Seen) (ns : List N) (flags : List Bool) (i : ℕ) (named : List Cause) (d n : N) (flag : Bool) (result : Result A Refused) (why : Cause) (named_now : List Cause)
    → SoFar told old (seen_of calls faults ns flags) i named → i < length ns → d ≡ get_or ns i d → flag ≡ flag_at flags i
    → IsTurn told (place_seen calls faults d flag) (place_seen calls faults n flag) result → result ≡ Err (refused.Because why) → named_now ≡ named ++ why ∷ []
    → SoFar told old (seen_of calls faults (set ns i n) flags) (i + 1) named_now
SoFar-more {A} {N} calls faults told old ns flags i named d n flag result why named_now s h at is t e more =
    let turn = subst (λ (b : Bool). IsTurn told (place_seen calls faults d b) (place_seen calls faults n b) result) is t in
    let refused_by = came_of-because turn.reply why (sym turn.came ∙ e) in
    record {
      replies = s.replies ++ turn.reply ∷ [];
      count = length_push s.replies turn.reply ∙ ap (λ k. k + 1) s.count;
      tried = AreTried-turn calls faults told old ns flags i named d n turn.reply s h at turn.tried;
      goes_on = GoesOn-push s.replies turn.reply s.goes_on refused_by.0;
      named_by = more ∙ ap (λ (l : List Cause). l ++ why ∷ []) s.named_by ∙ sym (causes-push s.replies turn.reply s.goes_on ∙ ap (λ (l : List Cause). causes s.replies ++ l) refused_by.1);
    }

-- it ended the trying
SoFar-ends : {A N : Type 0} (calls : N → Option (List NodeCall)) (faults : N → ℕ) (told : Result A NodeFault → List NodeCall) (old : List Seen) (ns : List N) (flags : List Bool) (i : ℕ) (named : List Cause) (d n : N) (r : Option (Result A NodeFault)) (result : Result A NoAnswer)
    → SoFar told old (seen_of calls faults ns flags) i named → i < length ns → d ≡ get_or ns i d
    → IsTried told (place_seen calls faults d (flag_at flags i)) r (place_seen calls faults n (flag_at flags i)) → ends r ≡ true → ((why : List Cause) → given_by why (r ∷ []) ≡ result)
    → Tries told old (seen_of calls faults (set ns i n) flags) result
SoFar-ends {A} {N} calls faults told old ns flags i named d n r result s h at t e gives =
    let tried = AreTried-turn calls faults told old ns flags i named d n r s h at t in
    let why : List Cause = causes (s.replies ++ r ∷ []) in
    inl (record {
      replies = s.replies ++ r ∷ [];
      tried = tried;
      whole = EndsWith-last told old (seen_of calls faults (set ns i n) flags) s.replies r tried s.goes_on e;
      given = sym (given_by-push why s.replies r s.goes_on ∙ gives why);
    })

-- it gave a value
pub SoFar-gives : {A N : Type 0} (calls : N → Option (List NodeCall)) (faults : N → ℕ) (told : Result A NodeFault → List NodeCall) (old : List Seen) (ns : List N) (flags : List Bool) (i : ℕ) (named : List Cause) (d n : N) (flag : Bool) (result : Result A Refused) (value : A)
    → SoFar told old (seen_of calls faults ns flags) i named → i < length ns → d ≡ get_or ns i d → flag ≡ flag_at flags i
    → IsTurn told (place_seen calls faults d flag) (place_seen calls faults n flag) result → result ≡ Ok value
    → Tries told old (seen_of calls faults (set ns i n) flags) (Ok value)
SoFar-gives {A} {N} calls faults told old ns flags i named d n flag result value s h at is t e =
    let turn = subst (λ (b : Bool). IsTurn told (place_seen calls faults d b) (place_seen calls faults n b) result) is t in
    let reply = came_of-ok turn.reply value (sym turn.came ∙ e) in
    let tried = subst (λ (r : Option (Result A NodeFault)). IsTried told (place_seen calls faults d (flag_at flags i)) r (place_seen calls faults n (flag_at flags i))) reply turn.tried in
    SoFar-ends calls faults told old ns flags i named d n (Some (Ok value)) (Ok value) s h at tried refl (λ why. refl)

-- memory ran out at it
pub SoFar-out : {A N : Type 0} (calls : N → Option (List NodeCall)) (faults : N → ℕ) (told : Result A NodeFault → List NodeCall) (old : List Seen) (ns : List N) (flags : List Bool) (i : ℕ) (named : List Cause) (d n : N) (flag : Bool) (result : Result A Refused)
    → SoFar told old (seen_of calls faults ns flags) i named → i < length ns → d ≡ get_or ns i d → flag ≡ flag_at flags i
    → IsTurn told (place_seen calls faults d flag) (place_seen calls faults n flag) result → result ≡ Err refused.OutOfMemory
    → Tries told old (seen_of calls faults (set ns i n) flags) (Err none.OutOfMemory)
SoFar-out {A} {N} calls faults told old ns flags i named d n flag result s h at is t e =
    let turn = subst (λ (b : Bool). IsTurn told (place_seen calls faults d b) (place_seen calls faults n b) result) is t in
    let reply = came_of-out turn.reply (sym turn.came ∙ e) in
    let tried = subst (λ (r : Option (Result A NodeFault)). IsTried told (place_seen calls faults d (flag_at flags i)) r (place_seen calls faults n (flag_at flags i))) reply turn.tried in
    SoFar-ends calls faults told old ns flags i named d n (Some (Err fault.OutOfMemory)) (Err none.OutOfMemory) s h at tried refl (λ why. refl)

-- each node gave nothing
pub SoFar-all : {A N : Type 0} (calls : N → Option (List NodeCall)) (faults : N → ℕ) (told : Result A NodeFault → List NodeCall) (old : List Seen) (ns : List N) (flags : List Bool) (i : ℕ) (named whole : List Cause)
    → SoFar told old (seen_of calls faults ns flags) i named → length ns ≤ i → whole ≡ named → Tries told old (seen_of calls faults ns flags) (Err (none.NoNode whole))
SoFar-all {A} calls faults told old ns flags i named whole s h same =
    let all : List Cause → Result A NoAnswer = λ l. Err (none.NoNode l) in
    inl (record {
      replies = s.replies;
      tried = s.tried;
      whole = EndsWith-all told old (seen_of calls faults ns flags) s.replies s.tried s.goes_on (omega (arith, s.count, length-seen_of calls faults ns flags));
      given = ap all (same ∙ s.named_by) ∙ sym (given_by-all (causes s.replies) s.replies s.goes_on);
    })
