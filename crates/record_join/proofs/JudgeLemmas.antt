-- From a record that judges a message to the past of its key.
use Rattle.std.proofs.Common.{◌≡◌, ◌≤◌, arith, Bool, List, Option, None, Some, refl, sym, ◌∙◌, ap, subst}
use Rattle.std.specs.Prelude.{◌≢◌, ◌↔◌, IsSome, IsTrue, is_some}
use Rattle.edge_kit.specs.declared.bytes.PubKey.{PubKey}
use Rattle.slash_defs.specs.declared.message.Message.{Message}
use Rattle.slash_defs.specs.declared.message.Message.TheVariants as message
use Rattle.protect_record.specs.Parts.{Parts, SameParts, HasRoom}
use Rattle.protect_record.specs.Pasts.{Past, with_own}
use Rattle.protect_record.specs.Passing.{Passes}
use Rattle.protect_record.specs.Standing.{Stands}
use Rattle.protect_record.specs.Verdicts.{IsVerdict}
use Rattle.protect_record.specs.declared.verdict.Verdict.TheVariants as verdict
use Rattle.protect_record.specs.declared.verdict.Verdict.{Verdict}
use Rattle.record_join.specs.Keys.{kept_of, with_kept, EachKey}
use Rattle.record_join.specs.Repeats.{IsKeptIn, repeats}
use Rattle.record_join.specs.Taking.{HasJudged, IsFoundReady, IsReadyFor, JudgesBy, JudgesKept}
use Rattle.record_join.specs.BooksPasts.{BooksStand, IsRefusal, Judges, JudgesPast, own_grown, own_grown_from}
use Rattle.record_join.specs.declared.judgement.Judged.{Judged}
use Rattle.record_join.specs.declared.judgement.Judged.TheVariants as judged
use Rattle.record_join.proofs.KeyLemmas.{each_changed, each_found, each_self}
use Rattle.record_join.proofs.OrderLemmas.{changed_here}
use Rattle.record_join.proofs.BooksLemmas.{all_same_stand, roomier_same, same_itself, same_stands, some_is}
use Rattle.record_join.proofs.TakeLemmas.{stands_of}
use Rattle.record_join.specs.KeyByKey.{StandsOf, Takes, TakesMessage}
use Rattle.record_join.proofs.RepeatLemmas.{found_is}

-- ---- what a judgement leaves

same_of : (old new : List (PubKey × Parts)) (key : PubKey) (m : Message) (v : Verdict) → HasJudged old new key m v → EachKey SameParts old new
same_of old new key m v j =
    roomier_same old old new key (record { parts = j.parts; is_kept = j.is_kept; roomy = j.roomy; same = j.same; others = j.others }) (each_self SameParts same_itself old)

pub judges_same : (old new : List (PubKey × Parts)) (key : PubKey) (m : Message) (j : Judged) → JudgesKept old new key m j → EachKey SameParts old new
judges_same old new key m judged.Unknown t = let E : List (PubKey × Parts) → Type 0 = λ l. EachKey SameParts old l in subst E (sym t.1) (each_self SameParts same_itself old)
judges_same old new key m (judged.Refused v) t = same_of old new key m v t.1
judges_same old new key m judged.NoRoom t = same_of old new key m verdict.Pass t
judges_same old new key m (judged.Ready repeat) t = same_of old new key m verdict.Pass t.is_judged

-- ---- what the key's record says

verdict_back : (p q : Parts) (m : Message) (v : Verdict) → SameParts p q → IsVerdict q m v → IsVerdict p m v
verdict_back p q (message.Block slot root) v same is = rw (← same.floors, ← same.blocks) is
verdict_back p q (message.Vote source target root) v same is = rw (← same.floors, ← same.votes) is

kept_back : (p q : Parts) (m : Message) (b : Bool) → SameParts p q → (IsTrue b ↔ IsKeptIn q m) → (IsTrue b ↔ IsKeptIn p m)
kept_back p q (message.Block slot root) b same is = rw (← same.blocks) is
kept_back p q (message.Vote source target root) b same is = rw (← same.votes) is

pub judges_by : (old new : List (PubKey × Parts)) (key : PubKey) (m : Message) (j : Judged) → JudgesKept old new key m j → JudgesBy (kept_of old key) m j
judges_by old new key m judged.Unknown t = t.0
judges_by old new key m (judged.Refused v) t =
    some_is (kept_of old key) t.1.parts (λ parts. IsVerdict parts m v × (v ≢ verdict.Pass)) t.1.is_kept (verdict_back t.1.parts t.1.roomy m v t.1.same t.1.is_verdict, t.0)
judges_by old new key m judged.NoRoom t =
    some_is (kept_of old key) t.parts (λ parts. IsVerdict parts m verdict.Pass) t.is_kept (verdict_back t.parts t.roomy m verdict.Pass t.same t.is_verdict)
judges_by old new key m (judged.Ready repeat) t =
    let j = t.is_judged in
    some_is (kept_of old key) j.parts (λ parts. IsVerdict parts m verdict.Pass × (IsTrue repeat ↔ IsKeptIn parts m)) j.is_kept (verdict_back j.parts j.roomy m verdict.Pass j.same j.is_verdict, kept_back j.parts j.roomy m repeat j.same t.found)

-- ---- what its past says

no_past_of : (past : Option Past) → StandsOf None past → past ≡ None
no_past_of None s = refl
no_past_of (Some p) s = absurd s

past_of : (parts : Parts) (past : Option Past) → StandsOf (Some parts) past → (p : Past) × (past ≡ Some p) × Stands parts p
past_of parts None s = absurd s
past_of parts (Some p) s = (p, refl, s)

judged_at : (old new : List (PubKey × Parts)) (key : PubKey) (m : Message) (v : Verdict) (past : Option Past) → StandsOf (kept_of old key) past → (j : HasJudged old new key m v) → (p : Past) × (past ≡ Some p) × Stands j.roomy p
judged_at old new key m v past s j =
    let at = past_of j.parts past (subst (λ (o : Option Parts). StandsOf o past) j.is_kept s) in
    (at.0, at.1, same_stands j.parts j.roomy at.0 j.same at.2)

pub judges_past : (old new : List (PubKey × Parts)) (key : PubKey) (m : Message) (j : Judged) (past : Option Past) → StandsOf (kept_of old key) past → JudgesKept old new key m j → JudgesPast past m j
judges_past old new key m judged.Unknown past s t = no_past_of past (subst (λ (o : Option Parts). StandsOf o past) t.0 s)
judges_past old new key m (judged.Refused v) past s t =
    let at = judged_at old new key m v past s t.1 in
    some_is past at.0 (λ p. IsRefusal p m v) at.1 (record { parts = t.1.roomy; stands = at.2; is_verdict = t.1.is_verdict; is_no_pass = t.0; forbids = λ p. t.0 ((t.1.passes at.0 at.2).1 p) })
judges_past old new key m judged.NoRoom past s t =
    let at = judged_at old new key m verdict.Pass past s t in
    some_is past at.0 (λ p. Passes p m) at.1 ((t.passes at.0 at.2).0 refl)
judges_past old new key m (judged.Ready repeat) past s t =
    let j = t.is_judged in
    let at = judged_at old new key m verdict.Pass past s j in
    some_is past at.0 (λ p. Passes p m × (repeat ≡ repeats p m)) at.1 ((j.passes at.0 at.2).0 refl, found_is j.roomy at.0 m repeat at.2 j.is_verdict t.found)

-- how a message is judged, at the pasts
pub judges : (old new : List (PubKey × Parts)) (pasts : List (PubKey × Past)) (key : PubKey) (m : Message) (j : Judged) → BooksStand old pasts → JudgesKept old new key m j → Judges pasts key m j × BooksStand new pasts
judges old new pasts key m j each t =
    (judges_past old new key m j (kept_of pasts key) (stands_of old pasts key each) t, all_same_stand old new pasts (judges_same old new key m j t) each)

found_ready : (old new : List (PubKey × Parts)) (key : PubKey) (m : Message) (repeat : Bool) → IsFoundReady old new key m repeat → IsReadyFor new key m
found_ready old new key m repeat t =
    let j = t.is_judged in
    let there : IsSome (kept_of old key) = ap is_some j.is_kept in
    let here : kept_of new key ≡ Some j.roomy = ap (λ l. kept_of l key) j.others ∙ changed_here old key j.roomy there in
    some_is (kept_of new key) j.roomy (λ parts. IsVerdict parts m verdict.Pass × HasRoom parts m) here (j.is_verdict, t.room)

-- room for one of each kind is room for either
pub room_of : (parts : Parts) (m : Message) → (1 ≤ parts.block_room) × (1 ≤ parts.vote_room) → HasRoom parts m
room_of parts (message.Block slot root) room = omega (arith, room.0)
room_of parts (message.Vote source target root) room = omega (arith, room.1)

-- what was judged ready is
pub is_ready : (old new : List (PubKey × Parts)) (key : PubKey) (m : Message) (j : Judged) (repeat : Bool) → JudgesKept old new key m j → j ≡ judged.Ready repeat → IsReadyFor new key m
is_ready old new key m j repeat t is = found_ready old new key m repeat (subst (λ (k : Judged). JudgesKept old new key m k) is t)

-- one own message more
pub own_grows : (old new : List (PubKey × Parts)) (pasts : List (PubKey × Past)) (key : PubKey) (m : Message) → Takes TakesMessage old new key m → BooksStand old pasts → BooksStand new (own_grown pasts key m)
own_grows old new pasts key m takes each =
    let found = each_found Stands old pasts key takes.parts each takes.is_kept in
    let E : Option Past → Type 0 = λ o. EachKey Stands (with_kept old key takes.after) (own_grown_from pasts key m o) in
    let F : List (PubKey × Parts) → Type 0 = λ l. EachKey Stands l (own_grown pasts key m) in
    subst F (sym takes.is) (subst E (sym found.1) (each_changed Stands old pasts key takes.after (with_own found.0 m) each (takes.taken.stands found.0 found.2)))
