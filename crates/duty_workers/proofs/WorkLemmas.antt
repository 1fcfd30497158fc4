-- What the lanes did beside each other.
use Rattle.std.proofs.Common.{◌≡◌, ℕ, suc, ◌+◌, ◌<◌, List, [], ◌∷◌, ◌++◌, map, length, get_or, Option, Some, None, Result, Ok, Err, IfOk, refl, sym, ◌∙◌, ap, subst, arith}
use Rattle.std.specs.Prelude.{slice_get}
use Rattle.std.specs.Option.{IfSome, option_map}
use Rattle.std.specs.Result.{result_ok}
use Rattle.std.proofs.lemmas.List.{length-map, length_push}
use Rattle.std.proofs.lemmas.Option.{get_or_from_slice_get, slice_get_within}
use Rattle.desk_machine.specs.declared.call.DeskCall.{DeskCall}
use Rattle.desk_machine.specs.declared.call.DeskReply.{DeskReply}
use Rattle.node_calls.specs.declared.told.NodeCall.{NodeCall}
use Rattle.signer_link.specs.declared.reply.Told.{Told}
use Rattle.call_plans.specs.Plans.{Plan, Follows, each_plan}
use Rattle.call_plans.specs.Paths.{Carries}
use Rattle.call_plans.proofs.PlanLemmas.{follows_split}
use Rattle.duty_plans.specs.declared.ended.Ended.{Ended}
use Rattle.duty_plans.specs.declared.task.Task.{Task}
use Rattle.duty_plans.specs.declared.work.SlotWork.{SlotWork}
use Rattle.duty_plans.specs.Plans.{slot_plan, task_plan}
use Rattle.duty_plans.specs.Seats.{Does, Seat}
use Rattle.duty_plans.specs.Steps.{DutyStep, Fits}
use Rattle.duty_turns.specs.Lanes.{DidShare, DidShares, EachDoes, HasEach, dealt}
use Rattle.duty_workers.specs.declared.lane.Lane.{Lane}
use Rattle.duty_workers.specs.Shares.{AreGathered, DidLane, HaveShares, lane_ends}
use Rattle.duty_workers.specs.Working.{WorksDone, lane_seen, lanes_seen}

-- a plan for each of a list gives a value for each
pub each_length : {A C R X : Type 0} (fits : C → R → Type 0) (plan : A → Plan C R X) (got : List X) (ls : List A) (steps : List (C × R)) (all : List X)
    → Follows fits (each_plan plan got ls) steps (Some all) → length all ≡ length got + length ls
each_length {A} {C} {R} {X} fits plan got [] [] all f = (let same : length all ≡ length got = ap (λ (l : List X). length l) f in omega arith)
each_length fits plan got [] (s ∷ steps) all f = absurd f
each_length fits plan got (a ∷ ls) steps all f =
    let r = follows_split fits (plan a) (λ x. each_plan plan (got ++ x ∷ []) ls) steps all f in
    let rest : length all ≡ length (got ++ r.2 ∷ []) + length ls = each_length fits plan (got ++ r.2 ∷ []) ls r.1 all r.5 in
    omega (arith, length_push got r.2)

did_share : (work : SlotWork) (place : ℕ) (ds : List Task) (results : Option (List Ended)) (count k : ℕ) (steps : List DutyStep) (v : Option (List Ended))
    → Follows Fits (slot_plan work (dealt count k place ds)) steps v → IfSome results (λ rs. v ≡ Some (dealt count k place rs)) → DidShare work place ds results count k steps
did_share work place ds None count k steps v f h = (v, f)
did_share work place ds (Some rs) count k steps v f h = subst (λ (x : Option (List Ended)). Follows Fits (slot_plan work (dealt count k place ds)) steps x) h f

-- the lanes from one on: what each did
record Worked {K : Type 0} (leads : K → List (DeskCall × DeskReply) → K → Type 0) (work : SlotWork) (place : ℕ) (ds : List Task) (results : Option (List Ended)) (count k : ℕ) (before now : List (Seat K)) : Type 0 where
  steps : List (List DutyStep)
  each : EachDoes leads before steps now
  shares : DidShares work place ds results count k steps
  count_is : length steps ≡ length before

module _ {K L : Type 0} (leads : K → List (DeskCall × DeskReply) → K → Type 0) (seen : L → Seat K) (value : L → Option (List Ended)) (work : SlotWork) (place : ℕ) (ds : List Task) (results : Option (List Ended)) (count : ℕ) where
  -- a lane of this number did its share, and has this to give
  abbrev pub Did : ℕ → L → L → Type 0
  Did k a b = Carries Fits (Does leads) (slot_plan work (dealt count k place ds)) (seen a) (seen b) (value b)

  abbrev pub Gives : ℕ → L → Type 0
  Gives k b = IfSome results (λ rs. value b ≡ Some (dealt count k place rs))

  worked : (k : ℕ) (ls bs : List L) → length bs ≡ length ls → ((i : ℕ) (d : L) → i < length ls → Did (k + i) (get_or ls i d) (get_or bs i d)) → ((i : ℕ) (b : L) → slice_get bs i ≡ Some b → Gives (k + i) b)
      → Worked leads work place ds results count k (map seen ls) (map seen bs)
  worked k [] [] e f h = record { steps = []; each = tt; shares = tt; count_is = refl }
  worked k [] (b ∷ bs) e f h = absurd (omega arith)
  worked k (a ∷ ls) [] e f h = absurd (omega arith)
  worked k (a ∷ ls) (b ∷ bs) e f h =
      let first : k + 0 ≡ k = omega arith in
      let here : Did k a b = subst (λ n. Did n a b) first (f 0 a (omega arith)) in
      let gives : Gives k b = subst (λ n. Gives n b) first (h 0 b refl) in
      let later = λ (i : ℕ) (d : L) (l : i < length ls).
      (let is : k + suc i ≡ k + 1 + i = omega arith in
      let within : suc i < suc (length ls) = omega arith in
      subst (λ n. Did n (get_or ls i d) (get_or bs i d)) is (f (suc i) d within)) in
      let give = λ (i : ℕ) (x : L) (at : slice_get bs i ≡ Some x). (let is : k + suc i ≡ k + 1 + i = omega arith in subst (λ n. Gives n x) is (h (suc i) x at)) in
      let rest = worked (k + 1) ls bs (omega arith) later give in
      record {
        steps = here.steps ∷ rest.steps;
        each = (here.path, rest.each);
        shares = (did_share work place ds results count k here.steps (value b) here.follows gives, rest.shares);
        count_is = ap suc rest.count_is;
      }

  -- all lanes
  pub works_done : (ls bs : List L) → 0 < length ls → length bs ≡ length ls → count ≡ length (map seen ls) → HasEach ds results → ((i : ℕ) (d : L) → i < length ls → Did i (get_or ls i d) (get_or bs i d)) → ((i : ℕ) (b : L) → slice_get bs i ≡ Some b → Gives i b)
      → WorksDone leads work place ds (map seen ls) (map seen bs) results
  works_done ls bs some e n has f h =
      let did = λ (i : ℕ) (d : L) (l : i < length ls). (let is : i ≡ 0 + i = omega arith in subst (λ n. Did n (get_or ls i d) (get_or bs i d)) is (f i d l)) in
      let gives = λ (i : ℕ) (b : L) (at : slice_get bs i ≡ Some b). (let is : i ≡ 0 + i = omega arith in subst (λ n. Gives n b) is (h i b at)) in
      let all = worked 0 ls bs e did gives in
      record { steps = all.steps; each = all.each; shares = subst (λ m. DidShares work place ds results m 0 all.steps) (n ∙ sym all.count_is) all.shares; has = has; some = (let counted = all.count_is in let mapped = length-map ls seen in omega (arith, some, counted, mapped)) }

-- ---- the lanes themselves

-- what a call left of a value, and what it did
pub record Left {L : Type 0} (did : L → L → Type 0) (old new : L) : Type 0 where
  pub before : L
  pub now : L
  pub before_is : before ≡ old
  pub now_is : now ≡ new
  pub does : did before now

left_is : {L : Type 0} (did : L → L → Type 0) (old new : L) → Left did old new → did old new
left_is {L} did old new l = subst (λ (x : L). did old x) l.now_is (subst (λ (x : L). did x l.now) l.before_is l.does)

module _ {K S N : Type 0} (leads : K → List (DeskCall × DeskReply) → K → Type 0) (told : S → Option (List Told)) (faults denials : S → ℕ) (node_told : N → Option (List NodeCall)) (node_faults : N → ℕ)
    (work : SlotWork) (place : ℕ) (ds : List Task) (old new : List (Lane K S N)) where
  -- each lane did its share
  abbrev pub AllDid : Type 0
  AllDid = (i : ℕ) (d : Lane K S N) → i < length old → Left (DidLane leads told faults denials node_told node_faults work place ds (length old) i) (get_or old i d) (get_or new i d)

  did_at : AllDid → (i : ℕ) (d : Lane K S N) → i < length old → DidLane leads told faults denials node_told node_faults work place ds (length old) i (get_or old i d) (get_or new i d)
  did_at did i d h = left_is (DidLane leads told faults denials node_told node_faults work place ds (length old) i) (get_or old i d) (get_or new i d) (did i d h)

  -- so each that says how its tasks ended says so of as many as it has
  pub have_shares : length new ≡ length old → AllDid → HaveShares place ds new
  have_shares e did k lane rs at value =
      let below : k < length new = slice_get_within new k lane at in
      let within : k < length old = omega (arith, e) in
      let here : get_or new k lane ≡ lane = get_or_from_slice_get new k lane lane at in
      let share : List Task = dealt (length old) k place ds in
      let run : DidLane leads told faults denials node_told node_faults work place ds (length old) k (get_or old k lane) (get_or new k lane) = did_at did k lane within in
      let results : lane_ends (get_or new k lane) ≡ Some rs = ap (λ (l : Lane K S N). lane_ends l) here ∙ value in
      let follows : Follows Fits (slot_plan work share) run.steps (Some rs) = subst (λ (o : Option (List Ended)). Follows Fits (slot_plan work share) run.steps o) results run.follows in
      let count : length rs ≡ 0 + length share = each_length Fits (λ t. task_plan work t) [] share run.steps rs follows in
      let plain : length rs ≡ length share = omega arith in
      plain ∙ ap (λ n. length (dealt n k place ds)) (sym e)

  has_each : {V E : Type 0} (items : V → List Ended) (r : Result V E) → IfOk r (λ v. AreGathered place ds new (items v)) → HasEach ds (option_map items (result_ok r))
  has_each items (Ok v) h = h.each
  has_each items (Err e) h = tt

  given : {V E : Type 0} (items : V → List Ended) (r : Result V E) → length new ≡ length old → IfOk r (λ v. AreGathered place ds new (items v))
      → (i : ℕ) (b : Lane K S N) → slice_get new i ≡ Some b → IfSome (option_map items (result_ok r)) (λ rs. lane_ends b ≡ Some (dealt (length old) i place rs))
  given items (Ok v) e h i b at = h.shares i b at ∙ ap (λ n. Some (dealt n i place (items v))) e
  given items (Err x) e h i b at = tt

  -- and what was put together is what all did
  pub all_done : {V E : Type 0} (items : V → List Ended) (r : Result V E) → 0 < length old → length new ≡ length old → AllDid → IfOk r (λ v. AreGathered place ds new (items v))
      → WorksDone leads work place ds (lanes_seen told faults denials node_told node_faults old) (lanes_seen told faults denials node_told node_faults new) (option_map items (result_ok r))
  all_done items r some e did h =
      let seen = lane_seen told faults denials node_told node_faults in
      works_done leads seen lane_ends work place ds (option_map items (result_ok r)) (length old) old new some e (sym (length-map old seen)) (has_each items r h) (did_at did) (given items r e h)
