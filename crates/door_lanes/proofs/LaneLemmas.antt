-- What a lane does, step by step.
use Rattle.std.proofs.Common.{◌≡◌, ◌<◌, ℕ, suc, Bool, true, false, cond, List, [], ◌∷◌, ◌++◌, Option, Some, None, length, slice_index_or, refl, sym, ap, ◌∙◌, subst, append_assoc, append-nil, inl, inr, ⊎_elim, arith}
use Rattle.call_plans.proofs.PathLemmas.{path_on}
use Rattle.door_lanes.specs.declared.counted.Taken.{Taken}
use Rattle.door_lanes.specs.declared.counted.Taken.TheVariants as taken
use Rattle.door_lanes.specs.declared.lane.Lane.{Lane}
use Rattle.door_lanes.specs.declared.lane.LaneEnd.{LaneEnd}
use Rattle.door_lanes.specs.declared.lane.LaneEnd.TheVariants as end
use Rattle.door_lanes.specs.Doors.{Among, Asked, OnlyLast, answers, calls, connection_in, connections_in, returned, returned_in}
use Rattle.door_lanes.specs.Lanes.{NoneFailed, AllWent, Did, EndsBy, FailedAtLast, Goes, ServesOne, StepEnds, Steps, Visit, Visits, Went, accepted_in, finished_in}
use Rattle.door_lanes.proofs.FinishLemmas.{returned_append}

module _ {C : Type 0} where
  pub connections_append : (rs ss : List (Taken C)) → connections_in (rs ++ ss) ≡ connections_in rs ++ connections_in ss
  connections_append [] ss = refl
  connections_append (r ∷ rs) ss = ap (λ (l : List C). connection_in r ++ l) (connections_append rs ss) ∙ sym (append_assoc (connection_in r) (connections_in rs) (connections_in ss))

  pub answers_append : (xs ys : List (Asked C)) → answers (xs ++ ys) ≡ answers xs ++ answers ys
  answers_append [] ys = refl
  answers_append (x ∷ xs) ys = ap (λ (l : List (Taken C)). x.1 ∷ l) (answers_append xs ys)

  calls_append : (xs ys : List (Asked C)) → calls (xs ++ ys) ≡ calls xs ++ calls ys
  calls_append [] ys = refl
  calls_append (x ∷ xs) ys = ap (λ (l : List (Option C)). x.0 ∷ l) (calls_append xs ys)

  accepted_append : (vs ws : List (Visit C)) → accepted_in (vs ++ ws) ≡ accepted_in vs ++ accepted_in ws
  accepted_append [] ws = refl
  accepted_append (v ∷ vs) ws = ap (λ (l : List C). v.accepted ∷ l) (accepted_append vs ws)

  finished_append : (vs ws : List (Visit C)) → finished_in (vs ++ ws) ≡ finished_in vs ++ finished_in ws
  finished_append [] ws = refl
  finished_append (v ∷ vs) ws = ap (λ (l : List C). v.finished ∷ l) (finished_append vs ws)

  up_on : (vs ws : List (Visit C)) → NoneFailed vs → NoneFailed ws → NoneFailed (vs ++ ws)
  up_on [] ws p q = q
  up_on (v ∷ vs) ws p q = (p.0, up_on vs ws p.1 q)

  failed_on : (vs ws : List (Visit C)) → NoneFailed vs → FailedAtLast ws → FailedAtLast (vs ++ ws)
  failed_on [] ws p q = q
  failed_on (v ∷ vs) ws p q = inr (p.0, failed_on vs ws p.1 q)

  among_on : (r : Taken C) (rs ss : List (Taken C)) → Among r ss → Among r (rs ++ ss)
  among_on r [] ss h = h
  among_on r (x ∷ rs) ss h = inr (among_on r rs ss h)

  never_on : (r : Taken C) (rs ss : List (Taken C)) → (Among r rs → ⊥) → (Among r ss → ⊥) → Among r (rs ++ ss) → ⊥
  never_on r [] ss p q h = q h
  never_on r (x ∷ rs) ss p q h = ⊎_elim (λ e. p (inl e)) (λ t. never_on r rs ss (λ a. p (inr a)) q t) h

  only_last_on : (r : Taken C) (rs ss : List (Taken C)) → (Among r rs → ⊥) → OnlyLast r ss → OnlyLast r (rs ++ ss)
  only_last_on r [] ss p q = q
  only_last_on r (x ∷ rs) ss p q = ((λ e. absurd (p (inl e))), only_last_on r rs ss (λ a. p (inr a)) q)

  pub only_last_never : (r : Taken C) (rs : List (Taken C)) → (Among r rs → ⊥) → OnlyLast r rs
  only_last_never r [] p = tt
  only_last_never r (x ∷ rs) p = ((λ e. absurd (p (inl e))), only_last_never r rs (λ a. p (inr a)))

  ends_on : (e : LaneEnd) (rs ss : List (Taken C)) (vs ws : List (Visit C)) → (Among taken.Failed rs → ⊥) → NoneFailed vs → EndsBy e ss ws → EndsBy e (rs ++ ss) (vs ++ ws)
  ends_on end.Full rs ss vs ws n p q = (among_on taken.Full rs ss q.0, never_on taken.Failed rs ss n q.1, up_on vs ws p q.2)
  ends_on end.NoMore rs ss vs ws n p q = (among_on taken.NoMore rs ss q.0, never_on taken.Failed rs ss n q.1, up_on vs ws p q.2)
  ends_on end.Door rs ss vs ws n p q = (among_on taken.Failed rs ss q.0, only_last_on taken.Failed rs ss n q.1, up_on vs ws p q.2)
  ends_on end.Disk rs ss vs ws n p q = (never_on taken.Failed rs ss n q.0, failed_on vs ws p q.1)

  one_answer : (r x : Taken C) → (r ≡ x → ⊥) → Among x (r ∷ []) → ⊥
  one_answer r x f h = ⊎_elim f (λ e. e) h

  -- one answer that ends a lane
  pub full_ends : (vs : List (Visit C)) → NoneFailed vs → EndsBy end.Full (taken.Full ∷ []) vs
  full_ends vs n = (inl refl, one_answer taken.Full taken.Failed (λ e. absurd (cc e)), n)

  pub no_more_ends : (vs : List (Visit C)) → NoneFailed vs → EndsBy end.NoMore (taken.NoMore ∷ []) vs
  no_more_ends vs n = (inl refl, one_answer taken.NoMore taken.Failed (λ e. absurd (cc e)), n)

  pub door_ends : (vs : List (Visit C)) → NoneFailed vs → EndsBy end.Door (taken.Failed ∷ []) vs
  door_ends vs n = (inl refl, ((λ e. refl), tt), n)

  -- a connection that was served
  one_ends : (c x : C) (failed : Bool) → StepEnds (cond failed (Some end.Disk) None) (taken.Connection c ∷ []) (record { accepted = c; finished = x; failed = failed } ∷ [])
  one_ends c x true = (one_answer (taken.Connection c) taken.Failed (λ e. absurd (cc e)), inl (refl, refl))
  one_ends c x false = (one_answer (taken.Connection c) taken.Failed (λ e. absurd (cc e)), (refl, tt))

module _ {T V C : Type 0} (leads : T → List (Asked C) → T → Type 0) (serves : V → C → C → Bool → V → Type 0) where
  -- the door gave none
  pub steps_none : (a b : Lane T V C) (o : Option C) (r : Taken C) (e : LaneEnd) → leads a.taker ((o, r) ∷ []) b.taker → o ≡ a.kept → b.servant ≡ a.servant → b.kept ≡ None → connection_in r ≡ [] → EndsBy e (r ∷ []) []
      → Steps leads serves a b (Some e)
  steps_none a b o r e l f s k n h = record {
    visits = [];
    asked = (o, r) ∷ [];
    did = record {
      took = l;
      path = s;
      are = append-nil (connection_in r) ∙ n;
      back = ap (λ (x : Option C). (returned o ++ []) ++ returned x) k ∙ append-nil (returned o ++ []) ∙ ap (λ (x : Option C). returned x ++ []) f;
    };
    ends = h;
  }

  -- the door gave one, which was served
  pub steps_one : (a m b : Lane T V C) (o : Option C) (c : C) (e : Option LaneEnd) → leads a.taker ((o, taken.Connection c) ∷ []) m.taker → o ≡ a.kept → m.servant ≡ a.servant → ServesOne serves m c b e → Steps leads serves a b e
  steps_one a m b k c e l f s o =
      let v : Visit C = record { accepted = c; finished = o.finished; failed = o.failed } in
      let at : serves a.servant c o.finished o.failed b.servant = subst (λ (x : V). serves x c o.finished o.failed b.servant) s o.served in
      record {
        visits = v ∷ [];
        asked = (k, taken.Connection c) ∷ [];
        did = record {
          took = subst (λ (x : T). leads a.taker ((k, taken.Connection c) ∷ []) x) (sym o.taker) l;
          path = (b.servant, at, refl);
          are = refl;
          back = ap (λ (x : Option C). (returned k ++ []) ++ returned x) o.kept ∙ ap (λ (l : List C). l ++ o.finished ∷ []) (append-nil (returned k) ∙ ap (λ (x : Option C). returned x) f);
        };
        ends = subst (λ (x : Option LaneEnd). StepEnds x (taken.Connection c ∷ []) (v ∷ [])) (sym o.ends) (one_ends c o.finished o.failed);
      }

  module _ (more : (s t u : T) (xs ys : List (Asked C)) → leads s xs t → leads t ys u → leads s (xs ++ ys) u) where
    -- what was handed back and is kept, after both
    back_more : (a b c : Option C) (vs ws : List (Visit C)) (xs ys : List (Asked C)) → returned_in (calls xs) ++ returned b ≡ returned a ++ finished_in vs → returned_in (calls ys) ++ returned c ≡ returned b ++ finished_in ws
        → returned_in (calls (xs ++ ys)) ++ returned c ≡ returned a ++ finished_in (vs ++ ws)
    back_more a b c vs ws xs ys p q =
        let r : List C = returned_in (calls xs) in
        let s : List C = returned_in (calls ys) in
        let split : returned_in (calls (xs ++ ys)) ≡ r ++ s = ap (λ (l : List (Option C)). returned_in l) (calls_append xs ys) ∙ returned_append (calls xs) (calls ys) in
        ap (λ (l : List C). l ++ returned c) split ∙ append_assoc r s (returned c) ∙ ap (λ (l : List C). r ++ l) q ∙ sym (append_assoc r (returned b) (finished_in ws)) ∙ ap (λ (l : List C). l ++ finished_in ws) p
        ∙ append_assoc (returned a) (finished_in vs) (finished_in ws) ∙ ap (λ (l : List C). returned a ++ l) (sym (finished_append vs ws))

    did_more : (a b c : Lane T V C) (vs ws : List (Visit C)) (xs ys : List (Asked C)) → Did leads serves a vs xs b → Did leads serves b ws ys c → Did leads serves a (vs ++ ws) (xs ++ ys) c
    did_more a b c vs ws xs ys p q = record {
      took = more a.taker b.taker c.taker xs ys p.took q.took;
      path = path_on (Visits serves) a.servant b.servant c.servant vs ws p.path q.path;
      are = ap (λ (l : List (Taken C)). connections_in l) (answers_append xs ys) ∙ connections_append (answers xs) (answers ys) ∙ ap (λ (l : List C). l ++ connections_in (answers ys)) p.are ∙ ap (λ (l : List C). accepted_in vs ++ l) q.are
          ∙ sym (accepted_append vs ws);
      back = back_more a.kept b.kept c.kept vs ws xs ys p.back q.back;
    }

    pub goes_more : (a b c : Lane T V C) → Goes leads serves a b → Steps leads serves b c None → Goes leads serves a c
    goes_more a b c p q = record {
      visits = p.visits ++ q.visits;
      asked = p.asked ++ q.asked;
      did = did_more a b c p.visits q.visits p.asked q.asked p.did q.did;
      works = subst (λ (l : List (Taken C)). Among taken.Failed l → ⊥) (sym (answers_append p.asked q.asked)) (never_on taken.Failed (answers p.asked) (answers q.asked) p.works q.ends.0);
      up = up_on p.visits q.visits p.up q.ends.1;
    }

    pub went_by : (a b c : Lane T V C) (e : LaneEnd) → Goes leads serves a b → Steps leads serves b c (Some e) → Went leads serves a (record { taker = c.taker; servant = c.servant; kept = c.kept; end = e })
    went_by a b c e p q =
        let d = did_more a b c p.visits q.visits p.asked q.asked p.did q.did in
        record {
          visits = p.visits ++ q.visits;
          asked = p.asked ++ q.asked;
          did = record { took = d.took; path = d.path; are = d.are; back = d.back };
          ends = subst (λ (l : List (Taken C)). EndsBy e l (p.visits ++ q.visits)) (sym (answers_append p.asked q.asked)) (ends_on e (answers p.asked) (answers q.asked) p.visits q.visits p.works p.up q.ends);
        }

  pub goes_none : ((s : T) → leads s [] s) → (a : Lane T V C) → Goes leads serves a a
  goes_none none a = record { visits = []; asked = []; did = record { took = none a.taker; path = refl; are = refl; back = sym (append-nil (returned a.kept)) }; works = λ h. h; up = tt }

  pub all_went : (olds bs : List (Lane T V C)) → length bs ≡ length olds → ((i : ℕ) (d : Lane T V C) → i < length olds → Went leads serves (slice_index_or olds i d) (slice_index_or bs i d)) → AllWent leads serves olds bs
  all_went [] [] e f = tt
  all_went [] (b ∷ bs) e f = absurd (omega (arith, e))
  all_went (a ∷ olds) [] e f = absurd (omega (arith, e))
  all_went (a ∷ olds) (b ∷ bs) e f = (f 0 a (omega arith), all_went olds bs (omega (arith, e)) (λ i d lt. f (suc i) d (omega (arith, lt))))

  pub went_long : (olds bs : List (Lane T V C)) → AllWent leads serves olds bs → length bs ≡ length olds
  went_long [] [] h = refl
  went_long [] (b ∷ bs) h = absurd h
  went_long (a ∷ olds) [] h = absurd h
  went_long (a ∷ olds) (b ∷ bs) h = ap suc (went_long olds bs h.1)
