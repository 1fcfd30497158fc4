-- What a door gave and took back, call by call.
use Rattle.std.proofs.Common.{◌≡◌, ◌⊎◌, ◌+◌, ◌≤◌, ◌==◌, ℕ, Bool, true, false, cond, List, [], ◌∷◌, ◌++◌, Option, Some, None, length, refl, sym, ap, ◌∙◌, subst, append_assoc, append-nil, inl, inr, ⊎_elim, eq-eqb, le_trans, arith}
use Rattle.std.proofs.lemmas.List.{length-append}
use Rattle.edge_kit.specs.Causes.{Rose}
use Rattle.edge_kit.specs.Doors.{Accepts, Counts}
use Rattle.edge_kit.specs.Links.{Stays}
use Rattle.edge_kit.specs.Tellings.{Tells}
use Rattle.desk_lock.specs.Histories.{Legal, own}
use Rattle.door_lanes.specs.declared.counted.Taken.{Taken}
use Rattle.door_lanes.specs.declared.counted.Taken.TheVariants as taken
use Rattle.door_lanes.specs.Doors.{Among, Asked, CountedSeen, DoorSeen, Empties, Gave, Gives, MayAsk, Moves, NextStep, TakeStep, TookBack, Turn, answers, asks, connections_in, replies, returned, returned_in}
use Rattle.door_lanes.specs.DoorLaws.{moves_none, moves_on}
use Rattle.door_lanes.proofs.FinishLemmas.{returned_append, tells_none, tells_on, tells_stays}
use Rattle.door_lanes.proofs.LaneLemmas.{connections_append}

among_split : {X : Type 0} (x : X) (xs ys : List X) → Among x (xs ++ ys) → Among x xs ⊎ Among x ys
among_split x [] ys h = inr h
among_split x (y ∷ xs) ys h = ⊎_elim (λ e. inl (inl e)) (λ t. ⊎_elim (λ a. inl (inr a)) (λ b. inr b) (among_split x xs ys t)) h

counts_moves : (a b : Option ℕ) (n : ℕ) → Counts a b n → Moves a b n 0
counts_moves None b n p = p
counts_moves (Some x) b n p = let e : (x + n) + 0 ≡ x + n = omega arith in subst (λ (y : Option ℕ). Moves (Some x) y n 0) (sym p) e

back_moves : (a b : Option ℕ) (n : ℕ) → Counts b a n → Moves a b 0 n
back_moves a None n p = subst (λ (y : Option ℕ). Moves y None 0 n) (sym p) refl
back_moves a (Some x) n p = let e : x + n ≡ (x + n) + 0 = omega arith in subst (λ (y : Option ℕ). Moves y (Some x) 0 n) (sym p) e

module _ {C : Type 0} where
  gives_none : (a : Option (List C)) → Gives a [] a
  gives_none None = tt
  gives_none (Some xs) = refl

  gives_one : (a b : Option (List C)) (c : C) → Accepts a b (Some c) → Gives a (c ∷ []) b
  gives_one None b c p = tt
  gives_one (Some xs) None c p = absurd p
  gives_one (Some []) (Some l) c p = absurd (cc p.0)
  gives_one (Some (x ∷ xs)) (Some l) c p = let e : c ≡ x = cc p.0 in (λ i. (sym e i) ∷ (sym p.1 i))

  gives_stays : (a b : Option (List C)) → Stays a b → Gives a [] b
  gives_stays None b p = tt
  gives_stays (Some xs) None p = absurd p
  gives_stays (Some xs) (Some ys) p = sym p

  gives_nothing : (a b : Option (List C)) → Accepts a b None → Gives a [] b
  gives_nothing None b p = tt
  gives_nothing (Some xs) None p = absurd p
  gives_nothing (Some []) (Some l) p = sym p.1
  gives_nothing (Some (x ∷ xs)) (Some l) p = absurd (cc p.0)

  empties_nothing : (a b : Option (List C)) → Accepts a b None → Empties a b
  empties_nothing None b p = tt
  empties_nothing (Some xs) None p = absurd p
  empties_nothing (Some []) (Some l) p = p.1
  empties_nothing (Some (x ∷ xs)) (Some l) p = absurd (cc p.0)

  gives_on : (a b c : Option (List C)) (cs ds : List C) → Gives a cs b → Gives b ds c → Gives a (cs ++ ds) c
  gives_on None b c cs ds p q = tt
  gives_on (Some xs) None c cs ds p q = absurd p
  gives_on (Some xs) (Some ys) None cs ds p q = absurd q
  gives_on (Some xs) (Some ys) (Some zs) cs ds p q = p ∙ ap (λ (l : List C). cs ++ l) q ∙ sym (append_assoc cs ds zs)

  last_nil : (cs zs : List C) → [] ≡ cs ++ zs → zs ≡ []
  last_nil [] zs e = sym e
  last_nil (c ∷ cs) zs e = absurd (cc e)

  empties_on : (a b c : Option (List C)) (ds : List C) → Empties a b → Gives b ds c → Empties a c
  empties_on None b c ds p q = tt
  empties_on (Some xs) None c ds p q = absurd p
  empties_on (Some xs) (Some ys) None ds p q = absurd q
  empties_on (Some xs) (Some ys) (Some zs) ds p q = last_nil ds zs (sym p ∙ q)

  on_empties : (a b c : Option (List C)) (cs : List C) → Gives a cs b → Empties b c → Empties a c
  on_empties None b c cs p q = tt
  on_empties (Some xs) None c cs p q = absurd p
  on_empties (Some xs) (Some ys) None cs p q = absurd q
  on_empties (Some xs) (Some ys) (Some zs) cs p q = q

  no_full : (r : Taken C) → (r ≡ taken.Full → ⊥) → Among taken.Full (r ∷ []) → ⊥
  no_full r f h = ⊎_elim f (λ e. e) h

  no_none : (r : Taken C) → (r ≡ taken.NoMore → ⊥) → Among taken.NoMore (r ∷ []) → ⊥
  no_none r f h = ⊎_elim f (λ e. e) h

  no_failed : (r : Taken C) → (r ≡ taken.Failed → ⊥) → Among taken.Failed (r ∷ []) → ⊥
  no_failed r f h = ⊎_elim f (λ e. e) h

  gave_none : (h : CountedSeen C) → Gave h [] [] h
  gave_none h = record {
    wanted = refl;
    finished = tells_none h.door.finished;
    lent = moves_none h.door.lent;
    faults = omega arith;
    given = omega arith;
    coming = gives_none h.door.coming;
    within = λ le. le;
    full = λ x. absurd x;
    none = λ x. absurd x;
    failed = λ x. absurd x;
  }

  next_gave : (h : CountedSeen C) (r : Taken C) (k : CountedSeen C) → NextStep h r k → Gave h [] (r ∷ []) k
  next_gave h (taken.Connection c) k t =
      let w = t.wanted in
      let g = t.given in
      let lt = t.by.0 in
      record {
        wanted = t.wanted;
        finished = tells_stays h.door.finished k.door.finished t.finished;
        lent = counts_moves h.door.lent k.door.lent 1 t.lent;
        faults = t.faults;
        given = t.given;
        coming = gives_one h.door.coming k.door.coming c t.by.1;
        within = λ le. omega (arith, w, g, lt);
        full = λ x. absurd (no_full (taken.Connection c) (λ e. absurd (cc e)) x);
        none = λ x. absurd (no_none (taken.Connection c) (λ e. absurd (cc e)) x);
        failed = λ x. absurd (no_failed (taken.Connection c) (λ e. absurd (cc e)) x);
      }
  next_gave h taken.Full k t =
      let w = t.wanted in
      let g = t.given in
      let le' = t.by.0 in
      record {
        wanted = t.wanted;
        finished = tells_stays h.door.finished k.door.finished t.finished;
        lent = counts_moves h.door.lent k.door.lent 0 t.lent;
        faults = t.faults;
        given = t.given;
        coming = subst (λ (x : CountedSeen C). Gives h.door.coming [] x.door.coming) (sym t.by.1) (gives_none h.door.coming);
        within = λ le. omega (arith, w, g, le);
        full = λ x. omega (arith, w, g, le');
        none = λ x. absurd (no_none taken.Full (λ e. absurd (cc e)) x);
        failed = λ x. absurd (no_failed taken.Full (λ e. absurd (cc e)) x);
      }
  next_gave h taken.NoMore k t =
      let w = t.wanted in
      let g = t.given in
      record {
        wanted = t.wanted;
        finished = tells_stays h.door.finished k.door.finished t.finished;
        lent = counts_moves h.door.lent k.door.lent 0 t.lent;
        faults = t.faults;
        given = t.given;
        coming = gives_nothing h.door.coming k.door.coming t.by.1;
        within = λ le. omega (arith, w, g, le);
        full = λ x. absurd (no_full taken.NoMore (λ e. absurd (cc e)) x);
        none = λ x. empties_nothing h.door.coming k.door.coming t.by.1;
        failed = λ x. absurd (no_failed taken.NoMore (λ e. absurd (cc e)) x);
      }
  next_gave h taken.Failed k t =
      let w = t.wanted in
      let g = t.given in
      record {
        wanted = t.wanted;
        finished = tells_stays h.door.finished k.door.finished t.finished;
        lent = counts_moves h.door.lent k.door.lent 0 t.lent;
        faults = t.faults;
        given = t.given;
        coming = gives_stays h.door.coming k.door.coming t.by.1;
        within = λ le. omega (arith, w, g, le);
        full = λ x. absurd (no_full taken.Failed (λ e. absurd (cc e)) x);
        none = λ x. absurd (no_none taken.Failed (λ e. absurd (cc e)) x);
        failed = λ x. t.by.2;
      }

  -- what was handed back was taken back
  took_gave : (h : CountedSeen C) (b : Option C) (m : DoorSeen C) → TookBack h.door (returned b) m → Gave h (b ∷ []) [] (record { door = m; given = h.given; wanted = h.wanted })
  took_gave h b m t =
      let one : returned b ≡ returned b ++ [] = sym (append-nil (returned b)) in
      let f = t.faults in
      record {
        wanted = refl;
        finished = subst (λ (l : List C). Tells h.door.finished m.finished l) one t.finished;
        lent = subst (λ (l : List C). Moves h.door.lent m.lent 0 (length l)) one (back_moves h.door.lent m.lent (length (returned b)) t.lent);
        faults = omega (arith, f);
        given = omega arith;
        coming = gives_stays h.door.coming m.coming t.coming;
        within = λ le. le;
        full = λ x. absurd x;
        none = λ x. absurd x;
        failed = λ x. absurd x;
      }

  connections_long : (rs ss : List (Taken C)) → length (connections_in (rs ++ ss)) ≡ length (connections_in rs) + length (connections_in ss)
  connections_long rs ss = ap (λ (l : List C). length l) (connections_append rs ss) ∙ length-append (connections_in rs) (connections_in ss)

  returned_long : (bs cs : List (Option C)) → length (returned_in (bs ++ cs)) ≡ length (returned_in bs) + length (returned_in cs)
  returned_long bs cs = ap (λ (l : List C). length l) (returned_append bs cs) ∙ length-append (returned_in bs) (returned_in cs)

  gave_more : (h m k : CountedSeen C) (bs cs : List (Option C)) (rs ss : List (Taken C)) → Gave h bs rs m → Gave m cs ss k → Gave h (bs ++ cs) (rs ++ ss) k
  gave_more h m k bs cs rs ss p q =
      let size = connections_long rs ss in
      let less = returned_long bs cs in
      let w = q.wanted in
      let g = p.given in
      let g' = q.given in
      let f = p.faults in
      let f' = q.faults in
      let moved = moves_on h.door.lent m.door.lent k.door.lent (length (connections_in rs)) (length (returned_in bs)) (length (connections_in ss)) (length (returned_in cs)) p.lent q.lent in
      record {
        wanted = q.wanted ∙ p.wanted;
        finished = subst (λ (l : List C). Tells h.door.finished k.door.finished l) (sym (returned_append bs cs)) (tells_on h.door.finished m.door.finished k.door.finished (returned_in bs) (returned_in cs) p.finished q.finished);
        lent = subst (λ (n : ℕ). Moves h.door.lent k.door.lent n (length (returned_in (bs ++ cs)))) (sym size)
            (subst (λ (n : ℕ). Moves h.door.lent k.door.lent (length (connections_in rs) + length (connections_in ss)) n) (sym less) moved);
        faults = omega (arith, f, f');
        given = omega (arith, size, g, g');
        coming = subst (λ (l : List C). Gives h.door.coming l k.door.coming) (sym (connections_append rs ss)) (gives_on h.door.coming m.door.coming k.door.coming (connections_in rs) (connections_in ss) p.coming q.coming);
        within = λ le. q.within (p.within le);
        full = λ x. ⊎_elim (λ a. (let le = p.full a in omega (arith, le, w, g'))) (λ b. q.full b) (among_split taken.Full rs ss x);
        none = λ x. ⊎_elim (λ a. empties_on h.door.coming m.door.coming k.door.coming (connections_in ss) (p.none a) q.coming) (λ b. on_empties h.door.coming m.door.coming k.door.coming (connections_in rs) p.coming (q.none b)) (among_split taken.NoMore rs ss x);
        failed = λ x. ⊎_elim (λ a. le_trans (p.failed a) f') (λ b. rose_on h.door.faults m.door.faults k.door.faults f (q.failed b)) (among_split taken.Failed rs ss x);
      }
    where
      rose_on : (a b c : ℕ) → a ≤ b → Rose b c → Rose a c
      rose_on a b c le r = omega (arith, le, r)

  gave_one : (h : CountedSeen C) (b : Option C) (r : Taken C) (k : CountedSeen C) → TakeStep h b r k → Gave h (b ∷ []) (r ∷ []) k
  gave_one h b r k t =
      let m : CountedSeen C = record { door = t.between; given = h.given; wanted = h.wanted } in
      gave_more h m k (b ∷ []) [] [] (r ∷ []) (took_gave h b t.between t.took) (next_gave m r k t.next)

  -- what a legal history gave
  pub gave_log : (before : List (Turn C)) (h : CountedSeen C) (log : List (Turn C)) (k : CountedSeen C) → Legal TakeStep MayAsk before h log k → Gave h (asks log) (replies log) k
  gave_log before h [] k l = subst (λ (x : CountedSeen C). Gave h [] [] x) (sym l) (gave_none h)
  gave_log before h (e ∷ es) k l = gave_more h l.0 k (e.call ∷ []) (asks es) (e.reply ∷ []) (replies es) (gave_one h e.call e.reply l.0 l.2) (gave_log (before ++ e ∷ []) l.0 es k l.3)

  among_cond : (b : Bool) (u : Option C) (r x : Taken C) (ys : List (Asked C)) (zs : List (Taken C)) → Among r (answers (cond b ((u, x) ∷ ys) ys)) → (Among r (answers ys) → Among r zs) → Among r (x ∷ zs)
  among_cond true u r x ys zs h f = ⊎_elim (λ e. inl e) (λ t. inr (f t)) h
  among_cond false u r x ys zs h f = inr (f h)

  -- what a lane was answered is among all answers
  pub among_own : (k : ℕ) (log : List (Turn C)) (r : Taken C) → Among r (answers (own k log)) → Among r (replies log)
  among_own k [] r h = h
  among_own k (e ∷ es) r h = among_cond (e.by == k) e.call r e.reply (own k es) (replies es) h (among_own k es r)

  cond_among : (b : Bool) (r : Taken C) (x : Asked C) (ys : List (Asked C)) → Among r (answers ys) → Among r (answers (cond b (x ∷ ys) ys))
  cond_among true r x ys h = inr h
  cond_among false r x ys h = h

  -- what is among all answers some lane was answered
  pub among_lane : (r : Taken C) (log : List (Turn C)) → Among r (replies log) → (k : ℕ) × Among r (answers (own k log))
  among_lane r [] h = absurd h
  among_lane r (e ∷ es) h = ⊎_elim
      (λ is. (e.by, subst (λ (t : Bool). Among r (answers (cond t ((e.call, e.reply) ∷ own e.by es) (own e.by es)))) (sym (eq-eqb e.by e.by refl)) (inl is)))
      (λ t. (let m = among_lane r es t in (m.0, cond_among (e.by == m.0) r (e.call, e.reply) (own m.0 es) m.1)))
      h
