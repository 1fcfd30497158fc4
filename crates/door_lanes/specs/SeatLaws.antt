-- What holds of seats at a shared door.
use Rattle.std.specs.Prelude.{◌≡◌, ◌+◌, ℕ, List, [], ◌∷◌, ◌++◌, Option, length, refl}
use Rattle.std.proofs.Common.{append-nil, append_assoc, sym, ap, ◌∙◌, subst, arith}
use Rattle.std.proofs.lemmas.List.{length-append}
use Rattle.desk_lock.specs.Passes.{made, Turned}
use Rattle.door_lanes.specs.declared.counted.Taken.{Taken}
use Rattle.door_lanes.specs.Doors.{Asked, CountedSeen, HandsOn, MayAsk, TakeStep, answers, calls, connection_in, connections_in, returned, returned_in}
use Rattle.door_lanes.specs.Seats.{DoorPass, Grows}

module _ {C : Type 0} where
  pub grows_none : (p : DoorPass C) → Grows p [] p
  grows_none p = record { number_is = refl; made_is = sym (append-nil (made p)) }

  pub grows_more : (p q r : DoorPass C) (xs ys : List (Asked C)) → Grows p xs q → Grows q ys r → Grows p (xs ++ ys) r
  grows_more p q r xs ys a b = record {
    number_is = b.number_is ∙ a.number_is;
    made_is = b.made_is ∙ ap (λ (l : List (Asked C)). l ++ ys) a.made_is ∙ append_assoc (made p) xs ys;
  }

  pub grows_turned : (o : CountedSeen C) (p q : DoorPass C) (b : Option C) (r : Taken C) → Turned TakeStep MayAsk o p b r q → Grows p ((b, r) ∷ []) q
  grows_turned o p q b r t = record { number_is = t.number_is; made_is = t.made_is }

  pub hands_more : (n m o : ℕ) (xs ys : List (Asked C)) → HandsOn n xs m → HandsOn m ys o → HandsOn n (xs ++ ys) o
  hands_more n m o [] ys p q = subst (λ (k : ℕ). HandsOn k ys o) p q
  hands_more n m o (x ∷ xs) ys p q = (p.0, hands_more (length (connection_in x.1)) m o xs ys p.1 q)

  -- what was given and not handed back yet is what is left
  pub hands_count : (n m : ℕ) (xs : List (Asked C)) → HandsOn n xs m → length (returned_in (calls xs)) + m ≡ n + length (connections_in (answers xs))
  hands_count n m [] p = omega (arith, p)
  hands_count n m (x ∷ xs) p =
      let i = hands_count (length (connection_in x.1)) m xs p.1 in
      let b = length-append (returned x.0) (returned_in (calls xs)) in
      let c = length-append (connection_in x.1) (connections_in (answers xs)) in
      let f = p.0 in
      let s : length (returned x.0 ++ returned_in (calls xs)) + m ≡ n + length (connection_in x.1 ++ connections_in (answers xs)) = omega (arith, i, b, c, f) in
      s

  -- so what is left may be handed back
  pub hands_may : (xs : List (Asked C)) (b : Option C) → HandsOn 0 xs (length (returned b)) → MayAsk xs b
  hands_may xs b p = let e = hands_count 0 (length (returned b)) xs p in omega (arith, e)

  -- one turn more, which hands it back
  pub hands_turned : (xs ys : List (Asked C)) (b : Option C) (r : Taken C) → HandsOn 0 xs (length (returned b)) → ys ≡ xs ++ (b, r) ∷ [] → HandsOn 0 ys (length (connection_in r))
  hands_turned xs ys b r p e = subst (λ (l : List (Asked C)). HandsOn 0 l (length (connection_in r))) (sym e) (hands_more 0 (length (returned b)) (length (connection_in r)) xs ((b, r) ∷ []) p (refl, refl))
