-- Passes of a desk that is shared.
use Rattle.std.proofs.Common.{◌≡◌, ◌⊎◌, ◌+◌, ◌<◌, ◌≤◌, ℕ, zero, suc, All, List, [], ◌∷◌, ◌++◌, Option, Result, length, get_or, map, Some, slice_get, refl, sym, ap, ◌∙◌, subst, inl, inr, ⊎_elim, arith}
use Rattle.std.proofs.lemmas.List.{get_or-map, get_or_past, length-append, length-map, map-append}
use Rattle.std.proofs.Math.Seq.{get_or-append_seam}
use Rattle.std.proofs.lemmas.Option.{get_or_from_slice_get, slice_get_within, slice_get-get_or}
use Rattle.desk_lock.specs.Histories.{own}
use Rattle.desk_lock.specs.Passes.{IsNew, made, number}
use Rattle.desk_machine.specs.declared.call.DeskCall.{DeskCall}
use Rattle.desk_machine.specs.declared.call.DeskReply.{DeskReply}
use Rattle.check_sign.specs.Contents.{Seen}
use Rattle.desk_seat.specs.Seats.{DeskPass, Grows, IsDeskPass, SharedDesk}
use Rattle.desk_seat.specs.Turns.{Served}
use Rattle.program_end.specs.declared.status.Status.{Status}
use Rattle.duty_plans.specs.declared.setup.DutySetup.{DutySetup}
use Rattle.duty_turns.specs.declared.held.DutyEnd.{DutyEnd}
use Rattle.keymanager_api.specs.Serving.{LinkSeen}
use Rattle.keymanager_api.specs.declared.connections.ConnectionsEnd.{ConnectionsEnd}
use Rattle.command_line.specs.declared.serve_options.ServeOptions.{ServeOptions}
use Rattle.journal_commands.specs.Views.{Output}
use Rattle.serve_run.specs.Clients.{Parts}
use Rattle.serve_run.specs.Seating.{AreNew, HaveMade, RanBeside}
use Rattle.serve_run.specs.Ends.{SharedRun, Shares}
use Rattle.serve_run.specs.Serving.{Beside, ClosesBoth, Wanted, connections_of, setup_of}
use Rattle.serve_run.specs.declared.start.Start.{Start}

module _ {X : Type 0} where
  get_push : (xs : List X) (k : ℕ) (a b : X) → slice_get (xs ++ a ∷ []) k ≡ Some b → (slice_get xs k ≡ Some b) ⊎ ((k ≡ length xs) × (a ≡ b))
  get_push [] zero a b e = inr (refl, cc e)
  get_push [] (suc k) a b e = absurd (cc e)
  get_push (x ∷ xs) zero a b e = inl e
  get_push (x ∷ xs) (suc k) a b e = ⊎_elim (λ t. inl t) (λ t. inr (ap suc t.0, t.1)) (get_push xs k a b e)

  -- something is at the place, or it is after the end
  by_place : (xs : List X) (k : ℕ) → ((x : X) × (slice_get xs k ≡ Some x)) ⊎ (length xs ≤ k)
  by_place [] k = inr (omega arith)
  by_place (x ∷ xs) zero = inl (x, refl)
  by_place (x ∷ xs) (suc k) = ⊎_elim (λ t. inl t) (λ le. inr (omega (arith, le))) (by_place xs k)

module _ {X Y : Type 0} (f : X → Y) where
  -- what was found in a map is of what is found there
  pub map_found : (xs : List X) (k : ℕ) (y : Y) → slice_get (map f xs) k ≡ Some y → (x : X) × (slice_get xs k ≡ Some x) × (f x ≡ y)
  map_found [] k y e = absurd (cc e)
  map_found (x ∷ xs) zero y e = (x, refl, cc e)
  map_found (x ∷ xs) (suc k) y e = map_found xs k y e

  -- one more, in both
  pub map_push : (xs longer : List X) (ys : List Y) (x : X) (y : Y) → map f xs ≡ ys → longer ≡ xs ++ x ∷ [] → f x ≡ y → map f longer ≡ ys ++ y ∷ []
  map_push xs longer ys x y so_far pushed same =
      ap (λ (l : List X). map f l) pushed ∙ map-append f xs (x ∷ []) ∙ ap (λ (l : List Y). l ++ f x ∷ []) so_far ∙ ap (λ (z : Y). ys ++ z ∷ []) same

module _ {D : Type 0} (moment : D → ℕ) (leaves : D → ℕ → List ℕ → Type 0) (faults : D → ℕ) where
  -- one pass more
  pub new_push : (shared : SharedDesk D) (first : ℕ) (passes : List (DeskPass D)) (p : DeskPass D) → AreNew moment leaves faults shared first passes
      → IsDeskPass moment leaves faults shared p → IsNew (first + length passes) p → AreNew moment leaves faults shared first (passes ++ p ∷ [])
  new_push shared first passes p h is new = λ k q e. ⊎_elim
      (λ t. h k q t)
      (λ t. subst (λ (x : DeskPass D). IsDeskPass moment leaves faults shared x × IsNew (first + k) x) t.1 (is, subst (λ (n : ℕ). IsNew (first + n) p) (sym t.0) new))
      (get_push passes k p q e)

  -- the passes of lanes whose desks grew by these calls
  pub lanes_made : {X : Type 0} (f : X → DeskPass D) (shared : SharedDesk D) (first : ℕ) (passes : List (DeskPass D)) (before after : List X) (calls : List (List (DeskCall × DeskReply)))
      → AreNew moment leaves faults shared first passes → map f before ≡ passes → length after ≡ length before
      → ((k : ℕ) (d : X) → k < length before → Grows (f (get_or before k d)) (get_or calls k []) (f (get_or after k d)))
      → ((k : ℕ) (d : X) → k < length after → IsDeskPass moment leaves faults shared (f (get_or after k d)))
      → (k : ℕ) (p : DeskPass D) → slice_get (map f after) k ≡ Some p → IsDeskPass moment leaves faults shared p × (number p ≡ first + k) × (made p ≡ get_or calls k [])
  lanes_made {X} f shared first passes before after calls new same long grew ready k p e =
      let found = map_found f after k p e in
      let x : X = found.0 in
      let within : k < length after = slice_get_within after k x found.1 in
      let below : k < length before = omega (arith, within, long) in
      let here : f (get_or after k x) ≡ p = ap f (get_or_from_slice_get after k x x found.1) ∙ found.2 in
      let was : DeskPass D = f (get_or before k x) in
      let there : slice_get passes k ≡ Some was =
      subst (λ (l : List (DeskPass D)). slice_get l k ≡ Some was) same
      (slice_get-get_or (map f before) k was (omega (arith, length-map before f, below)) ∙ ap Some (get_or-map f before k x was below)) in
      let at = new k was there in
      let g : Grows was (get_or calls k []) p = subst (λ (q : DeskPass D). Grows was (get_or calls k []) q) here (grew k x below) in
      (subst (λ (q : DeskPass D). IsDeskPass moment leaves faults shared q) here (ready k x within), g.number_is ∙ at.1.0, g.made_is ∙ ap (λ (l : List (DeskCall × DeskReply)). l ++ get_or calls k []) at.1.2)

  -- a new pass that grew by these calls
  pub one_made : (n : ℕ) (p q : DeskPass D) (xs : List (DeskCall × DeskReply)) → IsNew n p → Grows p xs q → (number q ≡ n) × (made q ≡ xs)
  one_made n p q xs new g = (g.number_is ∙ new.0, g.made_is ∙ ap (λ (l : List (DeskCall × DeskReply)). l ++ xs) new.2)

  -- two passes, and those of the lanes after them
  pub have_made : (shared : SharedDesk D) (mine answers : List (DeskCall × DeskReply)) (calls : List (List (DeskCall × DeskReply))) (p q : DeskPass D) (passes : List (DeskPass D))
      → length passes ≡ length calls
      → IsDeskPass moment leaves faults shared p × (number p ≡ 0) × (made p ≡ mine)
      → IsDeskPass moment leaves faults shared q × (number q ≡ 1) × (made q ≡ answers)
      → ((k : ℕ) (r : DeskPass D) → slice_get passes k ≡ Some r → IsDeskPass moment leaves faults shared r × (number r ≡ 2 + k) × (made r ≡ get_or calls k []))
      → HaveMade moment leaves faults shared (mine ∷ answers ∷ calls) (p ∷ q ∷ passes)
  have_made shared mine answers calls p q passes long one two rest = record { count = omega (arith, long); each = each }
    where
      each : (k : ℕ) (r : DeskPass D) → slice_get (p ∷ q ∷ passes) k ≡ Some r → IsDeskPass moment leaves faults shared r × (number r ≡ k) × (made r ≡ get_or (mine ∷ answers ∷ calls) k [])
      each zero r e = let h : p ≡ r = cc e in subst (λ (x : DeskPass D). IsDeskPass moment leaves faults shared x × (number x ≡ 0) × (made x ≡ mine)) h one
      each (suc zero) r e = let h : q ≡ r = cc e in subst (λ (x : DeskPass D). IsDeskPass moment leaves faults shared x × (number x ≡ 1) × (made x ≡ answers)) h two
      each (suc (suc k)) r e = let h = rest k r e in let at = h.1 in (h.0, omega (arith, at), h.2)

  -- what the passes made is what the history has
  pub shared_run : (shared : SharedDesk D) (opened : Seen D) (mine answers : List (DeskCall × DeskReply)) (calls : List (List (DeskCall × DeskReply))) (passes : List (DeskPass D)) (closed : Seen D)
      → HaveMade moment leaves faults shared (mine ∷ answers ∷ calls) passes → Served moment leaves faults opened passes closed → SharedRun moment leaves faults opened mine answers calls closed
  shared_run shared opened mine answers calls passes closed h s = record { log = s.log; history = s.history; own_is = own_is; path = s.path }
    where
      own_is : (k : ℕ) → own k s.log ≡ get_or (mine ∷ answers ∷ calls) k []
      own_is k = ⊎_elim
          (λ t. s.own_is k t.0 t.1 ∙ (h.each k t.0 t.1).2)
          (λ le. s.no_others k le ∙ sym (get_or_past (mine ∷ answers ∷ calls) k [] (let long = h.count in omega (arith, le, long))))
          (by_place passes k)

-- what two pushes and an append make of an empty list
pub two_and_rest : {X : Type 0} (l0 l1 l2 l3 rest : List X) (p q a b : X) → l0 ≡ [] → l1 ≡ l0 ++ p ∷ [] → l2 ≡ l1 ++ q ∷ [] → l3 ≡ l2 ++ rest → p ≡ a → q ≡ b → l3 ≡ a ∷ b ∷ rest
two_and_rest l0 l1 l2 l3 rest p q a b e0 e1 e2 e3 ep eq =
    e3 ∙ ap (λ l. l ++ rest) (e2 ∙ ap (λ l. l ++ q ∷ []) (e1 ∙ ap (λ l. l ++ p ∷ []) e0)) ∙ ap (λ x. x ∷ q ∷ rest) ep ∙ ap (λ x. a ∷ x ∷ rest) eq

-- what holds of each element holds of the next
pub next_of : {X : Type 0} (P : X → Type 0) (all done rest : List X) (x : X) → All P all → done ++ x ∷ rest ≡ all → P x
next_of {X} P all done rest x h e =
    let among : P (get_or (done ++ x ∷ rest) (length done) x) = subst (λ (l : List X). All P l) (sym e) h (length done) x (let long = length-append done (x ∷ rest) in omega (arith, long)) in
    subst P (get_or-append_seam done x rest x) among

-- a desk that was lent to loops that ran beside each other, and taken back
module _ {D C : Type 0} (moment : D → ℕ) (leaves : D → ℕ → List ℕ → Type 0) (faults : D → ℕ) (see : C → LinkSeen) (clock : Option ℕ) (options : ServeOptions) (start : Start)
    (shared : SharedDesk D) (opened ended : Seen D) (before mid : Parts C) (setup : DutySetup) (wanted : Wanted) (duties : Result (Unit {0}) DutyEnd) (connections : Result (Unit {0}) ConnectionsEnd) (passes : List (DeskPass D)) where
  pub shares : setup ≡ setup_of options start → wanted ≡ connections_of options start → RanBeside moment leaves faults shared see clock setup wanted before mid duties connections passes
      → Served moment leaves faults opened passes ended → (out : Output) (result : Status) → ClosesBoth duties connections mid.out out result
      → Shares moment leaves faults see clock options start opened ended before (record mid { out = out }) result
  shares same_setup same_wanted ran served out result closes =
      let B : DutySetup → Wanted → Type 0 = λ s w. Beside see clock s w before mid ran.loop ran.answered ran.lanes duties connections mid.out in
      let beside : B (setup_of options start) (connections_of options start) =
      subst (λ (w : Wanted). B (setup_of options start) w) same_wanted (subst (λ (s : DutySetup). B s wanted) same_setup ran.beside) in
      record {
        loop = ran.loop;
        answered = ran.answered;
        lanes = ran.lanes;
        serves = record {
          duties_end = duties;
          connections_end = connections;
          out = mid.out;
          beside = record { duties = beside.duties; connections = beside.connections; lanes_are = beside.lanes_are; same_lanes = beside.same_lanes };
          closes = closes;
        };
        shared = shared_run moment leaves faults shared opened ran.loop ran.answered ran.lanes passes ended ran.made_are served;
      }
