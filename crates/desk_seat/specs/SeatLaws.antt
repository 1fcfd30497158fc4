-- What holds of seats at a shared desk.
use Rattle.std.specs.Prelude.{◌≡◌, List, [], ◌∷◌, ◌++◌, refl}
use Rattle.std.proofs.Common.{append-nil, append_assoc, sym, ap, ◌∙◌, subst}
use Rattle.std.proofs.lemmas.List.Elements.{Contains-push}
use Rattle.desk_lock.specs.declared.types.Entry.{Entry}
use Rattle.desk_lock.specs.Histories.{entry}
use Rattle.desk_lock.specs.Passes.{made, seen, number, Turned}
use Rattle.desk_machine.specs.Given.{MayMake}
use Rattle.desk_machine.specs.Grants.{IsGrantFor}
use Rattle.desk_machine.specs.HandLaws.{hand_admits, may_settle}
use Rattle.desk_machine.specs.Making.{AllBusy, ClosesIdle, IsBusy, MaySettle}
use Rattle.desk_machine.specs.declared.call.DeskCall.{DeskCall}
use Rattle.desk_machine.specs.declared.call.DeskCall.TheVariants as call
use Rattle.desk_machine.specs.declared.call.DeskReply.{DeskReply}
use Rattle.desk_machine.specs.declared.call.DeskReply.TheVariants as reply
use Rattle.check_sign.specs.Contents.{Seen}
use Rattle.desk_seat.specs.Seats.{DeskPass, Grows}

module _ {D : Type 0} where
  pub grows_none : (p : DeskPass D) → Grows p [] p
  grows_none p = record { number_is = refl; made_is = sym (append-nil (made p)); starts = ([], sym (append-nil (seen p))) }

  pub grows_more : (p q r : DeskPass D) (xs ys : List (DeskCall × DeskReply)) → Grows p xs q → Grows q ys r → Grows p (xs ++ ys) r
  grows_more p q r xs ys a b = record {
    number_is = b.number_is ∙ a.number_is;
    made_is = b.made_is ∙ ap (λ (l : List (DeskCall × DeskReply)). l ++ ys) a.made_is ∙ append_assoc (made p) xs ys;
    starts = (a.starts.0 ++ b.starts.0, b.starts.1 ∙ ap (λ (l : List (Entry DeskCall DeskReply)). l ++ b.starts.0) a.starts.1 ∙ append_assoc (seen p) a.starts.0 b.starts.0);
  }

  pub grows_admits : (p q : DeskPass D) (xs : List (DeskCall × DeskReply)) (c : DeskCall) → Grows p xs q → MayMake xs c → MayMake (made q) c
  grows_admits p q xs c g h = subst (λ (l : List (DeskCall × DeskReply)). MayMake l c) (sym g.made_is) (hand_admits (made p) xs c h)

  pub grows_turned : (steps : Seen D → DeskCall → DeskReply → Seen D → Type 0) (may : List (DeskCall × DeskReply) → DeskCall → Type 0) (o : Seen D) (p q : DeskPass D) (c : DeskCall) (r : DeskReply)
      → Turned steps may o p c r q → Grows p ((c, r) ∷ []) q
  grows_turned steps may o p q c r t = record {
    number_is = t.number_is;
    made_is = t.made_is;
    starts = (t.between ++ entry (number p) c r ∷ [], t.seen_is ∙ append_assoc (seen p) t.between (entry (number p) c r ∷ []));
  }

-- who was just given a grant may settle it
pub settles_at : (before now : List (DeskCall × DeskReply)) (c : DeskCall) (r : DeskReply) → now ≡ before ++ (c, r) ∷ [] → IsGrantFor c r → MaySettle (λ d. MayMake now d) r
settles_at before now (call.Propose key m at) (reply.Granted grant) e h =
    λ o. subst (λ (l : List (DeskCall × DeskReply)). MayMake l (call.Settle grant o)) (sym e) (may_settle before (call.Propose key m at) grant o (Contains-push [] grant))
settles_at before now (call.Allow key at) (reply.Granted grant) e h =
    λ o. subst (λ (l : List (DeskCall × DeskReply)). MayMake l (call.Settle grant o)) (sym e) (may_settle before (call.Allow key at) grant o (Contains-push [] grant))
settles_at before now c (reply.Granted grant) e h = absurd h
settles_at before now c r e h = tt

pub busy_more : (c : DeskCall) (r : DeskReply) (xs : List (DeskCall × DeskReply)) → AllBusy c xs → IsBusy r → AllBusy c (xs ++ (c, r) ∷ [])
busy_more c r [] a b = (refl, b, tt)
busy_more c r (x ∷ xs) a b = (a.0, a.1, busy_more c r xs a.2 b)

-- while a key's closing was held up: the calls made so far
pub record Waited {X D : Type 0} (c : DeskCall) (s t : X) (p q : DeskPass D) : Type 0 where
  pub same : t ≡ s
  pub busy : List (DeskCall × DeskReply)
  pub all_busy : AllBusy c busy
  pub grew : Grows p busy q

module _ {X D : Type 0} where
  pub waited_none : (c : DeskCall) (s : X) (p : DeskPass D) → Waited c s s p p
  waited_none c s p = record { same = refl; busy = []; all_busy = tt; grew = grows_none p }

  pub waited_more : (c : DeskCall) (r : DeskReply) (s t u : X) (p q v : DeskPass D) → Waited c s t p q → IsBusy r → u ≡ t → Grows q ((c, r) ∷ []) v → Waited c s u p v
  waited_more c r s t u p q v w b same g = record { same = same ∙ w.same; busy = w.busy ++ (c, r) ∷ []; all_busy = busy_more c r w.busy w.all_busy b; grew = grows_more p q v w.busy ((c, r) ∷ []) w.grew g }

  pub waited_ends : (c : DeskCall) (r : DeskReply) (s t u : X) (p q v : DeskPass D) → Waited c s t p q → u ≡ t → Grows q ((c, r) ∷ []) v
      → (made : List (DeskCall × DeskReply)) × ClosesIdle c r made × (u ≡ s) × Grows p made v
  waited_ends c r s t u p q v w same g = (w.busy ++ (c, r) ∷ [], record { busy = w.busy; all_busy = w.all_busy; made_is = refl }, same ∙ w.same, grows_more p q v w.busy ((c, r) ∷ []) w.grew g)
