-- The images of calls, moment by moment.
use Rattle.std.proofs.Common.{◌≡◌, ◌⊎◌, ⊎_elim, ℕ, ◌≤◌, List, [], ◌∷◌, Option, None, Some, refl, sym, ◌∙◌, subst, arith}
use Rattle.std.specs.Prelude.{IfSome}
use Rattle.edge_kit.specs.declared.disk.Disks.{Disks}
use Rattle.edge_kit.specs.declared.bytes.PubKey.{PubKey}
use Rattle.edge_kit.specs.declared.bytes.Root.{Root}
use Rattle.slash_defs.specs.declared.message.Message.{Message}
use Rattle.check_sign.specs.Contents.{Seen, disks_in}
use Rattle.check_sign.specs.Crashes.{Moments, now_of}
use Rattle.check_sign.specs.Paths.{Path, moments_behind}
use Rattle.desk_machine.specs.States.{State}
use Rattle.check_sign.specs.Standing.{DeskStands, MayOpen}
use Rattle.check_sign.specs.Calls.{LeavesDesk}
use Rattle.desk_machine.specs.Machine.{Reply, after}
use Rattle.desk_machine.specs.declared.call.DeskCall.{DeskCall}
use Rattle.desk_machine.specs.declared.call.DeskCall.TheVariants as call
use Rattle.desk_machine.specs.declared.call.DeskReply.{DeskReply}
use Rattle.desk_machine.specs.declared.call.DeskReply.TheVariants as reply
use Rattle.client_calls.specs.Machines.{CanMake}
use Rattle.session_run.specs.Durable.{IsDurable}
use Rattle.session_run.specs.Moments.{CoveredFrom, FollowCalls, GrantsLast, Images, granted_by}
use Rattle.session_run.proofs.DurableLemmas.{stays, granted, images}
use Rattle.session_run.proofs.PathLemmas.{path_machine}

-- ---- what was granted is durable

granted_call : (state : State) (c : DeskCall) (r : DeskReply) → Reply state c r → IfSome (granted_by c r) (λ sent. IsDurable (after state c r) sent.0 sent.1)
granted_call state (call.Propose key m now) (reply.Granted grant) can = granted state key m now grant can
granted_call state c r can = tt

if_some : {X : Type 0} (P Q : X → Type 0) (o : Option X) → ((x : X) → P x → Q x) → IfSome o P → IfSome o Q
if_some P Q None f h = tt
if_some P Q (Some x) f h = f x h

-- ---- images that follow calls

module _ {D : Type 0} (moment : D → ℕ) (leaves : D → ℕ → List ℕ → Type 0) (genesis : Root) (last : Disks D) where
  covered : (state : State) (xs : List (DeskCall × DeskReply)) (ms : List Moments) (from : Moments) (key : PubKey) (m : Message) → IsDurable state key m → FollowCalls moment leaves genesis last state xs ms from
      → CoveredFrom moment leaves genesis last ms from (key, m)
  covered state [] [] from key m d f = λ k files low high left. images genesis state key m files d (f.1 k files low high left)
  covered state [] (y ∷ ys) from key m d f = absurd f
  covered state (x ∷ xs) [] from key m d f = absurd f
  covered state (x ∷ xs) (y ∷ ys) from key m d f =
      let next = after state x.0 x.1 in
      let later = stays state x.0 x.1 key m d in (
        λ k files low high left. ⊎_elim (λ may. images genesis state key m files d may) (λ may. images genesis next key m files later may) (f.1 k files low high left),
        covered next xs ys y key m later f.2,
      )

  grants_last : (state : State) (xs : List (DeskCall × DeskReply)) (ms : List Moments) (from : Moments) → CanMake state xs → FollowCalls moment leaves genesis last state xs ms from → GrantsLast moment leaves genesis last xs ms
  grants_last state [] ms from can f = tt
  grants_last state (x ∷ xs) [] from can f = absurd f
  grants_last state (x ∷ xs) (y ∷ ys) from can f =
      let next = after state x.0 x.1 in (
        if_some (λ sent. IsDurable next sent.0 sent.1) (CoveredFrom moment leaves genesis last ys y) (granted_by x.0 x.1) (λ sent d. covered next xs ys y sent.0 sent.1 d f.2) (granted_call state x.0 x.1 can.0),
        grants_last next xs ys y can.1 f.2,
      )

module _ {D : Type 0} (moment : D → ℕ) (leaves : D → ℕ → List ℕ → Type 0) (faults : D → ℕ) (genesis : Root) (last : Seen D) where
  -- what a crash before the first call might have left stays
  pub record Stays (first : Disks D) : Type 0 where
    pub first_stays : (k : ℕ) (a : List ℕ) → k ≤ moment first.first → leaves (disks_in last).first k a → leaves first.first k a
    pub second_stays : (k : ℕ) (b : List ℕ) → k ≤ moment first.second → leaves (disks_in last).second k b → leaves first.second k b

  abbrev Followed : List (DeskCall × DeskReply) → List Moments → Seen D → State → Type 0
  Followed xs ms first state = Stays (disks_in first) × FollowCalls moment leaves genesis (disks_in last) state xs ms (now_of moment (disks_in first))

  here : (root : Root) → last.contents.genesis ≡ root → root ≡ genesis → LeavesDesk moment leaves (disks_in last) last.contents → (state : State) → DeskStands last.contents state → Followed [] [] last state
  here root same is left state stands = (
    record { first_stays = λ k a le l. l; second_stays = λ k b le l. l },
    (
      (omega arith, omega arith),
      λ k files low high l.
          let at : k.0 ≡ moment (disks_in last).first = omega (arith, low.0, high.0) in
          let at_too : k.1 ≡ moment (disks_in last).second = omega (arith, low.1, high.1) in
          let A : ℕ → Type 0 = λ n. leaves (disks_in last).first n files.0 in
          let B : ℕ → Type 0 = λ n. leaves (disks_in last).second n files.1 in
          let G : Root → Type 0 = λ g. MayOpen g state files in
          subst G (same ∙ is) (left state stands files.0 files.1 (subst A at l.0) (subst B at_too l.1)),
    ),
  )

  followed : (xs : List (DeskCall × DeskReply)) (a : Seen D) (path : Path moment leaves faults a xs last) → a.contents.genesis ≡ genesis → LeavesDesk moment leaves (disks_in a) a.contents
      → ((state : State) → DeskStands a.contents state → Followed xs (moments_behind moment leaves faults a xs last path) a state) × LeavesDesk moment leaves (disks_in last) last.contents
  followed [] a same is left =
      let L : Seen D → Type 0 = λ d. LeavesDesk moment leaves (disks_in d) d.contents in
      let F : Seen D → Type 0 = λ d. (state : State) → DeskStands d.contents state → Followed [] [] d state in
      let G : Seen D → Type 0 = λ d. d.contents.genesis ≡ genesis in
      let left_now = subst L (sym same) left in (
        subst F same (here genesis (subst G (sym same) is) refl left_now),
        left_now,
      )
  followed (x ∷ xs) a p is left =
      let mid = p.0 in
      let one = p.1 in
      let rest = followed xs mid p.2 (one.counted.genesis ∙ is) one.left in (
        λ state stands.
            let step = one.machine state stands in
            let run = one.moments state stands in
            let more = rest.0 (after state x.0 x.1) step.1 in (
              record {
                first_stays = λ k c le l. run.first_stays k c le (more.0.first_stays k c (omega (arith, le, run.first_later)) l);
                second_stays = λ k c le l. run.second_stays k c le (more.0.second_stays k c (omega (arith, le, run.second_later)) l);
              },
              (
                (run.first_later, run.second_later),
                λ k files low high l.
                    let R : Root → Type 0 = λ g. MayOpen g state files ⊎ MayOpen g (after state x.0 x.1) files in
                    subst R is (run.each k.0 k.1 files.0 files.1 low.0 high.0 low.1 high.1 (more.0.first_stays k.0 files.0 high.0 l.0) (more.0.second_stays k.1 files.1 high.1 l.1)),
                more.1,
              ),
            ),
        rest.1,
      )

  pub images_of : (xs : List (DeskCall × DeskReply)) (a : Seen D) → Path moment leaves faults a xs last → a.contents.genesis ≡ genesis → LeavesDesk moment leaves (disks_in a) a.contents → Images moment leaves faults a last xs
  images_of xs a path is left =
      let f = followed xs a path is left in
      let ms = moments_behind moment leaves faults a xs last path in
      let from = now_of moment (disks_in a) in
      record {
        calls = path;
        follows = λ state stands.
            let g = f.0 state stands in
            let F : Root → Type 0 = λ r. FollowCalls moment leaves r (disks_in last) state xs ms from in
            let follow : FollowCalls moment leaves a.contents.genesis (disks_in last) state xs ms from = subst F (sym is) g.1 in
            record {
              first_stays = g.0.first_stays;
              second_stays = g.0.second_stays;
              follow = follow;
              granted = grants_last moment leaves a.contents.genesis (disks_in last) state xs ms from (path_machine moment leaves faults a last xs path state stands).0 follow;
            };
        left = f.1;
      }
