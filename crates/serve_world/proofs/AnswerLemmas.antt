-- A deletion that a connection was answered with, among all acts.
use Rattle.std.proofs.Common.{◌≡◌, ℕ, List, [], ◌∷◌, ◌++◌, Option, Some, refl, sym, ap, ◌∙◌, subst, append_assoc, append-nil}
use Rattle.std.proofs.lemmas.Grind.{flat_map-append}
use Rattle.edge_kit.specs.declared.bytes.PubKey.{PubKey}
use Rattle.slash_defs.specs.declared.book.File.{File}
use Rattle.desk_machine.specs.declared.call.DeskCall.{DeskCall}
use Rattle.desk_machine.specs.declared.call.DeskCall.TheVariants as call
use Rattle.desk_machine.specs.declared.call.DeskReply.{DeskReply}
use Rattle.desk_machine.specs.declared.call.DeskReply.TheVariants as reply
use Rattle.world_law.specs.Worlds.{Event}
use Rattle.world_law.specs.Worlds.Event.{Call}
use Rattle.serve_world.specs.Events.{calls_of}
use Rattle.call_plans.specs.Plans.{Follows, Done}
use Rattle.call_plans.proofs.PlanLemmas.{follows_split}
use Rattle.client_calls.specs.Steps.{ClientPlan, ClientStep, Fits, desk_calls}
use Rattle.key_custody.specs.declared.delete.Deletion.{Deletion}
use Rattle.key_custody.specs.Plans.{deletion_plan}
use Rattle.key_custody.specs.Statuses.{handed_keys}
use Rattle.keymanager_routes.specs.declared.reply.Reply.{Reply}
use Rattle.keymanager_bodies.specs.Bodies.{deletion_reply}
use Rattle.keymanager_api.specs.Plans.{message_plan}
use Rattle.duty_turns.specs.Times.{epoch_of, slot_of}
use Rattle.keymanager_api.specs.Serving.{LinkSeen}
use Rattle.keymanager_api.specs.Visits.{Visit, asks_failed, calls_in}
use Rattle.serve_world.specs.Custody.{ClosedAmong, ClosedThenHanded, DeletionsAnswered, deletes_plan}
use Rattle.serve_world.specs.Weaving.{Act, act, of_thread}
use Rattle.serve_world.proofs.CustodyOrder.{deletions_in_order}
use Rattle.serve_world.proofs.OrderLemmas.{keeps_order}

calls_both : (client : ℕ) (xs ys : List (DeskCall × DeskReply)) → calls_of client (xs ++ ys) ≡ calls_of client xs ++ calls_of client ys
calls_both client [] ys = refl
calls_both client (x ∷ xs) ys = ap (λ (l : List Event). Call client x.0 x.1 ∷ l) (calls_both client xs ys)

-- ---- the plan

done_deleting : (keys : List PubKey) (steps : List ClientStep) (given : Reply) → Follows Fits (deletes_plan keys) steps (Some given)
    → (deletion : Deletion) × (given ≡ deletion_reply deletion) × Follows Fits (deletion_plan keys) steps (Some deletion)
done_deleting keys steps given f =
    let parts = follows_split Fits (deletion_plan keys) (λ deletion. Done (deletion_reply deletion)) steps given f in
    at parts.0 parts.1 parts.2 parts.3 parts.4 parts.5 where
      at : (xs ys : List ClientStep) (deletion : Deletion) → steps ≡ xs ++ ys → Follows Fits (deletion_plan keys) xs (Some deletion) → Follows Fits (Done (deletion_reply deletion)) ys (Some given)
          → (d : Deletion) × (given ≡ deletion_reply d) × Follows Fits (deletion_plan keys) steps (Some d)
      at xs [] deletion e done rest = let F : List ClientStep → Type 0 = λ l. Follows Fits (deletion_plan keys) l (Some deletion) in (deletion, rest, subst F (sym (e ∙ append-nil xs)) done)
      at xs (y ∷ ys) deletion e done rest = absurd rest

deleting : (plan : ClientPlan Reply) (keys : List PubKey) (steps : List ClientStep) (said : Option Reply) (given : Reply) → plan ≡ deletes_plan keys → said ≡ Some given → Follows Fits plan steps said
    → (deletion : Deletion) × (given ≡ deletion_reply deletion) × Follows Fits (deletion_plan keys) steps (Some deletion)
deleting plan keys steps said given is_plan is_said f =
    let P : ClientPlan Reply → Type 0 = λ p. Follows Fits p steps said in
    let S : Option Reply → Type 0 = λ o. Follows Fits (deletes_plan keys) steps o in
    done_deleting keys steps given (subst S is_said (subst P is_plan f))

-- ---- the acts

module _ (client : ℕ) (acts : List (Act Event)) (key : PubKey) (handed : List PubKey) (file : File) where
  among_acts : (front made rest : List (DeskCall × DeskReply)) → of_thread 1 acts ≡ calls_of client (front ++ (made ++ rest)) → ClosedThenHanded key handed file made → ClosedAmong client acts front made rest key handed file
  among_acts front made rest is c =
      let close : DeskCall × DeskReply = (call.FinishClose key, reply.Closed c.book) in
      let export : DeskCall × DeskReply = (call.Export handed, reply.Exported file) in
      let closes : Event = Call client (call.FinishClose key) (reply.Closed c.book) in
      let exports : Event = Call client (call.Export handed) (reply.Exported file) in
      let tail : List (DeskCall × DeskReply) = c.between ++ export ∷ rest in
      let order : front ++ (made ++ rest) ≡ (front ++ c.front) ++ close ∷ tail =
      ap (λ (l : List (DeskCall × DeskReply)). front ++ (l ++ rest)) c.are
      ∙ ap (λ (l : List (DeskCall × DeskReply)). front ++ l) (append_assoc c.front (close ∷ (c.between ++ export ∷ [])) rest ∙ ap (λ (l : List (DeskCall × DeskReply)). c.front ++ close ∷ l) (append_assoc c.between (export ∷ []) rest))
      ∙ sym (append_assoc front c.front (close ∷ tail)) in
      let own : of_thread 1 acts ≡ calls_of client (front ++ c.front) ++ closes ∷ calls_of client tail =
      is ∙ ap (λ (l : List (DeskCall × DeskReply)). calls_of client l) order ∙ calls_both client (front ++ c.front) (close ∷ tail) in
      let first = keeps_order acts 1 (calls_of client (front ++ c.front)) (calls_of client tail) closes own in
      let later : of_thread 1 first.1 ≡ calls_of client c.between ++ exports ∷ calls_of client rest = first.4 ∙ calls_both client c.between (export ∷ rest) in
      let second = keeps_order first.1 1 (calls_of client c.between) (calls_of client rest) exports later in
      record {
        calls = c;
        front = first.0;
        between = second.0;
        back = second.1;
        are = first.2 ∙ ap (λ (l : List (Act Event)). first.0 ++ act 1 closes ∷ l) second.2;
        in_front = first.3;
        in_between = second.3;
        in_back = second.4;
      }

pub deletions_answered : {D C : Type 0} (moment : D → ℕ) (leaves : D → ℕ → List ℕ → Type 0) (faults : D → ℕ) (see : C → LinkSeen) → DeletionsAnswered moment leaves faults see
deletions_answered {D} {C} moment leaves faults see clock options start opened ended before now result s client acts are earlier later v from to whole visited keys given is_plan is_said =
    let d = deleting (message_plan options.token (epoch_of (slot_of start.genesis_time v.moment)) visited.serves.read) keys visited.serves.ran.steps visited.serves.reply given is_plan is_said visited.serves.ran.follows in
    let steps = visited.serves.ran.steps in
    let made : List (Visit C) → List (DeskCall × DeskReply) = λ l. calls_in l in
    let calls : made s.serves.beside.connections.visits ≡ made earlier ++ (desk_calls steps ++ (asks_failed v.failed ++ made later)) =
    ap made whole ∙ flat_map-append (λ (x : Visit C). x.made) earlier (v ∷ later)
    ∙ ap (λ (l : List (DeskCall × DeskReply)). made earlier ++ (l ++ made later)) visited.made_are
    ∙ ap (λ (l : List (DeskCall × DeskReply)). made earlier ++ l) (append_assoc (desk_calls steps) (asks_failed v.failed) (made later)) in
    let own : of_thread 1 acts ≡ calls_of client (made earlier ++ (desk_calls steps ++ (asks_failed v.failed ++ made later))) =
    are.threads 1 ∙ ap (λ (l : List (DeskCall × DeskReply)). calls_of client l) calls in (
      d.0,
      d.1,
      λ at key is deleted.
          among_acts client acts key (handed_keys keys d.0.statuses) d.0.file (made earlier) (desk_calls steps) (asks_failed v.failed ++ made later) own (deletions_in_order keys steps d.0 d.2 at key is deleted),
    )
