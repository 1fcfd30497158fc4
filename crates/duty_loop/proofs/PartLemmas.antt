-- What is asked of the nodes outside the duties gives nothing only where a text was cut short at the last step.
use Rattle.std.proofs.Common.{◌≡◌, ℕ, Bool, true, false, List, [], ◌∷◌, ◌++◌, length, Option, Some, None, Result, Ok, Err, refl}
use Rattle.edge_kit.specs.declared.bytes.PubKey.{PubKey}
use Rattle.desk_machine.specs.declared.call.KeyStanding.{KeyStanding}
use Rattle.desk_machine.specs.declared.call.DeskCall.TheVariants as call
use Rattle.desk_machine.specs.declared.call.DeskReply.{DeskReply}
use Rattle.desk_machine.specs.declared.call.DeskReply.TheVariants as reply
use Rattle.node_calls.specs.declared.ask.Ask.{Ask}
use Rattle.node_calls.specs.declared.ask.Ask.TheVariants as ask
use Rattle.node_calls.specs.declared.answer.Answer.{Answer}
use Rattle.node_calls.specs.declared.answer.Answer.TheVariants as answer
use Rattle.node_fallback.specs.declared.no_node.NoAnswer.{NoAnswer}
use Rattle.node_fallback.specs.declared.no_node.NoAnswer.TheVariants as none
use Rattle.call_plans.specs.Plans.{Done}
use Rattle.duty_plans.specs.declared.setup.DutySetup.{DutySetup}
use Rattle.duty_turns.specs.Lines.{none_line}
use Rattle.duty_turns.specs.Standing.{Standing, indices_of, with_attesters, with_fork, with_indices, with_proposers}
use Rattle.duty_turns.specs.Times.{epoch_of}
use Rattle.duty_turns.specs.TurnSteps.{TurnReply, TurnStep, Fits, Writes, Wrote}
use Rattle.duty_turns.specs.Turns.{PartPlan, answered_plan, ask_plan, asked_plan, attesters_plan, by_32, duties_plan, epoch_plan, epochs_plan, index_plan, lived_plan, liveness_plan, missing_epochs, missing_keys, noted, notes_of, notes_plan, on_standing, renew_plan, renewed_now, renewed_plan, renews, then_on, to_renew, voters_plan, watch_plan, writes, written}
use Rattle.duty_loop.proofs.GivesLemmas.{Always, Gives, Said, asks_always, calls_always, gives_ask, gives_bind, gives_done, if_always, stop_always}

-- with the last of these steps a text was cut short
abbrev pub EndInCut : List TurnStep → Type 0
EndInCut steps = (front : List TurnStep) × (text : List ℕ) × (piece : List ℕ) × (steps ≡ front ++ (Writes text, Wrote false piece) ∷ [])

-- why nothing stands behind a part of a turn
abbrev pub WhyNone : Said (Option Standing)
WhyNone steps None = EndInCut steps
WhyNone steps (Some s) = Unit {0}

abbrev pub IsPart : PartPlan → Type 0
IsPart p = Always WhyNone p

done_part : (s : Standing) → IsPart (Done (Some s))
done_part s front = gives_done WhyNone front (Some s) tt

written_part : (p : PartPlan) (front : List TurnStep) (text : List ℕ) → IsPart p → (r : TurnReply) → Fits (Writes text) r → Gives WhyNone (front ++ (Writes text, r) ∷ []) (written r p)
written_part p front text h (Wrote true piece) fit = h (front ++ (Writes text, Wrote true piece) ∷ [])
written_part p front text h (Wrote false piece) fit = gives_done WhyNone (front ++ (Writes text, Wrote false piece) ∷ []) None (front, text, piece, refl)
written_part p front text h r fit = absurd fit

-- a line is written, and what stands stays
line_part : (text : List ℕ) (s : Standing) → IsPart (writes text (Done (Some s)))
line_part text s front = gives_ask WhyNone front (Writes text) (λ r. written r (Done (Some s))) (written_part (Done (Some s)) front text (done_part s))

on_part : (next : Standing → PartPlan) → ((s : Standing) → IsPart (next s)) → (mid : List TurnStep) (o : Option Standing) → WhyNone mid o → Gives WhyNone mid (on_standing next o)
on_part next h mid (Some s) w = h s mid
on_part next h mid None w = gives_done WhyNone mid None w

then_part : (p : PartPlan) (next : Standing → PartPlan) → IsPart p → ((s : Standing) → IsPart (next s)) → IsPart (then_on p next)
then_part p next h on front = gives_bind WhyNone WhyNone front p (on_standing next) (h front) (on_part next on)

answered_part : (take_in : Answer → Standing → Standing) (without s : Standing) (r : Result Answer NoAnswer) → IsPart (answered_plan take_in without s r)
answered_part take_in without s (Ok a) = done_part (take_in a s)
answered_part take_in without s (Err (none.NoNode causes)) = line_part (none_line s.slot) without
answered_part take_in without s (Err none.OutOfMemory) = stop_always WhyNone

ask_part : (a : Ask) (take_in : Answer → Standing → Standing) (without s : Standing) → IsPart (ask_plan a take_in without s)
ask_part a take_in without s = asks_always WhyNone a (answered_plan take_in without s) (answered_part take_in without s)

index_part : (groups : List (List PubKey)) (s : Standing) → IsPart (index_plan groups s)
index_part [] s = done_part s
index_part (keys ∷ more) s = then_part (ask_plan (ask.Validators keys) with_indices (to_renew s) s) (index_plan more) (ask_part (ask.Validators keys) with_indices (to_renew s) s) (index_part more)

renewed_part : (active : List PubKey) (s : Standing) → IsPart (renewed_plan active s)
renewed_part active s =
    let groups = by_32 (length active) active in
    if_always WhyNone (renews active s) (renew_plan active s) (Done (Some s))
    (then_part (ask_plan ask.Fork with_fork (to_renew s) (renewed_now s)) (index_plan groups) (ask_part ask.Fork with_fork (to_renew s) (renewed_now s)) (index_part groups)) (done_part s)

attesters_part : (epoch : ℕ) (indices : List ℕ) (s : Standing) → IsPart (attesters_plan epoch indices s)
attesters_part epoch [] s = done_part s
attesters_part epoch (i ∷ indices) s = ask_part (ask.Attester epoch (i ∷ indices)) (with_attesters epoch (i ∷ indices)) s s

duties_part : (active : List PubKey) (s : Standing) → IsPart (duties_plan active s)
duties_part active s =
    let epoch = epoch_of s.slot in
    then_part (ask_plan (ask.Proposer epoch) (with_proposers epoch) s s) (voters_plan active) (ask_part (ask.Proposer epoch) (with_proposers epoch) s s)
    (λ t. attesters_part (epoch_of t.slot) (indices_of t.indices active) t)

noted_part : (p : PartPlan) → IsPart p → (r : DeskReply) → IsPart (noted r p)
noted_part p h reply.OutOfMemory = stop_always WhyNone
noted_part p h r = h

notes_part : (epoch now : ℕ) (notes : List (PubKey × Bool)) (s : Standing) → IsPart (notes_plan epoch now notes s)
notes_part epoch now [] s = done_part s
notes_part epoch now (n ∷ notes) s =
    let rest = notes_plan epoch now notes s in
    calls_always WhyNone (call.Answer n.0 epoch n.1 now) (λ r. noted r rest) (noted_part rest (notes_part epoch now notes s))

lived_part : (epoch now : ℕ) (keys : List PubKey) (s : Standing) (r : Result Answer NoAnswer) → IsPart (lived_plan epoch now keys s r)
lived_part epoch now keys s (Ok (answer.Liveness rows)) = notes_part epoch now (notes_of s.indices keys rows) s
lived_part epoch now keys s (Ok a) = stop_always WhyNone
lived_part epoch now keys s (Err (none.NoNode causes)) = line_part (none_line s.slot) s
lived_part epoch now keys s (Err none.OutOfMemory) = stop_always WhyNone

liveness_part : (epoch now : ℕ) (keys : List PubKey) (indices : List ℕ) (s : Standing) → IsPart (liveness_plan epoch now keys indices s)
liveness_part epoch now keys [] s = done_part s
liveness_part epoch now keys (i ∷ indices) s = asks_always WhyNone (ask.Liveness epoch (i ∷ indices)) (lived_plan epoch now keys s) (lived_part epoch now keys s)

epochs_part : (now : ℕ) (listed : List (PubKey × KeyStanding)) (epochs : List ℕ) (s : Standing) → IsPart (epochs_plan now listed epochs s)
epochs_part now listed [] s = done_part s
epochs_part now listed (epoch ∷ epochs) s =
    let keys = missing_keys epoch listed in
    then_part (epoch_plan now listed epoch s) (epochs_plan now listed epochs) (liveness_part epoch now keys (indices_of s.indices keys) s) (epochs_part now listed epochs)

watch_part : (watches : Bool) (listed : List (PubKey × KeyStanding)) (s : Standing) → IsPart (watch_plan watches listed s)
watch_part watches listed s =
    let now = epoch_of s.slot in
    if_always WhyNone watches (epochs_plan now listed (missing_epochs now listed) s) (Done (Some s)) (epochs_part now listed (missing_epochs now listed) s) (done_part s)

pub asked_part : (setup : DutySetup) (listed : List (PubKey × KeyStanding)) (active : List PubKey) (s : Standing) → IsPart (asked_plan setup listed active s)
asked_part setup listed active s =
    then_part (then_on (renewed_plan active s) (duties_plan active)) (watch_plan setup.watch listed)
    (then_part (renewed_plan active s) (duties_plan active) (renewed_part active s) (duties_part active)) (watch_part setup.watch listed)
