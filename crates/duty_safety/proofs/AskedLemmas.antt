-- What is asked of the nodes outside the duties leaves the turn's slot.
use Rattle.std.proofs.Common.{◌≡◌, ℕ, Bool, List, [], ◌∷◌, length, Option, Some, None, Result, Ok, Err, refl, ◌∙◌}
use Rattle.std.specs.Prelude.{IfSome}
use Rattle.edge_kit.specs.declared.bytes.PubKey.{PubKey}
use Rattle.desk_machine.specs.declared.call.KeyStanding.{KeyStanding}
use Rattle.desk_machine.specs.declared.call.DeskCall.TheVariants as call
use Rattle.desk_machine.specs.declared.call.DeskReply.{DeskReply}
use Rattle.desk_machine.specs.declared.call.DeskReply.TheVariants as reply
use Rattle.node_calls.specs.declared.ask.Ask.{Ask}
use Rattle.node_calls.specs.declared.ask.Ask.TheVariants as ask
use Rattle.node_calls.specs.declared.answer.Answer.{Answer}
use Rattle.node_calls.specs.declared.answer.Answer.TheVariants as answer
use Rattle.node_fallback.specs.declared.no_node.NoAnswer.{NoAnswer}
use Rattle.node_fallback.specs.declared.no_node.NoAnswer.TheVariants as none
use Rattle.call_plans.specs.Plans.{Done}
use Rattle.duty_plans.specs.Steps.{Asks, Calls}
use Rattle.duty_plans.specs.declared.setup.DutySetup.{DutySetup}
use Rattle.duty_turns.specs.Lines.{none_line}
use Rattle.duty_turns.specs.Standing.{Standing, indices_of, with_attesters, with_fork, with_indices, with_proposers}
use Rattle.duty_turns.specs.Times.{epoch_of}
use Rattle.duty_turns.specs.TurnSteps.{Own, Writes}
use Rattle.duty_turns.specs.Turns.{PartPlan, answered_plan, ask_plan, asked_plan, attesters_plan, by_32, duties_plan, epoch_plan, epochs_plan, index_plan, lived_plan, liveness_plan, missing_epochs, missing_keys, noted, notes_of, notes_plan, on_standing, own_answer, own_reply, renew_plan, renewed_now, renewed_plan, renews, then_on, to_renew, voters_plan, watch_plan, writes, written}
use Rattle.duty_safety.specs.OnTime.{Wait}
use Rattle.duty_safety.proofs.KeepLemmas.{Keeps, keeps_ask, keeps_bind, keeps_done, keeps_if, keeps_stop, written_keeps}

abbrev pub At : ℕ → Option Standing → Type 0
At slot o = IfSome o (λ s. s.slot ≡ slot)

-- of this slot before and after
abbrev pub Stays : Wait → ℕ → PartPlan → Type 0
Stays W slot p = Keeps W (At slot) p p

done_stays : (W : Wait) (slot : ℕ) (s : Standing) → s.slot ≡ slot → Stays W slot (Done (Some s))
done_stays W slot s e = keeps_done W (At slot) (Some s) e

on_stays : (W : Wait) (slot : ℕ) (next : Standing → PartPlan) → ((s : Standing) → s.slot ≡ slot → Stays W slot (next s)) → (o : Option Standing) → At slot o → Stays W slot (on_standing next o)
on_stays W slot next h (Some s) e = h s e
on_stays W slot next h None e = keeps_done W (At slot) None tt

then_stays : (W : Wait) (slot : ℕ) (p : PartPlan) (next : Standing → PartPlan) → Stays W slot p → ((s : Standing) → s.slot ≡ slot → Stays W slot (next s)) → Stays W slot (then_on p next)
then_stays W slot p next h on = keeps_bind W (At slot) (At slot) p p (on_standing next) (on_standing next) h (on_stays W slot next on)

-- a line is written, and what stands stays
line_stays : (W : Wait) (slot : ℕ) (text : List ℕ) (s : Standing) → s.slot ≡ slot → Stays W slot (writes text (Done (Some s)))
line_stays W slot text s e = keeps_ask W (At slot) (Writes text) (λ r. written r (Done (Some s))) (λ r. written r (Done (Some s)))
    (λ r w. written_keeps W (At slot) r (Done (Some s)) (Done (Some s)) tt (done_stays W slot s e))

abbrev TakesIn : (Answer → Standing → Standing) → Type 0
TakesIn take_in = (a : Answer) (s : Standing) → (take_in a s).slot ≡ s.slot

answered_stays : (W : Wait) (slot : ℕ) (take_in : Answer → Standing → Standing) (without s : Standing) (r : Result Answer NoAnswer) → TakesIn take_in → without.slot ≡ slot → s.slot ≡ slot → Stays W slot (answered_plan take_in without s r)
answered_stays W slot take_in without s (Ok a) takes e f = done_stays W slot (take_in a s) (takes a s ∙ f)
answered_stays W slot take_in without s (Err (none.NoNode causes)) takes e f = line_stays W slot (none_line s.slot) without e
answered_stays W slot take_in without s (Err none.OutOfMemory) takes e f = keeps_stop W (At slot)

ask_stays : (W : Wait) (slot : ℕ) (a : Ask) (take_in : Answer → Standing → Standing) (without s : Standing) → TakesIn take_in → without.slot ≡ slot → s.slot ≡ slot → Stays W slot (ask_plan a take_in without s)
ask_stays W slot a take_in without s takes e f =
    keeps_ask W (At slot) (Own (Asks a)) (λ r. answered_plan take_in without s (own_answer r)) (λ r. answered_plan take_in without s (own_answer r)) (λ r w. answered_stays W slot take_in without s (own_answer r) takes e f)

takes_fork : TakesIn with_fork
takes_fork (answer.Fork fork) s = refl
takes_fork a s = refl

takes_indices : TakesIn with_indices
takes_indices (answer.Validators rows) s = refl
takes_indices a s = refl

takes_proposers : (epoch : ℕ) → TakesIn (with_proposers epoch)
takes_proposers epoch (answer.Proposer root rows) s = refl
takes_proposers epoch a s = refl

takes_attesters : (epoch : ℕ) (asked : List ℕ) → TakesIn (with_attesters epoch asked)
takes_attesters epoch asked (answer.Attester root rows) s = refl
takes_attesters epoch asked a s = refl

index_stays : (W : Wait) (slot : ℕ) (groups : List (List PubKey)) (s : Standing) → s.slot ≡ slot → Stays W slot (index_plan groups s)
index_stays W slot [] s e = done_stays W slot s e
index_stays W slot (keys ∷ more) s e = then_stays W slot (ask_plan (ask.Validators keys) with_indices (to_renew s) s) (index_plan more) (ask_stays W slot (ask.Validators keys) with_indices (to_renew s) s takes_indices e e) (index_stays W slot more)

renewed_stays : (W : Wait) (slot : ℕ) (active : List PubKey) (s : Standing) → s.slot ≡ slot → Stays W slot (renewed_plan active s)
renewed_stays W slot active s e = keeps_if W (At slot) (renews active s) (renew_plan active s) (Done (Some s)) (renew_plan active s) (Done (Some s))
    (then_stays W slot (ask_plan ask.Fork with_fork (to_renew s) (renewed_now s)) (index_plan (by_32 (length active) active)) (ask_stays W slot ask.Fork with_fork (to_renew s) (renewed_now s) takes_fork e e) (index_stays W slot (by_32 (length active) active)))
    (done_stays W slot s e)

attesters_stay : (W : Wait) (slot epoch : ℕ) (indices : List ℕ) (s : Standing) → s.slot ≡ slot → Stays W slot (attesters_plan epoch indices s)
attesters_stay W slot epoch [] s e = done_stays W slot s e
attesters_stay W slot epoch (i ∷ indices) s e = ask_stays W slot (ask.Attester epoch (i ∷ indices)) (with_attesters epoch (i ∷ indices)) s s (takes_attesters epoch (i ∷ indices)) e e

duties_stay : (W : Wait) (slot : ℕ) (active : List PubKey) (s : Standing) → s.slot ≡ slot → Stays W slot (duties_plan active s)
duties_stay W slot active s e = then_stays W slot (ask_plan (ask.Proposer (epoch_of s.slot)) (with_proposers (epoch_of s.slot)) s s) (voters_plan active)
    (ask_stays W slot (ask.Proposer (epoch_of s.slot)) (with_proposers (epoch_of s.slot)) s s (takes_proposers (epoch_of s.slot)) e e)
    (λ t et. attesters_stay W slot (epoch_of t.slot) (indices_of t.indices active) t et)

noted_stays : (W : Wait) (slot : ℕ) (r : DeskReply) (p : PartPlan) → Stays W slot p → Stays W slot (noted r p)
noted_stays W slot reply.OutOfMemory p h = keeps_stop W (At slot)
noted_stays W slot r p h = h

notes_stay : (W : Wait) (slot epoch now : ℕ) (notes : List (PubKey × Bool)) (s : Standing) → s.slot ≡ slot → Stays W slot (notes_plan epoch now notes s)
notes_stay W slot epoch now [] s e = done_stays W slot s e
notes_stay W slot epoch now (n ∷ notes) s e =
    keeps_ask W (At slot) (Own (Calls (call.Answer n.0 epoch n.1 now))) (λ r. noted (own_reply r) (notes_plan epoch now notes s)) (λ r. noted (own_reply r) (notes_plan epoch now notes s))
    (λ r w. noted_stays W slot (own_reply r) (notes_plan epoch now notes s) (notes_stay W slot epoch now notes s e))

lived_stays : (W : Wait) (slot epoch now : ℕ) (keys : List PubKey) (s : Standing) (r : Result Answer NoAnswer) → s.slot ≡ slot → Stays W slot (lived_plan epoch now keys s r)
lived_stays W slot epoch now keys s (Ok (answer.Liveness rows)) e = notes_stay W slot epoch now (notes_of s.indices keys rows) s e
lived_stays W slot epoch now keys s (Ok a) e = keeps_stop W (At slot)
lived_stays W slot epoch now keys s (Err (none.NoNode causes)) e = line_stays W slot (none_line s.slot) s e
lived_stays W slot epoch now keys s (Err none.OutOfMemory) e = keeps_stop W (At slot)

liveness_stays : (W : Wait) (slot epoch now : ℕ) (keys : List PubKey) (indices : List ℕ) (s : Standing) → s.slot ≡ slot → Stays W slot (liveness_plan epoch now keys indices s)
liveness_stays W slot epoch now keys [] s e = done_stays W slot s e
liveness_stays W slot epoch now keys (i ∷ indices) s e =
    keeps_ask W (At slot) (Own (Asks (ask.Liveness epoch (i ∷ indices)))) (λ r. lived_plan epoch now keys s (own_answer r)) (λ r. lived_plan epoch now keys s (own_answer r))
    (λ r w. lived_stays W slot epoch now keys s (own_answer r) e)

epochs_stay : (W : Wait) (slot now : ℕ) (listed : List (PubKey × KeyStanding)) (epochs : List ℕ) (s : Standing) → s.slot ≡ slot → Stays W slot (epochs_plan now listed epochs s)
epochs_stay W slot now listed [] s e = done_stays W slot s e
epochs_stay W slot now listed (epoch ∷ epochs) s e =
    then_stays W slot (epoch_plan now listed epoch s) (epochs_plan now listed epochs)
    (liveness_stays W slot epoch now (missing_keys epoch listed) (indices_of s.indices (missing_keys epoch listed)) s e) (epochs_stay W slot now listed epochs)

watch_stays : (W : Wait) (slot : ℕ) (watches : Bool) (listed : List (PubKey × KeyStanding)) (s : Standing) → s.slot ≡ slot → Stays W slot (watch_plan watches listed s)
watch_stays W slot watches listed s e =
    let epochs = epochs_plan (epoch_of s.slot) listed (missing_epochs (epoch_of s.slot) listed) s in
    keeps_if W (At slot) watches epochs (Done (Some s)) epochs (Done (Some s)) (epochs_stay W slot (epoch_of s.slot) listed (missing_epochs (epoch_of s.slot) listed) s e) (done_stays W slot s e)

pub asked_stays : (W : Wait) (slot : ℕ) (setup : DutySetup) (listed : List (PubKey × KeyStanding)) (active : List PubKey) (s : Standing) → s.slot ≡ slot → Stays W slot (asked_plan setup listed active s)
asked_stays W slot setup listed active s e =
    then_stays W slot (then_on (renewed_plan active s) (duties_plan active)) (watch_plan setup.watch listed)
    (then_stays W slot (renewed_plan active s) (duties_plan active) (renewed_stays W slot active s e) (duties_stay W slot active)) (watch_stays W slot setup.watch listed)
