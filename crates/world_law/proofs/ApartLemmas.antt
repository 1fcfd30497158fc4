-- That what happens at a client depends on its own events alone.
use Rattle.std.proofs.Common.{◌≡◌, ◌⊎◌, inl, inr, ℕ, Bool, true, false, cond, List, [], ◌∷◌, ◌++◌, Option, Some, None, refl, sym, ◌∙◌, ap, subst, append_assoc, append-nil, eq-eqb, ne_eqb}
use Rattle.edge_kit.specs.declared.bytes.PubKey.{PubKey}
use Rattle.slash_defs.specs.declared.message.Message.{Message}
use Rattle.desk_machine.specs.States.{State}
use Rattle.desk_machine.specs.declared.call.DeskCall.{DeskCall}
use Rattle.desk_machine.specs.declared.call.DeskCall.TheVariants as call
use Rattle.desk_machine.specs.declared.call.DeskReply.{DeskReply}
use Rattle.desk_machine.specs.declared.call.DeskReply.TheVariants as reply
use Rattle.world_law.specs.Worlds.{World, Event, Deed, client_of, MayHappenAt, state_after, happens, IsRun, sent_of, deeds_of, deeds_done, deeds_answered, deeds_stopped, call_stopped}
use Rattle.world_law.specs.Worlds.Event.{Call, Send, Crash}
use Rattle.world_law.specs.Clients.{RunsFrom, state_over, own, messages_in, RunsApart, StandsApart, SendsAll}
use Rattle.world_law.proofs.KeyStanding.{same_client}
use Rattle.world_law.proofs.WorldLemmas.{at_here, at_there}

-- ---- one event

own_here : (c : ℕ) (e : Event) (es : List Event) → client_of e ≡ c → own c (e ∷ es) ≡ e ∷ own c es
own_here c e es is = ap (λ (b : Bool). cond b (e ∷ own c es) (own c es)) (eq-eqb (client_of e) c is)

own_there : (c : ℕ) (e : Event) (es : List Event) → (client_of e ≡ c → ⊥) → own c (e ∷ es) ≡ own c es
own_there c e es not = ap (λ (b : Bool). cond b (e ∷ own c es) (own c es)) (ne_eqb (client_of e) c not)

pub desk_here : (w : World) (e : Event) (c : ℕ) → client_of e ≡ c → (happens w e).desks c ≡ state_after (w.desks c) e
desk_here w e c is = let P : ℕ → Type 0 = λ n. (happens w e).desks n ≡ state_after (w.desks n) e in subst P is (at_here w.desks (client_of e) (state_after (w.desks (client_of e)) e))

pub desk_there : (w : World) (e : Event) (c : ℕ) → (client_of e ≡ c → ⊥) → (happens w e).desks c ≡ w.desks c
desk_there w e c not = at_there w.desks (client_of e) c (state_after (w.desks (client_of e)) e) (λ q. not (sym q))

-- ---- lists of events

runs_to : (w : World) (es : List Event) → IsRun w es → (c : ℕ) → RunsFrom (w.desks c) (own c es)
runs_to w [] h c = tt
runs_to w (e ∷ es) h c = at (same_client (client_of e) c) h.0 (runs_to (happens w e) es h.1 c) where
  at : (client_of e ≡ c) ⊎ (client_of e ≡ c → ⊥) → MayHappenAt (w.desks (client_of e)) e → RunsFrom ((happens w e).desks c) (own c es) → RunsFrom (w.desks c) (own c (e ∷ es))
  at (inl is) may rest =
      let L : List Event → Type 0 = λ l. RunsFrom (w.desks c) l in
      let M : ℕ → Type 0 = λ n. MayHappenAt (w.desks n) e in
      let S : State → Type 0 = λ s. RunsFrom s (own c es) in
      subst L (sym (own_here c e es is)) (subst M is may, subst S (desk_here w e c is) rest)
  at (inr not) may rest =
      let L : List Event → Type 0 = λ l. RunsFrom (w.desks c) l in
      let S : State → Type 0 = λ s. RunsFrom s (own c es) in
      subst L (sym (own_there c e es not)) (subst S (desk_there w e c not) rest)

runs_from : (w : World) (es : List Event) → ((c : ℕ) → RunsFrom (w.desks c) (own c es)) → IsRun w es
runs_from w [] h = tt
runs_from w (e ∷ es) h = (may, runs_from (happens w e) es (λ c. rest c (same_client (client_of e) c))) where
  may : MayHappenAt (w.desks (client_of e)) e
  may = let L : List Event → Type 0 = λ l. RunsFrom (w.desks (client_of e)) l in (subst L (own_here (client_of e) e es refl) (h (client_of e))).0

  rest : (c : ℕ) → (client_of e ≡ c) ⊎ (client_of e ≡ c → ⊥) → RunsFrom ((happens w e).desks c) (own c es)
  rest c (inl is) =
      let L : List Event → Type 0 = λ l. RunsFrom (w.desks c) l in
      let S : State → Type 0 = λ s. RunsFrom s (own c es) in
      subst S (sym (desk_here w e c is)) (subst L (own_here c e es is) (h c)).1
  rest c (inr not) =
      let L : List Event → Type 0 = λ l. RunsFrom (w.desks c) l in
      let S : State → Type 0 = λ s. RunsFrom s (own c es) in
      subst S (sym (desk_there w e c not)) (subst L (own_there c e es not) (h c))

pub runs_apart : RunsApart
runs_apart w es = (λ h. runs_to w es h, λ h. runs_from w es h)

pub stands_apart : StandsApart
stands_apart w [] c = refl
stands_apart w (e ∷ es) c = stands_apart (happens w e) es c ∙ at (same_client (client_of e) c) where
  at : (client_of e ≡ c) ⊎ (client_of e ≡ c → ⊥) → state_over ((happens w e).desks c) (own c es) ≡ state_over (w.desks c) (own c (e ∷ es))
  at (inl is) = ap (λ s. state_over s (own c es)) (desk_here w e c is) ∙ sym (ap (λ l. state_over (w.desks c) l) (own_here c e es is))
  at (inr not) = ap (λ s. state_over s (own c es)) (desk_there w e c not) ∙ sym (ap (λ l. state_over (w.desks c) l) (own_there c e es not))

-- ---- what is sent

done_none : (c : ℕ) (cl : DeskCall) (ds : List Deed) → sent_of (deeds_done c cl ++ ds) ≡ sent_of ds
done_none c (call.Activate key now) ds = refl
done_none c (call.FinishClose key) ds = refl
done_none c cl ds = refl

answered_none : (c : ℕ) (cl : DeskCall) (r : DeskReply) (ds : List Deed) → sent_of (deeds_answered c cl r ++ ds) ≡ sent_of ds
answered_none c (call.Activate key now) reply.Active ds = refl
answered_none c (call.FinishClose key) (reply.Closed book) ds = refl
answered_none c (call.Export keys) (reply.Exported file) ds = refl
answered_none c cl r ds = refl

stopped_none : (c : ℕ) (t : Option DeskCall) (done : Bool) (ds : List Deed) → sent_of (deeds_stopped c t done ++ ds) ≡ sent_of ds
stopped_none c (Some cl) true ds = done_none c cl ds
stopped_none c (Some cl) false ds = refl
stopped_none c None done ds = refl

sends_one : (t : Option DeskCall) (e : Event) (es : List Event) (ds : List Deed) → sent_of (deeds_of t e ++ ds) ++ messages_in es ≡ sent_of ds ++ messages_in (e ∷ es)
sends_one t (Call c cl r) es ds = ap (λ (l : List (PubKey × Message)). l ++ messages_in es) (answered_none c cl r ds)
sends_one t (Send c g m) es ds = append_assoc (sent_of ds) ((g.key, m) ∷ []) (messages_in es)
sends_one t (Crash c within done now watch) es ds = ap (λ (l : List (PubKey × Message)). l ++ messages_in es) (stopped_none c (call_stopped t within) done ds)

pub sends_all : SendsAll
sends_all w [] = sym (append-nil (sent_of w.deeds))
sends_all w (e ∷ es) = sends_all (happens w e) es ∙ sends_one (w.torn (client_of e)) e es w.deeds
