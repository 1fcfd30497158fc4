-- Lists of one client's events, one after the other.
use Rattle.std.proofs.Common.{◌≡◌, ℕ, Bool, cond, List, [], ◌∷◌, ◌++◌, refl, sym, ◌∙◌, ap, subst, append-nil, eq-eqb}
use Rattle.std.specs.Prelude.{◌==◌}
use Rattle.std.proofs.lemmas.List.Elements.{filter-append}
use Rattle.edge_kit.specs.declared.bytes.PubKey.{PubKey}
use Rattle.slash_defs.specs.declared.message.Message.{Message}
use Rattle.desk_machine.specs.States.{State}
use Rattle.check_sign.specs.Contents.{Contents}
use Rattle.check_sign.specs.Standing.{DeskStands}
use Rattle.world_law.specs.Worlds.{Event, client_of, state_after}
use Rattle.world_law.specs.Worlds.Event.{Call, Send, Crash}
use Rattle.world_law.specs.Clients.{RunsFrom, state_over, own, messages_in}
use Rattle.serve_world.specs.Events.{AreOf}

pub own_first : (c : ℕ) (e : Event) (es : List Event) → client_of e ≡ c → own c es ≡ es → own c (e ∷ es) ≡ e ∷ es
own_first c e es is h = ap (λ (b : Bool). cond b (e ∷ own c es) (own c es)) (eq-eqb (client_of e) c is) ∙ ap (λ l. e ∷ l) h

own_both : (c : ℕ) (xs ys : List Event) → own c xs ≡ xs → own c ys ≡ ys → own c (xs ++ ys) ≡ xs ++ ys
own_both c xs ys h k = filter-append (λ e. client_of e == c) xs ys ∙ (ap (λ (l : List Event). l ++ own c ys) h ∙ ap (λ l. xs ++ l) k)

pub runs_both : (s : State) (xs ys : List Event) → RunsFrom s xs → RunsFrom (state_over s xs) ys → RunsFrom s (xs ++ ys)
runs_both s [] ys h k = k
runs_both s (x ∷ xs) ys h k = (h.0, runs_both (state_after s x) xs ys h.1 k)

pub over_both : (s : State) (xs ys : List Event) → state_over s (xs ++ ys) ≡ state_over (state_over s xs) ys
over_both s [] ys = refl
over_both s (x ∷ xs) ys = over_both (state_after s x) xs ys

messages_both : (xs ys : List Event) → messages_in (xs ++ ys) ≡ messages_in xs ++ messages_in ys
messages_both [] ys = refl
messages_both (Call c cl r ∷ xs) ys = messages_both xs ys
messages_both (Send c g m ∷ xs) ys = ap (λ (l : List (PubKey × Message)). (g.key, m) ∷ l) (messages_both xs ys)
messages_both (Crash c within done now watch ∷ xs) ys = messages_both xs ys

-- these are events of the client, that lead from a state to a state, and this is sent
pub record Piece (client : ℕ) (state : State) (events : List Event) (messages : List (PubKey × Message)) (new : State) : Type 0 where
  pub at_client : own client events ≡ events
  pub runs : RunsFrom state events
  pub sends : messages_in events ≡ messages
  pub ends : state_over state events ≡ new

pub nothing : (client : ℕ) (state : State) → Piece client state [] [] state
nothing client state = record { at_client = refl; runs = tt; sends = refl; ends = refl }

pub both : (client : ℕ) (s t u : State) (xs ys : List Event) (ms ns : List (PubKey × Message)) → Piece client s xs ms t → Piece client t ys ns u → Piece client s (xs ++ ys) (ms ++ ns) u
both client s t u xs ys ms ns p q = let R : State → Type 0 = λ z. RunsFrom z ys in record {
  at_client = own_both client xs ys p.at_client q.at_client;
  runs = runs_both s xs ys p.runs (subst R (sym p.ends) q.runs);
  sends = messages_both xs ys ∙ (ap (λ (l : List (PubKey × Message)). l ++ messages_in ys) p.sends ∙ ap (λ l. ms ++ l) q.sends);
  ends = over_both s xs ys ∙ (ap (λ z. state_over z ys) p.ends ∙ q.ends);
}

-- the same with other words for what is sent
pub sends_as : (client : ℕ) (s t : State) (xs : List Event) (ms ns : List (PubKey × Message)) → ms ≡ ns → Piece client s xs ms t → Piece client s xs ns t
sends_as client s t xs ms ns e p = let P : List (PubKey × Message) → Type 0 = λ l. Piece client s xs l t in subst P e p

-- where the desk stands for the last state
pub are_of : (client : ℕ) (s t : State) (xs : List Event) (ms : List (PubKey × Message)) (desk : Contents) → Piece client s xs ms t → DeskStands desk t → AreOf client s xs ms desk
are_of client s t xs ms desk p stands = let P : State → Type 0 = λ z. DeskStands desk z in record {
  at_client = p.at_client;
  runs = p.runs;
  sends = p.sends;
  stands = subst P (sym p.ends) stands;
}

pub then_of : (client : ℕ) (s t : State) (xs ys : List Event) (ms : List (PubKey × Message)) (desk : Contents) → Piece client s xs ms t → AreOf client t ys [] desk → AreOf client s (xs ++ ys) ms desk
then_of client s t xs ys ms desk p q =
    let rest : Piece client t ys [] (state_over t ys) = record { at_client = q.at_client; runs = q.runs; sends = q.sends; ends = refl } in
    are_of client s (state_over t ys) (xs ++ ys) ms desk (sends_as client s (state_over t ys) (xs ++ ys) (ms ++ []) ms (append-nil ms) (both client s t (state_over t ys) xs ys ms [] p rest)) q.stands
