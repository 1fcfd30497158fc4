-- That what one client does happens in the world of all clients.
use Rattle.std.proofs.Common.{◌≡◌, ◌⊎◌, inl, inr, ℕ, zero, suc, ◌+◌, ◌<◌, Bool, true, false, cond, List, [], ◌∷◌, ◌++◌, length, get_or, None, refl, sym, ◌∙◌, ap, subst, append_assoc, arith}
use Rattle.std.specs.Prelude.{count_by, Result, Ok, Err, is_ok, is_err, if◌then◌else◌}
use Rattle.std.specs.List.{insert, remove}
use Rattle.std.proofs.Math.ListN.{set}
use Rattle.std.proofs.lemmas.List.{length-set, get_or-set_same, get_or-set_other}
use Rattle.std.proofs.lemmas.List.Sums.{sum_by-append}
use Rattle.edge_kit.specs.declared.bytes.PubKey.{PubKey}
use Rattle.slash_defs.specs.declared.message.Message.{Message}
use Rattle.desk_machine.specs.States.{State}
use Rattle.desk_machine.specs.declared.call.DeskReply.{DeskReply}
use Rattle.desk_machine.specs.declared.call.DeskReply.TheVariants as reply
use Rattle.check_sign.specs.Standing.{DeskStands}
use Rattle.world_law.specs.Worlds.{World, Event, MayHappenAt, client_of, happens, run, IsRun, state_after}
use Rattle.world_law.specs.Worlds.Event.{Call, Send, Crash}
use Rattle.world_law.specs.Clients.{RunsFrom, state_over, messages_in}
use Rattle.world_law.proofs.KeyStanding.{same_client}
use Rattle.world_law.proofs.ApartLemmas.{desk_here, desk_there}
use Rattle.rehearsal.specs.Draws.{genesis}
use Rattle.rehearsal.specs.Plays.{is_refusal, sends_of}
use Rattle.rehearsal.specs.Clients.{GoesBy, Restarts}
use Rattle.rehearsal.specs.Stages.{Happens, Stands}
use Rattle.rehearsal.specs.declared.cast.Cast.{Cast}
use Rattle.rehearsal.specs.declared.client.Client.{Client}

-- ---- events of one client

abbrev pub AllAt : ℕ → List Event → Type 0
AllAt c [] = Unit {0}
AllAt c (e ∷ es) = (client_of e ≡ c) × AllAt c es

pub at_both : (c : ℕ) (xs ys : List Event) → AllAt c xs → AllAt c ys → AllAt c (xs ++ ys)
at_both c [] ys h k = k
at_both c (x ∷ xs) ys h k = (h.0, at_both c xs ys h.1 k)

pub sends_at : (c : ℕ) (m : Message) (r : DeskReply) → AllAt c (sends_of c m r)
sends_at c m (reply.Granted grant) = (refl, (refl, tt))
sends_at c m r = tt

pub record RunsAt (w : World) (c : ℕ) (es : List Event) : Type 0 where
  pub runs : IsRun w es
  pub here : (run w es).desks c ≡ state_over (w.desks c) es
  pub there : (d : ℕ) → (d ≡ c → ⊥) → (run w es).desks d ≡ w.desks d

pub run_at : (w : World) (c : ℕ) (es : List Event) → AllAt c es → RunsFrom (w.desks c) es → RunsAt w c es
run_at w c [] at h = record { runs = tt; here = refl; there = λ d n. refl }
run_at w c (e ∷ es) at h =
    let M : ℕ → Type 0 = λ n. MayHappenAt (w.desks n) e in
    let R : State → Type 0 = λ s. RunsFrom s es in
    let desk : (happens w e).desks c ≡ state_after (w.desks c) e = desk_here w e c at.0 in
    let rest = run_at (happens w e) c es at.1 (subst R (sym desk) h.1) in
    record {
      runs = (subst M (sym at.0) h.0, rest.runs);
      here = rest.here ∙ ap (λ s. state_over s es) desk;
      there = λ d n. rest.there d n ∙ desk_there w e d (λ q. n (sym q ∙ at.0));
    }

-- ---- a client among the others

pub set_stands : (clients : List Client) (w : World) (c : ℕ) (new : Client) (es : List Event) → c < length clients → Stands clients w → RunsAt w c es → DeskStands new.desk.contents (state_over (w.desks c) es) → new.desk.contents.genesis ≡ genesis
    → Stands (set clients c new) (run w es)
set_stands clients w c new es within stands r here chain d x below = at (same_client d c) where
  at : (d ≡ c) ⊎ (d ≡ c → ⊥) → DeskStands (get_or (set clients c new) d x).desk.contents ((run w es).desks d) × ((get_or (set clients c new) d x).desk.contents.genesis ≡ genesis)
  at (inl is) =
      let P : ℕ → Type 0 = λ n. DeskStands (get_or (set clients c new) n x).desk.contents ((run w es).desks n) × ((get_or (set clients c new) n x).desk.contents.genesis ≡ genesis) in
      let A : Client → Type 0 = λ y. DeskStands y.desk.contents ((run w es).desks c) × (y.desk.contents.genesis ≡ genesis) in
      let B : State → Type 0 = λ s. DeskStands new.desk.contents s in
      subst P (sym is) (subst A (sym (get_or-set_same clients c new x within)) (subst B (sym r.here) here, chain))
  at (inr not) =
      let A : Client → Type 0 = λ y. DeskStands y.desk.contents ((run w es).desks d) × (y.desk.contents.genesis ≡ genesis) in
      let B : State → Type 0 = λ s. DeskStands (get_or clients d x).desk.contents s × ((get_or clients d x).desk.contents.genesis ≡ genesis) in
      let L : ℕ → Type 0 = λ n. d < n in
      subst A (sym (get_or-set_other clients c d new x not)) (subst B (sym (r.there d not)) (stands d x (subst L (length-set clients c new) below)))

pub insert_remove : {X : Type 0} (xs : List X) (i : ℕ) (y : X) → i < length xs → insert (remove xs i) i y ≡ set xs i y
insert_remove [] i y h = absurd (omega (arith, h))
insert_remove (x ∷ xs) zero y h = refl
insert_remove (x ∷ xs) (suc i) y h = ap (λ l. x ∷ l) (insert_remove xs i y (omega (arith, h)))

pub inserted : {X E : Type 0} (r : Result (Unit {0}) E) (xs ys zs : List X) (i : ℕ) (y : X) → is_err r ≡ false → ys ≡ remove xs i → zs ≡ (if is_ok r then insert ys i y else ys) → i < length xs → zs ≡ set xs i y
inserted (Ok x) xs ys zs i y fine gone is within = is ∙ (ap (λ l. insert l i y) gone ∙ insert_remove xs i y within)
inserted (Err e) xs ys zs i y fine gone is within = absurd (let bad : true ≡ false = fine in cc)

-- ---- events after one another

pub run_both : (w : World) (xs ys : List Event) → run w (xs ++ ys) ≡ run (run w xs) ys
run_both w [] ys = refl
run_both w (x ∷ xs) ys = run_both (happens w x) xs ys

pub is_run_both : (w : World) (xs ys : List Event) → IsRun w xs → IsRun (run w xs) ys → IsRun w (xs ++ ys)
is_run_both w [] ys h k = k
is_run_both w (x ∷ xs) ys h k = (h.0, is_run_both (happens w x) xs ys h.1 k)

pub messages_both : (xs ys : List Event) → messages_in (xs ++ ys) ≡ messages_in xs ++ messages_in ys
messages_both [] ys = refl
messages_both (Call c cl r ∷ xs) ys = messages_both xs ys
messages_both (Send c g m ∷ xs) ys = ap (λ (l : List (PubKey × Message)). (g.key, m) ∷ l) (messages_both xs ys)
messages_both (Crash c within done now watch ∷ xs) ys = messages_both xs ys

pub refusals_both : (xs ys : List Event) → count_by is_refusal (xs ++ ys) ≡ count_by is_refusal xs + count_by is_refusal ys
refusals_both xs ys = sum_by-append (λ e. cond (is_refusal e) 1 0) xs ys

pub happens_both : (a b c : Cast) (w : World) (xs ys : List Event) → Happens a b w xs → Happens b c (run w xs) ys → Happens a c w (xs ++ ys)
happens_both a b c w xs ys h k = record {
  runs = is_run_both w xs ys h.runs k.runs;
  stands = let S : World → Type 0 = λ v. Stands c.clients.items v in subst S (sym (run_both w xs ys)) k.stands;
  sent = k.sent ∙ (ap (λ (l : List (PubKey × Message)). l ++ messages_in ys) h.sent ∙ (append_assoc a.sent.items (messages_in xs) (messages_in ys) ∙ ap (λ (l : List (PubKey × Message)). a.sent.items ++ l) (sym (messages_both xs ys))));
  refused =
      let both = refusals_both xs ys in
      let first = h.refused in
      let second = k.refused in
      omega (arith, both, first, second);
}

-- ---- what each call of a client makes of all clients

-- the client that is there
found : (clients : List Client) (w : World) (c : ℕ) (was : Client) → c < length clients → Stands clients w → was ≡ get_or clients c was → DeskStands was.desk.contents (w.desks c) × (was.desk.contents.genesis ≡ genesis)
found clients w c was within stands at = let A : Client → Type 0 = λ y. DeskStands y.desk.contents (w.desks c) × (y.desk.contents.genesis ≡ genesis) in subst A (sym at) (stands c was within)

-- a client whose desk goes by these events
pub goes_at : (clients : List Client) (w : World) (c : ℕ) (was new : Client) (es : List Event) → c < length clients → Stands clients w → was ≡ get_or clients c was → AllAt c es → GoesBy es was.desk.contents new.desk.contents
    → IsRun w es × Stands (set clients c new) (run w es)
goes_at clients w c was new es within stands is at by =
    let here = found clients w c was within stands is in
    let gone = by.goes (w.desks c) here.0 in
    let r = run_at w c es at gone.0 in
    (r.runs, set_stands clients w c new es within stands r gone.1 (by.genesis ∙ here.1))

-- a client that stops and starts
pub restarts_at : (clients : List Client) (w : World) (c : ℕ) (was new : Client) (now : ℕ) → c < length clients → Stands clients w → was ≡ get_or clients c was → (was.desk.contents.genesis ≡ genesis → Restarts now was.desk.contents new.desk.contents)
    → (done : Bool) × IsRun w (Crash c None done now false ∷ []) × Stands (set clients c new) (run w (Crash c None done now false ∷ []))
restarts_at clients w c was new now within stands is restarts =
    let here = found clients w c was within stands is in
    let by = restarts here.1 in
    let gone = by.stops c (w.desks c) here.0 in
    let es : List Event = Crash c None gone.0 now false ∷ [] in
    let r = run_at w c es (refl, tt) gone.1 in
    (gone.0, r.runs, set_stands clients w c new es within stands r gone.2 by.genesis_is)

-- a list after a push that went well
pub grown : {X E : Type 0} (r : Result (Unit {0}) E) (xs ys : List X) (y : X) → is_err r ≡ false → ys ≡ (if is_ok r then xs ++ y ∷ [] else xs) → ys ≡ xs ++ y ∷ []
grown (Ok x) xs ys y fine is = is
grown (Err e) xs ys y fine is = absurd (let bad : true ≡ false = fine in cc)
