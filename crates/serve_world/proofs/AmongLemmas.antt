-- Calls of one thread among those of all, and what each of a list has.
use Rattle.std.proofs.Common.{◌≡◌, ◌==◌, ◌⊎◌, inl, inr, ℕ, cond, Bool, true, false, List, [], ◌∷◌, ◌++◌, refl, ◌∙◌, ap, subst}
use Rattle.desk_machine.specs.declared.call.DeskCall.{DeskCall}
use Rattle.desk_machine.specs.declared.call.DeskReply.{DeskReply}
use Rattle.desk_lock.specs.Histories.{entry, own}
use Rattle.desk_lock.proofs.HistoryLemmas.{own-append, own-mine}
use Rattle.desk_seat.specs.Spans.{History}
use Rattle.desk_seat.specs.Turns.{calls_of}
use Rattle.session_run.specs.Silent.{IsAmong}

abbrev pub Call : Type 0
Call = DeskCall × DeskReply

pub calls_on : (xs ys : History) → calls_of (xs ++ ys) ≡ calls_of xs ++ calls_of ys
calls_on [] ys = refl
calls_on (e ∷ xs) ys = ap (λ (l : List Call). (e.call, e.reply) ∷ l) (calls_on xs ys)

-- ---- one of these is such

pub among_left : (P : Call → Type 0) (xs ys : List Call) → IsAmong P xs → IsAmong P (xs ++ ys)
among_left P [] ys h = absurd h
among_left P (x ∷ xs) ys (inl h) = inl h
among_left P (x ∷ xs) ys (inr h) = inr (among_left P xs ys h)

pub among_right : (P : Call → Type 0) (xs ys : List Call) → IsAmong P ys → IsAmong P (xs ++ ys)
among_right P [] ys h = h
among_right P (x ∷ xs) ys h = inr (among_right P xs ys h)

-- a thread's calls are among those of the history
pub among_own : (P : Call → Type 0) (k : ℕ) (log : History) → IsAmong P (own k log) → IsAmong P (calls_of log)
among_own P k [] h = h
among_own P k (e ∷ log) h = at (e.by == k) (among_own P k log) h where
  at : (b : Bool) → (IsAmong P (own k log) → IsAmong P (calls_of log)) → IsAmong P (cond b ((e.call, e.reply) ∷ own k log) (own k log)) → P (e.call, e.reply) ⊎ IsAmong P (calls_of log)
  at true more (inl here) = inl here
  at true more (inr later) = inr (more later)
  at false more later = inr (more later)

-- ---- each of these is such

abbrev pub EachIs : (Call → Type 0) → List Call → Type 0
EachIs P [] = Unit {0}
EachIs P (x ∷ xs) = P x × EachIs P xs

pub each_on : (P : Call → Type 0) (xs ys : List Call) → EachIs P xs → EachIs P ys → EachIs P (xs ++ ys)
each_on P [] ys h more = more
each_on P (x ∷ xs) ys h more = (h.0, each_on P xs ys h.1 more)

each_at : (P : Call → Type 0) (xs ys : List Call) (x : Call) → EachIs P (xs ++ x ∷ ys) → P x
each_at P [] ys x h = h.0
each_at P (y ∷ xs) ys x h = each_at P xs ys x h.1

-- a turn of a thread is one of its calls
pub each_turn : (P : Call → Type 0) (k : ℕ) (turns front back : History) (c : DeskCall) (r : DeskReply) → EachIs P (own k turns) → turns ≡ front ++ entry k c r ∷ back → P (c, r)
each_turn P k turns front back c r each is =
    let tail : own k (entry k c r ∷ back) ≡ (c, r) ∷ own k back = own-append k (entry k c r ∷ []) back ∙ ap (λ (l : List Call). l ++ own k back) (own-mine k k c r refl) in
    let whole : own k turns ≡ own k front ++ (c, r) ∷ own k back = ap (own k) is ∙ own-append k front (entry k c r ∷ back) ∙ ap (λ (l : List Call). own k front ++ l) tail in
    each_at P (own k front) (own k back) (c, r) (subst (EachIs P) whole each)
