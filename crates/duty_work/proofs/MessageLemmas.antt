-- The messages of votes, up to a place, where what was hashed is known.
use Rattle.std.proofs.Common.{◌≡◌, ℕ, ◌+◌, ◌<◌, List, [], ◌∷◌, ◌++◌, length, drop, get_or, Option, Some, None, refl, sym, ◌∙◌, ap, append_assoc}
use Rattle.std.specs.Prelude.{filter_map}
use Rattle.std.proofs.lemmas.List.{at_drop_more}
use Rattle.edge_kit.specs.declared.bytes.PubKey.{PubKey}
use Rattle.slash_defs.specs.declared.message.Message.{Message}
use Rattle.sign_roots.specs.declared.domains.Domains.{Domains}
use Rattle.duty_plans.specs.declared.task.Task.{Task}
use Rattle.duty_plans.specs.Votes.{message_of, messages_of}

one_more : {A B : Type 0} (h : A → Option B) (x : A) (xs : List A) → filter_map h (x ∷ xs) ≡ filter_map h (x ∷ []) ++ filter_map h xs
one_more {A} {B} h x xs = by (h x) refl where
  by : (o : Option B) → h x ≡ o → filter_map h (x ∷ xs) ≡ filter_map h (x ∷ []) ++ filter_map h xs
  by (Some y) is = rw is refl
  by None is = rw is refl

pub messages_more : (domains : Domains) (tasks : List Task) (got now : List (PubKey × Message)) (i : ℕ) (t : Task) → i < length tasks → t ≡ get_or tasks i t → now ≡ got ++ messages_of domains (t ∷ [])
    → got ++ messages_of domains (drop i tasks) ≡ messages_of domains tasks → now ++ messages_of domains (drop (i + 1) tasks) ≡ messages_of domains tasks
messages_more domains tasks got now i t l is pushed so =
    let rest : List (PubKey × Message) = messages_of domains (drop (i + 1) tasks) in
    ap (λ (x : List (PubKey × Message)). x ++ rest) pushed ∙ append_assoc got (messages_of domains (t ∷ [])) rest
    ∙ ap (λ (x : List (PubKey × Message)). got ++ x)
    (sym (at_drop_more (λ x. messages_of domains x) tasks i t l ∙ ap (λ (x : Task). messages_of domains (x ∷ drop (i + 1) tasks)) (sym is) ∙ one_more (message_of domains) t (drop (i + 1) tasks))) ∙ so
