-- What one key's record stands for after a change.
use Rattle.std.proofs.Common.{◌≡◌, ◌⊎◌, inl, inr, true, false, List, None, Some, Option, refl, sym, ◌∙◌, ap, subst}
use Rattle.std.specs.Prelude.{◌↔◌, IsSome, IsSomeAnd, is_some}
use Rattle.edge_kit.specs.declared.bytes.PubKey.{PubKey}
use Rattle.slash_defs.specs.declared.book.Book.{Book}
use Rattle.slash_defs.specs.declared.message.Message.{Message}
use Rattle.protect_record.specs.Parts.{Parts}
use Rattle.protect_record.specs.Pasts.{Past, no_past, then_past, with_book, with_own}
use Rattle.protect_record.specs.Standing.{Stands}
use Rattle.record_join.specs.Keys.{kept_of}
use Rattle.record_join.specs.BooksPasts.{gained, known_past}
use Rattle.record_join.specs.KeyByKey.{EachTakes, StandsOf, Takes, TakesBook, TakesMessage, TakesRecord, known_parts}
use Rattle.record_join.proofs.OrderLemmas.{changed_here}
use Rattle.record_join.proofs.TakeLemmas.{weaker}
use Rattle.record_join.proofs.FileLemmas.{no_parts_stand}

-- a record that took something in stands for the past that gained it
one_gains : (old new : Option Parts) (past : Option Past) (after : Past → Past) → StandsOf old past → IsSomeAnd new (λ q. (p : Past) → Stands (known_parts old) p → Stands q (after p)) → StandsOf new (Some (after (known_past past)))
one_gains old None past after s h = absurd h
one_gains None (Some q) None after s h = h no_past no_parts_stand
one_gains (Some p) (Some q) (Some past) after s h = h past s
one_gains None (Some q) (Some past) after s h = absurd s
one_gains (Some p) (Some q) None after s h = absurd s

pub book_gained : (listed : List (PubKey × Book)) (old new : List (PubKey × Parts)) (key : PubKey) (past : Option Past) → EachTakes TakesBook listed old new → StandsOf (kept_of old key) past → StandsOf (kept_of new key) (gained with_book past (kept_of listed key))
book_gained listed old new key past takes s = at (kept_of listed key) refl where
  at : (o : Option Book) → kept_of listed key ≡ o → StandsOf (kept_of new key) (gained with_book past o)
  at None e = subst (λ (o : Option Parts). StandsOf o past) (sym (takes.others key e)) s
  at (Some b) e =
      one_gains (kept_of old key) (kept_of new key) past (λ p. with_book p b) s
      (weaker (λ q. TakesBook (known_parts (kept_of old key)) b q) (λ q. (p : Past) → Stands (known_parts (kept_of old key)) p → Stands q (with_book p b)) (kept_of new key) (λ q t. t.stands) (takes.each key b e))

pub past_gained : (others old new : List (PubKey × Parts)) (key : PubKey) (past other : Option Past) → EachTakes TakesRecord others old new → StandsOf (kept_of old key) past → StandsOf (kept_of others key) other
    → StandsOf (kept_of new key) (gained then_past past other)
past_gained others old new key past other takes s t = at (kept_of others key) other refl t where
  at : (o : Option Parts) (r : Option Past) → kept_of others key ≡ o → StandsOf o r → StandsOf (kept_of new key) (gained then_past past r)
  at None None e u = subst (λ (o : Option Parts). StandsOf o past) (sym (takes.others key e)) s
  at (Some x) (Some r) e u =
      one_gains (kept_of old key) (kept_of new key) past (λ p. then_past p r) s
      (weaker (λ q. TakesRecord (known_parts (kept_of old key)) x q) (λ q. (p : Past) → Stands (known_parts (kept_of old key)) p → Stands q (then_past p r)) (kept_of new key) (λ q took p v. took.stands p r v u) (takes.each key x e))
  at None (Some r) e u = absurd u
  at (Some x) None e u = absurd u

pub message_gained : (old new : List (PubKey × Parts)) (key : PubKey) (m : Message) (past : Past) → Takes TakesMessage old new key m → StandsOf (kept_of old key) (Some past) → StandsOf (kept_of new key) (Some (with_own past m))
message_gained old new key m past takes s =
    let before : Stands takes.parts past = subst (λ (o : Option Parts). StandsOf o (Some past)) takes.is_kept s in
    let here : kept_of new key ≡ Some takes.after = ap (λ l. kept_of l key) takes.is ∙ changed_here old key takes.after (ap is_some takes.is_kept) in
    subst (λ (o : Option Parts). StandsOf o (Some (with_own past m))) (sym here) (takes.taken.stands past before)

-- which keys are kept after what is listed was taken in
pub kept_after : {X : Type 0} (T : Parts → X → Parts → Type 0) (listed : List (PubKey × X)) (old new : List (PubKey × Parts)) (key : PubKey) → EachTakes T listed old new
    → IsSome (kept_of new key) ↔ (IsSome (kept_of old key) ⊎ IsSome (kept_of listed key))
kept_after {X} T listed old new key takes = at (kept_of listed key) refl where
  some : (o : Option Parts) (P : Parts → Type 0) → IsSomeAnd o P → IsSome o
  some None P h = absurd h
  some (Some q) P h = refl

  first : (o : Option Parts) (l : Option X) → l ≡ None → IsSome o ⊎ IsSome l → IsSome o
  first o l e (inl h) = h
  first o None e (inr h) = absurd (let bad : false ≡ true = h in cc)
  first o (Some x) e (inr h) = absurd (let bad : Some x ≡ None = e in cc)

  at : (l : Option X) → kept_of listed key ≡ l → IsSome (kept_of new key) ↔ (IsSome (kept_of old key) ⊎ IsSome l)
  at None e =
      let same = takes.others key e in
      (λ h. inl (subst (λ (o : Option Parts). IsSome o) same h), λ h. subst (λ (o : Option Parts). IsSome o) (sym same) (first (kept_of old key) None refl h))
  at (Some x) e = (λ h. inr refl, λ h. some (kept_of new key) (λ q. T (known_parts (kept_of old key)) x q) (takes.each key x e))
