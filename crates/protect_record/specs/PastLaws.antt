-- Laws of pasts: an own message is covered, and a past that has grown lets no more pass.
use Rattle.std.specs.Prelude.{◌≢◌, ◌⊎◌, List, [], ◌∷◌, ◌++◌, All}
use Rattle.std.proofs.Common.{sym, inl, inr}
use Rattle.std.proofs.lemmas.List.Elements.{All-contains, Contains-push, Contains-append_left, Contains-append_right, Contains-get_or}
use Rattle.slash_defs.specs.declared.message.Message.{Message}
use Rattle.slash_defs.specs.declared.message.Message.TheVariants as message
use Rattle.slash_defs.specs.declared.book.Book.{Book}
use Rattle.slash_defs.specs.Slashing.{Slashable}
use Rattle.protect_record.specs.Pasts.{Past, with_own, with_book, then_past}
use Rattle.protect_record.specs.Passing.{Passes, Covers, BookRefuses}

-- being slashable is mutual
pub Slashable-sym : (m n : Message) → Slashable m n → Slashable n m
Slashable-sym (message.Block a r) (message.Block b q) h = (sym h.0, λ e. h.1 (sym e))
Slashable-sym (message.Vote s t r) (message.Vote u v q) (inl d) = inl (sym d.0, either d.1) where
  either : (s ≢ u) ⊎ (r ≢ q) → (u ≢ s) ⊎ (q ≢ r)
  either (inl n) = inl (λ e. n (sym e))
  either (inr n) = inr (λ e. n (sym e))
Slashable-sym (message.Vote s t r) (message.Vote u v q) (inr (inl h)) = inr (inr h)
Slashable-sym (message.Vote s t r) (message.Vote u v q) (inr (inr h)) = inr (inl h)
Slashable-sym (message.Block a r) (message.Vote u v q) h = absurd h
Slashable-sym (message.Vote s t r) (message.Block b q) h = absurd h

-- what a past with an own message lets pass is not slashable with it
pub covers-with_own : (past : Past) (m : Message) → Covers (with_own past m) m
covers-with_own past m n passes h = All-contains (λ x. ¬ (Slashable x n)) (past.own ++ m ∷ []) m passes.1 (Contains-push past.own m) (Slashable-sym n m h)

-- what all of a list passes, each part passes
All-first : {X : Type 0} (P : X → Type 0) (xs ys : List X) → All P (xs ++ ys) → All P xs
All-first P xs ys all k d lt = All-contains P (xs ++ ys) _ all (Contains-append_left xs ys _ (Contains-get_or xs k d lt))

All-second : {X : Type 0} (P : X → Type 0) (xs ys : List X) → All P (xs ++ ys) → All P ys
All-second P xs ys all k d lt = All-contains P (xs ++ ys) _ all (Contains-append_right xs ys _ (Contains-get_or ys k d lt))

-- one more own message lets no more pass
pub passes-with_own : (past : Past) (m n : Message) → Passes (with_own past m) n → Passes past n
passes-with_own past m n passes = (passes.0, All-first (λ x. ¬ (Slashable x n)) past.own (m ∷ []) passes.1)

-- nor does one more book
pub passes-with_book : (past : Past) (b : Book) (n : Message) → Passes (with_book past b) n → Passes past n
passes-with_book past b n passes = (All-first (λ x. ¬ (BookRefuses x n)) past.books (b ∷ []) passes.0, passes.1)

-- nor do two pasts, one after the other
pub passes-then_past_first : (p q : Past) (n : Message) → Passes (then_past p q) n → Passes p n
passes-then_past_first p q n passes = (All-first (λ x. ¬ (BookRefuses x n)) p.books q.books passes.0, All-first (λ x. ¬ (Slashable x n)) p.own q.own passes.1)

pub passes-then_past_second : (p q : Past) (n : Message) → Passes (then_past p q) n → Passes q n
passes-then_past_second p q n passes = (All-second (λ x. ¬ (BookRefuses x n)) p.books q.books passes.0, All-second (λ x. ¬ (Slashable x n)) p.own q.own passes.1)
