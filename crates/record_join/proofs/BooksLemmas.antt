-- From records that stand for their pasts to the records after a change.
use Rattle.std.proofs.Common.{◌≡◌, List, Option, Some, refl, sym, ◌∙◌, subst, arith}
use Rattle.std.specs.Prelude.{IsSomeAnd}
use Rattle.edge_kit.specs.declared.bytes.PubKey.{PubKey}
use Rattle.protect_record.specs.Parts.{Parts, SameParts}
use Rattle.protect_record.specs.Pasts.{Past}
use Rattle.protect_record.specs.Standing.{Stands}
use Rattle.record_join.specs.Keys.{kept_of, with_kept, EachKey}
use Rattle.record_join.specs.BooksPasts.{BooksStand}
use Rattle.record_join.proofs.KeyLemmas.{each_found, each_refit_second, each_through}

-- more room changes nothing that a past is held against
pub same_stands : (p q : Parts) (past : Past) → SameParts p q → Stands p past → Stands q past
same_stands p q past same s = record {
  floors = same.floors ∙ s.floors;
  blocks = λ e. rw (same.blocks, same.floors) (s.blocks e);
  votes = λ e. rw (same.votes, same.floors) (s.votes e);
  blocks_in_order = rw same.blocks s.blocks_in_order;
  votes_in_order = rw same.votes s.votes_in_order;
}

pub same_itself : (p : Parts) → SameParts p p
same_itself p = record { floors = refl; blocks = refl; votes = refl; block_room = omega arith; vote_room = omega arith }

pub same_through : (p q r : Parts) → SameParts p q → SameParts q r → SameParts p r
same_through p q r first second = record {
  floors = second.floors ∙ first.floors;
  blocks = second.blocks ∙ first.blocks;
  votes = second.votes ∙ first.votes;
  block_room = let a = first.block_room in let b = second.block_room in omega arith;
  vote_room = let a = first.vote_room in let b = second.vote_room in omega arith;
}

pub all_same_stand : (old new : List (PubKey × Parts)) (pasts : List (PubKey × Past)) → EachKey SameParts old new → BooksStand old pasts → BooksStand new pasts
all_same_stand old new pasts same stand = each_through Stands SameParts Stands (λ p q past s e. same_stands p q past e s) old new pasts stand same

some_inj : {X : Type 0} (a b : X) → Some a ≡ Some b → a ≡ b
some_inj a b h = cc

-- the record of the key keeps what it kept, with more room maybe
pub record IsRoomier (old new : List (PubKey × Parts)) (key : PubKey) : Type 0 where
  pub parts : Parts
  pub is_kept : kept_of old key ≡ Some parts
  pub roomy : Parts
  pub same : SameParts parts roomy
  pub others : new ≡ with_kept old key roomy

-- more room at one key
pub roomier_same : (before old new : List (PubKey × Parts)) (key : PubKey) → IsRoomier old new key → EachKey SameParts before old → EachKey SameParts before new
roomier_same before old new key roomier each =
    let E : List (PubKey × Parts) → Type 0 = λ l. EachKey SameParts before l in
    subst E (sym roomier.others) (each_refit_second SameParts before old key roomier.roomy each fits) where
      fits : (p : Parts) → kept_of before key ≡ Some p → SameParts p roomier.roomy
      fits p e =
          let found = each_found SameParts before old key p each e in
          let S : Parts → Type 0 = λ q. SameParts p q in
          same_through p roomier.parts roomier.roomy (subst S (some_inj found.0 roomier.parts (sym found.1 ∙ roomier.is_kept)) found.2) roomier.same

pub some_is : {A : Type 0} (o : Option A) (x : A) (P : A → Type 0) → o ≡ Some x → P x → IsSomeAnd o P
some_is o x P e p = rw e p
