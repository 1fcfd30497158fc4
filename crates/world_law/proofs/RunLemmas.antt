-- A run of each plan.
use Rattle.std.proofs.Common.{◌≡◌, ◌≢◌, ◌⊎◌, inl, inr, ℕ, [], ◌∷◌, Some, refl, sym, ◌∙◌, ap, subst, arith}
use Rattle.std.specs.Prelude.{Contains}
use Rattle.edge_kit.specs.declared.bytes.PubKey.{PubKey}
use Rattle.edge_kit.specs.declared.bytes.Root.{Root}
use Rattle.slash_defs.specs.declared.message.Message.{Message}
use Rattle.slash_defs.specs.declared.message.Message.TheVariants as message
use Rattle.slash_defs.specs.declared.entry.BlockEntry.{BlockEntry}
use Rattle.slash_defs.specs.declared.entry.VoteEntry.{VoteEntry}
use Rattle.slash_defs.specs.declared.book.Book.{Book}
use Rattle.protect_record.specs.Parts.{Parts, no_floors}
use Rattle.protect_record.specs.Pasts.{Past, IsPastBlock, IsPastVote}
use Rattle.protect_record.specs.Passing.{Passes, BookRefuses}
use Rattle.protect_record.specs.Standing.{Stands}
use Rattle.protect_record.proofs.MemberLemmas.{All-from_contains, contains_none, contains_cases}
use Rattle.record_codec.specs.Spelling.{number}
use Rattle.record_join.specs.Preparing.{no_parts}
use Rattle.record_join.proofs.FileLemmas.{no_parts_stand}
use Rattle.desk_machine.specs.declared.open_grant.OpenGrant.{OpenGrant}
use Rattle.world_law.specs.Worlds.{IsRun}
use Rattle.world_law.specs.Plans.{there_and_back, one_chain, HasRunsBack}

abbrev root : Root
root = record { 0 = 0 ∷ 0 ∷ 0 ∷ 0 ∷ 0 ∷ 0 ∷ 0 ∷ 0 ∷ 0 ∷ 0 ∷ 0 ∷ 0 ∷ 0 ∷ 0 ∷ 0 ∷ 0 ∷ 0 ∷ 0 ∷ 0 ∷ 0 ∷ 0 ∷ 0 ∷ 0 ∷ 0 ∷ 0 ∷ 0 ∷ 0 ∷ 0 ∷ 0 ∷ 0 ∷ 0 ∷ 0 ∷ [] }

abbrev key : PubKey
key = record { 0 = 0 ∷ 0 ∷ 0 ∷ 0 ∷ 0 ∷ 0 ∷ 0 ∷ 0 ∷ 0 ∷ 0 ∷ 0 ∷ 0 ∷ 0 ∷ 0 ∷ 0 ∷ 0 ∷ 0 ∷ 0 ∷ 0 ∷ 0 ∷ 0 ∷ 0 ∷ 0 ∷ 0 ∷ 0 ∷ 0 ∷ 0 ∷ 0 ∷ 0 ∷ 0 ∷ 0 ∷ 0 ∷ 0 ∷ 0 ∷ 0 ∷ 0 ∷ 0 ∷ 0 ∷ 0 ∷ 0 ∷ 0 ∷ 0 ∷ 0 ∷ 0 ∷ 0 ∷ 0 ∷ 0 ∷ 0 ∷ [] }

abbrev m : Message
m = message.Block 1 root

abbrev grant : OpenGrant
grant = record { number = 0; key = key; message = Some m }

abbrev first : Book
first = record { blocks = []; votes = [] }

abbrev entry : BlockEntry
entry = record { slot = 1; root = Some root }

abbrev second : Book
second = record { blocks = entry ∷ []; votes = [] }

differ : first ≢ second
differ e = let f : [] ≡ entry ∷ [] = ap (λ b. b.blocks) e in cc

-- the past of the client that signed, and its record
abbrev past : Past
past = record { books = first ∷ []; own = m ∷ [] }

abbrev parts : Parts
parts = record { floors = no_floors; blocks = entry ∷ []; votes = []; block_room = 0; vote_room = 0 }

stands : Stands parts past
stands = record {
  floors = refl;
  blocks = λ e. (λ has. (block e (contains_cases entry [] e has), λ dead. dead), λ h. only e h.0);
  votes = λ e. (λ has. contains_none e has, λ h. vote e h.0);
  blocks_in_order = λ i j d lt within. absurd (omega (arith, lt, within));
  votes_in_order = λ i j d lt within. absurd (omega (arith, lt, within));
} where
  block : (e : BlockEntry) → (entry ≡ e) ⊎ Contains [] e → IsPastBlock past e
  block e (inl is) = let P : BlockEntry → Type 0 = λ x. IsPastBlock past x in subst P is (inr (root, refl, (0, omega arith, refl)))
  block e (inr none) = contains_none e none

  message_of : (slot : ℕ) (r : Root) → message.Block 1 root ≡ message.Block slot r → (1 ≡ slot) × (root ≡ r)
  message_of slot r e = (cc, cc)

  one : (e : BlockEntry) (r : Root) → e.root ≡ Some r → (m ≡ message.Block e.slot r) ⊎ Contains [] (message.Block e.slot r) → Contains (entry ∷ []) e
  one e r is (inr none) = contains_none (message.Block e.slot r) none
  one e r is (inl same) =
      let f = message_of e.slot r same in
      let all : entry ≡ e = (λ i. record { slot = f.0 i; root = (ap Some f.1 ∙ sym is) i }) in
      let P : BlockEntry → Type 0 = λ x. Contains (entry ∷ []) x in
      subst P all (0, omega arith, refl)

  only : (e : BlockEntry) → IsPastBlock past e → Contains (entry ∷ []) e
  only e (inl x) = book e x.0 (contains_cases first [] x.0 x.1) x.2 where
    book : (e : BlockEntry) (b : Book) → (first ≡ b) ⊎ Contains [] b → Contains b.blocks e → Contains (entry ∷ []) e
    book e b (inl is) has = let P : Book → Type 0 = λ y. Contains y.blocks e in contains_none e (subst P (sym is) has)
    book e b (inr none) has = contains_none b none
  only e (inr x) = one e x.0 x.1 (contains_cases m [] (message.Block e.slot x.0) x.2)

  vote : (e : VoteEntry) → IsPastVote past e → Contains [] e
  vote e (inl x) = book e x.0 (contains_cases first [] x.0 x.1) x.2 where
    book : (e : VoteEntry) (b : Book) → (first ≡ b) ⊎ Contains [] b → Contains b.votes e → Contains [] e
    book e b (inl is) has = let P : Book → Type 0 = λ y. Contains y.votes e in subst P (sym is) has
    book e b (inr none) has = contains_none b none
  vote e (inr x) = other e x.0 (contains_cases m [] (message.Vote e.source e.target x.0) x.2) where
    other : (e : VoteEntry) (r : Root) → (m ≡ message.Vote e.source e.target r) ⊎ Contains [] (message.Vote e.source e.target r) → Contains [] e
    other e r (inl is) = absurd (let bad : m ≡ message.Vote e.source e.target r = is in cc)
    other e r (inr none) = contains_none (message.Vote e.source e.target r) none

-- the first book lets the message pass
passes : Passes (record { books = first ∷ []; own = [] }) m
passes = (All-from_contains (λ b. ¬ (BookRefuses b m)) (first ∷ []) (λ b has. at b (contains_cases first [] b has)), λ i d lt. absurd (omega (arith, lt))) where
  free : ¬ (BookRefuses first m)
  free (inl x) = contains_none x.0 x.1
  free (inr x) = x.0 refl

  at : (b : Book) → (first ≡ b) ⊎ Contains [] b → ¬ (BookRefuses b m)
  at b (inl e) = let P : Book → Type 0 = λ y. ¬ (BookRefuses y m) in subst P e free
  at b (inr none) = contains_none b none

runs_second : IsRun (one_chain root) (there_and_back root key m grant first second second 0)
unfolding number
runs_second = ((refl, ((λ e. cc, λ e. cc), inr (omega arith)), (omega arith, omega arith)), ((refl, refl), (((refl, (refl, refl, refl), (omega arith, omega arith)), record { parts = no_parts; stands = no_parts_stand; value = refl }), (((refl, (refl, omega arith), (omega arith, omega arith)), refl), ((refl, ((λ e. cc, λ e. cc), inl refl), (omega arith, omega arith)), (((refl, ((refl, passes), refl), (omega arith, omega arith)), refl), (((0, omega arith, refl), refl), (tt, ((refl, refl), (((refl, (refl, refl, refl), (omega arith, omega arith)), record { parts = parts; stands = stands; value = refl }), (((refl, (refl, omega arith), (omega arith, omega arith)), refl), ((refl, ((λ e. cc, λ e. cc), inl refl), (omega arith, omega arith)), tt))))))))))))

runs_first : IsRun (one_chain root) (there_and_back root key m grant first second first 0)
unfolding number
runs_first = ((refl, ((λ e. cc, λ e. cc), inr (omega arith)), (omega arith, omega arith)), ((refl, refl), (((refl, (refl, refl, refl), (omega arith, omega arith)), record { parts = no_parts; stands = no_parts_stand; value = refl }), (((refl, (refl, omega arith), (omega arith, omega arith)), refl), ((refl, ((λ e. cc, λ e. cc), inl refl), (omega arith, omega arith)), (((refl, ((refl, passes), refl), (omega arith, omega arith)), refl), (((0, omega arith, refl), refl), (tt, ((refl, refl), (((refl, (refl, refl, refl), (omega arith, omega arith)), record { parts = parts; stands = stands; value = refl }), (((refl, (refl, omega arith), (omega arith, omega arith)), refl), ((refl, ((λ e. cc, λ e. cc), inl refl), (omega arith, omega arith)), tt))))))))))))

pub runs_back : HasRunsBack
runs_back = (root, key, m, grant, first, second, differ, runs_second, runs_first)
