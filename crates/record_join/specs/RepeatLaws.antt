-- Laws of repeats: the test decides whether the past has the message.
use Rattle.std.proofs.Common.{◌≡◌, ℕ, Bool, List, Option, None, Some, refl, sym, ap, subst, Contains}
use Rattle.std.specs.Bool.{Decides}
use Rattle.std.specs.List.{list_any}
use Rattle.std.specs.Str.{bytes_eq}
use Rattle.std.proofs.lemmas.Bool.{false≢true}
use Rattle.std.proofs.lemmas.Bool.Decides.{Decides-eqb, Decides-and, Decides-or, Decides-like}
use Rattle.std.proofs.lemmas.List.Folds.{Any-from_list_any, list_any-from_Any}
use Rattle.std.proofs.lemmas.Slice.Eq.{bytes_eq-Decides}
use Rattle.edge_kit.specs.declared.bytes.Root.{Root}
use Rattle.slash_defs.specs.declared.entry.BlockEntry.{BlockEntry}
use Rattle.slash_defs.specs.declared.entry.VoteEntry.{VoteEntry}
use Rattle.slash_defs.specs.declared.message.Message.{Message}
use Rattle.slash_defs.specs.declared.message.Message.TheVariants as message
use Rattle.protect_record.specs.Pasts.{Past}
use Rattle.record_join.specs.Repeats.{IsRepeat, block_entry, vote_entry, is_root, is_block, is_vote, is_message, lists_message, repeats}

some_inj : {X : Type 0} (a b : X) → Some a ≡ Some b → a ≡ b
some_inj a b h = cc

none_some : {X : Type 0} (b : X) → None ≡ Some b → ⊥
none_some b h = cc

same_bytes : (r q : Root) → Decides (bytes_eq r.0 q.0) (r ≡ q)
same_bytes r q = Decides-like _ (λ e. ap (λ bytes. record { 0 = bytes }) e) (λ e. ap (λ (x : Root). x.0) e) (bytes_eq-Decides r.0 q.0)

same_root : (root : Root) (o : Option Root) → Decides (is_root root o) (o ≡ Some root)
same_root root None = (λ e. absurd (false≢true e), λ h. absurd (none_some root h))
same_root root (Some known) = Decides-like _ (λ e. ap Some e) (λ e. some_inj known root e) (same_bytes known root)

of_block : (s t : ℕ) (o p : Option Root) → s ≡ t → o ≡ p → ◌≡◌ {A = BlockEntry} (record { slot = s; root = o }) (record { slot = t; root = p })
of_block s t o p a b = rw (a, b) refl

of_vote : (s t u v : ℕ) (o p : Option Root) → t ≡ v → s ≡ u → o ≡ p → ◌≡◌ {A = VoteEntry} (record { target = t; source = s; root = o }) (record { target = v; source = u; root = p })
of_vote s t u v o p a b c = rw (a, b, c) refl

pub block_decides : (slot : ℕ) (root : Root) (e : BlockEntry) → Decides (is_block slot root e) (e ≡ block_entry slot root)
block_decides slot root e =
    Decides-like _ (λ h. of_block e.slot slot e.root (Some root) h.0 h.1) (λ h. (ap (λ (x : BlockEntry). x.slot) h, ap (λ (x : BlockEntry). x.root) h)) (Decides-and _ _ (Decides-eqb e.slot slot) (same_root root e.root))

pub vote_decides : (source target : ℕ) (root : Root) (e : VoteEntry) → Decides (is_vote source target root e) (e ≡ vote_entry source target root)
vote_decides source target root e =
    Decides-like _ (λ h. of_vote e.source e.target source target e.root (Some root) h.0 h.1.0 h.1.1)
    (λ h. (ap (λ (x : VoteEntry). x.target) h, (ap (λ (x : VoteEntry). x.source) h, ap (λ (x : VoteEntry). x.root) h)))
    (Decides-and _ _ (Decides-eqb e.target target) (Decides-and _ _ (Decides-eqb e.source source) (same_root root e.root)))

same_block : (s t : ℕ) (r q : Root) → message.Block s r ≡ message.Block t q → (s ≡ t) × (r ≡ q)
same_block s t r q h = (cc, cc)

same_vote : (s t u v : ℕ) (r q : Root) → message.Vote s t r ≡ message.Vote u v q → (t ≡ v) × ((s ≡ u) × (r ≡ q))
same_vote s t u v r q h = (cc, (cc, cc))

no_block : (u v s : ℕ) (q r : Root) → message.Vote u v q ≡ message.Block s r → ⊥
no_block u v s q r h = cc

no_vote : (b s t : ℕ) (q r : Root) → message.Block b q ≡ message.Vote s t r → ⊥
no_vote b s t q r h = cc

message_decides : (m n : Message) → Decides (is_message m n) (n ≡ m)
message_decides (message.Block s r) (message.Block t q) =
    Decides-like _ (λ h. rw (h.0, h.1) refl) (λ h. same_block t s q r h) (Decides-and _ _ (Decides-eqb t s) (same_bytes q r))
message_decides (message.Vote s t r) (message.Vote u v q) =
    Decides-like _ (λ h. rw (h.0, h.1.0, h.1.1) refl) (λ h. same_vote u v s t q r h) (Decides-and _ _ (Decides-eqb v t) (Decides-and _ _ (Decides-eqb u s) (same_bytes q r)))
message_decides (message.Block s r) (message.Vote u v q) = (λ e. absurd (false≢true e), λ h. absurd (no_block u v s q r h))
message_decides (message.Vote s t r) (message.Block b q) = (λ e. absurd (false≢true e), λ h. absurd (no_vote b s t q r h))

-- a test of each element tells of one that has the property
any_decides : {X : Type 0} (p : X → Bool) (P : X → Type 0) → ((x : X) → Decides (p x) (P x)) → (xs : List X) → Decides (list_any p xs) ((x : X) × Contains xs x × P x)
any_decides p P each xs = (
  λ e. let a = Any-from_list_any p xs e in (a.1, (a.0, a.2, a.3), (each a.1).0 a.4),
  λ h. list_any-from_Any p xs (h.1.0, h.0, h.1.1, h.1.2, (each h.0).1 h.2),
)

-- a test of one element tells whether it is there
pub has_decides : {X : Type 0} (p : X → Bool) (y : X) → ((x : X) → Decides (p x) (x ≡ y)) → (xs : List X) → Decides (list_any p xs) (Contains xs y)
has_decides {X} p y each xs =
    Decides-like _ (λ h. subst (λ (x : X). Contains xs x) h.2 h.1) (λ h. (y, h, refl)) (any_decides p (λ x. x ≡ y) each xs)

pub repeats_decides : (past : Past) (m : Message) → Decides (repeats past m) (IsRepeat past m)
repeats_decides past (message.Block slot root) =
    Decides-or _ _ (any_decides (lists_message (message.Block slot root)) (λ b. Contains b.blocks (block_entry slot root)) (λ b. has_decides (is_block slot root) (block_entry slot root) (block_decides slot root) b.blocks) past.books)
    (Decides-like _ (λ h. (root, refl, h)) (λ h. subst (λ (r : Root). Contains past.own (message.Block slot r)) (sym (some_inj root h.0 h.1)) h.2)
    (has_decides (is_message (message.Block slot root)) (message.Block slot root) (message_decides (message.Block slot root)) past.own))
repeats_decides past (message.Vote source target root) =
    Decides-or _ _ (any_decides (lists_message (message.Vote source target root)) (λ b. Contains b.votes (vote_entry source target root)) (λ b. has_decides (is_vote source target root) (vote_entry source target root) (vote_decides source target root) b.votes) past.books)
    (Decides-like _ (λ h. (root, refl, h)) (λ h. subst (λ (r : Root). Contains past.own (message.Vote source target r)) (sym (some_inj root h.0 h.1)) h.2)
    (has_decides (is_message (message.Vote source target root)) (message.Vote source target root) (message_decides (message.Vote source target root)) past.own))
