-- Lists of messages, each with its key.
use Rattle.std.specs.Prelude.{◌≡◌, ℕ, ◌<◌, ◌+◌, ◌&&◌, ◌||◌, ◌==◌, not, nat_lt, List, [], ◌∷◌, length, slice_index_or, AllPairs, Bool, false, count_by}
use Rattle.std.specs.Str.{bytes_eq}
use Rattle.edge_kit.specs.declared.bytes.PubKey.{PubKey}
use Rattle.slash_defs.specs.declared.message.Message.{Message}
use Rattle.slash_defs.specs.declared.message.Message.TheVariants as message
use Rattle.slash_defs.specs.Slashing.{Slashable}

-- one key's, and slashable
abbrev pub IsUnsafe : PubKey × Message → PubKey × Message → Type 0
IsUnsafe a b = (a.0 ≡ b.0) × Slashable a.1 b.1

-- no two messages of one key are slashable
abbrev pub SafeList : List (PubKey × Message) → Type 0
SafeList sent = AllPairs (λ a b. ¬ (IsUnsafe a b)) sent

-- the messages at these two places
abbrev pub UnsafeAt : List (PubKey × Message) → ℕ → ℕ → Type 0
UnsafeAt list i j = (d : PubKey × Message) → IsUnsafe (slice_index_or list i d) (slice_index_or list j d)

abbrev pub SafeAt : List (PubKey × Message) → ℕ → ℕ → Type 0
SafeAt list i j = (d : PubKey × Message) → ¬ (IsUnsafe (slice_index_or list i d) (slice_index_or list j d))

-- the first unsafe pair, by the first place and then by the second
pub record IsFirstUnsafe (list : List (PubKey × Message)) (i j : ℕ) : Type 0 where
  pub order : i < j
  pub within : j < length list
  pub is_unsafe : UnsafeAt list i j
  pub no_earlier : (k l : ℕ) → k < l → l < length list → k < i → SafeAt list k l
  pub no_nearer : (k : ℕ) → i < k → k < j → SafeAt list i k

-- the test of `Slashable`, to count by
abbrev pub is_slashable : Message → Message → Bool
is_slashable (message.Block slot root) (message.Block other second) = slot == other && not (bytes_eq root.0 second.0)
is_slashable (message.Vote s t r) (message.Vote u v q) = (t == v && (not (s == u) || not (bytes_eq r.0 q.0))) || (nat_lt s u && nat_lt v t) || (nat_lt u s && nat_lt t v)
is_slashable (message.Block slot root) (message.Vote u v q) = false
is_slashable (message.Vote s t r) (message.Block slot root) = false

-- the test of `IsUnsafe`
abbrev pub is_unsafe : PubKey × Message → PubKey × Message → Bool
is_unsafe a b = bytes_eq a.0.0 b.0.0 && is_slashable a.1 b.1

-- the number of unsafe pairs: those with the first message, and those among the others
abbrev pub unsafe_pairs : List (PubKey × Message) → ℕ
unsafe_pairs [] = 0
unsafe_pairs (first ∷ later) = count_by (is_unsafe first) later + unsafe_pairs later
