-- What the signer in memory answers, and what it keeps.
use Rattle.std.specs.Prelude.{◌≡◌, ℕ, ◌≤◌, ◌++◌, ◌∷◌, [], Bool, true, false, not, List, Contains, None, replicate, if◌then◌else◌, vec_len, vec_capacity, filter}
use Rattle.std.specs.Str.{bytes_eq}
use Rattle.edge_kit.specs.Causes.{next_count}
use Rattle.edge_kit.specs.declared.bytes.PubKey.{PubKey}
use Rattle.edge_kit.specs.declared.bytes.Sig.{Sig}
use Rattle.signer_link.specs.declared.mem_signer.Found.{Found}
use Rattle.signer_link.specs.declared.mem_signer.Found.TheVariants as found
use Rattle.signer_link.specs.declared.mem_signer.MemSigner.{MemSigner}
use Rattle.signer_link.specs.declared.reply.SignReply.{SignReply}
use Rattle.signer_link.specs.declared.reply.SignReply.TheVariants as reply
use Rattle.signer_link.specs.declared.reply.ImportReply.{ImportReply}
use Rattle.signer_link.specs.declared.reply.ImportReply.TheVariants as importing
use Rattle.signer_link.specs.declared.reply.DeleteReply.{DeleteReply}
use Rattle.signer_link.specs.declared.reply.DeleteReply.TheVariants as deleting

-- the key's 48 bytes, the root's 32, and 16 zeros: no BLS signature
abbrev pub mem_signature : PubKey → List ℕ → Sig
mem_signature key root = record { 0 = key.0 ++ (root ++ replicate 16 0) }

-- the next call is one that is to fail
abbrev pub FailsNext : MemSigner → Type 0
FailsNext s = Contains s.failing.items s.calls

abbrev pub Lacks : MemSigner → PubKey → Type 0
Lacks s key = Contains s.lacking.items key

-- there is no room to keep the call
abbrev pub IsFull : MemSigner → Type 0
IsFull s = vec_capacity s.told ≤ vec_len s.told

-- memory can run out for a call: there is no room to keep it, or a whole block or an aggregate goes with it, whose copy
-- takes memory
abbrev pub MayLack : MemSigner → Bool → Type 0
MayLack s true = Unit {0}
MayLack s false = IsFull s

-- what a call for a key finds
abbrev pub Finds : MemSigner → PubKey → Found → Type 0
Finds s key found.Fault = FailsNext s
Finds s key found.Lacking = (¬ (FailsNext s)) × Lacks s key
Finds s key found.Held = (¬ (FailsNext s)) × (¬ (Lacks s key))

abbrev pub found_failed : Found → Bool
found_failed found.Fault = true
found_failed _ = false

abbrev pub sign_found : Found → PubKey → List ℕ → SignReply
sign_found found.Fault key root = reply.Fault
sign_found found.Lacking key root = reply.NoKey None
sign_found found.Held key root = reply.Signed (mem_signature key root)

-- the answer for the signature of a root, with or without a whole block or an aggregate: a fault at a call that is to fail,
-- else by whether it holds the key
abbrev pub MemSigns : MemSigner → Bool → PubKey → List ℕ → SignReply → Type 0
MemSigns s with_list key root (reply.Signed signature) = (¬ (FailsNext s)) × (¬ (Lacks s key)) × (signature ≡ mem_signature key root)
MemSigns s with_list key root (reply.NoKey status) = (¬ (FailsNext s)) × Lacks s key × (status ≡ None)
MemSigns s with_list key root (reply.Denied status) = ⊥
MemSigns s with_list key root reply.Fault = FailsNext s
MemSigns s with_list key root (reply.BadAnswer body) = ⊥
MemSigns s with_list key root reply.OutOfMemory = MayLack s with_list

-- the answer where a key is to be taken in
abbrev pub MemImports : MemSigner → PubKey → ImportReply → Type 0
MemImports s key importing.Imported = (¬ (FailsNext s)) × Lacks s key
MemImports s key importing.Duplicate = (¬ (FailsNext s)) × (¬ (Lacks s key))
MemImports s key (importing.Refused text) = ⊥
MemImports s key importing.Fault = FailsNext s
MemImports s key (importing.BadAnswer body) = ⊥
MemImports s key importing.OutOfMemory = Unit {0}

-- and where one is to be given up
abbrev pub MemDeletes : MemSigner → PubKey → DeleteReply → Type 0
MemDeletes s key deleting.Deleted = (¬ (FailsNext s)) × (¬ (Lacks s key))
MemDeletes s key deleting.NotActive = ⊥
MemDeletes s key deleting.NotFound = (¬ (FailsNext s)) × Lacks s key
MemDeletes s key (deleting.Refused text) = ⊥
MemDeletes s key deleting.Fault = FailsNext s
MemDeletes s key (deleting.BadAnswer body) = ⊥
MemDeletes s key deleting.OutOfMemory = Unit {0}

-- the keys that it lacks after a key was taken in: all but this one
abbrev pub lacking_without : PubKey → List PubKey → List PubKey
lacking_without key lacking = filter (λ k. not (bytes_eq k.0 key.0)) lacking

abbrev pub lacking_imported : PubKey → ImportReply → List PubKey → List PubKey
lacking_imported key importing.Imported lacking = lacking_without key lacking
lacking_imported key _ lacking = lacking

-- and after one was given up: this one too
abbrev pub lacking_deleted : PubKey → DeleteReply → List PubKey → List PubKey
lacking_deleted key deleting.Deleted lacking = lacking ++ key ∷ []
lacking_deleted key _ lacking = lacking

abbrev pub next_if : Bool → ℕ → ℕ
next_if counts count = if counts then next_count count else count

-- a call that was answered is counted, one that failed is too, and the calls that are to fail stay
pub record IsCounted (before now : MemSigner) (given failed : Bool) : Type 0 where
  pub calls : now.calls ≡ next_if given before.calls
  pub faults : now.faults ≡ next_if failed before.faults
  pub later : before.faults ≤ now.faults
  pub failing : now.failing.items ≡ before.failing.items
