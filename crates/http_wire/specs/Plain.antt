-- What the calls that read the head of a request, and the body after a head, found.
use Rattle.std.specs.Prelude.{◌≡◌, ℕ, ◌≤◌, Bool, false, List, [], length, Option, Some, None, Result, Ok, Err, ⊤}
use Rattle.httparse.specs.Grammar.{RequestHead}
use Rattle.http_wire.specs.declared.message.Request.{Request}
use Rattle.http_wire.specs.declared.message.WireFault.{WireFault}
use Rattle.http_wire.specs.declared.message.WireFault.TheVariants as fault
use Rattle.http_wire.specs.Fronts.{StopsWithin}
use Rattle.http_wire.specs.Heads.{SpellsRequestHead, IsRequestText, head_limit}
use Rattle.http_wire.specs.Framings.{Pair, body_limit, encoding_of, framing_of}
use Rattle.http_wire.specs.Bodies.{IsBody, IsNoBody, IsLongBody}
use Rattle.http_wire.specs.Parts.{parts_of}
use Rattle.http_wire.specs.Messages.{HasRequestHead}

-- a head within the limits
pub record IsRequestHead (text : List ℕ) (r : Request) : Type 0 where
  pub tree : RequestHead
  pub spells : SpellsRequestHead text tree
  pub short : length text ≤ head_limit
  pub has : HasRequestHead tree r

-- what reading the head of a request found
abbrev pub RequestHeadStep : Option (List ℕ) → Result Request WireFault → List ℕ → Type 0
RequestHeadStep left (Ok r) taken = IsRequestHead taken r
RequestHeadStep left (Err fault.BadHead) taken = StopsWithin IsRequestText head_limit taken left
RequestHeadStep left (Err fault.BadBody) taken = ⊥
RequestHeadStep left (Err (fault.TooLong n)) taken = ⊥
RequestHeadStep left (Err (fault.Encoded v)) taken = ⊥
RequestHeadStep left (Err fault.Link) taken = ⊤
RequestHeadStep left (Err fault.OutOfMemory) taken = ⊤

-- what reading the body that these fields frame found, which is read in no other coding
abbrev pub PlainStep : Bool → List Pair → Option (List ℕ) → Result (Unit {0}) WireFault → List ℕ → List ℕ → Type 0
PlainStep to_end fields left (Ok u) body taken = (encoding_of fields ≡ None) × IsBody to_end (framing_of fields) taken left body
PlainStep to_end fields left (Err fault.BadHead) body taken = ⊥
PlainStep to_end fields left (Err fault.BadBody) body taken = (encoding_of fields ≡ None) × IsNoBody (framing_of fields) taken left
PlainStep to_end fields left (Err (fault.TooLong n)) body taken = (n ≡ body_limit) × (encoding_of fields ≡ None) × IsLongBody to_end (framing_of fields) taken
PlainStep to_end fields left (Err (fault.Encoded v)) body taken = (encoding_of fields ≡ Some v.items) × (taken ≡ [])
PlainStep to_end fields left (Err fault.Link) body taken = ⊤
PlainStep to_end fields left (Err fault.OutOfMemory) body taken = ⊤

-- the same method, target and fields
pub record HasHeadOf (head r : Request) : Type 0 where
  pub method : r.method ≡ head.method
  pub target : r.target.items ≡ head.target.items
  pub fields : parts_of r.fields.items ≡ parts_of head.fields.items

-- what reading the body after this head found: the request of the head and the body, or why there is none
abbrev pub RequestBodyStep : Request → Option (List ℕ) → Result Request WireFault → List ℕ → Type 0
RequestBodyStep head left (Ok r) taken = HasHeadOf head r × PlainStep false (parts_of head.fields.items) left (Ok tt) r.body.items taken
RequestBodyStep head left (Err f) taken = PlainStep false (parts_of head.fields.items) left (Err f) [] taken
