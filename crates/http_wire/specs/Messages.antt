-- What message bytes spell.
use Rattle.std.specs.Prelude.{◌≡◌, ◌⊎◌, ℕ, ◌≤◌, ◌&&◌, Bool, true, false, List, [], ◌++◌, length, map, All, Option, Some, None, Result, Ok, Err, ⊤, nat_le, nat_lt}
use Rattle.std.specs.List.{flat_map}
use Rattle.httparse.specs.Grammar.{RequestHead, ResponseHead, status_code}
use Rattle.httparse.specs.Spans.{name_and_value}
use Rattle.http_wire.specs.declared.message.Request.{Request}
use Rattle.http_wire.specs.declared.message.Response.{Response}
use Rattle.http_wire.specs.declared.message.WireFault.{WireFault}
use Rattle.http_wire.specs.declared.message.WireFault.TheVariants as fault
use Rattle.http_wire.specs.Fronts.{StopsWithin}
use Rattle.http_wire.specs.Heads.{SpellsRequestHead, IsRequestText, SpellsResponseHead, IsResponseText, head_limit}
use Rattle.http_wire.specs.Framings.{Pair, body_limit, encoding_of, framing_of}
use Rattle.http_wire.specs.Parts.{parts_of}
use Rattle.http_wire.specs.Bodies.{IsBody, IsNoBody, IsLongBody}

-- ---- requests

-- a request has the method, the target and the fields of a head
pub record HasRequestHead (h : RequestHead) (r : Request) : Type 0 where
  pub method : r.method ≡ h.method
  pub target : r.target.items ≡ h.target
  pub fields : parts_of r.fields.items ≡ map name_and_value h.fields

-- the bytes are a head within the limits, and the body that its fields frame
pub record SpellsRequest (bytes : List ℕ) (left : Option (List ℕ)) (r : Request) : Type 0 where
  pub head : List ℕ
  pub tail : List ℕ
  pub split : bytes ≡ head ++ tail
  pub tree : RequestHead
  pub spells : SpellsRequestHead head tree
  pub short : length head ≤ head_limit
  pub has : HasRequestHead tree r
  pub plain : encoding_of (parts_of r.fields.items) ≡ None
  pub body : IsBody false (framing_of (parts_of r.fields.items)) tail left r.body.items

-- the bytes are a head within the limits, and this holds of its fields and of what was taken after it
pub record BeginsRequest (P : List Pair → List ℕ → Type 0) (bytes : List ℕ) : Type 0 where
  pub head : List ℕ
  pub tail : List ℕ
  pub split : bytes ≡ head ++ tail
  pub tree : RequestHead
  pub spells : SpellsRequestHead head tree
  pub short : length head ≤ head_limit
  pub about : P (map name_and_value tree.fields) tail

-- why bytes, where so many more are left, begin no request
abbrev pub IsNoRequest : List ℕ → Option (List ℕ) → WireFault → Type 0
IsNoRequest bytes left fault.BadHead = StopsWithin IsRequestText head_limit bytes left
IsNoRequest bytes left fault.BadBody = BeginsRequest (λ fields tail. (encoding_of fields ≡ None) × IsNoBody (framing_of fields) tail left) bytes
IsNoRequest bytes left (fault.TooLong n) = BeginsRequest (λ fields tail. (n ≡ body_limit) × (encoding_of fields ≡ None) × IsLongBody false (framing_of fields) tail) bytes
IsNoRequest bytes left (fault.Encoded v) = BeginsRequest (λ fields tail. (encoding_of fields ≡ Some v.items) × (tail ≡ [])) bytes
IsNoRequest bytes left fault.Link = ⊤
IsNoRequest bytes left fault.OutOfMemory = ⊤

-- what reading a request found
abbrev pub RequestStep : Option (List ℕ) → Result Request WireFault → List ℕ → Type 0
RequestStep left (Ok r) bytes = SpellsRequest bytes left r
RequestStep left (Err f) bytes = IsNoRequest bytes left f

-- ---- responses

-- 100 to 199
abbrev pub is_interim : ℕ → Bool
is_interim status = nat_le 100 status && nat_lt status 200

pub record HasResponseHead (h : ResponseHead) (r : Response) : Type 0 where
  pub status : r.status ≡ status_code h
  pub fields : parts_of r.fields.items ≡ map name_and_value h.fields

-- a head within the limits whose status is one of 100 to 199
pub record IsInterim (text : List ℕ) : Type 0 where
  pub tree : ResponseHead
  pub spells : SpellsResponseHead text tree
  pub short : length text ≤ head_limit
  pub status : is_interim (status_code tree) ≡ true

-- so many of them, one after another
pub record AreInterim (count : ℕ) (text : List ℕ) : Type 0 where
  pub each : List (List ℕ)
  pub are : All IsInterim each
  pub count_is : length each ≡ count
  pub text_is : text ≡ flat_map (λ t. t) each

-- the bytes are at most 8 interim responses, a head of another status, and its body
pub record SpellsResponse (bytes : List ℕ) (left : Option (List ℕ)) (r : Response) : Type 0 where
  pub count : ℕ
  pub few : count ≤ 8
  pub front : List ℕ
  pub interim : AreInterim count front
  pub head : List ℕ
  pub tail : List ℕ
  pub split : bytes ≡ front ++ (head ++ tail)
  pub tree : ResponseHead
  pub spells : SpellsResponseHead head tree
  pub short : length head ≤ head_limit
  pub final : is_interim (status_code tree) ≡ false
  pub has : HasResponseHead tree r
  pub plain : encoding_of (parts_of r.fields.items) ≡ None
  pub body : IsBody true (framing_of (parts_of r.fields.items)) tail left r.body.items

pub record BeginsResponse (P : List Pair → List ℕ → Type 0) (bytes : List ℕ) : Type 0 where
  pub count : ℕ
  pub few : count ≤ 8
  pub front : List ℕ
  pub interim : AreInterim count front
  pub head : List ℕ
  pub tail : List ℕ
  pub split : bytes ≡ front ++ (head ++ tail)
  pub tree : ResponseHead
  pub spells : SpellsResponseHead head tree
  pub short : length head ≤ head_limit
  pub final : is_interim (status_code tree) ≡ false
  pub about : P (map name_and_value tree.fields) tail

-- at most 8 interim responses and then no head, or nine of them
pub record HasNoResponseHead (bytes : List ℕ) (left : Option (List ℕ)) : Type 0 where
  pub count : ℕ
  pub front : List ℕ
  pub tail : List ℕ
  pub interim : AreInterim count front
  pub split : bytes ≡ front ++ tail
  pub why : ((count ≤ 8) × StopsWithin IsResponseText head_limit tail left) ⊎ ((count ≡ 9) × (tail ≡ []))

abbrev pub IsNoResponse : List ℕ → Option (List ℕ) → WireFault → Type 0
IsNoResponse bytes left fault.BadHead = HasNoResponseHead bytes left
IsNoResponse bytes left fault.BadBody = BeginsResponse (λ fields tail. (encoding_of fields ≡ None) × IsNoBody (framing_of fields) tail left) bytes
IsNoResponse bytes left (fault.TooLong n) = BeginsResponse (λ fields tail. (n ≡ body_limit) × (encoding_of fields ≡ None) × IsLongBody true (framing_of fields) tail) bytes
IsNoResponse bytes left (fault.Encoded v) = BeginsResponse (λ fields tail. (encoding_of fields ≡ Some v.items) × (tail ≡ [])) bytes
IsNoResponse bytes left fault.Link = ⊤
IsNoResponse bytes left fault.OutOfMemory = ⊤

abbrev pub ResponseStep : Option (List ℕ) → Result Response WireFault → List ℕ → Type 0
ResponseStep left (Ok r) bytes = SpellsResponse bytes left r
ResponseStep left (Err f) bytes = IsNoResponse bytes left f

-- at most 8 interim responses, and the head of the response
pub record IsFinalHead (bytes : List ℕ) (r : Response) : Type 0 where
  pub count : ℕ
  pub few : count ≤ 8
  pub front : List ℕ
  pub interim : AreInterim count front
  pub head : List ℕ
  pub split : bytes ≡ front ++ head
  pub tree : ResponseHead
  pub spells : SpellsResponseHead head tree
  pub short : length head ≤ head_limit
  pub final : is_interim (status_code tree) ≡ false
  pub has : HasResponseHead tree r

abbrev pub FinalHeadStep : Option (List ℕ) → Result Response WireFault → List ℕ → Type 0
FinalHeadStep left (Ok r) bytes = IsFinalHead bytes r
FinalHeadStep left (Err fault.BadHead) bytes = HasNoResponseHead bytes left
FinalHeadStep left (Err fault.BadBody) bytes = ⊥
FinalHeadStep left (Err (fault.TooLong n)) bytes = ⊥
FinalHeadStep left (Err (fault.Encoded v)) bytes = ⊥
FinalHeadStep left (Err fault.Link) bytes = ⊤
FinalHeadStep left (Err fault.OutOfMemory) bytes = ⊤

-- the same but for where they lie in memory
pub record IsSameRequest (r s : Request) : Type 0 where
  pub method : r.method ≡ s.method
  pub target : r.target.items ≡ s.target.items
  pub fields : parts_of r.fields.items ≡ parts_of s.fields.items
  pub body : r.body.items ≡ s.body.items

pub record IsSameResponse (r s : Response) : Type 0 where
  pub status : r.status ≡ s.status
  pub fields : parts_of r.fields.items ≡ parts_of s.fields.items
  pub body : r.body.items ≡ s.body.items
