-- What a message that is written reads back as.
use Rattle.std.specs.Prelude.{◌≡◌, ℕ, ◌==◌, ◌<◌, ◌≤◌, false, List, [], ◌∷◌, ◌++◌, length, reverse, All, IsUtf8, if◌then◌else◌, codes, decimal}
use Rattle.httparse.specs.Grammar.{IsToken, AllPass, is_uri_byte, is_value_byte, skip_ows}
use Rattle.http.specs.StatusCode.{IsStatusCode}
use Rattle.http_wire.specs.declared.message.Request.{Request}
use Rattle.http_wire.specs.declared.message.Response.{Response}
use Rattle.http_wire.specs.Framings.{Pair, is_named, body_limit}
use Rattle.http_wire.specs.Heads.{head_limit}
use Rattle.http_wire.specs.Parts.{parts_of}
use Rattle.http_wire.specs.Spellings.{spelled_request_head, spelled_response_head}
use Rattle.http_wire.specs.Messages.{is_interim}

-- the fields that a request of so many bytes has after its own
abbrev pub body_pairs : ℕ → List Pair
body_pairs n = (codes "Content-Type", codes "application/json") ∷ (codes "Content-Length", decimal n) ∷ []

abbrev pub fixed_pairs : ℕ → List Pair
fixed_pairs n = (codes "Accept", codes "application/json") ∷ (codes "Connection", codes "close") ∷ (if n == 0 then [] else body_pairs n)

-- the fields that a response to a body of so many bytes has after its own
abbrev pub fixed_response_pairs : ℕ → List Pair
fixed_response_pairs n = (codes "Content-Type", codes "application/json") ∷ (codes "Content-Length", decimal n) ∷ (codes "Connection", codes "close") ∷ []

-- a field line: the name is a token, and the value has no control byte but the tab, and no white space at its ends
pub record IsPair (p : Pair) : Type 0 where
  pub name : IsToken p.0
  pub value : AllPass is_value_byte p.1
  pub front : skip_ows p.1 ≡ p.1
  pub back : skip_ows (reverse p.1) ≡ reverse p.1

-- it says nothing of the body
pub record IsSilent (p : Pair) : Type 0 where
  pub length : is_named p (codes "content-length") ≡ false
  pub transfer : is_named p (codes "transfer-encoding") ≡ false
  pub encoding : is_named p (codes "content-encoding") ≡ false

-- a request within the limits, whose own fields say nothing of the body
pub record IsPlainRequest (r : Request) : Type 0 where
  pub method : IsToken r.method
  pub target : (0 < length r.target.items) × AllPass is_uri_byte r.target.items
  pub target_text : IsUtf8 r.target.items
  pub pairs : All IsPair (parts_of r.fields.items)
  pub silent : All IsSilent (parts_of r.fields.items)
  pub few : length (parts_of r.fields.items) ≤ 60
  pub short : length (spelled_request_head r) ≤ head_limit
  pub body : length r.body.items ≤ body_limit

-- s is r with the fixed fields
pub record HasFixedFields (r s : Request) : Type 0 where
  pub method : s.method ≡ r.method
  pub target : s.target.items ≡ r.target.items
  pub fields : parts_of s.fields.items ≡ parts_of r.fields.items ++ fixed_pairs (length r.body.items)
  pub body : s.body.items ≡ r.body.items

-- a response that is no interim one, within the limits, whose own fields say nothing of the body
pub record IsPlainResponse (r : Response) : Type 0 where
  pub status : IsStatusCode r.status
  pub final : is_interim r.status ≡ false
  pub pairs : All IsPair (parts_of r.fields.items)
  pub silent : All IsSilent (parts_of r.fields.items)
  pub few : length (parts_of r.fields.items) ≤ 61
  pub short : length (spelled_response_head r) ≤ head_limit
  pub body : length r.body.items ≤ body_limit

-- s is r with the fixed fields
pub record HasFixedResponseFields (r s : Response) : Type 0 where
  pub status : s.status ≡ r.status
  pub fields : parts_of s.fields.items ≡ parts_of r.fields.items ++ fixed_response_pairs (length r.body.items)
  pub body : s.body.items ≡ r.body.items
