-- One HTTP call over a connection of its own, by what its link tells.
use Rattle.std.specs.Prelude.{◌≡◌, ◌⊎◌, ◌≤◌, ℕ, List, [], ◌∷◌, ◌++◌, length, take, drop, codes, Option, Some, None, option_map, Result, Ok, Err, ⊤}
use Rattle.std.specs.Io.KnownBytes.{Appends}
use Rattle.edge_kit.specs.Causes.{Rose}
use Rattle.edge_kit.specs.Links.{Stays}
use Rattle.service_url.specs.Services.{Service, authority_of}
use Rattle.http_wire.specs.declared.message.Response.{Response}
use Rattle.http_wire.specs.declared.message.WireFault.{WireFault}
use Rattle.http_wire.specs.declared.message.WireFault.TheVariants as fault
use Rattle.http_wire.specs.Messages.{ResponseStep}
use Rattle.http_wire.specs.Spellings.{body_fields}

-- The bytes of a request (RFC 9112, sections 3, 5 and 6): its line, its fields, an empty line and its body. The target
-- is the service's path and then the call's, and the field Host names the service.
unfoldable pub called_text : Service → List ℕ → List ℕ → List ℕ → List ℕ
called_text service method path body =
    method ++ codes " " ++ (service.path ++ path) ++ codes " HTTP/1.1\r\n"
    ++ (codes "Host: " ++ authority_of service ++ codes "\r\n")
    ++ codes "Accept: application/json\r\nConnection: close\r\n"
    ++ body_fields (length body)
    ++ codes "\r\n"
    ++ body

-- a front of the text was sent: none of it, some, or all
pub record SendsFront (text : List ℕ) (before now : Option (List ℕ)) : Type 0 where
  pub count : ℕ
  pub sent : Appends before now (take count text)

-- the whole text was sent, or a front of it where the link failed or memory ran out
abbrev pub Sends : List ℕ → Option (List ℕ) → Option (List ℕ) → Result Response WireFault → Type 0
Sends text before now (Ok response) = Appends before now text
Sends text before now (Err fault.BadHead) = Appends before now text
Sends text before now (Err fault.BadBody) = Appends before now text
Sends text before now (Err (fault.TooLong limit)) = Appends before now text
Sends text before now (Err (fault.Encoded value)) = Appends before now text
Sends text before now (Err fault.Link) = SendsFront text before now
Sends text before now (Err fault.OutOfMemory) = SendsFront text before now

-- what the peer says over a connection begins with a response, or with bytes that are none for this cause
pub record BeginsWith (said : List ℕ) (result : Result Response WireFault) : Type 0 where
  pub text : List ℕ
  pub rest : List ℕ
  pub split : said ≡ text ++ rest
  pub step : ResponseStep (Some rest) result text

-- so does the next of these conversations; where none is left the peer says nothing
abbrev pub IsAnsweredBy : Option (List (List ℕ)) → Result Response WireFault → Type 0
IsAnsweredBy None result = ⊤
IsAnsweredBy (Some []) result = BeginsWith [] result
IsAnsweredBy (Some (first ∷ others)) result = BeginsWith first result

-- the next conversation is over, and the later ones stay
abbrev pub IsPast : Option (List (List ℕ)) → Option (List (List ℕ)) → Type 0
IsPast before now = Stays (option_map (drop 1) before) now

-- Which conversations are left. Where memory ran out none may have begun, and where the link failed nothing is said.
abbrev pub Leaves : Option (List (List ℕ)) → Option (List (List ℕ)) → Result Response WireFault → Type 0
Leaves before now (Ok response) = IsPast before now
Leaves before now (Err fault.BadHead) = IsPast before now
Leaves before now (Err fault.BadBody) = IsPast before now
Leaves before now (Err (fault.TooLong limit)) = IsPast before now
Leaves before now (Err (fault.Encoded value)) = IsPast before now
Leaves before now (Err fault.Link) = ⊤
Leaves before now (Err fault.OutOfMemory) = Stays before now ⊎ IsPast before now

-- One call with this request and this result, by what was sent, what the peer says and the count of faults, before and
-- now. Where the link doesn't tell, only the count is spoken of.
pub record IsCall (text : List ℕ) (held_before held_now : Option (List ℕ)) (coming_before coming_now : Option (List (List ℕ))) (faults_before faults_now : ℕ) (result : Result Response WireFault) : Type 0 where
  pub sent : Sends text held_before held_now result
  pub answered : IsAnsweredBy coming_before result
  pub left : Leaves coming_before coming_now result
  pub later : faults_before ≤ faults_now
  pub fault : result ≡ Err fault.Link → Rose faults_before faults_now
