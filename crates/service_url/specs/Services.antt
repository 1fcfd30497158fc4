-- The address of a service that is called over HTTP (URL Standard; RFC 9110, section 4.2.1).
use Rattle.std.specs.Prelude.{ℕ, ◌==◌, ◌&&◌, ◌++◌, Bool, not, List, [], ◌∷◌, Option, Some, None, is_some, option_and_then, if◌then◌else◌, bytes_eq, codes, decimal, refl}
use Rattle.std.specs.Result.{result_ok}
use Rattle.std.specs.Coded.{Coded, code_by, coded×, coded_ℕ, coded_list, coded_option}
use Rattle.std.specs.Io.BufRead.{strip_last}
use Rattle.url.specs.Input.{is_empty}
use Rattle.url.specs.Host.{host_text}
use Rattle.url.specs.Parts.{Parts, has_host, host_or_empty}
use Rattle.url.specs.Parser.{parse_url}

-- The host as the URL writes it (`[..]` around an IPv6 address), the port where it isn't the scheme's 80, and the URL's
-- path without a final `/`.
pub record Service : Type 0 where
  pub host : List ℕ
  pub port : Option ℕ
  pub path : List ℕ

-- the scheme is `http`, there is a host, and there is no user name, password, query or fragment
abbrev pub is_service : Parts → Bool
is_service url =
    bytes_eq url.scheme (codes "http") && has_host url
    && is_empty url.username && is_empty url.password
    && not (is_some url.query) && not (is_some url.fragment)

-- the address that a URL is
abbrev pub service_of : Parts → Option Service
service_of url =
    if is_service url
    then Some (record { host = host_text (host_or_empty url); port = url.port; path = strip_last 47 url.path })
    else None

-- the address that a text is, where it is a URL (URL Standard, "basic URL parser") that is one
abbrev pub service_at : List ℕ → Option Service
service_at text = option_and_then service_of (result_ok (parse_url None text))

-- a host, and `:` and the port where there is one
abbrev pub with_port : List ℕ → Option ℕ → List ℕ
with_port host None = host
with_port host (Some port) = host ++ codes ":" ++ decimal port

-- the value of the field Host (RFC 9110, section 7.2)
abbrev pub authority_of : Service → List ℕ
authority_of service = with_port service.host service.port

-- the list without its first number, if that is `byte`
abbrev pub strip_first : ℕ → List ℕ → List ℕ
strip_first byte [] = []
strip_first byte (x ∷ xs) = if x == byte then xs else x ∷ xs

-- the host without the brackets around an IPv6 address (RFC 3986, `IP-literal`)
abbrev pub dial_host_of : Service → List ℕ
dial_host_of service = strip_last 93 (strip_first 91 service.host)

-- how the logic stores the record
abbrev pub service_code : Coded Service
service_code =
    code_by (List ℕ × (Option ℕ × List ℕ)) (coded× (coded_list coded_ℕ) (coded× (coded_option coded_ℕ) (coded_list coded_ℕ)))
    (λ s. (s.host, (s.port, s.path)))
    (λ f. record { host = f.0; port = f.1.0; path = f.1.1 })
    (λ _. refl)
