-- What `from_slice` says of a line, as the request that the line is.
use Rattle.std.proofs.Common.{◌≡◌, ℕ, Bool, true, false, List, Option, Some, None, Err, refl, ap, cond}
use Rattle.std.specs.Str.{IsUtf8, is_utf8}
use Rattle.std.proofs.lemmas.Str.{IsUtf8-from_is_utf8, is_utf8-from_IsUtf8}
use Rattle.serde_json.specs.Data.{Data}
use Rattle.serde_json.specs.Read.{read}
use Rattle.session_format.specs.declared.chain.SessionChain.{SessionChain}
use Rattle.session_format.specs.declared.member.Member.TheVariants as member
use Rattle.session_format.specs.Requests.{data_of, of_data, request_in, request_of}

data_of-read : (line : List ℕ) (d : Data) → IsUtf8 line → read line ≡ Some d → data_of line ≡ Some d
unfolding data_of
data_of-read line d utf8 e = rw (is_utf8-from_IsUtf8 line utf8) e

none_if : (b : Bool) (x : Option Data) → (b ≡ true → x ≡ None) → cond b x None ≡ None
none_if true x h = h refl
none_if false x h = refl

data_of-unread : (line : List ℕ) → (IsUtf8 line → read line ≡ None) → data_of line ≡ None
unfolding data_of
data_of-unread line h = none_if (is_utf8 line) (read line) (λ e. h (IsUtf8-from_is_utf8 line e))

pub request_of-read : (chain : SessionChain) (line : List ℕ) (d : Data) → IsUtf8 line → read line ≡ Some d → request_of chain line ≡ request_in chain d
unfolding request_of
request_of-read chain line d utf8 e = ap (of_data chain) (data_of-read line d utf8 e)

pub request_of-unread : (chain : SessionChain) (line : List ℕ) → (IsUtf8 line → read line ≡ None) → request_of chain line ≡ Err member.Line
unfolding request_of
request_of-unread chain line h = ap (of_data chain) (data_of-unread line h)
