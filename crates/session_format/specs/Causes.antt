-- Why a granted proposal has no signature, as JSON.
use Rattle.std.specs.Prelude.{ℕ, List, take, codes, decimal}
use Rattle.hex.specs.Hex.{encode_lower}
use Rattle.serde_json.specs.Data.{Data, string, object, Members, member, no_members}
use Rattle.session_format.specs.declared.cause.Cause.{Cause}
use Rattle.session_format.specs.declared.cause.Cause.TheVariants as cause

-- the bytes that are shown of a body that is no answer: the first 256
abbrev pub shown_bytes : List ℕ → List ℕ
shown_bytes body = take 256 body

-- unsigned for this cause, with further members after it
abbrev pub unsigned_for : List ℕ → Members → Data
unsigned_for name others =
    object (member (codes "answer") (string (codes "unsigned")) (member (codes "cause") (string name) others))

abbrev pub cause_data : Cause → Data
cause_data cause.NoKey = unsigned_for (codes "no_key") no_members
cause_data (cause.Denied status) = unsigned_for (codes "denied") (member (codes "status") (string (decimal status)) no_members)
cause_data cause.Fault = unsigned_for (codes "fault") no_members
cause_data (cause.BadAnswer body) =
    object (member (codes "answer") (string (codes "unsigned"))
    (member (codes "body") (string (encode_lower (shown_bytes body)))
    (member (codes "cause") (string (codes "bad_answer")) no_members)))
