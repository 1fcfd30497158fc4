-- The members of a request's body.
use Rattle.std.specs.Prelude.{ℕ, List, Option, Some, None, option_and_then, is_some, ok_or, Result, Ok, Err, if◌then◌else◌}
use Rattle.edge_kit.specs.declared.bytes.PubKey.{PubKey}
use Rattle.serde_json.specs.Data.{Data, null, string}
use Rattle.serde_json.specs.Find.{get, as_object}
use Rattle.json_members.specs.Reading.{json_of}
use Rattle.custody_format.specs.Lists as lists
use Rattle.keymanager_routes.specs.Members.{member_name}
use Rattle.keymanager_routes.specs.declared.member.Member.{Member}
use Rattle.keymanager_routes.specs.declared.member.Member.TheVariants as member

-- the value, where it is an object
abbrev pub object_in : Option Data → Result Data Member
object_in None = Err member.Body
object_in (Some d) = if is_some (as_object d) then Ok d else Err member.Body

-- the JSON object that a body is
abbrev pub object_of : List ℕ → Result Data Member
object_of body = object_in (json_of body)

-- the texts of a list
abbrev pub texts_in : Member → Data → Result (List (List ℕ)) Member
texts_in m d = ok_or (lists.texts_in (member_name m) d) m

-- the keys of a list, each a text of `0x` and 96 hex digits
abbrev pub keys_in : Member → Data → Result (List PubKey) Member
keys_in m d = ok_or (option_and_then lists.keys_of (get (member_name m) d)) m

-- the text of a member that may be absent, or null
abbrev pub text_or_null : Member → Option Data → Result (Option (List ℕ)) Member
text_or_null m None = Ok None
text_or_null m (Some null) = Ok None
text_or_null m (Some (string text)) = Ok (Some text)
text_or_null m (Some d) = Err m

abbrev pub optional_text_in : Member → Data → Result (Option (List ℕ)) Member
optional_text_in m d = text_or_null m (get (member_name m) d)
