-- The members of a JSON object that is being built, in the order of their names (RFC 8259).
use Rattle.serde_json.specs.Data.{Members}
use Rattle.serde_json.specs.View.{members_view}
use Rattle.json_members.specs.declared.object.Object.{Object}

abbrev pub built : Object → Members
built o = members_view o.members.entries
