use Rattle.std.proofs.Common.{ap, ◌∙◌}
use Rattle.serde_json.specs.Written.{has_float}
use Rattle.keymanager_bodies.proofs.ReplyLemmas.{listed_plain}
use Rattle.keymanager_bodies.proofs.bodies.listed_reply.Goals as goal

pub ok_reply-requires : goal.ok_reply-requires
ok_reply-requires c = ap has_float c.in_ok-value.ensures ∙ listed_plain c.args.keys.now
