use Rattle.std.proofs.Common.{ap, ◌∙◌}
use Rattle.serde_json.specs.Written.{has_float}
use Rattle.keymanager_bodies.proofs.ReplyLemmas.{treated_plain}
use Rattle.keymanager_bodies.proofs.bodies.treated_reply.Goals as goal

pub ok_reply-requires : goal.ok_reply-requires
ok_reply-requires c = ap has_float c.in_ok-value.ensures ∙ treated_plain c.args.statuses.now
