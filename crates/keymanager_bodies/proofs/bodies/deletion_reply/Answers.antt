use Rattle.std.proofs.Common.{ap, ◌∙◌}
use Rattle.interchange_io.specs.Writing.{file_text}
use Rattle.serde_json.specs.Written.{has_float}
use Rattle.keymanager_bodies.proofs.ReplyLemmas.{deletion_plain}
use Rattle.keymanager_bodies.proofs.bodies.deletion_reply.Goals as goal

pub ok_reply-requires : goal.ok_reply-requires
ok_reply-requires c = ap has_float c.in_ok-value.ensures ∙ deletion_plain c.as_slice.result.now (file_text c.args.deletion.now.file)
