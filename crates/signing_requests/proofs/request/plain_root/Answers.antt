use Rattle.std.proofs.Common.{◌∙◌}
use Rattle.signing_requests.proofs.ObjectLemmas.{plain_root-said}
use Rattle.signing_requests.proofs.request.plain_root.Goals as goal

pub returns : goal.returns
returns c = c.signing_root.ensures ∙ plain_root-said c.args.domains.now c.args.object.now
