use Rattle.std.proofs.Common.{◌∙◌, sym, append_assoc, codes, decimal}
use Rattle.service_url.proofs.service.authority_text.Goals as goal

pub returns : goal.returns
returns c = rw c.in-Some.is (c.in_ok-text.ensures.ok ∙ sym (append_assoc c.args.host.now (codes ":") (decimal c.in-Some.port)))
