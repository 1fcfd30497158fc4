use Rattle.http_wire.proofs.BlankLemmas.{response_text}
use Rattle.http_wire.proofs.heads.ResponseTextForm.has_text.Goals as goal

pub returns : goal.returns
returns c = λ e. response_text
