use Rattle.http_wire.proofs.BlankLemmas.{request_text}
use Rattle.http_wire.proofs.heads.RequestTextForm.has_text.Goals as goal

pub returns : goal.returns
returns c = λ e. request_text
