use Rattle.std.proofs.Common.{length, refl}
use Rattle.edge_kit.proofs.TextLemmas.{hex_bytes-hex_text}
use Rattle.edge_kit.proofs.text.hex_law.Goals as goal

pub returns : goal.returns
returns c = λ bytes fit. hex_bytes-hex_text (length bytes) bytes refl fit
