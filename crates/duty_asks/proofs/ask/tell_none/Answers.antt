use Rattle.std.proofs.Common.{refl, ◌∙◌}
use Rattle.duty_asks.proofs.QuietLemmas.{tells_so}
use Rattle.duty_asks.proofs.ask.tell_none.Goals as goal

pub returns : goal.returns
returns g c = λ s at ns. tells_so ns _ _ s c.args.slot _ c.write_text.result _ at (c.as_bytes.ensures.value ∙ c.in-Ok.ensures) refl c.write_text.ensures
