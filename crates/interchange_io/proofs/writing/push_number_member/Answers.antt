use Rattle.std.proofs.Common.{string_bytes}
use Rattle.interchange_io.proofs.ResultLemmas.{OnOk-map}
use Rattle.interchange_io.proofs.SpellingLemmas.{pieces2}
use Rattle.interchange_io.proofs.writing.push_number_member.Goals as goal

pub returns-clause-text : goal.returns-clause-text
returns-clause-text c =
    OnOk-map c.push_number.result (λ last. pieces2 (string_bytes c.args.out.now) _ _ _ _ c.in_ok-push_text.ensures last) c.push_number.ensures

pub returns-clause-fits : goal.returns-clause-fits
returns-clause-fits c = OnOk-map c.push_number.result (λ last. c.ranges.number.fits) c.push_number.ensures
