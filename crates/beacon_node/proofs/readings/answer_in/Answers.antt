use Rattle.std.proofs.Common.{◌≡◌, true, IfOk, IfSome, sym, subst}
use Rattle.node_calls.specs.Fitting.{fits}
use Rattle.node_calls.specs.declared.ask.Ask.{Ask}
use Rattle.beacon_node.proofs.DetailsLemmas.{fits_one}
use Rattle.beacon_node.proofs.readings.answer_in.Goals as goal

pub returns-in-Data-clause-fits : goal.returns-in-Data-clause-fits
returns-in-Data-clause-fits c =
    let P : Ask → Type 0 = λ a. IfOk c.details_in.result (λ found. IfSome found (λ answer. fits a answer ≡ true)) in
    subst P (sym c.in-Data.is) (fits_one c.details_in.result c.in-Data.slot c.in-Data.committee_index c.details_in.ensures.fits)
