-- The laws of silence and of what comes again, of a client that served over its desk.
use Rattle.std.proofs.Common.{ℕ, List}
use Rattle.desk_seat.specs.Turns.{calls_of}
use Rattle.keymanager_api.specs.Serving.{LinkSeen}
use Rattle.serve_world.specs.Retrying.{ServeDeletesAgain, ServeImportsAgain}
use Rattle.serve_world.specs.Silence.{ServeSilent, ServeUngranted}
use Rattle.serve_world.specs.Weaving.{done_in}
use Rattle.serve_world.proofs.DeleteAgainLemmas.{deletes_again}
use Rattle.serve_world.proofs.ImportAgainLemmas.{imports_again}
use Rattle.serve_world.proofs.ServiceLemmas.{acts_go}
use Rattle.serve_world.proofs.SilenceLemmas.{stays_ungranted}
use Rattle.serve_world.proofs.SilentLemmas.{stays_silent}

module _ {D C : Type 0} (moment : D → ℕ) (leaves : D → ℕ → List ℕ → Type 0) (faults : D → ℕ) (see : C → LinkSeen) where
  pub serve_ungranted : ServeUngranted moment leaves faults see
  serve_ungranted clock options start opened ended before now result s state stands = stays_ungranted state (calls_of s.shared.log) (s.machine state stands).0

  pub serve_silent : ServeSilent moment leaves faults see
  serve_silent clock options start opened ended before now result s client acts are state stands =
      let g = acts_go moment leaves faults see clock options start opened ended before now result s client acts are state stands in
      stays_silent state (done_in acts) g.runs g.calm

  pub serve_deletes_again : ServeDeletesAgain moment leaves faults see
  serve_deletes_again clock options start opened ended before now result s state stands whole up = deletes_again state s.shared.log (s.machine state stands).0 whole up

  pub serve_imports_again : ServeImportsAgain moment leaves faults see
  serve_imports_again clock options start opened ended before now result s state stands whole up = imports_again state s.shared.log (s.machine state stands).0 whole up
