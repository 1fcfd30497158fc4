use Rattle.serve_run.proofs.TurnViews.{turns_seen}
use Rattle.serve_run.proofs.views.turns_view_law.Goals as goal

pub returns : goal.returns
returns g c = λ view is start setup a b value runs. turns_seen g.K.DeskCalls.leads view is start setup a b value runs
