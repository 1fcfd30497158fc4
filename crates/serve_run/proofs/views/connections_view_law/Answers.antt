use Rattle.serve_run.proofs.VisitViews.{all_seen}
use Rattle.serve_run.proofs.views.connections_view_law.Goals as goal

pub returns : goal.returns
returns g c = λ view is see start token genesis_time wanted a b result serves. all_seen g.K.DeskCalls.leads view is see start token genesis_time wanted a b result serves
