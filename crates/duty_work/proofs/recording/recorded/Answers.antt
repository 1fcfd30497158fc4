use Rattle.std.proofs.Common.{List, ◌∙◌, subst, sym}
use Rattle.edge_kit.specs.declared.bytes.PubKey.{PubKey}
use Rattle.slash_defs.specs.declared.message.Message.{Message}
use Rattle.record_join.specs.BooksPasts.{EachOnce}
use Rattle.duty_work.proofs.VoteLemmas.{first_once}
use Rattle.duty_work.proofs.recording.recorded.Goals as goal

pub returns-clause-once : goal.returns-clause-once
returns-clause-once c = subst (λ (l : List (PubKey × Message)). EachOnce l) (sym (c.from_vec.ensures ∙ c.in_ok-first.ensures)) (first_once c.as_slice-3.result.now)
