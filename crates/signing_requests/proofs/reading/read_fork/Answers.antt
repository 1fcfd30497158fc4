use Rattle.std.proofs.Common.{Ok, sym, ap, ◌∙◌}
use Rattle.phase0_types.specs.Faults.{read_as}
use Rattle.phase0_types.specs.Forks.{fork_value}
use Rattle.signing_requests.specs.Objects.{fork_from}
use Rattle.signing_requests.specs.declared.member.SigningMember.TheVariants as member
use Rattle.signing_requests.proofs.ObjectLemmas.{fork_from-value, shaped-read}
use Rattle.signing_requests.proofs.reading.read_fork.Goals as goal

pub returns-in-Ok : goal.returns-in-Ok
returns-in-Ok c =
    shaped-read member.Fork fork_from (fork_value c.in-Ok.fork) _ (sym (ap (read_as fork_value) c.in-Ok.is) ∙ c.in_ok-fork.ensures)
    ∙ ap Ok (fork_from-value c.in-Ok.fork)
