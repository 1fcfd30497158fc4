use Rattle.std.proofs.Common.{[], sym, ◌∙◌}
use Rattle.command_line.proofs.ServingLemmas.{rest_of-next}
use Rattle.command_line.proofs.serving.read_services.Goals as goal

pub texts-preserved : goal.texts-preserved
texts-preserved c =
    rest_of-next c.texts.services.items c.push.new.self.items c.args.texts.now c.texts.text-index (record { ref_ptr = (0, 0); now = [] }) c.in-Some.service
    c.texts-test.true (sym c.in_ok-service.ensures ∙ c.in-Some.is) c.in_ok-push.ensures.items c.texts.invariant
