use Rattle.std.proofs.Common.{◌≡◌, None, sym, subst}
use Rattle.std.specs.Result.{result_ok}
use Rattle.call_plans.specs.Plans.{Done}
use Rattle.http_wire.specs.declared.message.WireFault.TheVariants as fault
use Rattle.keymanager_api.specs.Plans.{faulty_plan}
use Rattle.keymanager_api.specs.Serving.{Sends}
use Rattle.keymanager_api.specs.declared.serve.Served.{Served}
use Rattle.keymanager_api.proofs.RunLemmas.{if_some}
use Rattle.keymanager_api.proofs.ServeLemmas.{dropped, sends_later}
use Rattle.keymanager_api.proofs.serve.finish_faulty.Goals as goal

pub returns-then-is_link-clause-ends : goal.returns-then-is_link-clause-ends
returns-then-is_link-clause-ends g c =
    let is : c.args.fault ≡ fault.Link = c.is_link.ensures.0 c.if-is_link.true in
    record {
      reply = None;
      plan = tt;
      sends = λ counted l r.
          let S : Served → Type 0 = λ s. Sends (g.L.Link.held c.args.link.now) (g.L.Link.held c.drop_link.new.link) counted (g.L.Link.faults c.drop_link.new.link) None s in
          subst S (sym c.drop_link.ensures.dropped) (dropped _ _ counted _ _ c.drop_link.ensures.held (r is) c.drop_link.ensures.later);
      failed = λ e. c.drop_link.ensures.dropped;
    }

pub returns-clause-ends : goal.returns-clause-ends
returns-clause-ends g c =
    let no : c.args.fault ≡ fault.Link → ⊥ = λ e. absurd (cc (c.is_link.ensures.1 e, c.if-is_link.false)) in
    record {
      reply = result_ok c.fault_reply-reply.result;
      plan = if_some (λ r. faulty_plan c.args.fault ≡ Done r) c.fault_reply-reply.result c.fault_reply-reply.ensures.plan;
      sends = λ counted l r. sends_later _ _ counted _ _ _ _ l c.finish.ensures.sends;
      failed = λ e. absurd (no e);
    }
