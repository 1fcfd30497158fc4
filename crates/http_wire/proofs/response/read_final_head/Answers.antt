use Rattle.std.proofs.Common.{ℕ, ◌+◌, ◌*◌, ◌≤◌, List, refl, sym, subst, ◌∙◌, arith}
use Rattle.httparse.specs.Grammar.{ResponseHead}
use Rattle.http_wire.specs.Heads.{SpellsResponseHead, head_limit}
use Rattle.http_wire.specs.Messages.{HasResponseHead}
use Rattle.http_wire.proofs.ListenLemmas.{listens-trans}
use Rattle.http_wire.proofs.TakeLemmas.{took_any, at_most_more}
use Rattle.http_wire.proofs.ResponseLemmas.{head_taken, interim_more, final_head, head_stuck}
use Rattle.http_wire.proofs.response.read_final_head.Goals as goal

pub returns-in-Err-Stuck-clause-step : goal.returns-in-Err-Stuck-clause-step
returns-in-Err-Stuck-clause-step g c =
    let few : c.heads.counter ≤ 8 = omega arith in
    let t = rw c.in-Err-Stuck.field-0-is at c.in-Err-Stuck.ensures.stuck in
    head_stuck _ _ _ c.heads.counter (t refl).0 c.heads.invariant.interim few (t refl).1 (t refl).2

pub returns-in-Err-Link-clause-step : goal.returns-in-Err-Link-clause-step
returns-in-Err-Link-clause-step g c = took_any _ _ _ _ _ c.heads.invariant.interim c.in-Err-Link.ensures.bound

pub returns-in-Err-Memory-clause-step : goal.returns-in-Err-Memory-clause-step
returns-in-Err-Memory-clause-step g c = took_any _ _ _ _ _ c.heads.invariant.interim c.in-Err-Memory.ensures.bound

pub returns-in-Err-clause-step : goal.returns-in-Err-clause-step
returns-in-Err-clause-step g c = took_any _ _ _ _ _ c.heads.invariant.interim c.read_form.ensures.bound

pub returns-then-not-is_passed_over-clause-step : goal.returns-then-not-is_passed_over-clause-step
returns-then-not-is_passed_over-clause-step g c =
    let r = c.in-Ok-response_of.response in
    let few : c.heads.counter ≤ 8 = omega arith in
    let T : List ℕ → Type 0 = λ t. (h : ResponseHead) × SpellsResponseHead t h × HasResponseHead h r in
    let h = subst T c.as_slice.ensures.value c.in-Ok-response_of.ensures.head in
    let head = head_taken (g.L.Link.left c.heads.link) (g.L.Link.left c.read_form.new.link) c.in-Ok.text.items r c.in-Ok.ensures.form.0 c.in-Ok.ensures.form.1 h in
    final_head _ _ _ c.heads.counter r c.heads.invariant.interim few head (sym c.is_passed_over.ensures ∙ c.if-not-is_passed_over.true)

pub heads-preserved : goal.heads-preserved
heads-preserved g c =
    let r = c.in-Ok-response_of.response in
    let T : List ℕ → Type 0 = λ t. (h : ResponseHead) × SpellsResponseHead t h × HasResponseHead h r in
    let h = subst T c.as_slice.ensures.value c.in-Ok-response_of.ensures.head in
    let head = head_taken (g.L.Link.left c.heads.link) (g.L.Link.left c.read_form.new.link) c.in-Ok.text.items r c.in-Ok.ensures.form.0 c.in-Ok.ensures.form.1 h in
    record {
      interim = interim_more _ _ _ c.heads.counter r c.heads.invariant.interim head (sym c.is_passed_over.ensures ∙ c.if-not-is_passed_over.false);
      bound = at_most_more _ _ _ (c.heads.counter * head_limit) head_limit ((c.heads.counter + 1) * head_limit) c.heads.invariant.bound c.read_form.ensures.bound (omega arith);
      listens = listens-trans c.heads.invariant.listens c.read_form.ensures.listens;
    }

pub returns-in-Err-Stuck-clause-bound : goal.returns-in-Err-Stuck-clause-bound
returns-in-Err-Stuck-clause-bound g c = at_most_more _ _ _ (c.heads.counter * head_limit) head_limit (9 * head_limit) c.heads.invariant.bound c.read_form.ensures.bound (omega arith)

pub returns-in-Err-Link-clause-bound : goal.returns-in-Err-Link-clause-bound
returns-in-Err-Link-clause-bound g c = at_most_more _ _ _ (c.heads.counter * head_limit) head_limit (9 * head_limit) c.heads.invariant.bound c.read_form.ensures.bound (omega arith)

pub returns-in-Err-Memory-clause-bound : goal.returns-in-Err-Memory-clause-bound
returns-in-Err-Memory-clause-bound g c = at_most_more _ _ _ (c.heads.counter * head_limit) head_limit (9 * head_limit) c.heads.invariant.bound c.read_form.ensures.bound (omega arith)

pub returns-in-Err-clause-bound : goal.returns-in-Err-clause-bound
returns-in-Err-clause-bound g c = at_most_more _ _ _ (c.heads.counter * head_limit) head_limit (9 * head_limit) c.heads.invariant.bound c.read_form.ensures.bound (omega arith)

pub returns-then-not-is_passed_over-clause-bound : goal.returns-then-not-is_passed_over-clause-bound
returns-then-not-is_passed_over-clause-bound g c = at_most_more _ _ _ (c.heads.counter * head_limit) head_limit (9 * head_limit) c.heads.invariant.bound c.read_form.ensures.bound (omega arith)
