use Rattle.std.proofs.Common.{◌*◌, ◌+◌, List, true, Ok, Err, arith, subst}
use Rattle.http_wire.specs.declared.field.Field.{Field}
use Rattle.http_wire.specs.Parts.{parts_of}
use Rattle.http_wire.specs.Heads.{head_limit}
use Rattle.http_wire.specs.Bounds.{chunked_limit}
use Rattle.http_wire.specs.Steps.{Took}
use Rattle.http_wire.specs.Plain.{PlainStep}
use Rattle.http_wire.proofs.ResponseLemmas.{response_read, response_faulty}
use Rattle.http_wire.proofs.TakeLemmas.{at_most_within, at_most_more}
use Rattle.http_wire.proofs.response.read_response.Goals as goal

pub returns-in-Ok-read_plain_body-clause-step : goal.returns-in-Ok-read_plain_body-clause-step
returns-in-Ok-read_plain_body-clause-step g c =
    let r = c.in-Ok.response in
    let B : List Field → Type 0 = λ fields. Took (g.L.Link.left c.read_final_head.new.link) (g.L.Link.left c.read_plain_body.new.link) (PlainStep true (parts_of fields) (g.L.Link.left c.read_plain_body.new.link) (Ok tt) c.read_plain_body.new.body.items) in
    response_read _ _ _ r c.read_plain_body.new.body c.in-Ok.ensures.step (subst B c.as_slice.ensures.value c.in-Ok-read_plain_body.ensures.step)

pub returns-in-Err-read_plain_body-clause-step : goal.returns-in-Err-read_plain_body-clause-step
returns-in-Err-read_plain_body-clause-step g c =
    let r = c.in-Ok.response in
    let B : List Field → Type 0 = λ fields. Took (g.L.Link.left c.read_final_head.new.link) (g.L.Link.left c.read_plain_body.new.link) (PlainStep true (parts_of fields) (g.L.Link.left c.read_plain_body.new.link) (Err c.in-Err-read_plain_body.fault) c.read_plain_body.new.body.items) in
    response_faulty _ _ _ r c.read_plain_body.new.body.items c.in-Err-read_plain_body.fault c.in-Ok.ensures.step (subst B c.as_slice.ensures.value c.in-Err-read_plain_body.ensures.step)

pub returns-in-Ok-read_plain_body-clause-bound : goal.returns-in-Ok-read_plain_body-clause-bound
returns-in-Ok-read_plain_body-clause-bound g c = at_most_more _ _ _ (9 * head_limit) chunked_limit (9 * head_limit + chunked_limit) c.read_final_head.ensures.bound c.read_plain_body.ensures.bound (omega arith)

pub returns-in-Err-read_plain_body-clause-bound : goal.returns-in-Err-read_plain_body-clause-bound
returns-in-Err-read_plain_body-clause-bound g c = at_most_more _ _ _ (9 * head_limit) chunked_limit (9 * head_limit + chunked_limit) c.read_final_head.ensures.bound c.read_plain_body.ensures.bound (omega arith)

pub returns-in-Err-clause-bound : goal.returns-in-Err-clause-bound
returns-in-Err-clause-bound g c = at_most_within _ _ (9 * head_limit) _ c.read_final_head.ensures.bound (omega arith)
