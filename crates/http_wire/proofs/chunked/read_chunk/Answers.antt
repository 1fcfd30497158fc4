use Rattle.std.proofs.Common.{ℕ, ◌+◌, ◌<◌, ◌≤◌, length, refl, subst, arith}
use Rattle.http_wire.specs.Framings.{body_limit}
use Rattle.http_wire.specs.Heads.{head_limit}
use Rattle.http_wire.proofs.StepLemmas.{TookSize, trailer_read, trailer_stuck, stops_short, chunk_read, crlf_stuck}
use Rattle.http_wire.proofs.TakeLemmas.{took_any, took_any_after, at_most_more}
use Rattle.http_wire.proofs.chunked.read_chunk.Goals as goal

pub returns-in-Ok-read_trailer-clause-step : goal.returns-in-Ok-read_trailer-clause-step
returns-in-Ok-read_trailer-clause-step g c =
    let S : ℕ → Type 0 = TookSize (g.L.Link.left c.args.link.now) (g.L.Link.left c.read_size.new.link) in
    let t = c.in-Ok-read_trailer.ensures.ok in
    trailer_read _ _ _ c.args.body.now.items t.bytes (subst S c.if-size-eq0.true c.in-Ok.ensures.size) t.taken t.holds

pub returns-in-Err-Stuck-read_trailer-clause-step : goal.returns-in-Err-Stuck-read_trailer-clause-step
returns-in-Err-Stuck-read_trailer-clause-step g c =
    let S : ℕ → Type 0 = TookSize (g.L.Link.left c.args.link.now) (g.L.Link.left c.read_size.new.link) in
    let t = rw c.in-Err-Stuck-read_trailer.field-0-is at c.in-Err-Stuck-read_trailer.ensures.stuck in
    trailer_stuck (length c.args.body.now.items) _ _ _ (t refl).bytes (subst S c.if-size-eq0.true c.in-Ok.ensures.size) (t refl).taken (t refl).holds

pub returns-in-Err-Link-read_trailer-clause-step : goal.returns-in-Err-Link-read_trailer-clause-step
returns-in-Err-Link-read_trailer-clause-step g c = took_any _ _ _ _ _ c.in-Ok.ensures.size c.in-Err-Link-read_trailer.ensures.bound

pub returns-in-Err-Memory-read_trailer-clause-step : goal.returns-in-Err-Memory-read_trailer-clause-step
returns-in-Err-Memory-read_trailer-clause-step g c = took_any _ _ _ _ _ c.in-Ok.ensures.size c.in-Err-Memory-read_trailer.ensures.bound

pub returns-in-Err-Stuck-read_sized-clause-step : goal.returns-in-Err-Stuck-read_sized-clause-step
returns-in-Err-Stuck-read_sized-clause-step g c =
    let t = rw c.in-Err-Stuck-read_sized.field-0-is at c.in-Err-Stuck-read_sized.ensures.stuck in
    let within : length c.args.body.now.items + c.in-Ok.size ≤ body_limit = omega (arith, c.requires) in
    stops_short (length c.args.body.now.items) _ _ _ c.in-Ok.size c.in-Ok.ensures.size within (t refl)

pub returns-in-Err-Link-read_sized-clause-step : goal.returns-in-Err-Link-read_sized-clause-step
returns-in-Err-Link-read_sized-clause-step g c = took_any _ _ _ _ _ c.in-Ok.ensures.size c.in-Err-Link-read_sized.ensures.bound

pub returns-in-Err-Memory-read_sized-clause-step : goal.returns-in-Err-Memory-read_sized-clause-step
returns-in-Err-Memory-read_sized-clause-step g c = took_any _ _ _ _ _ c.in-Ok.ensures.size c.in-Err-Memory-read_sized.ensures.bound

pub returns-in-Ok-read_end-clause-step : goal.returns-in-Ok-read_end-clause-step
returns-in-Ok-read_end-clause-step g c =
    let some : 0 < c.in-Ok.size = omega arith in
    let within : length c.args.body.now.items + c.in-Ok.size ≤ body_limit = omega (arith, c.requires) in
    chunk_read _ _ _ _ c.in-Ok.size _ _ _ c.in-Ok.ensures.size some within c.in-Ok-read_sized.ensures.ok c.in-Ok-read_end.ensures.ok refl

pub returns-in-Err-Stuck-read_end-clause-step : goal.returns-in-Err-Stuck-read_end-clause-step
returns-in-Err-Stuck-read_end-clause-step g c =
    let some : 0 < c.in-Ok.size = omega arith in
    let t = rw c.in-Err-Stuck-read_end.field-0-is at c.in-Err-Stuck-read_end.ensures.stuck in
    let within : length c.args.body.now.items + c.in-Ok.size ≤ body_limit = omega (arith, c.requires) in
    crlf_stuck _ _ _ _ c.in-Ok.size _ _ (t refl).bytes c.in-Ok.ensures.size some within c.in-Ok-read_sized.ensures.ok (t refl).taken (t refl).holds

pub returns-in-Err-Link-read_end-clause-step : goal.returns-in-Err-Link-read_end-clause-step
returns-in-Err-Link-read_end-clause-step g c =
    let gains = c.in-Ok-read_sized.ensures.ok in
    took_any_after _ _ _ _ _ _ gains.bytes c.in-Ok.ensures.size gains.taken c.in-Err-Link-read_end.ensures.bound

pub returns-in-Err-Memory-read_end-clause-step : goal.returns-in-Err-Memory-read_end-clause-step
returns-in-Err-Memory-read_end-clause-step g c =
    let gains = c.in-Ok-read_sized.ensures.ok in
    took_any_after _ _ _ _ _ _ gains.bytes c.in-Ok.ensures.size gains.taken c.in-Err-Memory-read_end.ensures.bound

pub returns-in-Ok-read_trailer-clause-bound : goal.returns-in-Ok-read_trailer-clause-bound
returns-in-Ok-read_trailer-clause-bound g c = at_most_more _ _ _ head_limit head_limit _ c.read_size.ensures.bound c.read_trailer.ensures.bound (omega arith)

pub returns-in-Err-Stuck-read_trailer-clause-bound : goal.returns-in-Err-Stuck-read_trailer-clause-bound
returns-in-Err-Stuck-read_trailer-clause-bound g c = at_most_more _ _ _ head_limit head_limit _ c.read_size.ensures.bound c.read_trailer.ensures.bound (omega arith)

pub returns-in-Err-Link-read_trailer-clause-bound : goal.returns-in-Err-Link-read_trailer-clause-bound
returns-in-Err-Link-read_trailer-clause-bound g c = at_most_more _ _ _ head_limit head_limit _ c.read_size.ensures.bound c.read_trailer.ensures.bound (omega arith)

pub returns-in-Err-Memory-read_trailer-clause-bound : goal.returns-in-Err-Memory-read_trailer-clause-bound
returns-in-Err-Memory-read_trailer-clause-bound g c = at_most_more _ _ _ head_limit head_limit _ c.read_size.ensures.bound c.read_trailer.ensures.bound (omega arith)

pub returns-in-Err-Stuck-read_sized-clause-bound : goal.returns-in-Err-Stuck-read_sized-clause-bound
returns-in-Err-Stuck-read_sized-clause-bound g c = at_most_more _ _ _ head_limit c.in-Ok.size _ c.read_size.ensures.bound c.read_sized.ensures.bound (omega (arith, c.requires))

pub returns-in-Err-Link-read_sized-clause-bound : goal.returns-in-Err-Link-read_sized-clause-bound
returns-in-Err-Link-read_sized-clause-bound g c = at_most_more _ _ _ head_limit c.in-Ok.size _ c.read_size.ensures.bound c.read_sized.ensures.bound (omega (arith, c.requires))

pub returns-in-Err-Memory-read_sized-clause-bound : goal.returns-in-Err-Memory-read_sized-clause-bound
returns-in-Err-Memory-read_sized-clause-bound g c = at_most_more _ _ _ head_limit c.in-Ok.size _ c.read_size.ensures.bound c.read_sized.ensures.bound (omega (arith, c.requires))

pub returns-in-Ok-read_end-clause-bound : goal.returns-in-Ok-read_end-clause-bound
returns-in-Ok-read_end-clause-bound g c =
    let two = at_most_more _ _ _ head_limit c.in-Ok.size (head_limit + c.in-Ok.size) c.read_size.ensures.bound c.read_sized.ensures.bound (omega arith) in
    at_most_more _ _ _ (head_limit + c.in-Ok.size) 2 _ two c.read_end.ensures.bound (omega (arith, c.requires))

pub returns-in-Err-Stuck-read_end-clause-bound : goal.returns-in-Err-Stuck-read_end-clause-bound
returns-in-Err-Stuck-read_end-clause-bound g c =
    let two = at_most_more _ _ _ head_limit c.in-Ok.size (head_limit + c.in-Ok.size) c.read_size.ensures.bound c.read_sized.ensures.bound (omega arith) in
    at_most_more _ _ _ (head_limit + c.in-Ok.size) 2 _ two c.read_end.ensures.bound (omega (arith, c.requires))

pub returns-in-Err-Link-read_end-clause-bound : goal.returns-in-Err-Link-read_end-clause-bound
returns-in-Err-Link-read_end-clause-bound g c =
    let two = at_most_more _ _ _ head_limit c.in-Ok.size (head_limit + c.in-Ok.size) c.read_size.ensures.bound c.read_sized.ensures.bound (omega arith) in
    at_most_more _ _ _ (head_limit + c.in-Ok.size) 2 _ two c.read_end.ensures.bound (omega (arith, c.requires))

pub returns-in-Err-Memory-read_end-clause-bound : goal.returns-in-Err-Memory-read_end-clause-bound
returns-in-Err-Memory-read_end-clause-bound g c =
    let two = at_most_more _ _ _ head_limit c.in-Ok.size (head_limit + c.in-Ok.size) c.read_size.ensures.bound c.read_sized.ensures.bound (omega arith) in
    at_most_more _ _ _ (head_limit + c.in-Ok.size) 2 _ two c.read_end.ensures.bound (omega (arith, c.requires))
