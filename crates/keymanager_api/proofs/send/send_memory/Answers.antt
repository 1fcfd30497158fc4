use Rattle.std.proofs.Common.{List, ℕ, refl, subst, ◌∙◌}
use Rattle.std.specs.Io.KnownBytes.{Appends}
use Rattle.keymanager_api.specs.Serving.{AppendsSome, memory_reply}
use Rattle.keymanager_api.proofs.ServeLemmas.{memory_text}
use Rattle.keymanager_api.proofs.send.send_memory.Goals as goal

pub returns-in-Ok-clause-sends : goal.returns-in-Ok-clause-sends
returns-in-Ok-clause-sends g c =
    let A : List ℕ → Type 0 = λ t. Appends (g.L.Link.held c.args.link.now) (g.L.Link.held c.send_all.new.link) t in
    record { said = memory_reply; may = refl; sent = (refl, subst A (c.as_bytes.ensures.value ∙ memory_text) c.in-Ok.ensures.ok) }

pub returns-in-Err-clause-sends : goal.returns-in-Err-clause-sends
returns-in-Err-clause-sends g c =
    let A : List ℕ → Type 0 = λ t. AppendsSome (g.L.Link.held c.args.link.now) (g.L.Link.held c.send_all.new.link) t in
    record { said = memory_reply; may = refl; sent = subst A (c.as_bytes.ensures.value ∙ memory_text) c.in-Err.ensures.err }
