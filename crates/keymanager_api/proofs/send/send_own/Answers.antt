use Rattle.std.proofs.Common.{List, ℕ, inl, refl, ap, subst, ◌∙◌, ◌≡◌}
use Rattle.std.specs.Io.KnownBytes.{Appends}
use Rattle.http_wire.specs.declared.message.WireFault.TheVariants as fault
use Rattle.http_wire.proofs.ListenLemmas.{speaks-trans}
use Rattle.keymanager_routes.specs.Replies.{reply_text}
use Rattle.keymanager_api.specs.Serving.{AppendsSome}
use Rattle.keymanager_api.proofs.ServeLemmas.{cause_later, front_some, said_instead, spelled_bare}
use Rattle.keymanager_api.proofs.send.send_own.Goals as goal

pub returns-in-Ok-clause-sends : goal.returns-in-Ok-clause-sends
returns-in-Ok-clause-sends g c =
    let A : List ℕ → Type 0 = λ t. Appends (g.L.Link.held c.args.link.now) (g.L.Link.held c.write_response.new.link) t in
    record { said = c.args.reply; may = inl refl; sent = (ap (λ r. r.status) c.response_of-response.ensures.same, subst A (spelled_bare c.response_of-response.result c.response_of-response.ensures.bare.fields ∙ ap reply_text c.response_of-response.ensures.same) c.in-Ok.ensures.ok) }

pub returns-then-is_link-clause-sends : goal.returns-then-is_link-clause-sends
returns-then-is_link-clause-sends g c =
    let A : List ℕ → Type 0 = λ t. AppendsSome (g.L.Link.held c.args.link.now) (g.L.Link.held c.write_response.new.link) t in
    let is : c.in-Err.fault ≡ fault.Link = c.is_link.ensures.0 c.if-is_link.true in
    let f = rw is at c.in-Err.ensures.fault in
    record { said = c.args.reply; may = inl refl; sent = subst A (spelled_bare c.response_of-response.result c.response_of-response.ensures.bare.fields ∙ ap reply_text c.response_of-response.ensures.same) (front_some _ _ _ (f refl).0) }

pub returns : goal.returns
returns g c =
    let no : c.in-Err.fault ≡ fault.Link → ⊥ = λ e. absurd (cc (c.is_link.ensures.1 e, c.if-is_link.false)) in
    let memory : c.in-Err.fault ≡ fault.OutOfMemory = c.in-Err.ensures.only no in
    let m = rw memory at c.in-Err.ensures.memory in
    record {
      sends = said_instead _ _ _ c.args.reply c.send_memory.result (m refl) c.send_memory.ensures.sends;
      cause = cause_later _ _ _ c.send_memory.result c.in-Err.ensures.speaks.later c.send_memory.ensures.cause;
      speaks = speaks-trans c.in-Err.ensures.speaks c.send_memory.ensures.speaks;
    }
