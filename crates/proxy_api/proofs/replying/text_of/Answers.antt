use Rattle.std.proofs.Common.{List, ℕ, ◌++◌, ap, ◌∙◌}
use Rattle.http_wire.specs.Spellings.{spelled_response}
use Rattle.keymanager_routes.specs.Replies.{reply_text}
use Rattle.keymanager_api.proofs.ServeLemmas.{spelled_bare}
use Rattle.proxy_api.proofs.replying.text_of.Goals as goal

pub returns-in-Ok : goal.returns-in-Ok
returns-in-Ok c =
    let response = c.response_of-response in
    c.into_sent.ensures ∙ c.in-Ok.ensures.ok ∙ ap (λ (l : List ℕ). l ++ spelled_response response.result) c.in_ok-spelled.ensures.held ∙ spelled_bare response.result response.ensures.bare.fields ∙ ap reply_text response.ensures.same
