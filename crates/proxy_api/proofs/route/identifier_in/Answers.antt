use Rattle.std.proofs.Common.{◌≡◌, ℕ, List, true, eqb, sym, ap, ◌∙◌}
use Rattle.std.specs.List.{starts_with}
use Rattle.std.proofs.lemmas.List.{take_rest}
use Rattle.proxy_api.specs.Routes.{part_in, sign_path}
use Rattle.proxy_api.proofs.WantedLemmas.{identifier_is}
use Rattle.proxy_api.proofs.route.identifier_in.Goals as goal

pub returns : goal.returns
returns c =
    let path = c.args.path.now in
    let starts : starts_with eqb path sign_path ≡ true = sym (c.starts_with.ensures.value ∙ ap (λ (n : List ℕ). starts_with eqb path n) c.as_bytes.ensures.value) ∙ c.if-not-starts_with.false in
    c.part_in.ensures ∙ ap part_in (take_rest path 18) ∙ sym (identifier_is path starts)
