use Rattle.std.proofs.Common.{ℕ, List, Some, Global, string_bytes, drop, sym, ◌∙◌, ap, arith}
use Rattle.std.proofs.lemmas.List.{length-map}
use Rattle.plan_places.proofs.TokenReplaced.{stripped}
use Rattle.plan_places.proofs.TokenSearch.{word_at}
use Rattle.plan_places.proofs.token_file.token_path.Goals as goal

pub returns-in-Joined : goal.returns-in-Joined
returns-in-Joined c =
    let found = rw c.in-Joined.is at c.in_ok-index.ensures in
    let within = found.0.within in
    let here = word_at string_bytes c.args.words.now c.in-Joined.index c.index-words-index-in-Joined.result c.as_str-in-Joined.result.now (omega (arith, length-map c.args.words.now (string_bytes {Z = Global}))) c.index-words-index-in-Joined.is c.as_str-in-Joined.ensures.value in
    stripped c.as_str-in-Joined.result.now c.strip_prefix.result c.strip_prefix.ensures.cases (rw here.same at found.1) ∙ ap (λ (x : List ℕ). Some (drop 13 x)) (sym here.same) ∙ sym found.0.named
