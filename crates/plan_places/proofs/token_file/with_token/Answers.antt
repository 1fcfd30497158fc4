use Rattle.std.proofs.Common.{String, Vec, Global, string_bytes, map, ◌∙◌, ap}
use Rattle.plan_places.proofs.TokenReplaced.{one_replaced, two_replaced}
use Rattle.plan_places.proofs.token_file.with_token.Goals.{in-Apart, in-Joined}
use Rattle.plan_places.proofs.token_file.with_token.Goals as goal

pub returns : goal.returns
returns c = elim c.match-place.branch [
  | in-Apart w ↦
      let found = rw (w.in-Apart.is, c.as_slice.ensures.value) at c.in-Some.ensures in
      ap (λ (v : Vec (String Global) Global). map string_bytes v.items) w.words-is ∙ two_replaced string_bytes c.args.words.items w.remove.new.self.items w.in-Apart.index c.in_ok-token.token c.args.text.now _ c.in_ok-token.ensures w.remove.ensures.by_index.2 found
  | in-Joined w ↦
      let found = rw (w.in-Joined.is, c.as_slice.ensures.value) at c.in-Some.ensures in
      ap (λ (v : Vec (String Global) Global). map string_bytes v.items) w.words-is ∙ one_replaced string_bytes c.args.words.items w.in-Joined.index c.in_ok-token.token c.args.text.now _ c.in_ok-token.ensures found.0
]
