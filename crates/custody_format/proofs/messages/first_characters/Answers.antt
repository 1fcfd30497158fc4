use Rattle.std.proofs.lemmas.Str.{IsUtf8-past_char}
use Rattle.custody_format.proofs.CharacterLemmas.{shown_more, shown_all}
use Rattle.custody_format.proofs.messages.first_characters.Goals as goal

pub characters-preserved : goal.characters-preserved
characters-preserved c =
    let utf8 = c.characters.invariant.0 in
    let is = c.in-Some.ensures.steps.0.0 in (
      IsUtf8-past_char _ _ c.in-Some.character utf8 is,
      shown_more _ _ _ _ _ _ _ c.in-Some.character utf8 c.characters.invariant.1 is c.in-Some.ensures.steps.1 c.in_ok-push.ensures.bytes,
    )

pub returns : goal.returns
returns c = shown_all _ _ _ _ c.characters.invariant.1 (λ p. (c.in-None.ensures.steps p).0.0)
