use Rattle.std.proofs.Common.{Global, string_bytes, sym, ◌∙◌, arith}
use Rattle.std.proofs.lemmas.List.{length-map}
use Rattle.plan_places.proofs.TokenSearch.{apart, ended, joined, passed, passed_last, word_at}
use Rattle.plan_places.proofs.token_file.place_of.Goals.{else-eq-2-via-then-eq-2+else-index-words, else-eq-2-via-else-eq-2}
use Rattle.plan_places.proofs.token_file.place_of.Goals as goal

pub returns-then-eq : goal.returns-then-eq
returns-then-eq c =
    let here = word_at string_bytes c.args.words.now c.words.index c.index-words-index.result c.as_str-word.result.now c.words-test.true c.index-words-index.is c.as_str-word.ensures.value in
    ended _ _ _ c.words.invariant here (sym c.eq.ensures ∙ c.if-eq.true)

pub returns-then-is_joined : goal.returns-then-is_joined
returns-then-is_joined c =
    let here = word_at string_bytes c.args.words.now c.words.index c.index-words-index.result c.as_str-word.result.now c.words-test.true c.index-words-index.is c.as_str-word.ensures.value in
    joined _ _ _ c.words.invariant here (sym c.eq.ensures ∙ c.if-eq.false) (sym c.is_joined.ensures ∙ c.if-is_joined.true)

pub returns-then-index-words : goal.returns-then-index-words
returns-then-index-words c =
    let here = word_at string_bytes c.args.words.now c.words.index c.index-words-index.result c.as_str-word.result.now c.words-test.true c.index-words-index.is c.as_str-word.ensures.value in
    apart _ _ _ c.words.invariant here (omega (arith, length-map c.args.words.now (string_bytes {Z = Global}))) (sym c.eq.ensures ∙ c.if-eq.false) (sym c.is_joined.ensures ∙ c.if-is_joined.false) (sym c.eq-in-words.ensures ∙ c.if-eq-2.true)

pub words-preserved : goal.words-preserved
words-preserved c =
    let here = word_at string_bytes c.args.words.now c.words.index c.index-words-index.result c.as_str-word.result.now c.words-test.true c.index-words-index.is c.as_str-word.ensures.value in
    let goes_on = sym c.eq.ensures ∙ c.if-eq.false in
    let other = sym c.is_joined.ensures ∙ c.if-is_joined.false in
    elim c.else-eq-2.branch [
      | else-eq-2-via-then-eq-2+else-index-words w ↦ passed_last _ _ _ c.words.invariant here (omega (arith, length-map c.args.words.now (string_bytes {Z = Global}))) goes_on other (sym c.eq-in-words.ensures ∙ w.if-eq-2.true)
      | else-eq-2-via-else-eq-2 w ↦ passed _ _ _ c.words.invariant here goes_on other (sym c.eq-in-words.ensures ∙ w.if-eq-2.false)
    ]
