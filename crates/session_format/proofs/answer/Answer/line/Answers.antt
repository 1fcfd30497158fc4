use Rattle.std.proofs.Common.{◌∙◌, ap, ◌++◌, [], ◌∷◌, string_bytes, lit<}
use Rattle.serde_json.specs.Written.{has_float, compact_text}
use Rattle.session_format.specs.Answers.{answer_text}
use Rattle.session_format.proofs.AnswerLemmas.{no_float}
use Rattle.session_format.proofs.answer.Answer.line.Goals as goal

pub returns : goal.returns
unfolding answer_text
returns c = c.in_ok-push.ensures.bytes ∙ ap (λ e. string_bytes c.in_ok-text.text ++ e) (c.in_ok-push.ensures.ascii (lit< tt)) ∙ ap (λ t. t ++ 10 ∷ []) (c.in_ok-text.ensures.text (ap has_float c.in_ok-value.ensures ∙ no_float c.args.self.now) ∙ ap compact_text c.in_ok-value.ensures)
