use Rattle.std.proofs.Common.{◌≡◌, ◌++◌, ◌∙◌, ℕ, List, IfOk, sym, ap, subst}
use Rattle.std.specs.Prelude.{codes}
use Rattle.key_custody.specs.declared.status.DeskRefusal.{DeskRefusal}
use Rattle.custody_format.specs.Words.{reason_word}
use Rattle.keymanager_routes.specs.Replies.{message_reply}
use Rattle.keymanager_bodies.specs.Bodies.{merge_refused_reply}
use Rattle.keymanager_bodies.proofs.bodies.merge_refused_reply.Goals as goal

pub returns-in-GenesisDiffers : goal.returns-in-GenesisDiffers
returns-in-GenesisDiffers c =
    let P : DeskRefusal → Type 0 = λ d. IfOk c.of_word.result (λ r. r ≡ merge_refused_reply d) in
    let Q : List ℕ → Type 0 = λ w. IfOk c.of_word.result (λ r. r ≡ message_reply 400 (codes "protection refused: " ++ w)) in
    subst P (sym c.in-GenesisDiffers.is) (subst Q (c.reason_word-word.ensures ∙ ap reason_word c.in-GenesisDiffers.is) c.of_word.ensures)
