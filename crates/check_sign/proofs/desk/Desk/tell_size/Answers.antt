use Rattle.std.specs.Prelude.{◌≡◌, ℕ}
use Rattle.std.proofs.Common.{◌∙◌, subst}
use Rattle.record_journal.specs.Journals.{journal_size}
use Rattle.desk_machine.specs.declared.call.DeskCall.TheVariants as DeskCall
use Rattle.desk_machine.specs.declared.call.DeskReply.TheVariants as reply
use Rattle.check_sign.specs.Calls.{IsOwn}
use Rattle.check_sign.specs.Contents.{Seen}
use Rattle.desk_parts.specs.Weights.{desk_weight}
use Rattle.check_sign.proofs.MachineLemmas.{opened}
use Rattle.check_sign.proofs.WeightLemmas.{weight_stands}
use Rattle.check_sign.proofs.desk.Desk.tell_size.Goals as goal

pub returns-clause-machine : goal.returns-clause-machine
returns-clause-machine g c = λ state stands.
    let s = opened c.args.self.now _ state c.self.view_is stands in
    ((c.size.ensures.size ∙ s.size, c.weigh.ensures ∙ weight_stands _ state s), stands)

abbrev Told : {D : Type 0} → Seen D → ℕ → ℕ → Type 0
Told desk size weight = (size ≡ desk.contents.size) × (size ≡ journal_size desk.contents.payloads) × (weight ≡ desk_weight desk.contents.keys)

told : {D : Type 0} (desk seen : Seen D) (size weight : ℕ) → desk ≡ seen → Told desk size weight → IsOwn seen.contents DeskCall.Size (reply.Size size weight) seen.contents
told {D} desk seen size weight e is = let P : Seen D → Type 0 = λ d. Told d size weight in subst P e is

pub returns-clause-own : goal.returns-clause-own
returns-clause-own g c = told _ c.args.self.now _ _ c.self.view_is (c.size.ensures.size, c.size.ensures.payloads, c.weigh.ensures)
