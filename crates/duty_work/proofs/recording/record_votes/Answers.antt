use Rattle.std.proofs.Common.{sym, ◌∙◌, ap, List}
use Rattle.edge_kit.specs.declared.bytes.PubKey.{PubKey}
use Rattle.desk_machine.specs.declared.call.DeskReply.TheVariants as reply
use Rattle.desk_machine.specs.declared.call.KeyStanding.{KeyStanding}
use Rattle.duty_work.proofs.VoteLemmas.{none_voted, votes_listed, votes_unlisted}
use Rattle.duty_work.proofs.recording.record_votes.Goals as goal

pub returns-then-is_empty-clause-called : goal.returns-then-is_empty-clause-called
returns-then-is_empty-clause-called g c = λ work by at start lanes nodes out next. none_voted g.K.DeskCalls.leads start work c.args.tasks.now next _ (sym c.is_empty.ensures ∙ c.if-is_empty.true)

pub returns-in-Keys-clause-called : goal.returns-in-Keys-clause-called
returns-in-Keys-clause-called g c = λ work by at start lanes nodes out next.
    votes_listed g.K.DeskCalls.leads start work c.args.tasks.now next _ _ lanes nodes out _ c.call.result c.as_slice.result.now c.record_allowed.result (sym c.is_empty.ensures ∙ c.if-is_empty.false) c.call.ensures.leads c.call.ensures.kind c.call.ensures.granted
    (c.in-Keys.is ∙ ap (λ (l : List (PubKey × KeyStanding)). reply.Keys l) (sym c.as_slice.ensures)) (c.record_allowed.ensures.called work by at start lanes nodes out next)

pub returns-in-OutOfMemory-clause-called : goal.returns-in-OutOfMemory-clause-called
returns-in-OutOfMemory-clause-called g c = λ work by at start lanes nodes out next.
    votes_unlisted g.K.DeskCalls.leads start work c.args.tasks.now next _ _ lanes nodes out c.call.result (sym c.is_empty.ensures ∙ c.if-is_empty.false) c.call.ensures.leads c.call.ensures.kind c.call.ensures.granted c.in-OutOfMemory.is
