use Rattle.std.proofs.Common.{◌∙◌, sym}
use Rattle.duty_loop.proofs.ShortenLemmas.{first_slot, other_slot}
use Rattle.duty_loop.proofs.turn.compact_grown.Goals as goal

pub returns-then-not-is_first_slot-clause-called : goal.returns-then-not-is_first_slot-clause-called
returns-then-not-is_first_slot-clause-called g c = λ start lanes nodes out s next at. other_slot g.K.DeskCalls.leads start s next c.args.slot _ at (sym c.is_first_slot.ensures ∙ c.if-not-is_first_slot.true)

pub returns-clause-called : goal.returns-clause-called
returns-clause-called g c = λ start lanes nodes out s next at. first_slot g.K.DeskCalls.leads start s next c.args.slot c.in-Size.size c.in-Size.weight _ _ lanes nodes out _ c.call.result _ at (sym c.is_first_slot.ensures ∙ c.if-not-is_first_slot.false) c.call.ensures.leads c.call.ensures.kind c.call.ensures.granted c.in-Size.is
    (c.compact_worth.ensures.called start lanes nodes out next)
