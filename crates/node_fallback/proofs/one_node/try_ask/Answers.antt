use Rattle.node_calls.specs.Asking.{told_ask}
use Rattle.node_fallback.proofs.TurnLemmas.{IsTurn-called, came_of-fault, came_of-value}
use Rattle.node_fallback.proofs.one_node.try_ask.Goals as goal

pub returns-in_err-ask-clause-turn : goal.returns-in_err-ask-clause-turn
returns-in_err-ask-clause-turn g c =
    IsTurn-called (told_ask c.args.ask.now) _ _ _ _ c.args.syncing c.ask.result _ c.if-syncing.false c.ask.ensures.told c.ask.ensures.later c.ask.ensures.fault
    (came_of-fault c.ask.result _ _ c.in_err-ask.was c.from_residual.ensures.1)

pub returns-clause-turn : goal.returns-clause-turn
returns-clause-turn g c =
    IsTurn-called (told_ask c.args.ask.now) _ _ _ _ c.args.syncing c.ask.result _ c.if-syncing.false c.ask.ensures.told c.ask.ensures.later c.ask.ensures.fault
    (came_of-value c.ask.result _ c.in_ok-ask.was)
