use Rattle.node_calls.specs.Asking.{posted, told_post}
use Rattle.node_fallback.proofs.TurnLemmas.{IsTurn-called, came_of-fault, came_of-value}
use Rattle.node_fallback.proofs.one_node.try_post.Goals as goal

pub returns-in_err-post : goal.returns-in_err-post
returns-in_err-post g c =
    IsTurn-called (told_post (posted (g.G.Granted.granted_key c.args.grant.now) (g.G.Granted.granted_message c.args.grant.now) c.args.post.now)) _ _ _ _ c.args.syncing c.post.result _ c.if-syncing.false c.post.ensures.told c.post.ensures.later c.post.ensures.fault
    (came_of-fault c.post.result _ _ c.in_err-post.was c.from_residual.ensures.1)

pub returns : goal.returns
returns g c =
    IsTurn-called (told_post (posted (g.G.Granted.granted_key c.args.grant.now) (g.G.Granted.granted_message c.args.grant.now) c.args.post.now)) _ _ _ _ c.args.syncing c.post.result _ c.if-syncing.false c.post.ensures.told c.post.ensures.later c.post.ensures.fault
    (came_of-value c.post.result _ c.in_ok-post.was)
