use Rattle.beacon_node.specs.Requests.{ask_method, ask_path, ask_body}
use Rattle.beacon_node.specs.Said.{reply_said}
use Rattle.beacon_node.specs.Readings.{ask_reading}
use Rattle.beacon_node.proofs.CallLemmas.{called, uncalled}
use Rattle.beacon_node.proofs.beacon_node.BeaconNodeNode.ask.Goals as goal

pub returns-in-Err-clause-asks : goal.returns-in-Err-clause-asks
returns-in-Err-clause-asks g c = uncalled reply_said (ask_reading c.args.ask.now) _ _ _ _

pub returns-then-is_err-clause-asks : goal.returns-then-is_err-clause-asks
returns-then-is_err-clause-asks g c = uncalled reply_said (ask_reading c.args.ask.now) _ _ _ _

pub returns-clause-asks : goal.returns-clause-asks
returns-clause-asks g c =
    called reply_said (ask_reading c.args.ask.now) c.args.self.now.url (ask_method c.args.ask.now) (ask_path c.args.ask.now) (ask_body c.args.ask.now) _ _ _ _ _ _ _ _ _ c.send-response.result c.ask_reply-reply.result _
    c.in-Ok.ensures.method c.in-Ok.ensures.path c.in-Ok.ensures.body c.send-response.ensures.call c.ask_reply-reply.ensures.means c.tell_ask.ensures.reply
