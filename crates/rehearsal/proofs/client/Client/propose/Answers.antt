use Rattle.rehearsal.proofs.GoLemmas.{open_for, proposes_sent}
use Rattle.rehearsal.proofs.client.Client.propose.Goals as goal

pub returns-in_ok-send-in-Granted : goal.returns-in_ok-send-in-Granted
returns-in_ok-send-in-Granted c =
    let grant = open_for c.args.self.now.desk.contents c.propose.new.self.contents c.args.key c.args.message c.args.now c.propose.result c.in-Granted.grant c.in-Granted.is c.propose.ensures.machine c.propose.ensures.counted in
    proposes_sent c.args.key c.args.message c.args.now c.in-Granted.grant c.args.self.now.desk.contents c.propose.new.self.contents c.send.new.self.desk.contents c.args.sent.now.items c.send.new.sent.items grant.step grant.same grant.of_key c.in_ok-send-in-Granted.ensures.goes c.in_ok-send-in-Granted.ensures.sent
