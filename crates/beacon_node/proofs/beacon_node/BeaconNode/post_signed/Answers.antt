use Rattle.std.proofs.Common.{◌∙◌, ap, codes, inl, subst}
use Rattle.edge_kit.specs.Tellings.{Tells}
use Rattle.beacon_node.specs.Calls.{kept, told_ready}
use Rattle.beacon_node.specs.Requests.{post_path, post_body}
use Rattle.beacon_node.specs.Readings.{post_reading}
use Rattle.beacon_node.proofs.CallLemmas.{called, ready_told, uncalled}
use Rattle.beacon_node.proofs.beacon_node.BeaconNode.post_signed.Goals as goal

pub returns-in-Err-clause-posts : goal.returns-in-Err-clause-posts
returns-in-Err-clause-posts g c = uncalled (λ reply. reply) post_reading _ _ _ _

pub returns-then-is_err-clause-posts : goal.returns-then-is_err-clause-posts
returns-then-is_err-clause-posts g c = uncalled (λ reply. reply) post_reading _ _ _ _

pub returns-clause-posts : goal.returns-clause-posts
returns-clause-posts g c =
    called (λ reply. reply) post_reading c.args.self.now.url (codes "POST") (post_path c.args.post.now) (post_body c.args.post.now) _ _ _ _ _ _ _ _ _ c.send-response.result c.post_reply-reply.result _
    c.in-Ok.ensures.method c.in-Ok.ensures.path c.in-Ok.ensures.body c.send-response.ensures.call (inl c.post_reply-reply.ensures) c.tell_post.ensures.reply

pub returns-in-Err-post_call-clause-posts : goal.returns-in-Err-post_call-clause-posts
returns-in-Err-post_call-clause-posts g c = uncalled (λ reply. reply) post_reading _ _ _ _

pub returns-clause-told : goal.returns-clause-told
returns-clause-told g c =
    let same = ap kept c.send-response.ensures.told ∙ c.make_room.ensures.kept in
    ready_told c.args.self.now.told c.in-Ok-post_call.call _ c.tell_post.result (kept c.tell_post.new.told) c.in-Ok-post_call.ensures
    (subst (λ k. Tells k (kept c.tell_post.new.told) (told_ready c.in-Ok-post_call.call c.tell_post.result)) same c.tell_post.ensures.told)
