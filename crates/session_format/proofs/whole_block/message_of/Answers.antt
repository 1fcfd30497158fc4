use Rattle.std.proofs.Common.{◌∙◌}
use Rattle.session_format.proofs.ObjectLemmas.{block_message-whole}
use Rattle.session_format.proofs.whole_block.message_of.Goals as goal

pub returns : goal.returns
returns c =
    c.block_message_of.ensures
    ∙ block_message-whole c.args.domains.now c.args.block.now c.header.result c.header.ensures.slot c.header.ensures.same_root
