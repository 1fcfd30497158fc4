use Rattle.std.proofs.Common.{sym}
use Rattle.custody_format.specs.Lists.{key_of}
use Rattle.custody_format.proofs.ListLemmas.{rest_of-next}
use Rattle.custody_format.proofs.lists.each_key.Goals as goal

pub elements-preserved : goal.elements-preserved
elements-preserved c =
    rest_of-next key_of c.elements.keys.items c.push.new.self.items c.args.elements.now c.elements.element-index c.element-item.result c.in-Some.key
    c.elements-test.true c.element-item.is (sym c.in-Some.ensures) c.in_ok-push.ensures.items c.elements.invariant
