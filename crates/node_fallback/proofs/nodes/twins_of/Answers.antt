use Rattle.std.proofs.Common.{◌≡◌, ℕ, ◌+◌, ◌<◌, List, [], ◌∷◌, ◌++◌, length, take, get_or, sym, subst}
use Rattle.std.specs.List.{AllZip}
use Rattle.std.proofs.lemmas.List.Elements.{all_zip_more}
use Rattle.node_fallback.specs.Twins.{IsTwin}
use Rattle.node_fallback.proofs.nodes.twins_of.Goals as goal

-- one twin more
each_more : {N : Type 0} (R : N → N → Type 0) (nodes twins longer : List N) (i : ℕ) (node twin : N) → i < length nodes → node ≡ get_or nodes i node
    → AllZip R (take i nodes) twins → R node twin → longer ≡ twins ++ twin ∷ [] → AllZip R (take (i + 1) nodes) longer
each_more R nodes twins longer i node twin within is so_far here pushed =
    subst (AllZip R (take (i + 1) nodes)) (sym pushed) (all_zip_more R nodes twins i node twin within is so_far here)

pub nodes-preserved : goal.nodes-preserved
nodes-preserved g c =
    let twin : IsTwin g.N.Node.told g.N.Node.faults c.node-item.result c.in_ok-twin.twin = record { tells = c.in_ok-twin.ensures.told; unfailed = c.in_ok-twin.ensures.faults } in
    each_more (IsTwin g.N.Node.told g.N.Node.faults) c.args.nodes.now c.nodes.twins.items c.push.new.self.items c.nodes.node-index c.node-item.result c.in_ok-twin.twin c.nodes-test.true c.node-item.is c.nodes.invariant twin c.in_ok-push.ensures.items
