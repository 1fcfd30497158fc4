use Rattle.std.proofs.Common.{◌≡◌, ◌+◌, ◌-◌, ◌^◌, [], sym, ◌∙◌, arith}
use Rattle.std.proofs.lemmas.Option.{get_or_from_slice_get}
use Rattle.edge_kit.specs.declared.bytes.Root.{Root}
use Rattle.ssz_roots.proofs.TreeLemmas.{subtree_halves, subtree_past, subtree_one, width_halves, below_from_width}
use Rattle.ssz_roots.proofs.tree.+root_at.Goals as goal

pub bounds-zeros-depth : goal.bounds-zeros-depth
bounds-zeros-depth g t c = below_from_width _ _ (omega arith)

pub returns-then-start-count : goal.returns-then-start-count
returns-then-start-count g t c =
    let chunks = g.C.Chunks.chunks c.args.chunks.now in
    c.requires.zeros c.args.depth _ (below_from_width _ _ (omega arith)) ∙ sym (subtree_past c.args.depth c.args.start chunks (omega arith))

pub returns-then-depth-eq0 : goal.returns-then-depth-eq0
returns-then-depth-eq0 g t c =
    let chunks = g.C.Chunks.chunks c.args.chunks.now in
    let zero : c.args.depth ≡ 0 = c.if-depth-eq0.true in
    rw zero (sym (subtree_one c.args.start chunks c.chunk.result.0 (omega arith) ∙ get_or_from_slice_get chunks c.args.start c.chunk.result.0 c.chunk.result.0 c.chunk.ensures))

pub root_at-left-requires : goal.root_at-left-requires
root_at-left-requires g t c = λ κs part.
    let half = width_halves c.args.depth (omega arith) in
    (omega arith, (part, (omega arith, (c.requires.zeros, omega arith))))

pub bounds-zeros-depth-then-count-start : goal.bounds-zeros-depth-then-count-start
bounds-zeros-depth-then-count-start g t c =
    let half = width_halves c.args.depth (omega arith) in
    below_from_width _ _ (omega arith)

pub returns-then-count-start : goal.returns-then-count-start
returns-then-count-start g t c =
    let chunks = g.C.Chunks.chunks c.args.chunks.now in
    let half = width_halves c.args.depth (omega arith) in
    let none : Root = record { 0 = [] } in
    let right = c.requires.zeros (c.args.depth - 1) none (below_from_width _ _ (omega arith)) in
    let whole = subtree_halves c.args.depth c.args.start chunks (omega arith) in
    let past = subtree_past (c.args.depth - 1) (c.args.start + 2 ^ (c.args.depth - 1)) chunks (omega arith) in
    cc (whole, right, past)

pub root_at-right-requires : goal.root_at-right-requires
root_at-right-requires g t c = λ κs part.
    let half = width_halves c.args.depth (omega arith) in
    (omega arith, (part, (omega arith, (c.requires.zeros, omega arith))))

pub returns : goal.returns
returns g t c =
    let whole = subtree_halves c.args.depth c.args.start (g.C.Chunks.chunks c.args.chunks.now) (omega arith) in
    cc whole
