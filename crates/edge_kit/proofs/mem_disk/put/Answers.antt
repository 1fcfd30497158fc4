use Rattle.std.proofs.Common.{◌≡◌, ℕ, ◌+◌, ◌-◌, ◌<◌, ◌++◌, max, length, take, drop, replicate, [], List, rules, tests, sym, ap, arith, ◌∙◌}
use Rattle.std.proofs.lemmas.List.{nil_from_length, take_at}
use Rattle.std.proofs.lemmas.Bool.{eqb-true}
use Rattle.edge_kit.specs.Disks.{overwrite}
use Rattle.edge_kit.proofs.DiskLemmas.{overwrite_grown}
use Rattle.edge_kit.proofs.mem_disk.put.Goals as goal

pub returns-then-is_empty-clause-ok : goal.returns-then-is_empty-clause-ok
unfolding overwrite
returns-then-is_empty-clause-ok c =
    let none : c.args.bytes.now ≡ [] = nil_from_length c.args.bytes.now (eqb-true _ _ (sym c.is_empty.ensures ∙ c.if-is_empty.true)) in
    ap (λ (l : List ℕ). overwrite c.args.at l c.args.content.now.items) (sym none)

pub returns-clause-ok : goal.returns-clause-ok
returns-clause-ok c =
    let some : 0 < length c.args.bytes.now = search (rules, tests) in
    let size_is : c.max-size.result ≡ max (length c.args.content.now.items) (c.args.at + length c.args.bytes.now) = omega arith in
    let grown : c.deref_mut.result.now ≡ take c.max-size.result c.args.content.now.items ++ replicate (c.max-size.result - length c.args.content.now.items) 0 = search rules in
    let long : length c.copy_over.new.content ≡ c.resize.new.self.len = search rules in
    take_at c.copy_over.new.content (drop (length c.copy_over.new.content) c.resize.new.self.items) c.resize.new.self.len long
    ∙ c.copy_over.ensures ∙ overwrite_grown c.args.at c.max-size.result c.args.bytes.now c.args.content.now.items c.deref_mut.result.now some size_is grown
