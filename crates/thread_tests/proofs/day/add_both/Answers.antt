use Rattle.std.proofs.Common.{◌≡◌, ◌∷◌, [], ◌++◌, ap, ◌∙◌, rules, arith}
use Rattle.std.proofs.lemmas.Grind.{common_steps}
use Rattle.desk_lock.specs.Sharing.{opening}
use Rattle.thread_tests.proofs.Sums.{both_sum}
use Rattle.thread_tests.proofs.day.add_both.Goals as goal

pub returns : goal.returns
returns g c =
    let j = c.join-one.ensures in
    let none : c.in_ok-passes.passes.items ≡ [] = grind (arith, common_steps) in
    let fresh : (opening c.pass-2.new.self.shared).total ≡ 0 = grind (arith, common_steps) in
    both_sum c.push_reserved-2.new.self.items c.join-one.result.0 c.join-one.result.1 c.args.a c.args.b (opening c.pass-2.new.self.shared) c.close-counter.result
    (c.push_reserved-2.ensures.items ∙ ap (λ l. l ++ c.join-one.result.1 ∷ []) (c.push_reserved.ensures.items ∙ ap (λ l. l ++ c.join-one.result.0 ∷ []) none))
    c.close-counter.ensures fresh j.first.2 j.second.2
