use Rattle.std.proofs.Common.{rules}
use Rattle.std.proofs.lemmas.List.Sorted.{answers_always}
use Rattle.duty_loop.specs.Asked.{AskedKey}
use Rattle.duty_loop.proofs.NoteLemmas.{sorted_keys}
use Rattle.duty_loop.proofs.notes.by_index.Goals as goal

pub returns : goal.returns
returns c = record {
  rising = c.in_ok-sort_by_key.ensures.sorted (λ (a : AskedKey). a.0) (answers_always _ _ _ (λ f a r f' k. search rules));
  of_index = sorted_keys c.args.indices.now.entries c.args.keys.now c.in_ok-asked.asked.items c.sort_by_key.new.self.items c.in_ok-asked.ensures c.sort_by_key.ensures.permutation (c.sort_by_key.ensures.stable (λ (a : AskedKey). a.0) (answers_always _ _ _ (λ f a r f' k. search rules)));
}
