-- What became of an answer about indices, and of one about proposers.
use Rattle.std.proofs.Common.{◌≡◌, ◌⊎◌, ℕ, List, inl, inr, Result, Ok, Err, ap, refl}
use Rattle.std.specs.Prelude.{OnErr, OnOk}
use Rattle.edge_kit.specs.declared.bytes.Root.{Root}
use Rattle.node_calls.specs.declared.answer.Answer.{Answer}
use Rattle.node_calls.specs.declared.answer.Answer.TheVariants as answer
use Rattle.node_calls.specs.declared.answer.ProposerRow.{ProposerRow}
use Rattle.duty_turns.specs.Standing.{Standing, with_indices, with_proposers}
use Rattle.duty_turns.specs.Turns.{to_renew}
use Rattle.duty_asks.specs.Quiet.{Took, part_value}
use Rattle.duty_asks.specs.declared.ask.Asked.{Asked}
use Rattle.duty_asks.specs.declared.ask.Asked.TheVariants as asked
use Rattle.duty_asks.specs.declared.ask.Stop.{Stop}
use Rattle.duty_asks.specs.declared.ask.Stop.TheVariants as stop

-- memory may run out while its rows are taken in
pub took_indices : (P Q : Standing → Type 0) (a : Answer) (s : Standing) (came : Asked) (result : Result (Unit {0}) Stop) → came ≡ asked.Given a
    → OnOk result ((t : Standing) → Q t → P (with_indices a t)) → OnErr result (result ≡ Err stop.OutOfMemory) → Q s → (result ≡ Err stop.OutOfMemory) ⊎ Took with_indices (to_renew s) s P came result
took_indices P Q a s came (Ok done) e set memory q = inr (record { after = with_indices a s; held = set s q; value = ap (λ (x : Asked). part_value with_indices (to_renew s) s x) e })
took_indices P Q a s came (Err why) e set memory q = inl memory

-- where nobody is said to propose, what stands stays
pub no_proposers : (epoch : ℕ) (a : Answer) (s : Standing) → ((root : Root) (rows : List ProposerRow) → a ≡ answer.Proposer root rows → ⊥) → with_proposers epoch a s ≡ s
no_proposers epoch (answer.Proposer root rows) s other = absurd (other root rows refl)
no_proposers epoch a s other = refl
