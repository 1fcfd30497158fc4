use Rattle.std.proofs.Common.{◌≡◌, ◌+◌, ◌∷◌, [], ◌++◌, List, length, sym, ◌∙◌, subst, arith}
use Rattle.std.proofs.lemmas.List.{length_push}
use Rattle.rehearsal.specs.Rehearsals.{empty}
use Rattle.rehearsal.specs.Stages.{Stands}
use Rattle.rehearsal.specs.declared.client.Client.{Client}
use Rattle.rehearsal.proofs.StageLemmas.{push_stands}
use Rattle.rehearsal.proofs.WorldLemmas.{grown}
use Rattle.rehearsal.proofs.cast.Cast.new.Goals as goal

pub clients-preserved : goal.clients-preserved
clients-preserved c =
    let old = c.clients.clients.items in
    let new = c.push.new.self.items in
    let client = c.in_ok-client.client in
    let items : new ≡ old ++ client ∷ [] = grown c.push.result old new client (sym c.is_err.ensures.value ∙ c.if-is_err.false) c.push.ensures.items in
    let N : List Client → Type 0 = λ l. length l ≡ c.clients._made + 1 in
    let S : List Client → Type 0 = λ l. Stands l empty in
    let size = length_push old client in
    let count = c.clients.invariant.count in
    record {
      count = subst N (sym items) (omega (arith, size, count));
      stands = subst S (sym items) (push_stands old client c.clients.invariant.stands c.in_ok-client.ensures);
    }
