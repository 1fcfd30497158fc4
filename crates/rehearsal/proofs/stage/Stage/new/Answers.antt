use Rattle.std.proofs.Common.{◌≡◌, ◌+◌, ◌%◌, ℕ, ◌∷◌, [], ◌++◌, List, refl, sym, ◌∙◌, subst, arith}
use Rattle.std.proofs.lemmas.Nat.{mod_below}
use Rattle.edge_kit.specs.declared.bytes.PubKey.{PubKey}
use Rattle.desk_machine.specs.declared.call.DeskCall.TheVariants as call
use Rattle.rehearsal.specs.Draws.{key_count}
use Rattle.rehearsal.specs.Stages.{Calls}
use Rattle.rehearsal.proofs.StageLemmas.{Dealt, DealtTo, deal_more, deal_to, stood_first}
use Rattle.rehearsal.proofs.WorldLemmas.{grown}
use Rattle.rehearsal.proofs.stage.Stage.new.Goals as goal

pub keys-preserved : goal.keys-preserved
keys-preserved c =
    let place = c.keys.place in
    let clients = c.args.clients in
    let next = place % clients in
    let K : PubKey → Type 0 = λ k. Calls c.keys.cast c.activate.new.self next (call.Activate k 0) in
    let D : List ℕ → Type 0 = λ l. DealtTo clients (place + 1) l in
    let items : c.push.new.self.items ≡ c.keys.holders.items ++ next ∷ [] = grown c.push.result c.keys.holders.items c.push.new.self.items next (sym c.is_err.ensures.value ∙ c.if-is_err.false) c.push.ensures.items in
    record {
      dealt = deal_more clients place c.keys.cast c.activate.new.self c.keys.invariant.dealt (subst K c.key_at.ensures c.in_ok-activate.ensures);
      dealt_to = subst D (sym items) (deal_to clients place next c.keys.holders.items c.keys.invariant.dealt_to refl (mod_below place clients c.requires.some));
    }

pub returns-clause-stood : goal.returns-clause-stood
returns-clause-stood c =
    let clients = c.args.clients in
    let last = c.keys-test.false in
    let most = c.keys.auto.place-end in
    let all : c.keys.place ≡ key_count clients = omega (arith, last, most) in
    let D : ℕ → Type 0 = λ n. Dealt clients n c.keys.cast in
    let T : ℕ → Type 0 = λ n. DealtTo clients n c.keys.holders.items in
    let to = subst T all c.keys.invariant.dealt_to in
    stood_first c.args.number clients _ (subst D all c.keys.invariant.dealt) refl refl refl to.count to.each to.within
