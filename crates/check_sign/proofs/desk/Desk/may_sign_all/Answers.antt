use Rattle.std.proofs.Common.{◌∙◌, List, sym, subst}
use Rattle.std.specs.Prelude.{Contains}
use Rattle.std.proofs.lemmas.List.{get_or_default, take_all}
use Rattle.edge_kit.specs.declared.bytes.PubKey.{PubKey}
use Rattle.slash_defs.specs.declared.message.Message.{Message}
use Rattle.desk_machine.specs.Machine.{MaySign}
use Rattle.check_sign.specs.Calls.{MaySignHere}
use Rattle.check_sign.specs.Bars.{reply_of_bar}
use Rattle.check_sign.proofs.MachineLemmas.{opened}
use Rattle.check_sign.proofs.ProposalLemmas.{is_up}
use Rattle.check_sign.proofs.RecordLemmas.{all_more, barred_not, sign_at}
use Rattle.check_sign.proofs.desk.Desk.may_sign_all.Goals as goal

pub keys-preserved : goal.keys-preserved
keys-preserved g c =
    let xs = c.as_slice-one-items.result.now in
    let is = get_or_default c.as_slice-one-items.result.now c.keys.one-index _ _ c.keys-test.true in (
      λ state stands. all_more (λ (one : PubKey × Message). MaySign state one.0) xs c.keys.one-index _ c.keys-test.true is (c.keys.invariant.0 state stands) (c.in-Ok.ensures.may state stands).1,
      all_more (λ (one : PubKey × Message). MaySignHere c.args.self.now.contents one.0) xs c.keys.one-index _ c.keys-test.true is c.keys.invariant.1 c.in-Ok.ensures.own,
    )

pub returns-clause-may : goal.returns-clause-may
returns-clause-may g c = λ state stands.
    let s = opened c.args.self.now _ state c.self.view_is stands in
    let all = take_all c.keys.one-index c.as_slice-one-items.result.now c.keys-test.false ∙ c.as_slice-one-items.ensures in (
      is_up _ state c.failed.result s c.failed.ensures c.if-failed.false,
      λ one at. let C : List (PubKey × Message) → Type 0 = λ l. Contains l one in c.keys.invariant.0 state stands one (subst C (sym all) at),
    )

pub returns-clause-own : goal.returns-clause-own
returns-clause-own g c = λ one at.
    let all = take_all c.keys.one-index c.as_slice-one-items.result.now c.keys-test.false ∙ c.as_slice-one-items.ensures in
    let C : List (PubKey × Message) → Type 0 = λ l. Contains l one in
    c.keys.invariant.1 one (subst C (sym all) at)

pub returns-in_default-clause-barred : goal.returns-in_default-clause-barred
returns-in_default-clause-barred g c = λ state stands.
    let s = opened c.args.self.now _ state c.self.view_is stands in
    let up = is_up _ state c.failed.result s c.failed.ensures c.if-failed.false in
    let E : List (PubKey × Message) → Type 0 = λ l. (one : PubKey × Message) × Contains l one × ¬ (MaySign state one.0) in (
      up,
      subst E c.as_slice-one-items.ensures (sign_at state c.as_slice-one-items.result.now c.keys.one-index _ c.keys-test.true (get_or_default c.as_slice-one-items.result.now c.keys.one-index _ _ c.keys-test.true)
          (barred_not state _ (reply_of_bar c.in_default.field-0) up (c.in_default.ensures.barred state stands))),
    )
