use Rattle.std.proofs.Common.{◌≡◌, ◌+◌, cond, length, List, rules, subst}
use Rattle.std.specs.Prelude.{OnOk, is_some}
use Rattle.edge_kit.specs.declared.bytes.PubKey.{PubKey}
use Rattle.protect_record.specs.Parts.{Parts}
use Rattle.record_join.specs.Keys.{kept_of}
use Rattle.record_join.specs.Preparing.{MakesRoom}
use Rattle.record_join.proofs.FreshLemmas.{known_noted_one, makes_known, makes_roomier}
use Rattle.record_join.proofs.room.make_room.Goals as goal

pub returns-in-Some-clause-makes : goal.returns-in-Some-clause-makes
returns-in-Some-clause-makes c = makes_roomier _ _ _ _ (record { parts = c.in-Some.record.now; is_kept = search rules; roomy = c.reserve.new.self; same = c.reserve.ensures.same; others = search rules })

pub returns-clause-makes : goal.returns-clause-makes
returns-clause-makes c =
    let still : c.get_mut.follows.lender-at-none.entries ≡ c.args.kept.now.entries = search rules in
    let P : List (PubKey × Parts) → Type 0 = λ l. MakesRoom l c.insert_fresh.new.kept.entries c.args.key.now c.args.fresh.now.items c.insert_fresh.new.fresh.items in
    subst P still (makes_known c.insert_fresh.result _ _ _ _ _ c.insert_fresh.ensures.knows c.insert_fresh.ensures.err)

pub returns-clause-noted : goal.returns-clause-noted
returns-clause-noted c =
    let still : c.get_mut.follows.lender-at-none.entries ≡ c.args.kept.now.entries = search rules in
    let P : List (PubKey × Parts) → Type 0 = λ l. OnOk c.insert_fresh.result (length c.insert_fresh.new.fresh.items ≡ length c.args.fresh.now.items + cond (is_some (kept_of l c.args.key.now)) 0 1) in
    subst P still (known_noted_one c.insert_fresh.result c.get_mut.follows.lender-at-none.entries c.insert_fresh.new.kept.entries c.args.key.now c.args.fresh.now.items c.insert_fresh.new.fresh.items c.insert_fresh.ensures.knows)
