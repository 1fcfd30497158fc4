use Rattle.std.proofs.Common.{◌≡◌, Some, rules, sym, ap, subst}
use Rattle.record_join.specs.Keys.{kept_of, with_kept}
use Rattle.doppel_watch.specs.Watching.{Telling}
use Rattle.desk_machine.specs.Watches.{KeptWatches, WatchesStand, with_told}
use Rattle.desk_machine.proofs.WatchLemmas.{told}
use Rattle.desk_machine.proofs.watches.Watches.tell.Goals as goal

pub returns-clause-stands : goal.returns-clause-stands
returns-clause-stands c = λ w stands.
    let before : KeptWatches = record { on = c.self.inside.on; opened = c.self.inside.opened; kept = c.self.inside.kept.entries } in
    let P : KeptWatches → Type 0 = λ k. WatchesStand k w in
    let found : kept_of c.self.inside.kept.entries c.args.key.now ≡ Some c.in-Some.watch.now = search rules in
    let set : (c.get_mut.follows.lender c.answer.new.self).entries ≡ with_kept c.self.inside.kept.entries c.args.key.now c.answer.new.self = search rules in
    told before _ c.args.key.now c.in-Some.watch.now c.answer.new.self (record { epoch = c.args.epoch; live = c.args.live; moment = c.args.now }) found c.answer.ensures
    (ap (λ l. record { on = c.self.inside.on; opened = c.self.inside.opened; kept = l }) set) w (subst P (sym c.self.view_is) stands)

pub invariant_of-self-2 : goal.invariant_of-self-2
invariant_of-self-2 c =
    let v = c.self.invariant.1 in
    let telling : Telling = record { epoch = c.args.epoch; live = c.args.live; moment = c.args.now } in
    let before : KeptWatches = record { on = c.self.inside.on; opened = c.self.inside.opened; kept = c.self.inside.kept.entries } in
    let found : kept_of c.self.inside.kept.entries c.args.key.now ≡ Some c.in-Some.watch.now = search rules in
    let set : (c.get_mut.follows.lender c.answer.new.self).entries ≡ with_kept c.self.inside.kept.entries c.args.key.now c.answer.new.self = search rules in (
      c.self.invariant.0,
      (
        with_told v.0 c.args.key.now telling,
        told before _ c.args.key.now c.in-Some.watch.now c.answer.new.self telling found c.answer.ensures (ap (λ l. record { on = c.self.inside.on; opened = c.self.inside.opened; kept = l }) set) v.0 v.1,
      ),
    )
