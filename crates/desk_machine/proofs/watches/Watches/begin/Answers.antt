use Rattle.std.proofs.Common.{◌≡◌, Some, rules, sym, ap, subst}
use Rattle.record_join.specs.Keys.{kept_of, with_kept}
use Rattle.desk_machine.specs.Watches.{KeptWatches, WatchesStand, with_begun}
use Rattle.desk_machine.proofs.WatchLemmas.{begun, some_found}
use Rattle.desk_machine.proofs.watches.Watches.begin.Goals as goal

pub returns-clause-stands : goal.returns-clause-stands
returns-clause-stands c = λ w stands.
    let before : KeptWatches = record { on = c.self.inside.on; opened = c.self.inside.opened; kept = c.self.inside.kept.entries } in
    let P : KeptWatches → Type 0 = λ k. WatchesStand k w in
    let found : kept_of c.self.inside.kept.entries c.args.key.now ≡ Some c.in-Some.watch.now = search rules in
    let set : (c.get_mut.follows.lender c.start.result).entries ≡ with_kept c.self.inside.kept.entries c.args.key.now c.start.result = search rules in
    begun before _ c.args.key.now c.start.result c.args.now (some_found _ _ found) c.start.ensures (ap (λ l. record { on = c.self.inside.on; opened = c.self.inside.opened; kept = l }) set) w (subst P (sym c.self.view_is) stands)

pub invariant_of-self-2 : goal.invariant_of-self-2
invariant_of-self-2 c =
    let v = c.self.invariant.1 in
    let before : KeptWatches = record { on = c.self.inside.on; opened = c.self.inside.opened; kept = c.self.inside.kept.entries } in
    let found : kept_of c.self.inside.kept.entries c.args.key.now ≡ Some c.in-Some.watch.now = search rules in
    let set : (c.get_mut.follows.lender c.start.result).entries ≡ with_kept c.self.inside.kept.entries c.args.key.now c.start.result = search rules in (
      c.self.invariant.0,
      (
        with_begun v.0 c.args.key.now c.args.now,
        begun before _ c.args.key.now c.start.result c.args.now (some_found _ _ found) c.start.ensures (ap (λ l. record { on = c.self.inside.on; opened = c.self.inside.opened; kept = l }) set) v.0 v.1,
      ),
    )
