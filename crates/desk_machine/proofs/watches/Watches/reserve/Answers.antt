use Rattle.std.proofs.Common.{◌≡◌, None, rules, sym, ap, subst}
use Rattle.record_join.specs.Keys.{kept_of, with_key}
use Rattle.desk_machine.specs.Watches.{KeptWatches, WatchesStand}
use Rattle.desk_machine.proofs.WatchLemmas.{reserved}
use Rattle.desk_machine.proofs.watches.Watches.reserve.Goals as goal

pub returns-clause-stands : goal.returns-clause-stands
returns-clause-stands c = λ w stands.
    let before : KeptWatches = record { on = c.self.inside.on; opened = c.self.inside.opened; kept = c.self.inside.kept.entries } in
    let P : KeptWatches → Type 0 = λ k. WatchesStand k w in
    let none : kept_of c.self.inside.kept.entries c.args.key.now ≡ None = search rules in
    let put : c.insert.new.self.entries ≡ with_key c.self.inside.kept.entries c.args.key.now c.start.result = search rules in
    reserved before _ c.args.key.now c.start.result none c.start.ensures (ap (λ l. record { on = c.self.inside.on; opened = c.self.inside.opened; kept = l }) put) w (subst P (sym c.self.view_is) stands)

pub invariant_of-self-2 : goal.invariant_of-self-2
invariant_of-self-2 c =
    let v = c.self.invariant.1 in
    let before : KeptWatches = record { on = c.self.inside.on; opened = c.self.inside.opened; kept = c.self.inside.kept.entries } in
    let none : kept_of c.self.inside.kept.entries c.args.key.now ≡ None = search rules in
    let put : c.insert.new.self.entries ≡ with_key c.self.inside.kept.entries c.args.key.now c.start.result = search rules in
    (c.self.invariant.0, (v.0, reserved before _ c.args.key.now c.start.result none c.start.ensures (ap (λ l. record { on = c.self.inside.on; opened = c.self.inside.opened; kept = l }) put) v.0 v.1))
