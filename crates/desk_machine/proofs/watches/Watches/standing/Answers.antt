use Rattle.std.proofs.Common.{◌≡◌, None, rules, sym, subst}
use Rattle.edge_kit.specs.declared.bytes.PubKey.{PubKey}
use Rattle.record_join.specs.Keys.{kept_of}
use Rattle.doppel_watch.specs.declared.watch.WatchState.{WatchState}
use Rattle.doppel_watch.specs.declared.watch.WatchState.TheVariants.{Allowed}
use Rattle.record_replay.specs.Watches.{Watched, fresh_watch}
use Rattle.desk_machine.specs.Watches.{IsOwnWatch, KeptWatches, Watching, WatchesStand, standing_under, watch_of}
use Rattle.desk_machine.proofs.WatchLemmas.{by_fresh, kept_watch, no_watch, off_standing, on_standing, standing_at}
use Rattle.desk_machine.proofs.watches.Watches.standing.Goals as goal

-- the reply is how each watch stands that the key's own may be
abbrev Tells : KeptWatches → PubKey → WatchState → Type 0
Tells k key r = (x : Watched) → IsOwnWatch k key x → r ≡ standing_under k.on x

-- and there is one
told : (k seen : KeptWatches) (key : PubKey) (r : WatchState) (w : Watching) → k ≡ seen → WatchesStand k w → Tells seen key r → (x : Watched) × IsOwnWatch seen key x × (r ≡ standing_under seen.on x)
told k seen key r w same stands tells =
    let P : KeptWatches → Type 0 = λ n. WatchesStand n w in
    let s = subst P same stands in
    (watch_of w key, s.each key, tells (watch_of w key) (s.each key))

-- nothing is kept of the key
at_opening : (before : KeptWatches) (seen : KeptWatches) (key : PubKey) (x : Watched) → before ≡ seen → kept_of before.kept key ≡ None → IsOwnWatch seen key x → x ≡ fresh_watch before.opened
at_opening before seen key x same none own = let P : KeptWatches → Type 0 = λ k. IsOwnWatch k key x in no_watch before.opened (kept_of before.kept key) x none (subst P (sym same) own)

pub returns-then-not-self-clause-own : goal.returns-then-not-self-clause-own
returns-then-not-self-clause-own c =
    let tells : Tells c.args.self.now c.args.key.now Allowed = λ x own. off_standing _ x (search rules) in
    told _ c.args.self.now c.args.key.now Allowed c.self.invariant.1.0 c.self.view_is c.self.invariant.1.1 tells

pub returns-in-Some-clause-own : goal.returns-in-Some-clause-own
returns-in-Some-clause-own c =
    let tells : Tells c.args.self.now c.args.key.now c.state.result = λ x own. on_standing _ x c.state.result (search rules) (c.state.ensures x.start x.told (kept_watch _ _ _ x (search rules) own)) in
    told _ c.args.self.now c.args.key.now c.state.result c.self.invariant.1.0 c.self.view_is c.self.invariant.1.1 tells

pub returns-in-Some-clause-stands : goal.returns-in-Some-clause-stands
returns-in-Some-clause-stands c = standing_at c.args.self.now c.args.key.now c.state.result (λ x own. on_standing _ x c.state.result (search rules) (c.state.ensures x.start x.told (kept_watch _ _ _ x (search rules) own)))

pub returns-in-None-clause-own : goal.returns-in-None-clause-own
returns-in-None-clause-own c =
    let before : KeptWatches = record { on = c.self.inside.on; opened = c.self.inside.opened; kept = c.self.inside.kept.entries } in
    let none : kept_of c.self.inside.kept.entries c.args.key.now ≡ None = search rules in
    let tells : Tells c.args.self.now c.args.key.now c.state-in-None.result = λ x own.
    on_standing _ x c.state-in-None.result (search rules) (by_fresh _ c.state-in-None.result x (c.state-in-None.ensures _ _ c.start.ensures) (at_opening before c.args.self.now c.args.key.now x c.self.view_is none own)) in
    told _ c.args.self.now c.args.key.now c.state-in-None.result c.self.invariant.1.0 c.self.view_is c.self.invariant.1.1 tells

pub returns-in-None-clause-stands : goal.returns-in-None-clause-stands
returns-in-None-clause-stands c =
    let before : KeptWatches = record { on = c.self.inside.on; opened = c.self.inside.opened; kept = c.self.inside.kept.entries } in
    let none : kept_of c.self.inside.kept.entries c.args.key.now ≡ None = search rules in
    standing_at c.args.self.now c.args.key.now c.state-in-None.result (λ x own.
    on_standing _ x c.state-in-None.result (search rules) (by_fresh _ c.state-in-None.result x (c.state-in-None.ensures _ _ c.start.ensures) (at_opening before c.args.self.now c.args.key.now x c.self.view_is none own)))
