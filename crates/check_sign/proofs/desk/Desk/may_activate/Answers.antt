use Rattle.std.proofs.Common.{refl, ◌∙◌, arith, rules}
use Rattle.check_sign.proofs.MachineLemmas.{opened, none_at, same_length, not_fits, fits}
use Rattle.check_sign.proofs.MarkLemmas.{idle_at, later}
use Rattle.check_sign.proofs.ProposalLemmas.{is_up}
use Rattle.check_sign.proofs.desk.Desk.may_activate.Goals as goal

pub returns-then-not-fits_one-clause-machine : goal.returns-then-not-fits_one-clause-machine
returns-then-not-fits_one-clause-machine g c = λ now state stands.
    let s = opened c.args.self.now _ state c.self.view_is stands in
    let room = not_fits c.fits_one.result _ _ c.fits_one.ensures (search rules) in (
      (
        is_up _ state c.failed.result s c.failed.ensures c.if-failed.false,
        idle_at c.state_of.result c.self.inside.states.entries state.states c.args.key.now c.state_of.ensures.value s.states c.in-Known.is,
        none_at c.self.inside.books state.keys c.args.key.now s.keys room.0,
        c.len.ensures.count ∙ same_length c.self.inside.books state.keys s.keys,
        refl,
        omega (arith, c.len.ensures.count, room.1),
      ),
      later _ state _ _ _ _ _ _ _ now stands stands.keys refl refl refl stands.watches refl,
    )

pub returns-clause-may : goal.returns-clause-may
returns-clause-may g c = λ state stands.
    let s = opened c.args.self.now _ state c.self.view_is stands in (
      idle_at c.state_of.result c.self.inside.states.entries state.states c.args.key.now c.state_of.ensures.value s.states c.in-Known.is,
      fits c.fits_one.result c.self.inside.books state.keys c.args.key.now c.fits_one.ensures (search rules) s.keys,
    )
