use Rattle.std.proofs.Common.{◌+◌, ◌∙◌, ◌++◌, ◌∷◌, [], None, ap, max, refl}
use Rattle.check_sign.proofs.MachineLemmas.{opened}
use Rattle.check_sign.proofs.LeaveLemmas.{barred_leave, later_watched}
use Rattle.check_sign.proofs.desk.Desk.allow_key.Goals as goal

pub returns-in-Err-clause-machine : goal.returns-in-Err-clause-machine
returns-in-Err-clause-machine g c = λ state stands.
    let s = opened c.args.self.now _ state c.self.view_is stands in
    let held = later_watched _ state _ _ _ _ _ c.args.now s s.watches refl refl c.max-self-inside.ensures in
    barred_leave _ state c.args.key c.args.now _ held (c.in-Err.ensures.barred (record state { latest = max state.latest c.args.now }) held)

pub returns-then-not-make_room-clause-machine : goal.returns-then-not-make_room-clause-machine
returns-then-not-make_room-clause-machine g c = λ state stands.
    let s = opened c.args.self.now _ state c.self.view_is stands in
    let may = c.in-Ok.ensures.may (record state { latest = max state.latest c.args.now }) (later_watched _ state _ _ _ _ _ c.args.now s s.watches refl refl c.max-self-inside.ensures) in
    (may, later_watched _ state _ _ _ _ _ c.args.now s s.watches c.make_room.ensures.kept c.make_room.ensures.next c.max-self-inside.ensures)

pub returns-clause-machine : goal.returns-clause-machine
returns-clause-machine g c = λ state stands.
    let s = opened c.args.self.now _ state c.self.view_is stands in
    let may = c.in-Ok.ensures.may (record state { latest = max state.latest c.args.now }) (later_watched _ state _ _ _ _ _ c.args.now s s.watches refl refl c.max-self-inside.ensures) in (
      ((may.0, may.1, tt), c.give_leave-grant.ensures.grant ∙ ap (λ n. record { number = n; key = c.args.key; message = None }) (c.make_room.ensures.next ∙ s.next)),
      record {
        genesis = s.genesis;
        keys = s.keys;
        states = s.states;
        grants = c.give_leave-grant.ensures.kept ∙ ap (λ l. l ++ c.give_leave-grant.result ∷ []) (c.make_room.ensures.kept ∙ s.grants);
        next = c.give_leave-grant.ensures.next ∙ ap (λ n. n + 1) (c.make_room.ensures.next ∙ s.next);
        latest = c.max-self-inside.ensures ∙ ap (λ n. max n c.args.now) s.latest;
        watches = s.watches;
        size = s.size;
        payloads = s.payloads;
        torn = s.torn;
      },
    )
