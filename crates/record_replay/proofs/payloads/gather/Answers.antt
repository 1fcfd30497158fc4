use Rattle.std.proofs.Common.{rules, ◌≡◌, List, ℕ, Some, None, sym, subst}
use Rattle.std.specs.List.{slice_get}
use Rattle.record_replay.proofs.GatherLemmas.{SoFar, lent_all, lent_next}
use Rattle.record_replay.proofs.payloads.gather.Goals as goal

pub loop-payload-preserved : goal.loop-payload-preserved
loop-payload-preserved c =
    let is : Some c.in-Some.payload.now ≡ slice_get c.loop-payload.reader 0 = search rules in
    let S : List (List ℕ) → Type 0 = λ left. SoFar c.args.version c.args.reader.now left c.take_payload.new.self.keys.entries c.take_payload.new.self.states.entries c.take_payload.new.self.watches.entries in
    subst S (sym c.skip.ensures) (lent_next c.args.version c.args.reader.now c.loop-payload.reader c.in-Some.payload.now _ _ _ _ _ _ c.loop-payload.invariant is c.in_ok-take_payload.ensures)

pub returns : goal.returns
returns c =
    let is : None ≡ slice_get c.loop-payload.reader 0 = search rules in
    lent_all c.args.version c.args.reader.now c.loop-payload.reader _ _ _ c.loop-payload.invariant is
