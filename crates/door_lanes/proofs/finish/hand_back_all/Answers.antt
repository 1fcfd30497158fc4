use Rattle.std.proofs.Common.{rules, ◌≡◌, ◌+◌, ◌∷◌, ◌++◌, [], ℕ, List, Option, append_assoc, length, sym, ap, ◌∙◌, subst}
use Rattle.std.proofs.lemmas.List.{length-append}
use Rattle.door_lanes.specs.Doors.{AreLent, DoorSeen, TookBack, door_seen, returned, returned_in}
use Rattle.door_lanes.proofs.FinishLemmas.{lent_part, lent_rest, returned_more, took_none, took_on}
use Rattle.door_lanes.proofs.finish.hand_back_all.Goals as goal

pub kept-init : goal.kept-init
kept-init g c =
    let C : Type 0 = g.row.R-Conn.Denot in
    let same : c.into_iter-back-iterator.result.rest.items ≡ c.args.kept.items = search rules in
    record {
      next = tt;
      finite = tt;
      rest = same;
      room = subst (λ (l : List (Option C)). AreLent (g.R.Door.lent c.args.door.now) (length (returned_in l))) (sym same) c.requires.lent;
      took = took_none (door_seen g.R.Door.coming g.R.Door.finished g.R.Door.lent g.R.Door.faults c.args.door.now);
    }

pub hand_back-requires : goal.hand_back-requires
hand_back-requires g c =
    let C : Type 0 = g.row.R-Conn.Denot in
    let back : Option C = c.in-Some.back in
    let later : List (Option C) = c.next.new.self.rest.items in
    let rest : c.kept.back-iterator.rest.items ≡ back ∷ later = c.in-Some.ensures.steps.0 in
    let size : length (returned_in c.kept.back-iterator.rest.items) ≡ length (returned back) + length (returned_in later) = ap (λ (l : List (Option C)). length (returned_in l)) rest ∙ length-append (returned back) (returned_in later) in
    record { lent = lent_part (g.R.Door.lent c.kept.door) (length (returned back)) (length (returned_in later)) (subst (λ (n : ℕ). AreLent (g.R.Door.lent c.kept.door) n) size c.kept.invariant.room) }

pub kept-preserved : goal.kept-preserved
kept-preserved g c =
    let C : Type 0 = g.row.R-Conn.Denot in
    let i = c.kept.invariant in
    let done : List (Option C) = c.kept.yielded in
    let back : Option C = c.in-Some.back in
    let later : List (Option C) = c.next.new.self.rest.items in
    let rest : c.kept.back-iterator.rest.items ≡ back ∷ later = c.in-Some.ensures.steps.0 in
    let seen = door_seen g.R.Door.coming g.R.Door.finished g.R.Door.lent g.R.Door.faults in
    let old : DoorSeen C = seen c.args.door.now in
    let mid : DoorSeen C = seen c.kept.door in
    let new : DoorSeen C = seen c.hand_back.new.door in
    let took : TookBack mid (returned back) new = c.hand_back.ensures.took in
    let size : length (returned_in c.kept.back-iterator.rest.items) ≡ length (returned back) + length (returned_in later) = ap (λ (l : List (Option C)). length (returned_in l)) rest ∙ length-append (returned back) (returned_in later) in
    record {
      next = tt;
      finite = tt;
      rest = append_assoc done (back ∷ []) later ∙ ap (λ (l : List (Option C)). done ++ l) (sym rest) ∙ i.rest;
      room = lent_rest mid.lent new.lent (length (returned back)) (length (returned_in later)) took.lent (subst (λ (n : ℕ). AreLent mid.lent n) size i.room);
      took = subst (λ (l : List C). TookBack old l new) (sym (returned_more done back)) (took_on old mid new (returned_in done) (returned back) i.took took);
    }
