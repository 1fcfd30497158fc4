use Rattle.std.proofs.Common.{◌≡◌, ◌≤◌, rules, refl, subst}
use Rattle.protect_record.specs.declared.verdict.Verdict.TheVariants as verdict
use Rattle.protect_record.specs.Verdicts.{IsVerdict}
use Rattle.record_join.proofs.JudgeLemmas.{room_of}
use Rattle.record_join.proofs.message.judge.Goals.{then-not-has_room-via-then-not-has_room, then-not-has_room-via-else-not-has_room+then-is_err}
use Rattle.record_join.proofs.message.judge.Goals as goal

pub returns-then-not-has_room-clause-judges : goal.returns-then-not-has_room-clause-judges
returns-then-not-has_room-clause-judges c =
    let pass : c.check-verdict.result ≡ verdict.Pass = search rules in
    record {
      parts = c.in-Some.record.now;
      is_kept = search rules;
      roomy = c.reserve-reserved.new.self;
      same = c.reserve-reserved.ensures.same;
      is_verdict = subst (IsVerdict c.reserve-reserved.new.self c.args.message.now) pass c.check-verdict.ensures.verdict;
      passes = λ past s. ((λ _. (c.check-verdict.ensures.passes past s).0 pass), (λ _. refl));
      others = elim c.then-not-has_room.branch [ then-not-has_room-via-then-not-has_room w ↦ search rules | then-not-has_room-via-else-not-has_room+then-is_err w ↦ search rules ];
    }

pub returns-clause-judges : goal.returns-clause-judges
returns-clause-judges c =
    let pass : c.check-verdict.result ≡ verdict.Pass = search rules in
    let room : (1 ≤ c.reserve-reserved.new.self.block_room) × (1 ≤ c.reserve-reserved.new.self.vote_room) = search rules in
    record {
      is_judged = record {
        parts = c.in-Some.record.now;
        is_kept = search rules;
        roomy = c.reserve-reserved.new.self;
        same = c.reserve-reserved.ensures.same;
        is_verdict = subst (IsVerdict c.reserve-reserved.new.self c.args.message.now) pass c.check-verdict.ensures.verdict;
        passes = λ past s. ((λ _. (c.check-verdict.ensures.passes past s).0 pass), (λ _. refl));
        others = search rules;
      };
      room = room_of c.reserve-reserved.new.self c.args.message.now room;
      found = c.keeps-repeat.ensures;
    }
