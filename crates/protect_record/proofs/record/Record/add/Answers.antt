use Rattle.std.proofs.Common.{List, refl, subst, arith, rules}
use Rattle.slash_defs.specs.FileOrder.{exact_blocks, exact_votes}
use Rattle.slash_defs.specs.declared.entry.VoteEntry.{VoteEntry}
use Rattle.sorted_search.specs.Sources.{AreGreatest, AreLeast}
use Rattle.protect_record.specs.Verdicts.{IsBlockVerdict, IsVoteVerdict}
use Rattle.protect_record.specs.declared.verdict.Verdict.TheVariants as verdict
use Rattle.protect_record.proofs.StandLemmas.{added_stands, block_kept, vote_kept}
use Rattle.protect_record.proofs.record.Record.add.Goals as goal

pub insert_once-requires-clause-exact : goal.insert_once-requires-clause-exact
insert_once-requires-clause-exact c = exact_blocks

pub insert_once-requires-in-Vote-clause-exact : goal.insert_once-requires-in-Vote-clause-exact
insert_once-requires-in-Vote-clause-exact c = exact_votes

pub returns-in-Block-clause-added : goal.returns-in-Block-clause-added
returns-in-Block-clause-added c = rw (c.in-Block.is, ← c.self.view_is) (c.insert_once.ensures.joined, refl, refl, omega arith, refl)

pub returns-in-Block-clause-stands : goal.returns-in-Block-clause-stands
returns-in-Block-clause-stands c past stands = added_stands _ _ past _ c.requires.passes (returns-in-Block-clause-added c) stands

pub returns-in-Some-clause-added : goal.returns-in-Some-clause-added
returns-in-Some-clause-added c = rw (c.in-Vote.is, ← c.self.view_is) (c.insert_once-in-Vote.ensures.joined, refl, refl, omega arith, refl)

pub returns-in-Some-clause-stands : goal.returns-in-Some-clause-stands
returns-in-Some-clause-stands c past stands = added_stands _ _ past _ c.requires.passes (returns-in-Some-clause-added c) stands

pub returns-in_default-clause-added : goal.returns-in_default-clause-added
returns-in_default-clause-added c = rw (c.in-Vote.is, ← c.self.view_is) (c.insert_once-in-Vote.ensures.joined, refl, refl, omega arith, refl)

pub returns-in_default-clause-stands : goal.returns-in_default-clause-stands
returns-in_default-clause-stands c past stands = added_stands _ _ past _ c.requires.passes (returns-in_default-clause-added c) stands

pub invariant_of-self : goal.invariant_of-self
invariant_of-self c =
    let pass : IsBlockVerdict c.self.inside.floors.block c.self.inside.blocks.items c.in-Block.slot c.in-Block.root verdict.Pass = rw (← c.self.view_is, c.in-Block.is) at c.requires.passes in
    (block_kept c.self.inside.floors c.self.inside.blocks.items _ c.self.inside.votes.items c.in-Block.slot c.in-Block.root c.self.invariant.0 c.insert_once.ensures.joined pass, c.self.invariant.1)

pub invariant_of-self-in-Some : goal.invariant_of-self-in-Some
invariant_of-self-in-Some c =
    let pass : IsVoteVerdict c.self.inside.floors.vote c.self.inside.votes.items c.in-Vote.source c.in-Vote.target c.in-Vote.root verdict.Pass = rw (← c.self.view_is, c.in-Vote.is) at c.requires.passes in (
      vote_kept c.self.inside.floors c.self.inside.blocks.items c.self.inside.votes.items _ c.in-Vote.source c.in-Vote.target c.in-Vote.root c.self.invariant.0 c.insert_once-in-Vote.ensures.joined pass,
      record {
        greatest = subst (λ (votes : List VoteEntry). AreGreatest votes c.insert.new.self.greatest) c.as_slice.ensures.value c.insert.ensures.greatest;
        least = subst (λ (votes : List VoteEntry). AreLeast votes c.insert.new.self.least) c.as_slice.ensures.value c.insert.ensures.least;
        room = search rules;
      },
    )
