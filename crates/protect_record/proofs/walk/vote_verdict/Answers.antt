use Rattle.std.proofs.Common.{◌≡◌, ℕ, ◌-◌, ◌+◌, ◌*◌, ◌^◌, ◌≤◌, max, Option, None, length, subst, arith}
use Rattle.std.specs.Prelude.{IfNone}
use Rattle.slash_defs.specs.declared.entry.VoteEntry.{VoteEntry}
use Rattle.slash_defs.specs.FileOrder.{vote_cmp}
use Rattle.protect_record.proofs.LiveLemmas.{targets_rise}
use Rattle.protect_record.proofs.PlaceLemmas.{keys_rise}
use Rattle.sorted_search.proofs.StepLemmas.{no_range, one_more}
use Rattle.protect_record.proofs.walk.vote_verdict.Goals as goal

pub range_of-start-requires : goal.range_of-start-requires
range_of-start-requires g c = keys_rise vote_cmp (λ e. e.target) targets_rise c.args.votes.now c.requires.in_order

at_none : (r : Option VoteEntry) (P : Type 0) → r ≡ None → IfNone r P → P
at_none r P is h = let nothing : Option VoteEntry = None in let there : IfNone nothing P = subst (λ (o : Option VoteEntry). IfNone o P) is h in there

pub returns-clause-few : goal.returns-clause-few
returns-clause-few g c pass none =
    let d : VoteEntry = record { target = 0; source = 0; root = None } in
    let n : ℕ = length c.args.votes.now in
    let range = c.range_of-start.result in
    let within = c.range_of-start.ensures.within in
    let empty = no_range (λ (e : VoteEntry). e.target) c.args.target c.args.votes.now d range.0 range.1 within.0 within.1 c.range_of-start.ensures.inside none in
    let few = c.range_of-start.ensures.few empty in
    let double : c.first_clash.new.steps ≡ c.range_of-start.new.steps = omega (arith, empty, c.first_clash.ensures.few, c.first_clash.ensures.counts) in
    let inner : c.first_surrounded.new.steps ≤ c.first_clash.new.steps + 1 = at_none c.first_surrounded.result _ c.in_default-first_surrounded.is c.first_surrounded.ensures.few in
    let outer : c.first_surrounding.new.steps ≡ c.first_surrounded.new.steps = at_none c.first_surrounding.result _ c.in_default-first_surrounding.is c.first_surrounding.ensures.few in
    let more : 2 ^ (c.first_surrounding.new.steps - c.args.steps.now) ≤ max 1 (2 * (4 * n)) =
    one_more (c.range_of-start.new.steps - c.args.steps.now) (c.first_surrounding.new.steps - c.args.steps.now) (4 * n) few (omega arith)
    (λ nothing. let same = c.first_surrounded.ensures.empty (omega (arith, within.0, within.1)) in omega (arith, same)) in
    omega arith
