use Rattle.std.proofs.Common.{◌≡◌, Some, None, Err, refl, sym, ◌∙◌, arith, rules}
use Rattle.json.specs.Json.{read_key}
use Rattle.serde_json.specs.Data.{object}
use Rattle.json_walk.proofs.WalkLemmas.{Reads-Err, members_start, members_stopped, members_no_name, members_done}
use Rattle.interchange_io.specs.Reading.{vote_in}
use Rattle.interchange_io.specs.Parts.{vote_with}
use Rattle.interchange_io.proofs.KeptLemmas.{members_put}
use Rattle.interchange_io.proofs.PartsLemmas.{vote_says, vote_more, vote_done}
use Rattle.interchange_io.proofs.entries.read_vote_members.Goals as goal

pub members-init : goal.members-init
members-init c = members_start _ c.args.depth c.args.reader.now (refl, refl, refl)

pub returns-in_err-name-clause-value : goal.returns-in_err-name-clause-value
returns-in_err-name-clause-value c =
    let same : c.from_residual.result ≡ Err c.in_err-name.field-0.0 = search rules in
    Reads-Err _ _ _ _ _ same (members_no_name (vote_says c.members.parts) c.args.depth c.args.reader.now c.members.reader c.members.invariant c.in_err-name.ensures.value)

pub returns-in_err-read_vote_member-clause-value : goal.returns-in_err-read_vote_member-clause-value
returns-in_err-read_vote_member-clause-value c =
    let named : read_key c.members.reader ≡ Some (Some c.in-Some.name.now, c.next_key.new.self) = grind arith in
    let same : c.from_residual-in_err-read_vote_member.result ≡ Err c.in_err-read_vote_member.field-0.0 = search rules in
    Reads-Err _ _ _ _ _ same (members_stopped (vote_says c.members.parts) c.args.depth c.in-Some.name.now c.args.reader.now c.members.reader c.next_key.new.self c.members.invariant named c.in_err-read_vote_member.ensures.value)

pub members-preserved : goal.members-preserved
members-preserved c =
    let named : read_key c.members.reader ≡ Some (Some c.in-Some.name.now, c.next_key.new.self) = grind arith in
    members_put vote_says vote_with c.members.parts c.read_vote_member.new.parts c.args.depth c.in-Some.name.now c.args.reader.now c.members.reader c.next_key.new.self c.read_vote_member.new.reader (vote_more c.members.parts c.in-Some.name.now)
    c.members.invariant named c.in_ok-read_vote_member.ensures.value c.in_ok-read_vote_member.ensures.shorter

pub returns-clause-value : goal.returns-clause-value
returns-clause-value c =
    let over : read_key c.members.reader ≡ Some (None, c.next_key.new.self) = grind arith in
    members_done (vote_says c.members.parts) (λ ms. vote_in (object ms)) c.vote_of_parts.result c.args.depth c.args.reader.now c.members.reader c.next_key.new.self
    (λ found h. vote_done c.members.parts found h ∙ sym c.vote_of_parts.ensures) c.members.invariant over
