use Rattle.std.proofs.Common.{◌≡◌, Some, None, Err, refl, sym, ◌∙◌, arith, rules}
use Rattle.json.specs.Json.{read_key}
use Rattle.serde_json.specs.Data.{object}
use Rattle.json_walk.proofs.WalkLemmas.{members_start, members_stopped, members_no_name, members_done}
use Rattle.interchange_io.specs.declared.halt.Halt.TheVariants as halt
use Rattle.interchange_io.proofs.HaltLemmas.{Halts-map, Halts-Err}
use Rattle.interchange_io.specs.Found.{metadata_at}
use Rattle.interchange_io.specs.Parts.{metadata_with}
use Rattle.interchange_io.proofs.KeptLemmas.{members_put}
use Rattle.interchange_io.proofs.PartsLemmas.{metadata_says, metadata_more, metadata_done}
use Rattle.interchange_io.proofs.metadata.read_metadata_members.Goals as goal

pub members-init : goal.members-init
members-init c = members_start _ c.args.depth c.args.reader.now (refl, refl)

pub returns-in_err-name-clause-value : goal.returns-in_err-name-clause-value
returns-in_err-name-clause-value c =
    let same : c.from_residual.result ≡ Err halt.Json = search rules in
    Halts-Err _ _ _ _ _ same (members_no_name (metadata_says c.members.parts) c.args.depth c.args.reader.now c.members.reader c.members.invariant c.in_err-name.ensures.value)

pub returns-in_err-read_metadata_member-clause-value : goal.returns-in_err-read_metadata_member-clause-value
returns-in_err-read_metadata_member-clause-value c =
    let named : read_key c.members.reader ≡ Some (Some c.in-Some.name.now, c.next_key.new.self) = grind arith in
    let same : c.from_residual-in_err-read_metadata_member.result ≡ Err c.in_err-read_metadata_member.field-0.0 = search rules in
    Halts-Err _ _ _ _ _ same (Halts-map _ (members_stopped (metadata_says c.members.parts) c.args.depth c.in-Some.name.now c.args.reader.now c.members.reader c.next_key.new.self c.members.invariant named) c.in_err-read_metadata_member.ensures.value)

pub members-preserved : goal.members-preserved
members-preserved c =
    let named : read_key c.members.reader ≡ Some (Some c.in-Some.name.now, c.next_key.new.self) = grind arith in
    members_put metadata_says metadata_with c.members.parts c.read_metadata_member.new.parts c.args.depth c.in-Some.name.now c.args.reader.now c.members.reader c.next_key.new.self c.read_metadata_member.new.reader (metadata_more c.members.parts c.in-Some.name.now)
    c.members.invariant named c.in_ok-read_metadata_member.ensures.value c.in_ok-read_metadata_member.ensures.shorter

pub returns-clause-value : goal.returns-clause-value
returns-clause-value c =
    let over : read_key c.members.reader ≡ Some (None, c.next_key.new.self) = grind arith in
    members_done (metadata_says c.members.parts) (λ ms. metadata_at (Some (object ms))) c.metadata_of_parts.result c.args.depth c.args.reader.now c.members.reader c.next_key.new.self
    (λ found h. metadata_done c.members.parts found h ∙ sym c.metadata_of_parts.ensures) c.members.invariant over
