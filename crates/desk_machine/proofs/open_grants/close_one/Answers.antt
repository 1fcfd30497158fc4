use Rattle.std.proofs.Common.{List, sym, subst}
use Rattle.std.specs.Prelude.{Contains}
use Rattle.desk_machine.specs.declared.open_grant.OpenGrant.{OpenGrant}
use Rattle.desk_machine.proofs.open_grants.close_one.Goals as goal

pub returns-in_default-clause-kept : goal.returns-in_default-clause-kept
returns-in_default-clause-kept c =
    let g = c.requires in
    let P : List OpenGrant → Type 0 = λ l. Contains l g.0 in
    absurd (c.in_default.ensures.none g.0 (subst P (sym c.as_slice.ensures.value) g.1) g.2)

pub returns-in_default-clause-len : goal.returns-in_default-clause-len
returns-in_default-clause-len c =
    let g = c.requires in
    let P : List OpenGrant → Type 0 = λ l. Contains l g.0 in
    absurd (c.in_default.ensures.none g.0 (subst P (sym c.as_slice.ensures.value) g.1) g.2)
