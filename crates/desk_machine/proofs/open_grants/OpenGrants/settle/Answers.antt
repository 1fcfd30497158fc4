use Rattle.std.proofs.Common.{List, sym, subst}
use Rattle.desk_machine.specs.Grants.{AreNumbered}
use Rattle.desk_machine.specs.declared.open_grant.OpenGrant.{OpenGrant}
use Rattle.desk_machine.proofs.GrantLemmas.{numbered_without}
use Rattle.desk_machine.proofs.open_grants.OpenGrants.settle.Goals as goal

pub invariant_of-self : goal.invariant_of-self
invariant_of-self c =
    let N : List OpenGrant → Type 0 = λ l. AreNumbered l c.self.inside.next in
    subst N (sym c.close_one.ensures.kept) (numbered_without c.self.inside.grants.items c.self.inside.next _ c.self.invariant)
