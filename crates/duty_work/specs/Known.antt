-- What is signed of a vote for some data, kept next to the data so that it is hashed once.
use Rattle.std.specs.Prelude.{◌≡◌}
use Rattle.slash_defs.specs.declared.message.Message.{Message}
use Rattle.phase0_types.specs.declared.attestation.AttestationData.{AttestationData}
use Rattle.sign_roots.specs.declared.domains.Domains.{Domains}
use Rattle.duty_plans.specs.Messages.{vote_message}

abbrev pub IsKnown : Domains → AttestationData × Message → Type 0
IsKnown domains known = known.1 ≡ vote_message domains known.0
