use Rattle.std.proofs.Common.{Ok, Some, sym, ap, ◌∙◌}
use Rattle.phase0_types.specs.Faults.{read_as}
use Rattle.phase0_types.specs.Attestations.{attestation_data_value}
use Rattle.signer_link.specs.declared.request.SignObject.TheVariants as object
use Rattle.session_format.specs.declared.request.Op.TheVariants as op
use Rattle.session_format.proofs.ObjectLemmas.{details_vote-read}
use Rattle.session_format.proofs.objects.vote_of_details.Goals as goal

pub returns-in-Ok : goal.returns-in-Ok
returns-in-Ok c =
    details_vote-read c.args.domains.now c.args.key c.in-Ok.details _ (sym (ap (read_as attestation_data_value) c.in-Ok.is) ∙ c.in_ok-details.ensures)
    ∙ ap (λ m. Ok (op.Propose c.args.key m (Some (object.Attestation c.in-Ok.details)))) (sym c.vote_message_of.ensures)
