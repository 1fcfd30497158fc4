use Rattle.std.proofs.Common.{Ok, Some, sym, ap, ◌∙◌}
use Rattle.phase0_types.specs.Faults.{read_as}
use Rattle.phase0_types.specs.Headers.{beacon_block_header_value}
use Rattle.signer_link.specs.declared.request.SignObject.TheVariants as object
use Rattle.signer_link.specs.declared.version.BlockVersion.TheVariants as version
use Rattle.session_format.specs.declared.request.Op.TheVariants as op
use Rattle.session_format.proofs.ObjectLemmas.{header_block-read}
use Rattle.session_format.proofs.objects.block_of_header.Goals as goal

pub returns-in-Ok : goal.returns-in-Ok
returns-in-Ok c =
    header_block-read c.args.domains.now c.args.key c.in-Ok.header _ (sym (ap (read_as beacon_block_header_value) c.in-Ok.is) ∙ c.in_ok-header.ensures)
    ∙ ap (λ m. Ok (op.Propose c.args.key m (Some (object.Header version.Phase0 c.in-Ok.header)))) (sym c.block_message_of.ensures)
