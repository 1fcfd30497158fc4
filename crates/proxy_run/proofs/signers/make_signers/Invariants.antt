use Rattle.std.proofs.Common.{◌≡◌, All, length}
use Rattle.proxy_run.specs.Ends.{IsMadeOf}
use Rattle.proxy_run.proofs.signers.make_signers.Given as goal

abbrev pub invariant-signers : goal.invariant-signers
invariant-signers g l = record {
  count : length l.signers.items ≡ l._lane;
  each : All (IsMadeOf g.S.Signer.told g.S.Signer.faults g.S.Signer.denials l.fn.signer) l.signers.items;
}
