use Rattle.std.proofs.Common.{None}
use Rattle.phase0_types.proofs.RoundTrip.{reads_back}
use Rattle.phase0_types.proofs.shaped.Shaped.to_value.Goals as goal

pub returns-clause-reads_back : goal.returns-clause-reads_back
returns-clause-reads_back g c =
    reads_back g.Self.Shaped.shape None (g.Self.Shaped.value c.args.self.now) c.to_json.result g.met.Self.Shaped.names c.to_json.ensures.written c.to_json.ensures.fits
