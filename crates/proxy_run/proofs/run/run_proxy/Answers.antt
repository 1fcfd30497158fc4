use Rattle.std.specs.Prelude.{vec_len}
use Rattle.std.proofs.lemmas.Grind.{common_steps}
use Rattle.std.proofs.lemmas.List.{length-map}
use Rattle.std.proofs.Common.{◌≡◌, ◌∙◌, List, inr, arith, length, map, refl}
use Rattle.client_calls.specs.Seats.{signer_seen}
use Rattle.proxy_run.specs.Parts.{Parts, parts_seen}
use Rattle.proxy_run.proofs.EquipLemmas.{twins_of}
use Rattle.proxy_run.proofs.run.run_proxy.Goals as goal

pub returns-in-Ok-clause-ends : goal.returns-in-Ok-clause-ends
returns-in-Ok-clause-ends g c =
    let told = g.S.Signer.told in
    let failed = g.S.Signer.faults in
    let denied = g.S.Signer.denials in
    let parts : List g.row.S.Denot → Parts g.row.R-Conn.Denot = λ signers. parts_seen told failed denied g.R.Door.coming g.R.Door.finished g.R.Door.lent g.R.Door.faults g.O.Sink.held g.O.Sink.faults signers c.args.door c.args.out.now in
    let signers = c.in-Ok.signers.items in
    let size : length signers ≡ vec_len c.in-Ok.signers = grind (arith, common_steps) in
    inr (record {
      equipped = parts signers;
      has = record {
        lanes = map (signer_seen told failed denied) signers;
        count_is = length-map signers (signer_seen told failed denied) ∙ size ∙ c.in-Ok.ensures.count ∙ c.get.ensures.count;
        each = twins_of told failed denied c.args.signer.now signers c.in-Ok.ensures.each;
        is = refl;
      };
      over = c.open_journal.ensures.serves;
    })
