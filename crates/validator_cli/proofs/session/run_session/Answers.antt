use Rattle.std.proofs.Common.{Bool, ap, subst, sym, ◌∙◌}
use Rattle.sign_roots.specs.declared.domains.Domains.{Domains}
use Rattle.session_format.specs.declared.chain.SessionChain.{SessionChain}
use Rattle.journal_commands.proofs.OpeningLemmas.{Handed}
use Rattle.validator_cli.specs.Endings.{Outside, SessionEnds, outside_of, session_chain}
use Rattle.validator_cli.proofs.SessionLemmas as session
use Rattle.validator_cli.proofs.session.run_session.Goals as goal

pub returns-clause-ends : goal.returns-clause-ends
returns-clause-ends g c = λ genesis journal fork altair at watch is.
    let before : Outside = outside_of g.I.Source.left g.I.Source.faults g.O.Sink.held g.O.Sink.faults g.S.Signer.told g.S.Signer.faults g.S.Signer.denials c.args.input.now c.args.out.now c.args.signer in
    let now : Outside = outside_of g.I.Source.left g.I.Source.faults g.O.Sink.held g.O.Sink.faults g.S.Signer.told g.S.Signer.faults g.S.Signer.denials c.serve_lines-status.new.input c.serve_lines-status.new.out c.into_parts-desk.result.1 in
    let own : SessionChain = session_chain c.in-Session.genesis c.in-Session.fork c.in-Session.altair in
    let given : Domains → SessionChain = λ domains. record { domains = domains; altair = c.in-Session.altair } in
    let desk = c.in-Ok.desk in
    let ended = c.into_parts-desk.result.0 in
    let served = session.served_at g.D.Disk.shows g.D.Disk.moment g.D.Disk.leaves g.D.Disk.faults own before now c.serve_lines-status.result desk ended (given c.new-domains.result) c.new-bench.result c.serve_lines-status.new.bench
    (ap given c.new-domains.ensures)
    (session.at_bench c.new-bench.result desk before.told before.signs_failed before.signs_denied c.new-bench.ensures.desk c.new-bench.ensures.told c.new-bench.ensures.faults c.new-bench.ensures.denials)
    (session.at_bench c.serve_lines-status.new.bench ended now.told now.signs_failed now.signs_denied (sym c.into_parts-desk.ensures.desk) (sym c.into_parts-desk.ensures.told) (sym c.into_parts-desk.ensures.faults) (sym c.into_parts-desk.ensures.denials))
    c.serve_lines-status.ensures.ends in
    let handed : Handed ended c.end-disks.result.0 c.end-disks.result.1.items = record { disks = c.end-disks.ensures.disks; noted = c.end-disks.ensures.events } in
    let E : SessionChain → Type 0 = λ chain. SessionEnds g.D.Disk.shows g.D.Disk.moment g.D.Disk.leaves g.D.Disk.faults chain c.in-Session.watch c.args.disks c.end-disks.result.0 before now c.end-disks.result.1.items c.serve_lines-status.result in
    let W : Bool → Type 0 = λ watch. SessionEnds g.D.Disk.shows g.D.Disk.moment g.D.Disk.leaves g.D.Disk.faults (session_chain genesis fork altair) watch c.args.disks c.end-disks.result.0 before now c.end-disks.result.1.items c.serve_lines-status.result in
    subst W (ap (session.watch_of c.in-Session.watch) (sym c.in-Session.is ∙ is))
    (subst E (ap (session.chain_of own) (sym c.in-Session.is ∙ is))
    (session.session_ended g.D.Disk.shows g.D.Disk.moment g.D.Disk.leaves g.D.Disk.faults own before now c.serve_lines-status.result desk ended c.in-Session.watch c.args.disks c.end-disks.result.0 c.end-disks.result.1.items c.in-Ok.ensures.opened handed served c.end-disks.ensures.left))

pub returns-clause-read_fault : goal.returns-clause-read_fault
returns-clause-read_fault g c =
    let before : Outside = outside_of g.I.Source.left g.I.Source.faults g.O.Sink.held g.O.Sink.faults g.S.Signer.told g.S.Signer.faults g.S.Signer.denials c.args.input.now c.args.out.now c.args.signer in
    let now : Outside = outside_of g.I.Source.left g.I.Source.faults g.O.Sink.held g.O.Sink.faults g.S.Signer.told g.S.Signer.faults g.S.Signer.denials c.serve_lines-status.new.input c.serve_lines-status.new.out c.into_parts-desk.result.1 in
    let own : SessionChain = session_chain c.in-Session.genesis c.in-Session.fork c.in-Session.altair in
    let given : Domains → SessionChain = λ domains. record { domains = domains; altair = c.in-Session.altair } in
    let desk = c.in-Ok.desk in
    let ended = c.into_parts-desk.result.0 in
    let served = session.served_at g.D.Disk.shows g.D.Disk.moment g.D.Disk.leaves g.D.Disk.faults own before now c.serve_lines-status.result desk ended (given c.new-domains.result) c.new-bench.result c.serve_lines-status.new.bench
    (ap given c.new-domains.ensures)
    (session.at_bench c.new-bench.result desk before.told before.signs_failed before.signs_denied c.new-bench.ensures.desk c.new-bench.ensures.told c.new-bench.ensures.faults c.new-bench.ensures.denials)
    (session.at_bench c.serve_lines-status.new.bench ended now.told now.signs_failed now.signs_denied (sym c.into_parts-desk.ensures.desk) (sym c.into_parts-desk.ensures.told) (sym c.into_parts-desk.ensures.faults) (sym c.into_parts-desk.ensures.denials))
    c.serve_lines-status.ensures.ends in
    let handed : Handed ended c.end-disks.result.0 c.end-disks.result.1.items = record { disks = c.end-disks.ensures.disks; noted = c.end-disks.ensures.events } in
    session.session_read g.D.Disk.shows g.D.Disk.moment g.D.Disk.leaves g.D.Disk.faults own before now c.serve_lines-status.result desk ended c.in-Session.watch c.args.disks c.end-disks.result.0 c.end-disks.result.1.items c.in-Ok.ensures.opened handed served

pub returns-clause-write_fault : goal.returns-clause-write_fault
returns-clause-write_fault g c =
    let before : Outside = outside_of g.I.Source.left g.I.Source.faults g.O.Sink.held g.O.Sink.faults g.S.Signer.told g.S.Signer.faults g.S.Signer.denials c.args.input.now c.args.out.now c.args.signer in
    let now : Outside = outside_of g.I.Source.left g.I.Source.faults g.O.Sink.held g.O.Sink.faults g.S.Signer.told g.S.Signer.faults g.S.Signer.denials c.serve_lines-status.new.input c.serve_lines-status.new.out c.into_parts-desk.result.1 in
    let own : SessionChain = session_chain c.in-Session.genesis c.in-Session.fork c.in-Session.altair in
    let given : Domains → SessionChain = λ domains. record { domains = domains; altair = c.in-Session.altair } in
    let desk = c.in-Ok.desk in
    let ended = c.into_parts-desk.result.0 in
    let served = session.served_at g.D.Disk.shows g.D.Disk.moment g.D.Disk.leaves g.D.Disk.faults own before now c.serve_lines-status.result desk ended (given c.new-domains.result) c.new-bench.result c.serve_lines-status.new.bench
    (ap given c.new-domains.ensures)
    (session.at_bench c.new-bench.result desk before.told before.signs_failed before.signs_denied c.new-bench.ensures.desk c.new-bench.ensures.told c.new-bench.ensures.faults c.new-bench.ensures.denials)
    (session.at_bench c.serve_lines-status.new.bench ended now.told now.signs_failed now.signs_denied (sym c.into_parts-desk.ensures.desk) (sym c.into_parts-desk.ensures.told) (sym c.into_parts-desk.ensures.faults) (sym c.into_parts-desk.ensures.denials))
    c.serve_lines-status.ensures.ends in
    let handed : Handed ended c.end-disks.result.0 c.end-disks.result.1.items = record { disks = c.end-disks.ensures.disks; noted = c.end-disks.ensures.events } in
    session.session_write g.D.Disk.shows g.D.Disk.moment g.D.Disk.leaves g.D.Disk.faults own before now c.serve_lines-status.result desk ended c.in-Session.watch c.args.disks c.end-disks.result.0 c.end-disks.result.1.items c.in-Ok.ensures.opened handed served

pub returns-clause-disk_fault : goal.returns-clause-disk_fault
returns-clause-disk_fault g c =
    let before : Outside = outside_of g.I.Source.left g.I.Source.faults g.O.Sink.held g.O.Sink.faults g.S.Signer.told g.S.Signer.faults g.S.Signer.denials c.args.input.now c.args.out.now c.args.signer in
    let now : Outside = outside_of g.I.Source.left g.I.Source.faults g.O.Sink.held g.O.Sink.faults g.S.Signer.told g.S.Signer.faults g.S.Signer.denials c.serve_lines-status.new.input c.serve_lines-status.new.out c.into_parts-desk.result.1 in
    let own : SessionChain = session_chain c.in-Session.genesis c.in-Session.fork c.in-Session.altair in
    let given : Domains → SessionChain = λ domains. record { domains = domains; altair = c.in-Session.altair } in
    let desk = c.in-Ok.desk in
    let ended = c.into_parts-desk.result.0 in
    let served = session.served_at g.D.Disk.shows g.D.Disk.moment g.D.Disk.leaves g.D.Disk.faults own before now c.serve_lines-status.result desk ended (given c.new-domains.result) c.new-bench.result c.serve_lines-status.new.bench
    (ap given c.new-domains.ensures)
    (session.at_bench c.new-bench.result desk before.told before.signs_failed before.signs_denied c.new-bench.ensures.desk c.new-bench.ensures.told c.new-bench.ensures.faults c.new-bench.ensures.denials)
    (session.at_bench c.serve_lines-status.new.bench ended now.told now.signs_failed now.signs_denied (sym c.into_parts-desk.ensures.desk) (sym c.into_parts-desk.ensures.told) (sym c.into_parts-desk.ensures.faults) (sym c.into_parts-desk.ensures.denials))
    c.serve_lines-status.ensures.ends in
    let handed : Handed ended c.end-disks.result.0 c.end-disks.result.1.items = record { disks = c.end-disks.ensures.disks; noted = c.end-disks.ensures.events } in
    session.session_disk g.D.Disk.shows g.D.Disk.moment g.D.Disk.leaves g.D.Disk.faults own before now c.serve_lines-status.result desk ended c.in-Session.watch c.args.disks c.end-disks.result.0 c.end-disks.result.1.items c.in-Ok.ensures.opened handed served

pub returns-clause-complete : goal.returns-clause-complete
returns-clause-complete g c =
    let before : Outside = outside_of g.I.Source.left g.I.Source.faults g.O.Sink.held g.O.Sink.faults g.S.Signer.told g.S.Signer.faults g.S.Signer.denials c.args.input.now c.args.out.now c.args.signer in
    let now : Outside = outside_of g.I.Source.left g.I.Source.faults g.O.Sink.held g.O.Sink.faults g.S.Signer.told g.S.Signer.faults g.S.Signer.denials c.serve_lines-status.new.input c.serve_lines-status.new.out c.into_parts-desk.result.1 in
    let own : SessionChain = session_chain c.in-Session.genesis c.in-Session.fork c.in-Session.altair in
    let given : Domains → SessionChain = λ domains. record { domains = domains; altair = c.in-Session.altair } in
    let desk = c.in-Ok.desk in
    let ended = c.into_parts-desk.result.0 in
    let served = session.served_at g.D.Disk.shows g.D.Disk.moment g.D.Disk.leaves g.D.Disk.faults own before now c.serve_lines-status.result desk ended (given c.new-domains.result) c.new-bench.result c.serve_lines-status.new.bench
    (ap given c.new-domains.ensures)
    (session.at_bench c.new-bench.result desk before.told before.signs_failed before.signs_denied c.new-bench.ensures.desk c.new-bench.ensures.told c.new-bench.ensures.faults c.new-bench.ensures.denials)
    (session.at_bench c.serve_lines-status.new.bench ended now.told now.signs_failed now.signs_denied (sym c.into_parts-desk.ensures.desk) (sym c.into_parts-desk.ensures.told) (sym c.into_parts-desk.ensures.faults) (sym c.into_parts-desk.ensures.denials))
    c.serve_lines-status.ensures.ends in
    let handed : Handed ended c.end-disks.result.0 c.end-disks.result.1.items = record { disks = c.end-disks.ensures.disks; noted = c.end-disks.ensures.events } in
    session.session_complete g.D.Disk.shows g.D.Disk.moment g.D.Disk.leaves g.D.Disk.faults own before now c.serve_lines-status.result desk ended c.in-Session.watch c.args.disks c.end-disks.result.0 c.end-disks.result.1.items c.in-Ok.ensures.opened handed served
