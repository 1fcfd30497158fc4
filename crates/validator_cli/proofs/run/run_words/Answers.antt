use Rattle.std.proofs.Common.{◌≡◌, ◌∙◌, Ok, Err, ap, map, refl, rules, string_bytes, sym}
use Rattle.command_line.specs.Plans.{asked_of, merge, rehearse, session, show, taken_as}
use Rattle.command_line.specs.declared.planned.Plan.{Plan}
use Rattle.journal_commands.specs.Views.{output_of}
use Rattle.validator_cli.specs.Endings.{Outside, outside_of}
use Rattle.validator_cli.proofs.EndingLemmas.{asked_for, caused_for, refused, refused_causes, rehearsal_causes}
use Rattle.validator_cli.proofs.run.run_words.Goals as goal

pub returns-in-Ok-Err-clause-ending : goal.returns-in-Ok-Err-clause-ending
returns-in-Ok-Err-clause-ending g c =
    let before : Outside = outside_of g.I.Source.left g.I.Source.faults g.O.Sink.held g.O.Sink.faults g.S.Signer.told g.S.Signer.faults g.S.Signer.denials c.args.input.now c.args.out.now c.args.signer in
    let is : taken_as (Err c.in-Ok-Err.usage) ≡ asked_of (map string_bytes c.args.words.now) = search rules in
    refused g.D.Disk.shows g.D.Disk.moment g.D.Disk.leaves g.D.Disk.faults c.args.disks before (output_of g.O.Sink.held g.O.Sink.faults c.refuse-status.new.out) c.new.result.items c.refuse-status.result (asked_of (map string_bytes c.args.words.now)) is c.new.ensures c.refuse-status.ensures

pub returns-in-Ok-Err-clause-causes : goal.returns-in-Ok-Err-clause-causes
returns-in-Ok-Err-clause-causes g c =
    let is : taken_as (Err c.in-Ok-Err.usage) ≡ asked_of (map string_bytes c.args.words.now) = search rules in
    refused_causes (output_of g.O.Sink.held g.O.Sink.faults c.args.out.now) (output_of g.O.Sink.held g.O.Sink.faults c.refuse-status.new.out) _ _ _ c.refuse-status.result (asked_of (map string_bytes c.args.words.now)) is c.refuse-status.ensures

pub returns-in-Session-clause-ending : goal.returns-in-Session-clause-ending
returns-in-Session-clause-ending g c =
    let before : Outside = outside_of g.I.Source.left g.I.Source.faults g.O.Sink.held g.O.Sink.faults g.S.Signer.told g.S.Signer.faults g.S.Signer.denials c.args.input.now c.args.out.now c.args.signer in
    let now : Outside = outside_of g.I.Source.left g.I.Source.faults g.O.Sink.held g.O.Sink.faults g.S.Signer.told g.S.Signer.faults g.S.Signer.denials c.run_session.new.input c.run_session.new.out c.run_session.result.2 in
    let taken : taken_as (Ok c.in-Ok-Ok.planned) ≡ asked_of (map string_bytes c.args.words.now) = search rules in
    let is : session c.in-Session.genesis c.in-Session.journal c.in-Session.fork c.in-Session.altair c.in-Session.signer c.in-Session.watch ≡ asked_of (map string_bytes c.args.words.now) = ap (λ (p : Plan). taken_as (Ok p)) (sym c.in-Session.is) ∙ taken in
    asked_for g.D.Disk.shows g.D.Disk.moment g.D.Disk.leaves g.D.Disk.faults c.args.disks c.run_session.result.1 before now c.run_session.result.3.items c.run_session.result.0 (session c.in-Session.genesis c.in-Session.journal c.in-Session.fork c.in-Session.altair c.in-Session.signer c.in-Session.watch) (asked_of (map string_bytes c.args.words.now)) is
    (c.run_session.ensures.ends c.in-Session.genesis c.in-Session.journal c.in-Session.fork c.in-Session.altair c.in-Session.signer c.in-Session.watch c.in-Session.is)

pub returns-in-Session-clause-causes : goal.returns-in-Session-clause-causes
returns-in-Session-clause-causes g c =
    let taken : taken_as (Ok c.in-Ok-Ok.planned) ≡ asked_of (map string_bytes c.args.words.now) = search rules in
    let is : session c.in-Session.genesis c.in-Session.journal c.in-Session.fork c.in-Session.altair c.in-Session.signer c.in-Session.watch ≡ asked_of (map string_bytes c.args.words.now) = ap (λ (p : Plan). taken_as (Ok p)) (sym c.in-Session.is) ∙ taken in
    caused_for (session c.in-Session.genesis c.in-Session.journal c.in-Session.fork c.in-Session.altair c.in-Session.signer c.in-Session.watch) (asked_of (map string_bytes c.args.words.now)) _ _ _ _ _ is (record {
      read_fault = c.run_session.ensures.read_fault;
      write_fault = c.run_session.ensures.write_fault;
      disk_fault = c.run_session.ensures.disk_fault;
      complete = c.run_session.ensures.complete;
    })

pub returns-in-Merge-clause-ending : goal.returns-in-Merge-clause-ending
returns-in-Merge-clause-ending g c =
    let before : Outside = outside_of g.I.Source.left g.I.Source.faults g.O.Sink.held g.O.Sink.faults g.S.Signer.told g.S.Signer.faults g.S.Signer.denials c.args.input.now c.args.out.now c.args.signer in
    let now : Outside = outside_of g.I.Source.left g.I.Source.faults g.O.Sink.held g.O.Sink.faults g.S.Signer.told g.S.Signer.faults g.S.Signer.denials c.run_merge-status.new.input c.run_merge-status.new.out c.args.signer in
    let taken : taken_as (Ok c.in-Ok-Ok.planned) ≡ asked_of (map string_bytes c.args.words.now) = search rules in
    let is : merge c.in-Merge.genesis c.in-Merge.journal ≡ asked_of (map string_bytes c.args.words.now) = ap (λ (p : Plan). taken_as (Ok p)) (sym c.in-Merge.is) ∙ taken in
    asked_for g.D.Disk.shows g.D.Disk.moment g.D.Disk.leaves g.D.Disk.faults c.args.disks c.run_merge-status.result.1 before now c.run_merge-status.result.2.items c.run_merge-status.result.0 (merge c.in-Merge.genesis c.in-Merge.journal) (asked_of (map string_bytes c.args.words.now)) is
    (c.run_merge-status.ensures.ends c.in-Merge.genesis c.in-Merge.journal c.in-Merge.is, record { told = refl; failed = refl; denied = refl })

pub returns-in-Merge-clause-causes : goal.returns-in-Merge-clause-causes
returns-in-Merge-clause-causes g c =
    let taken : taken_as (Ok c.in-Ok-Ok.planned) ≡ asked_of (map string_bytes c.args.words.now) = search rules in
    let is : merge c.in-Merge.genesis c.in-Merge.journal ≡ asked_of (map string_bytes c.args.words.now) = ap (λ (p : Plan). taken_as (Ok p)) (sym c.in-Merge.is) ∙ taken in
    caused_for (merge c.in-Merge.genesis c.in-Merge.journal) (asked_of (map string_bytes c.args.words.now)) _ _ _ _ _ is (record {
      read_fault = c.run_merge-status.ensures.read_fault;
      write_fault = c.run_merge-status.ensures.write_fault;
      disk_fault = c.run_merge-status.ensures.disk_fault;
      complete = c.run_merge-status.ensures.complete;
    })

pub returns-in-Show-clause-ending : goal.returns-in-Show-clause-ending
returns-in-Show-clause-ending g c =
    let before : Outside = outside_of g.I.Source.left g.I.Source.faults g.O.Sink.held g.O.Sink.faults g.S.Signer.told g.S.Signer.faults g.S.Signer.denials c.args.input.now c.args.out.now c.args.signer in
    let now : Outside = outside_of g.I.Source.left g.I.Source.faults g.O.Sink.held g.O.Sink.faults g.S.Signer.told g.S.Signer.faults g.S.Signer.denials c.args.input.now c.run_show-status.new.out c.args.signer in
    let taken : taken_as (Ok c.in-Ok-Ok.planned) ≡ asked_of (map string_bytes c.args.words.now) = search rules in
    let is : show c.in-Show.genesis c.in-Show.journal ≡ asked_of (map string_bytes c.args.words.now) = ap (λ (p : Plan). taken_as (Ok p)) (sym c.in-Show.is) ∙ taken in
    asked_for g.D.Disk.shows g.D.Disk.moment g.D.Disk.leaves g.D.Disk.faults c.args.disks c.run_show-status.result.1 before now c.run_show-status.result.2.items c.run_show-status.result.0 (show c.in-Show.genesis c.in-Show.journal) (asked_of (map string_bytes c.args.words.now)) is
    (c.run_show-status.ensures.ends c.in-Show.genesis c.in-Show.journal c.in-Show.is, record { unread = record { left = refl; failed = refl }; unasked = record { told = refl; failed = refl; denied = refl } })

pub returns-in-Show-clause-causes : goal.returns-in-Show-clause-causes
returns-in-Show-clause-causes g c =
    let taken : taken_as (Ok c.in-Ok-Ok.planned) ≡ asked_of (map string_bytes c.args.words.now) = search rules in
    let is : show c.in-Show.genesis c.in-Show.journal ≡ asked_of (map string_bytes c.args.words.now) = ap (λ (p : Plan). taken_as (Ok p)) (sym c.in-Show.is) ∙ taken in
    caused_for (show c.in-Show.genesis c.in-Show.journal) (asked_of (map string_bytes c.args.words.now)) _ _ _ _ _ is (record {
      read_fault = λ e. absurd (c.run_show-status.ensures.read_fault e);
      write_fault = c.run_show-status.ensures.write_fault;
      disk_fault = c.run_show-status.ensures.disk_fault;
      complete = λ within reads writes disk. c.run_show-status.ensures.complete writes disk;
    })

pub returns-in-Rehearse-clause-ending : goal.returns-in-Rehearse-clause-ending
returns-in-Rehearse-clause-ending g c =
    let before : Outside = outside_of g.I.Source.left g.I.Source.faults g.O.Sink.held g.O.Sink.faults g.S.Signer.told g.S.Signer.faults g.S.Signer.denials c.args.input.now c.args.out.now c.args.signer in
    let now : Outside = outside_of g.I.Source.left g.I.Source.faults g.O.Sink.held g.O.Sink.faults g.S.Signer.told g.S.Signer.faults g.S.Signer.denials c.args.input.now c.run_rehearse-status.new.out c.args.signer in
    let taken : taken_as (Ok c.in-Ok-Ok.planned) ≡ asked_of (map string_bytes c.args.words.now) = search rules in
    let is : rehearse c.in-Rehearse.number c.in-Rehearse.size.clients c.in-Rehearse.size.steps ≡ asked_of (map string_bytes c.args.words.now) = ap (λ (p : Plan). taken_as (Ok p)) (sym c.in-Rehearse.is) ∙ taken in
    asked_for g.D.Disk.shows g.D.Disk.moment g.D.Disk.leaves g.D.Disk.faults c.args.disks c.args.disks before now c.new-in-Rehearse.result.items c.run_rehearse-status.result (rehearse c.in-Rehearse.number c.in-Rehearse.size.clients c.in-Rehearse.size.steps) (asked_of (map string_bytes c.args.words.now)) is (
      c.run_rehearse-status.ensures.ends c.in-Rehearse.number c.in-Rehearse.size c.in-Rehearse.is,
      record { same = refl; untouched = record { unread = record { left = refl; failed = refl }; unasked = record { told = refl; failed = refl; denied = refl } }; none = c.new-in-Rehearse.ensures },
    )

pub returns-in-Rehearse-clause-causes : goal.returns-in-Rehearse-clause-causes
returns-in-Rehearse-clause-causes g c =
    let taken : taken_as (Ok c.in-Ok-Ok.planned) ≡ asked_of (map string_bytes c.args.words.now) = search rules in
    let is : rehearse c.in-Rehearse.number c.in-Rehearse.size.clients c.in-Rehearse.size.steps ≡ asked_of (map string_bytes c.args.words.now) = ap (λ (p : Plan). taken_as (Ok p)) (sym c.in-Rehearse.is) ∙ taken in
    caused_for (rehearse c.in-Rehearse.number c.in-Rehearse.size.clients c.in-Rehearse.size.steps) (asked_of (map string_bytes c.args.words.now)) _ _ _ _ _ is
    (rehearsal_causes c.in-Rehearse.number c.in-Rehearse.size.clients c.in-Rehearse.size.steps (output_of g.O.Sink.held g.O.Sink.faults c.args.out.now) (output_of g.O.Sink.held g.O.Sink.faults c.run_rehearse-status.new.out) _ _ _ c.run_rehearse-status.result
    (c.run_rehearse-status.ensures.ends c.in-Rehearse.number c.in-Rehearse.size c.in-Rehearse.is))
