use Rattle.std.proofs.Common.{[], inl, refl}
use Rattle.record_journal.specs.Journals.{MayRead, disks_of}
use Rattle.record_journal.specs.TwoDisks.{LeftPair}
use Rattle.check_sign.specs.Contents.{Contents}
use Rattle.check_sign.proofs.OpenLemmas.{may_open}
use Rattle.check_sign.proofs.ReadLemmas.{brought_back, opened_stands}
use Rattle.check_sign.proofs.desk.Desk.open.Goals as goal

pub returns-clause-opened : goal.returns-clause-opened
returns-clause-opened g c =
    let desk : Contents = record {
      genesis = c.args.genesis;
      keys = c.in-Ok-replay.replayed.books;
      states = c.in-Ok-replay.replayed.states.entries;
      grants = c.new-2.result.grants;
      next = c.new-2.result.next;
      latest = c.args.now;
      watches = c.new.result;
      events = c.new-3.result.items;
      payloads = c.in-Ok.opened.0.payloads;
      size = c.in-Ok.opened.0.size;
      torn = c.in-Ok.opened.0.torn;
    } in
    let holds : LeftPair g.D.Disk.moment g.D.Disk.leaves (disks_of c.in-Ok.opened.0) (MayRead (record c.in-Ok.opened.0 { root = c.args.genesis.0 })) = λ a b left left_too. inl (c.in-Ok.ensures.left a b left left_too) in
    record {
      opened = record {
        read = c.in-Ok.ensures.read;
        brought_back = brought_back desk _ c.in-Ok.ensures.lent c.in-Ok-replay.ensures.keys c.in-Ok-replay.ensures.limit c.in-Ok-replay.ensures.each c.in-Ok-replay.ensures.states;
        stands = opened_stands desk c.args.genesis c.args.watch c.args.now _ (record {
          genesis = refl;
          grants = c.new-2.ensures.grants;
          next = c.new-2.ensures.next;
          latest = refl;
          watches = c.new.ensures.stands;
          size = c.in-Ok.ensures.size;
          torn = c.in-Ok.ensures.whole;
        }) c.in-Ok.ensures.lent
            (λ pasts states items. let all = c.in-Ok-replay.ensures.stands pasts states [] items in (all.0, all.1));
        size = c.in-Ok.ensures.size;
        genesis_is = refl;
        none_open = c.new-2.ensures.grants;
        none_given = c.new-2.ensures.next;
        latest_is = refl;
        watches_are = c.new.ensures.stands;
        none_noted = c.new-3.ensures;
        up = c.in-Ok.ensures.whole;
      };
      writes = c.in-Ok.ensures.writes;
      moments = c.in-Ok.ensures.any_moment;
      left = λ state stands a b left left_too. may_open (record { current = c.in-Ok.opened.0.current; other = c.in-Ok.opened.0.other; place = c.in-Ok.opened.0.place; contents = desk }) state stands (a, b) (holds a b left left_too);
      holds = holds;
      later = c.in-Ok.ensures.later;
    }
