use Rattle.std.proofs.Common.{◌≡◌, ◌+◌, ◌++◌, ◌∷◌, [], List, Some, refl, sym, ◌∙◌, ap, subst}
use Rattle.edge_kit.specs.declared.bytes.PubKey.{PubKey}
use Rattle.slash_defs.specs.declared.book.Book.{Book}
use Rattle.protect_record.specs.Pasts.{Past}
use Rattle.record_codec.specs.declared.version.JournalVersion.TheVariants.{One}
use Rattle.record_codec.specs.declared.item.JournalItem.{JournalItem}
use Rattle.record_join.specs.BooksPasts.{BooksStand, with_file}
use Rattle.record_join.specs.Keys.{kept_of}
use Rattle.record_replay.proofs.ChangeLemmas.{gained_one}
use Rattle.record_replay.specs.Batches.{book_items}
use Rattle.record_replay.specs.Items.{items_in}
use Rattle.record_replay.specs.Pruning.{pruning_of}
use Rattle.record_replay.specs.Replaying.{ItemsStand}
use Rattle.desk_machine.specs.Machine.{Reply, after, pruned_keys}
use Rattle.desk_machine.specs.States.{State}
use Rattle.desk_machine.specs.Written.{HasRoomFor, prune_items, frame_size}
use Rattle.desk_machine.specs.declared.call.DeskCall.TheVariants as call
use Rattle.check_sign.specs.Contents.{disks_in}
use Rattle.check_sign.specs.Writing.{journal_of}
use Rattle.check_sign.proofs.DeskLemmas.{sized, by_reply}
use Rattle.check_sign.proofs.MachineLemmas.{opened, is_some_of, some_is}
use Rattle.check_sign.proofs.ProposalLemmas.{desk_moved, pruned_by, rose_from}
use Rattle.check_sign.proofs.RefusalLemmas.{counted_from, not_failed, plain_counted, plain_prune, up_at}
use Rattle.check_sign.proofs.StepLemmas.{grown, up_state}
use Rattle.check_sign.proofs.desk.Desk.prune_key.Goals as goal

-- what the call writes of this book, and the pasts with it
module _ (state : State) (key : PubKey) (book : Book) (past : Past) (at : kept_of state.keys key ≡ Some past) (is : book ≡ pruning_of past) where
  writes : prune_items key (kept_of state.keys key) ≡ book_items (key, book)
  writes = ap (prune_items key) at ∙ ap (λ b. book_items (key, b)) (sym is)

  keys_are : pruned_keys state.keys key (kept_of state.keys key) ≡ with_file state.keys ((key, book) ∷ [])
  keys_are = ap (pruned_keys state.keys key) at ∙ ap (λ b. with_file state.keys ((key, b) ∷ [])) (sym is)

pub returns-in-Err-clause-machine : goal.returns-in-Err-clause-machine
returns-in-Err-clause-machine g c = c.in-Err.ensures.machine

pub returns-in-Err-clause-counted : goal.returns-in-Err-clause-counted
returns-in-Err-clause-counted g c = c.in-Err.ensures.counted

pub returns-in-Err-clause-rose : goal.returns-in-Err-clause-rose
returns-in-Err-clause-rose g c = λ disk up. not_failed c.args.self.now.contents c.in-Err.bar _ c.in-Err.ensures.failed disk up

pub returns-in-Err-gain_book-clause-machine : goal.returns-in-Err-gain_book-clause-machine
returns-in-Err-gain_book-clause-machine g c = λ state stands.
    let s = opened c.args.self.now _ state c.self.view_is stands in
    let book : Book = c.in-Ok.book in
    let at = pruned_by _ state c.args.key book stands c.in-Ok.ensures.book in
    let I : List (PubKey × Past) → Type 0 = λ l. ItemsStand (items_in One c.self.inside.journal.payloads ++ book_items (c.args.key, book)) l state.states [] in
    let told = c.in-Err-gain_book.ensures.wrote in
    by_reply g.D.Disk.faults c.self.inside.journal c.gain_book.new.journal (book_items (c.args.key, book)) _ state (call.Prune c.args.key) c.in-Err-gain_book.told told.0
    (λ r. Reply state (call.Prune c.args.key) r) (λ r. after state (call.Prune c.args.key) r)
    told.1 told.2 s.payloads s.size c.self.invariant.0.size (up_at c.args.self.now _ c.self.view_is c.in-Ok.ensures.up) (up_state _ _ s.torn (up_at c.args.self.now _ c.self.view_is c.in-Ok.ensures.up)) refl refl refl (is_some_of _ at.0 at.1) (writes state c.args.key book at.0 at.1 at.2)
    (subst I (sym (keys_are state c.args.key book at.0 at.1 at.2)) (gained_one (items_in One c.self.inside.journal.payloads) state.keys state.states [] s.payloads.items c.args.key book)) (ap (λ i. state.size + frame_size i) (writes state c.args.key book at.0 at.1 at.2)) refl (λ h. h) (λ a b h. h)
    (λ h. h) (λ h. h) (λ a b h. h) refl refl (λ a b. refl)
    (record {
      genesis = s.genesis;
      keys = c.in-Err-gain_book.ensures.kept state.keys s.keys;
      states = s.states;
      grants = s.grants;
      next = s.next;
      latest = s.latest;
      watches = s.watches;
    })

pub returns-in-Err-gain_book-clause-counted : goal.returns-in-Err-gain_book-clause-counted
returns-in-Err-gain_book-clause-counted g c =
    let told = c.in-Err-gain_book.ensures.wrote in
    counted_from c.args.self.now _ c.self.view_is (call.Prune c.args.key) c.in-Err-gain_book.told _ (plain_counted _ _ _ _ (plain_prune c.args.key c.in-Err-gain_book.told told.0 told.1) refl refl refl refl refl)

pub returns-in-Err-gain_book-clause-rose : goal.returns-in-Err-gain_book-clause-rose
returns-in-Err-gain_book-clause-rose g c = λ disk up.
    let told = c.in-Err-gain_book.ensures.wrote in
    rose_from g.D.Disk.faults c.self.inside.journal c.gain_book.new.journal _ _ told.0 told.2 (sym told.1 ∙ disk) (ap (λ d. disks_in d) c.self.view_is)

pub returns-in-Err-gain_book-clause-moved : goal.returns-in-Err-gain_book-clause-moved
returns-in-Err-gain_book-clause-moved g c =
    desk_moved g.D.Disk.moment g.D.Disk.leaves g.D.Disk.faults c.args.self.now c.self.inside.journal c.gain_book.new.journal c.self.inside.genesis.0 c.self.invariant.0.root (ap journal_of c.self.view_is) c.gain_book.ensures.moved

pub invariant_of-self-2 : goal.invariant_of-self-2
invariant_of-self-2 g c = (c.gain_book.ensures.holds c.self.inside.genesis c.self.invariant.0, c.self.invariant.1)

pub returns-clause-machine : goal.returns-clause-machine
returns-clause-machine g c = λ state stands.
    let s = opened c.args.self.now _ state c.self.view_is stands in
    let up = up_state _ _ s.torn (up_at c.args.self.now _ c.self.view_is c.in-Ok.ensures.up) in
    let book : Book = c.in-Ok.book in
    let at = pruned_by _ state c.args.key book stands c.in-Ok.ensures.book in
    let wrote = c.in-Ok-gain_book.ensures.wrote in
    let written = writes state c.args.key book at.0 at.1 at.2 in
    let I : List (PubKey × Past) → Type 0 = λ l. ItemsStand (items_in One c.self.inside.journal.payloads ++ book_items (c.args.key, book)) l state.states [] in
    let H : List JournalItem → Type 0 = λ i. HasRoomFor state.size i in
    let K : List (PubKey × Past) → Type 0 = λ l. BooksStand c.gain_book.new.books l in (
      ((up, is_some_of _ at.0 at.1, subst H (sym written) (sized (book_items (c.args.key, book)) _ _ s.size wrote.0)), some_is _ at.0 (λ past. c.note_pruned.result ≡ pruning_of past) at.1 (c.note_pruned.ensures.book ∙ at.2)),
      grown g.D.Disk.faults c.self.inside.journal c.gain_book.new.journal (book_items (c.args.key, book)) _ state _
          wrote s.size c.self.invariant.0.size refl refl refl
          (subst I (sym (keys_are state c.args.key book at.0 at.1 at.2)) (gained_one (items_in One c.self.inside.journal.payloads) state.keys state.states [] s.payloads.items c.args.key book)) (ap (λ i. state.size + frame_size i) written) s.payloads.generation up
          (record {
            genesis = s.genesis;
            keys = subst K (sym (keys_are state c.args.key book at.0 at.1 at.2)) (c.in-Ok-gain_book.ensures.gained state.keys s.keys);
            states = s.states;
            grants = s.grants;
            next = s.next;
            latest = s.latest;
            watches = s.watches;
          }),
    )

pub returns-clause-moved : goal.returns-clause-moved
returns-clause-moved g c =
    desk_moved g.D.Disk.moment g.D.Disk.leaves g.D.Disk.faults c.args.self.now c.self.inside.journal c.gain_book.new.journal c.self.inside.genesis.0 c.self.invariant.0.root (ap journal_of c.self.view_is) c.gain_book.ensures.moved
