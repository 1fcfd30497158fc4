-- A file that was not taken in.
use Rattle.std.proofs.Common.{[], ◌≡◌, inl, inr, ℕ, List, None, refl, sym, ◌∙◌, ap, subst}
use Rattle.edge_kit.specs.declared.bytes.PubKey.{PubKey}
use Rattle.edge_kit.specs.declared.disk.Disks.{Disks}
use Rattle.slash_defs.specs.declared.book.File.{File}
use Rattle.interchange_io.specs.WrittenOrder.{canonical}
use Rattle.protect_record.specs.Parts.{Parts}
use Rattle.record_join.specs.BooksPasts.{BooksStand, EachOnce}
use Rattle.record_journal.specs.Journals.{Journaled, disks_of, journal_size}
use Rattle.record_journal.specs.TwoDisks.{EitherRose}
use Rattle.record_replay.proofs.ChangeLemmas.{merged}
use Rattle.record_codec.specs.declared.version.JournalVersion.TheVariants.{One}
use Rattle.record_replay.specs.Batches.{file_items}
use Rattle.record_replay.specs.Items.{items_in}
use Rattle.desk_machine.specs.Machine.{IsUp, Reply, after}
use Rattle.desk_machine.specs.States.{State, lasting}
use Rattle.desk_machine.specs.declared.call.DeskCall.TheVariants as call
use Rattle.desk_machine.specs.declared.call.DeskReply.{DeskReply}
use Rattle.desk_machine.specs.declared.call.DeskReply.TheVariants as reply
use Rattle.check_sign.specs.Contents.{Contents}
use Rattle.check_sign.specs.Refusing.{IsUngained}
use Rattle.check_sign.specs.Standing.{DeskStands, PayloadsStand}
use Rattle.check_sign.proofs.DeskLemmas.{by_reply}
use Rattle.check_sign.proofs.MachineLemmas.{fits_file, over_file}
use Rattle.check_sign.proofs.ProposalLemmas.{rose_from}
use Rattle.check_sign.proofs.RefusalLemmas.{IsPlain, plain_many, plain_merge}
use Rattle.check_sign.proofs.StepLemmas.{Rest, none_torn, whole}

pub plain_ungained : {D : Type 0} (faults : D → ℕ) (old new : Journaled D) (kept : List (PubKey × Parts)) (file : File) (r : DeskReply) → IsUngained faults old kept file new r → IsPlain (call.Merge file) r
plain_ungained faults old new kept file r (inl many) = plain_many file r many.0.0 many.0.1 many.0.2
plain_ungained faults old new kept file r (inr told) = plain_merge file r told.1.0 told.1.1

not_many : (r : DeskReply) (have more : ℕ) (A : Type 0) → r ≡ reply.TooManyKeys have more → r ≡ reply.Disk → A
not_many r have more A is disk = absurd (let bad : reply.TooManyKeys have more ≡ reply.Disk = sym is ∙ disk in cc)

pub ungained_rose : {D : Type 0} (faults : D → ℕ) (old new : Journaled D) (kept : List (PubKey × Parts)) (file : File) (r : DeskReply) (before : Disks D) → IsUngained faults old kept file new r → r ≡ reply.Disk → disks_of old ≡ before → EitherRose faults before (disks_of new)
ungained_rose faults old new kept file r before (inl many) disk same = not_many r many.0.0 many.0.1 (EitherRose faults before (disks_of new)) many.0.2 disk
ungained_rose faults old new kept file r before (inr told) disk same = rose_from faults old new (file_items (canonical file).books) before told.1.0 told.1.2 (sym told.1.1 ∙ disk) same

module _ {D : Type 0} (faults : D → ℕ) (old new : Journaled D) (desk : Contents) (state : State) (kept : List (PubKey × Parts)) (file : File) (r : DeskReply) where
  pub ungained_step : IsUngained faults old kept file new r → file.genesis ≡ state.genesis → EachOnce file.books → BooksStand kept state.keys
      → PayloadsStand old.payloads (lasting state) → old.size ≡ state.size → old.size ≡ journal_size old.payloads → old.torn ≡ None → IsUp state
      → desk.payloads ≡ new.payloads → desk.size ≡ new.size → desk.torn ≡ new.torn → Rest desk state
      → Reply state (call.Merge file) r × DeskStands desk (after state (call.Merge file) r)
  ungained_step (inl many) same once stand payloads size journal clean up payloads_are size_is torn_is rest =
      let over = over_file kept state.keys file.books many.0.0 many.0.1 stand (many.0.3, many.0.4, many.0.5) in
      let T : DeskReply → Type 0 = λ x. Reply state (call.Merge file) x × DeskStands desk (after state (call.Merge file) x) in
      let L : List (List ℕ) → Type 0 = λ ps. PayloadsStand ps (lasting state) in
      subst T (sym many.0.2) (
        (up, same, over.0, over.1, over.2),
        whole desk state rest (size_is ∙ ap (λ j. j.size) many.1 ∙ size) (subst L (sym (payloads_are ∙ ap (λ j. j.payloads) many.1)) payloads)
            (none_torn desk.torn state.torn (torn_is ∙ ap (λ j. j.torn) many.1 ∙ clean) up),
      )
  ungained_step (inr told) same once stand payloads size journal clean up payloads_are size_is torn_is rest =
      by_reply faults old new (file_items (canonical file).books) desk state (call.Merge file) r told.1.0 (λ x. Reply state (call.Merge file) x) (λ x. after state (call.Merge file) x)
      told.1.1 told.1.2 payloads size journal clean up payloads_are size_is torn_is (same, fits_file kept state.keys file.books stand told.0) refl
      (merged (items_in One old.payloads) state.keys state.states [] payloads.items file once) refl refl (λ h. h) (λ a b h. h)
      (λ h. h) (λ h. h) (λ a b h. h) refl refl (λ a b. refl) rest
