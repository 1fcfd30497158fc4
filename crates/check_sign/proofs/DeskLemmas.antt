-- A call of the desk from its exits.
use Rattle.std.proofs.Common.{[], ◌≡◌, ℕ, ◌+◌, Bool, true, false, List, ◌++◌, Option, Some, None, Err, refl, sym, ◌∙◌, subst}
use Rattle.std.specs.Prelude.{is_some}
use Rattle.record_codec.specs.declared.version.JournalVersion.TheVariants.{One}
use Rattle.record_codec.specs.declared.item.JournalItem.{JournalItem}
use Rattle.record_journal.specs.Journals.{Journaled, journal_size}
use Rattle.record_journal.specs.declared.log.AppendFault.{AppendFault}
use Rattle.record_replay.specs.Items.{items_in}
use Rattle.record_replay.specs.Replaying.{ItemsStand}
use Rattle.check_sign.specs.Contents.{Contents}
use Rattle.desk_machine.specs.States.{State, lasting}
use Rattle.check_sign.specs.Standing.{DeskStands, PayloadsStand}
use Rattle.desk_machine.specs.Written.{Overfills, Writes, frame_size, HasRoomFor, IsOver, IsWritten, written}
use Rattle.desk_machine.specs.Machine.{IsUp, Proceeds, MayFail, MayWant, IsTooMuch, lasting_after, torn_first, latest_after}
use Rattle.check_sign.specs.Writing.{Wrote, refusal_of}
use Rattle.desk_machine.specs.declared.call.DeskCall.{DeskCall}
use Rattle.desk_machine.specs.declared.call.DeskReply.{DeskReply}
use Rattle.desk_machine.specs.declared.call.DeskReply.TheVariants as reply
use Rattle.check_sign.proofs.StepLemmas.{Rest, by_fault}

-- the journal was not torn
pub none_of : {X : Type 0} (b : Bool) (t : Option X) → b ≡ is_some t → b ≡ false → t ≡ None
none_of b None e off = refl
none_of b (Some x) e off = absurd (let bad : true ≡ false = sym e ∙ off in cc)

pub some_of : {X : Type 0} (b : Bool) (t : Option X) → b ≡ is_some t → b ≡ true → (x : X) × (t ≡ Some x)
some_of b None e on = absurd (let bad : false ≡ true = sym e ∙ on in cc)
some_of b (Some x) e on = (x, refl)

pub sized : (items : List JournalItem) (m n : ℕ) → m ≡ n → HasRoomFor m items → HasRoomFor n items
sized items m n e h = let P : ℕ → Type 0 = λ k. HasRoomFor k items in subst P e h

-- nothing was written, and this is the reply
pub by_reply : {D : Type 0} (faults : D → ℕ) (old new : Journaled D) (items : List JournalItem) (desk : Contents) (state : State) (c : DeskCall) (r : DeskReply) (f : AppendFault) (R : DeskReply → Type 0) (A : DeskReply → State)
    → r ≡ refusal_of f → Wrote faults old items new (Err f)
    → PayloadsStand old.payloads (lasting state) → old.size ≡ state.size → old.size ≡ journal_size old.payloads → old.torn ≡ None → IsUp state
    → desk.payloads ≡ new.payloads → desk.size ≡ new.size → desk.torn ≡ new.torn
    → Proceeds state c → written state c ≡ items
    → ItemsStand (items_in One old.payloads ++ items) (lasting_after state c).keys (lasting_after state c).states [] → (lasting_after state c).size ≡ state.size + frame_size items → (lasting_after state c).generation ≡ state.generation → (IsWritten state.size (written state c) → Writes state c) → ((s w : ℕ) → IsOver state.size (written state c) s w → Overfills state c s w)
    → (MayFail state c → R reply.Disk) → (MayWant state c → R reply.OutOfMemory) → ((s w : ℕ) → IsTooMuch state c s w → R (reply.Full s w))
    → A reply.Disk ≡ record state { latest = latest_after state.latest c; torn = torn_first state.torn (lasting_after state c) } → A reply.OutOfMemory ≡ record state { latest = latest_after state.latest c; torn = state.torn }
    → ((s w : ℕ) → A (reply.Full s w) ≡ record state { latest = latest_after state.latest c; torn = state.torn })
    → Rest desk (record state { latest = latest_after state.latest c; torn = state.torn })
    → R r × DeskStands desk (A r)
by_reply faults old new items desk state c r f R A is wrote stand size journal clean up payloads_are size_is torn_is proceeds writes more grows same fits over disk memory full on_disk on_memory on_full rest =
    let P : DeskReply → Type 0 = λ x. R x × DeskStands desk (A x) in
    subst P (sym is) (by_fault faults old new items desk state c f R A wrote stand size journal clean up payloads_are size_is torn_is proceeds writes more grows same fits over disk memory full on_disk on_memory on_full rest)
