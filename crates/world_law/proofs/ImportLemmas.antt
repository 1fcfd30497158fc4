-- What was imported stays in the past of its key.
use Rattle.std.proofs.Common.{◌≡◌, ◌⊎◌, inl, inr, ℕ, true, false, List, [], ◌∷◌, Option, Some, None, refl, sym, subst}
use Rattle.std.specs.Prelude.{Contains, is_some}
use Rattle.std.proofs.lemmas.List.Elements.{Contains-push}
use Rattle.edge_kit.specs.declared.bytes.PubKey.{PubKey}
use Rattle.slash_defs.specs.declared.book.Book.{Book}
use Rattle.protect_record.specs.Pasts.{Past, with_book}
use Rattle.protect_record.proofs.MemberLemmas.{contains_none, contains_cases}
use Rattle.record_join.specs.Keys.{kept_of}
use Rattle.record_join.specs.BooksPasts.{known_past, with_file, with_file_book}
use Rattle.record_join.specs.KeyLaws.{kept_here}
use Rattle.desk_machine.specs.States.{State, Lasting, past_of}
use Rattle.desk_machine.specs.Machine.{after}
use Rattle.desk_machine.specs.declared.call.DeskCall.{DeskCall}
use Rattle.desk_machine.specs.declared.call.DeskCall.TheVariants as call
use Rattle.desk_machine.specs.declared.call.DeskReply.{DeskReply}
use Rattle.desk_machine.specs.declared.call.DeskReply.TheVariants as reply
use Rattle.world_law.specs.Worlds.{World, Event, client_of, state_after, happens, run, IsRun, MayHappen, MayBeDone, lasting_done, empty_world}
use Rattle.world_law.specs.Worlds.Event.{Call, Send, Crash}
use Rattle.world_law.specs.Lawful.{IsLawful}
use Rattle.world_law.specs.Imports.{MergeImports, ImportsStay}
use Rattle.world_law.proofs.PastLemmas.{KeepsIn, HasBook, keeps_all, grown_keeps, known_keeps, messages_keep, file_keeps, pruned_keeps, book_stays}
use Rattle.world_law.proofs.ClientLemmas.{TornFits, changes_ok}
use Rattle.world_law.proofs.WorldLemmas.{Messages, Invariant, client_cases}
use Rattle.world_law.proofs.EventLemmas.{event_step, all_steps, begins_so}

-- a merged file brings each of its books
merged : (keys : List (PubKey × Past)) (books : List (PubKey × Book)) (key : PubKey) (book : Book) → Contains books (key, book) → HasBook (with_file keys books) key book
merged keys [] key book has = contains_none (key, book) has
merged keys (b ∷ bs) key book has = at (contains_cases b bs (key, book) has) (merged (with_file_book keys b) bs key book) where
  at : (b ≡ (key, book)) ⊎ Contains bs (key, book) → (Contains bs (key, book) → HasBook (with_file (with_file_book keys b) bs) key book) → HasBook (with_file (with_file_book keys b) bs) key book
  at (inr there) rest = rest there
  at (inl is) rest = book_stays (with_file_book keys b) (with_file (with_file_book keys b) bs) key book (file_keeps (with_file_book keys b) bs) here where
    one : HasBook (with_file_book keys (key, book)) key book
    one = rw (kept_here keys key (with_book (known_past (kept_of keys key)) book)) (Contains-push (known_past (kept_of keys key)).books book)

    here : HasBook (with_file_book keys b) key book
    here = let P : PubKey × Book → Type 0 = λ x. HasBook (with_file_book keys x) key book in subst P (sym is) one

-- ---- each event keeps the pasts

call_keeps : (state : State) (c : DeskCall) (r : DeskReply) → KeepsIn state.keys (after state c r).keys
call_keeps state (call.Merge file) (reply.Merged keys) = file_keeps state.keys file.books
call_keeps state (call.Activate key now) reply.Active = known_keeps state.keys key (is_some (past_of state key)) refl
call_keeps state (call.Propose key m now) (reply.Granted grant) = grown_keeps state.keys key m (past_of state key) refl
call_keeps state (call.Record ps now) reply.Recorded = messages_keep state.keys ps
call_keeps state (call.Prune key) (reply.Pruned book) = pruned_keeps state.keys key (past_of state key)
call_keeps state (call.Allow key now) (reply.Granted grant) = keeps_all state.keys
call_keeps state (call.Answer key epoch live now) reply.Noted = keeps_all state.keys
call_keeps state (call.Settle grant o) reply.Settled = keeps_all state.keys
call_keeps state (call.BeginClose key) reply.CloseBegun = keeps_all state.keys
call_keeps state (call.FinishClose key) (reply.Closed book) = keeps_all state.keys
call_keeps state call.Compact (reply.Compacted before size) = keeps_all state.keys
call_keeps state c reply.Disk = keeps_all state.keys
call_keeps state c r = keeps_all state.keys

done_keeps : (state : State) (t : Option DeskCall) (within : Option DeskCall) → TornFits state t → MayBeDone state state.torn within → KeepsIn state.keys (lasting_done state state.torn within).keys
done_keeps state (Some c) within fits may = let P : Option Lasting → Type 0 = λ lt. KeepsIn state.keys (lasting_done state lt within).keys in subst P (sym fits.1) fits.2.kept
done_keeps state None None up may = let P : Option Lasting → Type 0 = λ lt. MayBeDone state lt None in absurd (subst P up may)
done_keeps state None (Some c) up may =
    let M : Option Lasting → Type 0 = λ lt. MayBeDone state lt (Some c) in
    let ok = subst M up may in
    let P : Option Lasting → Type 0 = λ lt. KeepsIn state.keys (lasting_done state lt (Some c)).keys in
    subst P (sym up) (changes_ok state c ok.0 ok.1 ok.2).kept

event_keeps : (before : Messages) (w : World) (e : Event) → Invariant before w → MayHappen w e → KeepsIn (w.desks (client_of e)).keys (state_after (w.desks (client_of e)) e).keys
event_keeps before w (Call c cl r) inv may = call_keeps (w.desks c) cl r
event_keeps before w (Send c g m) inv may = keeps_all (w.desks c).keys
event_keeps before w (Crash c within false now watch) inv may = keeps_all (w.desks c).keys
event_keeps before w (Crash c within true now watch) inv may = done_keeps (w.desks c) (w.torn c) within (inv.torn c) may

event_stays : (before : Messages) (w : World) (e : Event) → Invariant before w → MayHappen w e → (c : ℕ) (key : PubKey) (b : Book) → HasBook (w.desks c).keys key b → HasBook ((happens w e).desks c).keys key b
event_stays before w e inv may c key b =
    client_cases (λ n s. HasBook (w.desks n).keys key b → HasBook s.keys key b) w.desks (client_of e) (state_after (w.desks (client_of e)) e)
    (book_stays (w.desks (client_of e)).keys (state_after (w.desks (client_of e)) e).keys key b (event_keeps before w e inv may)) (λ d n x. x) c

all_stay : (before : Messages) (w : World) (es : List Event) → Invariant before w → IsRun w es → IsLawful before w es → (c : ℕ) (key : PubKey) (b : Book) → HasBook (w.desks c).keys key b → HasBook ((run w es).desks c).keys key b
all_stay before w [] inv runs law c key b h = h
all_stay before w (e ∷ es) inv runs law c key b h = all_stay before (happens w e) es (event_step before w e inv runs.0 law.0) runs.1 law.1 c key b (event_stays before w e inv runs.0 c key b h)

pub merge_imports : MergeImports
merge_imports w c file n ok key b has =
    client_cases (λ i s. i ≡ c → HasBook s.keys key b) w.desks c (after (w.desks c) (call.Merge file) (reply.Merged n)) (λ e. merged (w.desks c).keys file.books key b has) (λ d apart e. absurd (apart e)) c refl

pub imports_stay : ImportsStay
imports_stay before roots events more runs law runs_on law_on c key b h =
    all_stay before (run (empty_world roots) events) more (all_steps before (empty_world roots) events (begins_so before roots) runs law) runs_on law_on c key b h
