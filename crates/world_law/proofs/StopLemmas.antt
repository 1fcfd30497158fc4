-- What the desk's clauses say of a crash, as a stop of a client.
use Rattle.std.proofs.Common.{◌≡◌, inl, inr, ℕ, Bool, true, false, cond, List, [], ◌∷◌, length, Option, Some, None, refl, sym, ◌∙◌, ap, subst}
use Rattle.std.specs.Prelude.{IsSome, IsSomeAnd}
use Rattle.std.specs.BTreeMap.{is_at}
use Rattle.edge_kit.specs.declared.bytes.PubKey.{PubKey}
use Rattle.edge_kit.specs.declared.bytes.Root.{Root}
use Rattle.protect_record.specs.Parts.{Parts}
use Rattle.protect_record.specs.Pasts.{Past}
use Rattle.protect_record.specs.Standing.{Stands}
use Rattle.protect_record.specs.Exporting.{export_of}
use Rattle.record_codec.specs.declared.item.JournalItem.{JournalItem}
use Rattle.record_join.specs.Keys.{key_cmp, kept_of, with_kept}
use Rattle.record_join.specs.EachKeyLaws.{each_found, each_flip}
use Rattle.record_replay.specs.Pruning.{pruning_of}
use Rattle.record_replay.specs.Replaying.{lasting_state, lasting_states}
use Rattle.record_replay.specs.declared.state.KeyState.{KeyState}
use Rattle.record_replay.specs.declared.state.KeyState.TheVariants.{Active, Closing}
use Rattle.check_sign.specs.Contents.{Contents}
use Rattle.check_sign.specs.Crashes.{Files}
use Rattle.desk_machine.specs.States.{State, Lasting, lasting, past_of}
use Rattle.check_sign.specs.Standing.{DeskStands, MayOpen, Opens}
use Rattle.desk_machine.specs.Handing.{IsExport}
use Rattle.desk_machine.specs.Machine.{Reply, after, lasting_after, Succeeds, MayFail, grant_for, plain_grant_for, torn_first}
use Rattle.desk_machine.specs.Snapshots.{snapshot_size}
use Rattle.desk_machine.specs.Written.{Fits, HasRoomFor, IsWritten, Writes, written}
use Rattle.desk_machine.specs.declared.call.DeskCall.{DeskCall}
use Rattle.desk_machine.specs.declared.call.DeskCall.TheVariants as call
use Rattle.desk_machine.specs.declared.call.DeskReply.{DeskReply}
use Rattle.desk_machine.specs.declared.call.DeskReply.TheVariants as reply
use Rattle.world_law.specs.Worlds.{MayBeDone, lasting_done}
use Rattle.desk_machine.specs.Kinds.{HasOk}
use Rattle.world_law.specs.Stops.{IsOfStop, StopsBetween, StopsWithin}
use Rattle.world_law.proofs.ClientLemmas.{CanFail, failed}

-- ---- a key that closes is active after a stop

closing_lasts : (states : List (PubKey × KeyState)) (key : PubKey) → kept_of states key ≡ Some Active → lasting_states (with_kept states key Closing) ≡ lasting_states states
closing_lasts [] key e = refl
closing_lasts (a ∷ more) key e = at (is_at (key_cmp key) a.0) e (closing_lasts more key) where
  is : Some a.1 ≡ Some Active → Active ≡ lasting_state a.1
  is h = let f : a.1 ≡ Active = inj a.1 Active h in sym (ap lasting_state f) where
    inj : (x y : KeyState) → Some x ≡ Some y → x ≡ y
    inj x y g = cc

  at : (b : Bool) → cond b (Some a.1) (kept_of more key) ≡ Some Active → (kept_of more key ≡ Some Active → lasting_states (with_kept more key Closing) ≡ lasting_states more)
      → lasting_states (cond b ((a.0, Closing) ∷ more) (a ∷ with_kept more key Closing)) ≡ (a.0, lasting_state a.1) ∷ lasting_states more
  at true h rest = ap (λ s. (a.0, s) ∷ lasting_states more) (is h)
  at false h rest = ap (λ l. (a.0, lasting_state a.1) ∷ l) (rest h)

-- a file opens to what lasts by the states that outlast a stop alone
opens_same : (genesis : Root) (file : Files) (l : Lasting) (states : List (PubKey × KeyState)) → lasting_states l.states ≡ lasting_states states → Opens genesis file l → Opens genesis file (record { keys = l.keys; states = states; size = l.size; generation = l.generation })
opens_same genesis file l states e o = record {
  payloads = o.payloads;
  read = o.read;
  stand = record {
    items = record { named = o.stand.items.named; each = o.stand.items.each; states = o.stand.items.states ∙ e; watches = o.stand.items.watches };
    size = o.stand.size;
    generation = o.stand.generation;
  };
}

-- ---- the ways to stop

undone : (genesis : Root) (state : State) (within : Option DeskCall) (file : Files) → Opens genesis file (lasting state) → IsOfStop genesis state within file
undone genesis state within file o = (false, tt, o)

torn_done : (genesis : Root) (state : State) (within : Option DeskCall) (file : Files) → IsSomeAnd state.torn (λ l. Opens genesis file l) → IsOfStop genesis state within file
torn_done genesis state within file h = at state.torn refl h where
  at : (t : Option Lasting) → state.torn ≡ t → IsSomeAnd t (λ l. Opens genesis file l) → IsOfStop genesis state within file
  at None e x = absurd x
  at (Some l) e x =
      let M : Option Lasting → Type 0 = λ lt. MayBeDone state lt within in
      let O : Option Lasting → Type 0 = λ lt. Opens genesis file (lasting_done state lt within) in
      let may : M (Some l) = tt in
      (true, subst M (sym e) may, subst O (sym e) x)

call_done : (genesis : Root) (state : State) (c : DeskCall) (file : Files) → state.torn ≡ None → HasOk state c → Opens genesis file (lasting_after state c) → IsOfStop genesis state (Some c) file
call_done genesis state c file up ok o =
    let M : Option Lasting → Type 0 = λ lt. MayBeDone state lt (Some c) in
    let O : Option Lasting → Type 0 = λ lt. Opens genesis file (lasting_done state lt (Some c)) in
    (true, subst M (sym up) ok, subst O (sym up) o)

-- ---- a call that a fault of the disk tears could have succeeded

room_of : (size : ℕ) (items : List JournalItem) → IsWritten size items → HasRoomFor size items
room_of size [] w = absurd w
room_of size (i ∷ items) w = w

fits_of : (state : State) (c : DeskCall) → Writes state c → Fits state c
fits_of state call.Compact w = w
fits_of state c w = room_of state.size (written state c) w

some_past : (o : Option Past) → IsSome o → (p : Past) × (o ≡ Some p)
some_past None s = absurd (let bad : false ≡ true = s in cc)
some_past (Some p) s = (p, refl)

succeeds_ok : (desk : Contents) (state : State) (c : DeskCall) → DeskStands desk state → CanFail c → Succeeds state c → HasOk state c
succeeds_ok desk state (call.Merge file) stands w s = (reply.Merged (length file.books), tt, (s, refl))
succeeds_ok desk state (call.Activate key now) stands w s = (reply.Active, tt, s)
succeeds_ok desk state (call.Propose key m now) stands w s = (reply.Granted (grant_for state key m), tt, (s, refl))
succeeds_ok desk state (call.Allow key now) stands w s = (reply.Granted (plain_grant_for state key), tt, (s, refl))
succeeds_ok desk state (call.FinishClose key) stands w s =
    let past = some_past (past_of state key) s.1.0 in
    let found = each_found (λ (q : Past) (p : Parts). Stands p q) state.keys desk.keys key past.0 (each_flip Stands desk.keys state.keys stands.keys) past.1 in
    let P : Option Past → Type 0 = λ o. IsSomeAnd o (λ q. IsExport q (export_of found.0)) in
    let one : P (Some past.0) = record { parts = found.0; stands = found.2; value = refl } in
    (reply.Closed (export_of found.0), tt, (s, subst P (sym past.1) one))
succeeds_ok desk state (call.Record ps now) stands w s = (reply.Recorded, tt, s)
succeeds_ok desk state (call.Prune key) stands w s =
    let past = some_past (past_of state key) s.1 in
    let P : Option Past → Type 0 = λ o. IsSomeAnd o (λ q. pruning_of past.0 ≡ pruning_of q) in
    let one : P (Some past.0) = refl in
    (reply.Pruned (pruning_of past.0), tt, (s, subst P (sym past.1) one))
succeeds_ok desk state call.Compact stands w s = (reply.Compacted state.size (snapshot_size state), tt, (s, refl, refl))
succeeds_ok desk state c stands w s = absurd w

-- what a torn call may leave
torn_left : (genesis : Root) (desk : Contents) (state : State) (c : DeskCall) (file : Files) → DeskStands desk state → Reply state c reply.Disk
    → IsSomeAnd (torn_first state.torn (lasting_after state c)) (λ l. Opens genesis file l) → IsOfStop genesis state (Some c) file
torn_left genesis desk state c file stands h o = at state.torn refl where
  fault : MayFail state c × CanFail c
  fault = failed state c h

  ok : state.torn ≡ None → MayFail state c → HasOk state c
  ok up (inl down) = absurd (let S : Option Lasting → Type 0 = λ t. IsSome t in let bad : false ≡ true = subst S up down in cc)
  ok up (inr x) = succeeds_ok desk state c stands fault.1 (x.0, x.1, fits_of state c x.2)

  at : (t : Option Lasting) → state.torn ≡ t → IsOfStop genesis state (Some c) file
  at None up =
      let T : Option Lasting → Type 0 = λ t. IsSomeAnd (torn_first t (lasting_after state c)) (λ l. Opens genesis file l) in
      call_done genesis state c file up (ok up fault.0) (subst T up o)
  at (Some l) down =
      let T : Option Lasting → Type 0 = λ t. IsSomeAnd (torn_first t (lasting_after state c)) (λ x. Opens genesis file x) in
      let S : Option Lasting → Type 0 = λ t. IsSomeAnd t (λ x. Opens genesis file x) in
      torn_done genesis state (Some c) file (subst S (sym down) (subst T down o))

-- ---- after each reply

pub stops_between : StopsBetween
stops_between genesis state file (inl o) = undone genesis state None file o
stops_between genesis state file (inr t) = torn_done genesis state None file t

after_torn : (genesis : Root) (desk : Contents) (state : State) (c : DeskCall) (r : DeskReply) (file : Files) → DeskStands desk state → Reply state c r → IsSomeAnd (after state c r).torn (λ l. Opens genesis file l) → IsOfStop genesis state (Some c) file
after_torn genesis desk state (call.Merge file) (reply.Merged keys) bytes stands h t = torn_done genesis state (Some (call.Merge file)) bytes t
after_torn genesis desk state (call.Activate key now) reply.Active bytes stands h t = torn_done genesis state (Some (call.Activate key now)) bytes t
after_torn genesis desk state (call.Propose key m now) (reply.Granted grant) bytes stands h t = torn_done genesis state (Some (call.Propose key m now)) bytes t
after_torn genesis desk state (call.Allow key now) (reply.Granted grant) bytes stands h t = torn_done genesis state (Some (call.Allow key now)) bytes t
after_torn genesis desk state (call.Answer key epoch live now) reply.Noted bytes stands h t = torn_done genesis state (Some (call.Answer key epoch live now)) bytes t
after_torn genesis desk state (call.Settle grant outcome) reply.Settled bytes stands h t = torn_done genesis state (Some (call.Settle grant outcome)) bytes t
after_torn genesis desk state (call.BeginClose key) reply.CloseBegun bytes stands h t = torn_done genesis state (Some (call.BeginClose key)) bytes t
after_torn genesis desk state (call.FinishClose key) (reply.Closed book) bytes stands h t = torn_done genesis state (Some (call.FinishClose key)) bytes t
after_torn genesis desk state (call.Record ps now) reply.Recorded bytes stands h t = torn_done genesis state (Some (call.Record ps now)) bytes t
after_torn genesis desk state (call.Prune key) (reply.Pruned book) bytes stands h t = torn_done genesis state (Some (call.Prune key)) bytes t
after_torn genesis desk state call.Compact (reply.Compacted before size) bytes stands h t = torn_done genesis state (Some call.Compact) bytes t
after_torn genesis desk state c reply.Disk bytes stands h t = torn_left genesis desk state c bytes stands h t
after_torn genesis desk state c r bytes stands h t = torn_done genesis state (Some c) bytes t

after_call : (genesis : Root) (desk : Contents) (state : State) (c : DeskCall) (r : DeskReply) (file : Files) → DeskStands desk state → Reply state c r → MayOpen genesis (after state c r) file → IsOfStop genesis state (Some c) file
after_call genesis desk state (call.Merge file) (reply.Merged keys) bytes stands h (inl o) = call_done genesis state (call.Merge file) bytes h.0.0 (reply.Merged keys, tt, h) o
after_call genesis desk state (call.Activate key now) reply.Active bytes stands h (inl o) = call_done genesis state (call.Activate key now) bytes h.0 (reply.Active, tt, h) o
after_call genesis desk state (call.Propose key m now) (reply.Granted grant) bytes stands h (inl o) = call_done genesis state (call.Propose key m now) bytes h.0.0 (reply.Granted grant, tt, h) o
after_call genesis desk state (call.BeginClose key) reply.CloseBegun bytes stands h (inl o) = undone genesis state (Some (call.BeginClose key)) bytes (opens_same genesis bytes (lasting_after state (call.BeginClose key)) state.states (closing_lasts state.states key h.1) o)
after_call genesis desk state (call.FinishClose key) (reply.Closed book) bytes stands h (inl o) = call_done genesis state (call.FinishClose key) bytes h.0.0 (reply.Closed book, tt, h) o
after_call genesis desk state (call.Record ps now) reply.Recorded bytes stands h (inl o) = call_done genesis state (call.Record ps now) bytes h.0 (reply.Recorded, tt, h) o
after_call genesis desk state (call.Prune key) (reply.Pruned book) bytes stands h (inl o) = call_done genesis state (call.Prune key) bytes h.0.0 (reply.Pruned book, tt, h) o
after_call genesis desk state call.Compact (reply.Compacted before size) bytes stands h (inl o) = call_done genesis state call.Compact bytes h.0.0 (reply.Compacted before size, tt, h) o
after_call genesis desk state (call.Allow key now) (reply.Granted grant) bytes stands h (inl o) = undone genesis state (Some (call.Allow key now)) bytes o
after_call genesis desk state (call.Answer key epoch live now) reply.Noted bytes stands h (inl o) = undone genesis state (Some (call.Answer key epoch live now)) bytes o
after_call genesis desk state (call.Settle grant outcome) reply.Settled bytes stands h (inl o) = undone genesis state (Some (call.Settle grant outcome)) bytes o
after_call genesis desk state c reply.Disk bytes stands h (inl o) = undone genesis state (Some c) bytes o
after_call genesis desk state c r bytes stands h (inl o) = undone genesis state (Some c) bytes o
after_call genesis desk state c r bytes stands h (inr t) = after_torn genesis desk state c r bytes stands h t

pub stops_within : StopsWithin
stops_within genesis desk state c r file stands h (inl (inl o)) = undone genesis state (Some c) file o
stops_within genesis desk state c r file stands h (inl (inr t)) = torn_done genesis state (Some c) file t
stops_within genesis desk state c r file stands h (inr a) = after_call genesis desk state c r file stands h a
