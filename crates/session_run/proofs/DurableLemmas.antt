-- A grant outlasts every call and every stop.
use Rattle.std.proofs.Common.{◌≡◌, ◌⊎◌, inl, inr, ℕ, Option, Some, None, refl, sym, ◌∙◌, ap, subst}
use Rattle.std.specs.Prelude.{is_some, IsSomeAnd}
use Rattle.edge_kit.specs.declared.bytes.PubKey.{PubKey}
use Rattle.edge_kit.specs.declared.bytes.Root.{Root}
use Rattle.slash_defs.specs.declared.message.Message.{Message}
use Rattle.protect_record.specs.Pasts.{Past, with_own}
use Rattle.protect_record.specs.Passing.{Passes, Covers}
use Rattle.protect_record.specs.PastLaws.{covers-with_own}
use Rattle.record_join.specs.Keys.{kept_of, with_kept}
use Rattle.record_join.specs.BooksPasts.{own_grown, own_grown_from}
use Rattle.desk_machine.specs.States.{State, Lasting, lasting, past_of}
use Rattle.check_sign.specs.Crashes.{Files}
use Rattle.check_sign.specs.Standing.{MayOpen, Opens}
use Rattle.desk_machine.specs.Machine.{after, Reply, lasting_after, torn_first}
use Rattle.desk_machine.specs.declared.open_grant.OpenGrant.{OpenGrant}
use Rattle.desk_machine.specs.declared.call.DeskCall.{DeskCall}
use Rattle.desk_machine.specs.declared.call.DeskCall.TheVariants as call
use Rattle.desk_machine.specs.declared.call.DeskReply.{DeskReply}
use Rattle.desk_machine.specs.declared.call.DeskReply.TheVariants as reply
use Rattle.session_run.specs.Durable.{CoversKey, IsDurable}
use Rattle.session_run.proofs.KeptLemmas.{Kept, KeepsIn, keeps_call, keeps_all, file_keeps, known_keeps, grown_keeps, messages_keep, pruned_keeps, found_changed, some_of}

pub covers_on : (old new : Kept) (key : PubKey) (m : Message) → KeepsIn old new → CoversKey old key m → CoversKey new key m
covers_on old new key m keeps h =
    let past = some_of (λ p. Covers p m) (kept_of old key) h in
    let found = keeps key past.0 past.1 in
    let P : Option Past → Type 0 = λ o. IsSomeAnd o (λ p. Covers p m) in
    subst P (sym found.1) (λ n passes. past.2 n (found.2 n passes))

lasting_keeps : (state : State) (c : DeskCall) → KeepsIn state.keys (lasting_after state c).keys
lasting_keeps state (call.Merge file) = file_keeps state.keys file.books
lasting_keeps state (call.Activate key now) = known_keeps state.keys key (is_some (past_of state key)) refl
lasting_keeps state (call.Propose key m now) = grown_keeps state.keys key m (past_of state key) refl
lasting_keeps state (call.Allow key now) = keeps_all state.keys
lasting_keeps state (call.Answer key epoch live now) = keeps_all state.keys
lasting_keeps state (call.Settle grant outcome) = keeps_all state.keys
lasting_keeps state (call.BeginClose key) = keeps_all state.keys
lasting_keeps state (call.FinishClose key) = keeps_all state.keys
lasting_keeps state (call.Export keys) = keeps_all state.keys
lasting_keeps state (call.Record ps now) = messages_keep state.keys ps
lasting_keeps state (call.Prune key) = pruned_keeps state.keys key (past_of state key)
lasting_keeps state call.Keys = keeps_all state.keys
lasting_keeps state call.HasFailed = keeps_all state.keys
lasting_keeps state call.Size = keeps_all state.keys
lasting_keeps state call.Compact = keeps_all state.keys

torn_after : (state : State) (c : DeskCall) (r : DeskReply) → ((after state c r).torn ≡ state.torn) ⊎ ((after state c r).torn ≡ torn_first state.torn (lasting_after state c))
torn_after state (call.Merge file) (reply.Merged keys) = inl refl
torn_after state (call.Activate key now) reply.Active = inl refl
torn_after state (call.Propose key m now) (reply.Granted grant) = inl refl
torn_after state (call.Allow key now) (reply.Granted grant) = inl refl
torn_after state (call.Answer key epoch live now) reply.Noted = inl refl
torn_after state (call.Settle grant outcome) reply.Settled = inl refl
torn_after state (call.BeginClose key) reply.CloseBegun = inl refl
torn_after state (call.FinishClose key) (reply.Closed book) = inl refl
torn_after state (call.Record ps now) reply.Recorded = inl refl
torn_after state (call.Prune key) (reply.Pruned book) = inl refl
torn_after state call.Compact (reply.Compacted before size) = inl refl
torn_after state c reply.Disk = inr refl
torn_after state c r = inl refl

some_inj : {X : Type 0} (a b : X) → Some a ≡ Some b → a ≡ b
some_inj a b h = cc

first_covers : (torn : Option Lasting) (more l : Lasting) (key : PubKey) (m : Message) → ((x : Lasting) → torn ≡ Some x → CoversKey x.keys key m) → CoversKey more.keys key m → torn_first torn more ≡ Some l → CoversKey l.keys key m
first_covers None more l key m old new e = let P : Lasting → Type 0 = λ x. CoversKey x.keys key m in subst P (some_inj more l e) new
first_covers (Some x) more l key m old new e = old l e

pub stays : (state : State) (c : DeskCall) (r : DeskReply) (key : PubKey) (m : Message) → IsDurable state key m → IsDurable (after state c r) key m
stays state c r key m d = record {
  now = covers_on state.keys (after state c r).keys key m (keeps_call state c r) d.now;
  torn = λ l e. by_torn l e (torn_after state c r);
}
  where
    by_torn : (l : Lasting) → (after state c r).torn ≡ Some l → ((after state c r).torn ≡ state.torn) ⊎ ((after state c r).torn ≡ torn_first state.torn (lasting_after state c)) → CoversKey l.keys key m
    by_torn l e (inl same) = d.torn l (sym same ∙ e)
    by_torn l e (inr first) = first_covers state.torn (lasting_after state c) l key m d.torn (covers_on state.keys (lasting_after state c).keys key m (lasting_keeps state c) d.now) (sym first ∙ e)

none_some : {X : Type 0} (t : Option X) (x : X) (A : Type 0) → t ≡ None → t ≡ Some x → A
none_some t x A e f = let bad : None ≡ Some x = sym e ∙ f in absurd cc

pub granted : (state : State) (key : PubKey) (m : Message) (now : ℕ) (g : OpenGrant) → Reply state (call.Propose key m now) (reply.Granted g) → IsDurable (after state (call.Propose key m now) (reply.Granted g)) key m
granted state key m now g can =
    let past = some_of (λ p. Passes p m) (past_of state key) can.0.1.0.1 in
    let grew : own_grown state.keys key m ≡ with_kept state.keys key (with_own past.0 m) = ap (own_grown_from state.keys key m) past.1 in
    let found : kept_of (own_grown state.keys key m) key ≡ Some (with_own past.0 m) = ap (λ l. kept_of l key) grew ∙ found_changed state.keys key (with_own past.0 m) past.0 past.1 in
    let P : Option Past → Type 0 = λ o. IsSomeAnd o (λ p. Covers p m) in
    record {
      now = subst P (sym found) (covers-with_own past.0 m);
      torn = λ l e. none_some state.torn l (CoversKey l.keys key m) can.0.0 e;
    }

torn_opens : (genesis : Root) (torn : Option Lasting) (key : PubKey) (m : Message) (files : Files) → ((l : Lasting) → torn ≡ Some l → CoversKey l.keys key m) → IsSomeAnd torn (λ l. Opens genesis files l)
    → (l : Lasting) × Opens genesis files l × CoversKey l.keys key m
torn_opens genesis None key m files d h = absurd h
torn_opens genesis (Some l) key m files d h = (l, h, d l refl)

pub images : (genesis : Root) (state : State) (key : PubKey) (m : Message) (files : Files) → IsDurable state key m → MayOpen genesis state files → (l : Lasting) × Opens genesis files l × CoversKey l.keys key m
images genesis state key m files d (inl opens) = (lasting state, opens, d.now)
images genesis state key m files d (inr opens) = torn_opens genesis state.torn key m files d.torn opens
