-- The desk as a machine: which replies it may give, and the state after a reply.
use Rattle.std.specs.Prelude.{◌≡◌, ◌≢◌, ℕ, ◌+◌, ◌-◌, ◌^◌, ◌<◌, ◌≤◌, ◌⊎◌, max, is_some, false, length, map, List, [], ◌∷◌, ◌++◌, Contains, Option, Some, None, IsSome, IsSomeAnd}
use Rattle.std.specs.Map.{keys_of}
use Rattle.edge_kit.specs.declared.bytes.PubKey.{PubKey}
use Rattle.slash_defs.specs.declared.message.Message.{Message}
use Rattle.slash_defs.specs.declared.book.File.{File}
use Rattle.protect_record.specs.Pasts.{Past}
use Rattle.protect_record.specs.Passing.{Passes}
use Rattle.interchange_io.specs.WrittenOrder.{canonical}
use Rattle.record_codec.specs.declared.item.JournalItem.TheVariants as item
use Rattle.record_join.specs.Keys.{with_key, with_kept}
use Rattle.record_join.specs.Repeats.{repeats}
use Rattle.record_join.specs.BooksPasts.{EachOnce, IsRefusal, new_keys, with_file, with_messages, own_grown, key_limit}
use Rattle.record_replay.specs.Batches.{file_items, message_items}
use Rattle.record_replay.specs.Replaying.{with_known}
use Rattle.record_replay.specs.Pruning.{pruning_of}
use Rattle.record_replay.specs.declared.state.KeyState.TheVariants.{Active, Closing, Closed}
use Rattle.doppel_watch.specs.Moments as moments
use Rattle.doppel_watch.specs.declared.watch.WatchState.TheVariants as watch
use Rattle.desk_machine.specs.States.{State, Lasting, lasting, past_of, key_state, IsActive, IsClosing, IsIdle, IsAllowed, key_standing}
use Rattle.desk_machine.specs.Watches.{Watching, standing_of, with_begun, with_told}
use Rattle.desk_machine.specs.Grants.{open_grants, without}
use Rattle.desk_machine.specs.Handing.{Exports, IsExport}
use Rattle.desk_machine.specs.Snapshots.{snapshot_size, weight_of}
use Rattle.desk_machine.specs.Written.{Fits, Overfills, Writes, frame_size, proposal_items, prune_items}
use Rattle.desk_machine.specs.declared.open_grant.OpenGrant.{OpenGrant}
use Rattle.desk_machine.specs.declared.call.KeyStanding.{KeyStanding}
use Rattle.desk_machine.specs.declared.call.DeskCall.{DeskCall}
use Rattle.desk_machine.specs.declared.call.DeskCall.TheVariants as call
use Rattle.desk_machine.specs.declared.call.DeskReply.{DeskReply}
use Rattle.desk_machine.specs.declared.call.DeskReply.TheVariants as reply

-- the greatest moment, an epoch
abbrev pub moment_limit : ℕ
moment_limit = moments.moment_limit

-- the greatest generation that a file may have
abbrev pub last_generation : ℕ
last_generation = 2 ^ 64 - 1

-- what a call takes for granted: a moment within the limit, a grant that is open at this desk, a file that lists each key once, messages
-- of different keys
abbrev pub MayCall : List OpenGrant → DeskCall → Type 0
MayCall grants (call.Merge file) = EachOnce file.books
MayCall grants (call.Activate key now) = now ≤ moment_limit
MayCall grants (call.Propose key m now) = now ≤ moment_limit
MayCall grants (call.Record ps now) = EachOnce ps × (now ≤ moment_limit)
MayCall grants (call.Allow key now) = now ≤ moment_limit
MayCall grants (call.Answer key epoch live now) = now ≤ moment_limit
MayCall grants (call.Settle grant outcome) = Contains grants grant
MayCall grants (call.BeginClose key) = Unit {0}
MayCall grants (call.FinishClose key) = Unit {0}
MayCall grants (call.Export keys) = Unit {0}
MayCall grants (call.Prune key) = Unit {0}
MayCall grants call.Keys = Unit {0}
MayCall grants call.HasFailed = Unit {0}
MayCall grants call.Size = Unit {0}
MayCall grants call.Compact = Unit {0}

abbrev pub grant_for : State → PubKey → Message → OpenGrant
grant_for state key m = record { number = state.next; key = key; message = Some m }

abbrev pub plain_grant_for : State → PubKey → OpenGrant
plain_grant_for state key = record { number = state.next; key = key; message = None }

-- the key is kept, or there is room for one more
abbrev pub FitsOne : State → PubKey → Type 0
FitsOne state key = IsSome (past_of state key) ⊎ (length state.keys < key_limit)

-- the file is of this chain, and its keys fit
abbrev pub FitsFile : State → File → Type 0
FitsFile state file = (file.genesis ≡ state.genesis) × (length state.keys + new_keys state.keys file.books ≤ key_limit)

-- the key is active, and its past is such
abbrev pub ActiveAnd : State → PubKey → (Past → Type 0) → Type 0
ActiveAnd state key P = IsActive state key × IsSomeAnd (past_of state key) P

-- the key is kept and active
abbrev pub IsKeptActive : State → PubKey → Type 0
IsKeptActive state key = IsSome (past_of state key) × IsActive state key

-- the key is kept, and active or being closed
abbrev pub IsWatchable : State → PubKey → Type 0
IsWatchable state key = IsSome (past_of state key) × (IsActive state key ⊎ IsClosing state key)

-- nothing bars the key from signing
abbrev pub MaySign : State → PubKey → Type 0
MaySign state key = IsKeptActive state key × IsAllowed state key

-- the key's past lets the message pass and does not have it yet, and nothing else bars the key from signing
abbrev pub IsFresh : State → PubKey → Message → Type 0
IsFresh state key m = ActiveAnd state key (λ past. Passes past m × (repeats past m ≡ false)) × IsAllowed state key

abbrev pub AreFresh : State → List (PubKey × Message) → Type 0
AreFresh state ps = (one : PubKey × Message) → Contains ps one → IsFresh state one.0 one.1

-- ---- replies

-- no disk has failed since the desk was opened
abbrev pub IsUp : State → Type 0
IsUp state = state.torn ≡ None

-- no refusal holds that comes before memory is taken
abbrev pub Proceeds : State → DeskCall → Type 0
Proceeds state (call.Merge file) = FitsFile state file
Proceeds state (call.Activate key now) = IsIdle state key × FitsOne state key
Proceeds state (call.Propose key m now) = ActiveAnd state key (λ past. Passes past m) × IsAllowed state key
Proceeds state (call.Record ps now) = AreFresh state ps
Proceeds state (call.Allow key now) = MaySign state key
Proceeds state (call.Answer key epoch live now) = IsWatchable state key
Proceeds state (call.Settle grant outcome) = Unit {0}
Proceeds state (call.BeginClose key) = Unit {0}
Proceeds state (call.FinishClose key) = IsSome (past_of state key) × IsClosing state key × (open_grants state.grants key ≡ 0)
Proceeds state (call.Export keys) = Unit {0}
Proceeds state (call.Prune key) = IsSome (past_of state key)
Proceeds state call.Keys = Unit {0}
Proceeds state call.HasFailed = Unit {0}
Proceeds state call.Size = Unit {0}
Proceeds state call.Compact = state.generation < last_generation

-- a call that writes succeeds: no disk has failed, no refusal holds, and what it writes fits
abbrev pub Succeeds : State → DeskCall → Type 0
Succeeds state c = IsUp state × Proceeds state c × Fits state c

-- it may want memory, be too much for the journal, or fail by the disk, now or since an earlier call
abbrev pub MayWant : State → DeskCall → Type 0
MayWant state c = IsUp state × Proceeds state c

abbrev pub IsTooMuch : State → DeskCall → ℕ → ℕ → Type 0
IsTooMuch state c size wanted = IsUp state × Proceeds state c × Overfills state c size wanted

abbrev pub MayFail : State → DeskCall → Type 0
MayFail state c = IsSome state.torn ⊎ (IsUp state × Proceeds state c × Writes state c)

-- what bars a key from signing, whatever is to be signed: the first of these that holds
abbrev pub IsBarred : State → PubKey → DeskReply → Type 0
IsBarred state key reply.Disk = IsSome state.torn
IsBarred state key reply.Unknown = IsUp state × (past_of state key ≡ None)
IsBarred state key reply.NotActive = IsUp state × IsSome (past_of state key) × IsIdle state key
IsBarred state key reply.Closing = IsUp state × IsSome (past_of state key) × IsClosing state key
IsBarred state key (reply.Live epoch) = IsUp state × IsKeptActive state key × (standing_of state.watching key ≡ watch.Live epoch)
IsBarred state key (reply.Watching first second) = IsUp state × IsKeptActive state key × (standing_of state.watching key ≡ watch.Missing first second)
IsBarred state key r = ⊥

-- each kept key with how it stands, in key order
abbrev pub key_standings : State → List (PubKey × KeyStanding)
key_standings state = map (λ key. (key, key_standing (key_state state.states key) (standing_of state.watching key))) (keys_of state.keys)

-- the desk may give this reply: the first of the order whose condition holds
abbrev pub Reply : State → DeskCall → DeskReply → Type 0
Reply state (call.Merge file) reply.Disk = MayFail state (call.Merge file)
Reply state (call.Merge file) (reply.GenesisDiffers kept given) = IsUp state × (kept ≡ state.genesis) × (given ≡ file.genesis) × (kept ≢ given)
Reply state (call.Merge file) (reply.TooManyKeys have new) = IsUp state × (file.genesis ≡ state.genesis) × (have ≡ length state.keys) × (new ≡ new_keys state.keys file.books) × (key_limit < have + new)
Reply state (call.Merge file) reply.OutOfMemory = MayWant state (call.Merge file)
Reply state (call.Merge file) (reply.Full size wanted) = IsTooMuch state (call.Merge file) size wanted
Reply state (call.Merge file) (reply.Merged keys) = Succeeds state (call.Merge file) × (keys ≡ length file.books)
Reply state (call.Activate key now) reply.Disk = MayFail state (call.Activate key now)
Reply state (call.Activate key now) reply.Already = IsUp state × IsActive state key
Reply state (call.Activate key now) reply.Closing = IsUp state × IsClosing state key
Reply state (call.Activate key now) (reply.TooManyKeys have new) = IsUp state × IsIdle state key × (past_of state key ≡ None) × (have ≡ length state.keys) × (new ≡ 1) × (key_limit < have + new)
Reply state (call.Activate key now) reply.OutOfMemory = MayWant state (call.Activate key now)
Reply state (call.Activate key now) (reply.Full size wanted) = IsTooMuch state (call.Activate key now) size wanted
Reply state (call.Activate key now) reply.Active = Succeeds state (call.Activate key now)
Reply state (call.Propose key m now) reply.Disk = MayFail state (call.Propose key m now)
Reply state (call.Propose key m now) reply.Unknown = IsBarred state key reply.Unknown
Reply state (call.Propose key m now) reply.NotActive = IsBarred state key reply.NotActive
Reply state (call.Propose key m now) reply.Closing = IsBarred state key reply.Closing
Reply state (call.Propose key m now) (reply.Live epoch) = IsBarred state key (reply.Live epoch)
Reply state (call.Propose key m now) (reply.Watching first second) = IsBarred state key (reply.Watching first second)
Reply state (call.Propose key m now) (reply.Refused v) = IsUp state × ActiveAnd state key (λ past. IsRefusal past m v) × IsAllowed state key
Reply state (call.Propose key m now) reply.OutOfMemory = MayWant state (call.Propose key m now)
Reply state (call.Propose key m now) (reply.Full size wanted) = IsTooMuch state (call.Propose key m now) size wanted
Reply state (call.Propose key m now) (reply.Granted grant) = Succeeds state (call.Propose key m now) × (grant ≡ grant_for state key m)
Reply state (call.Record ps now) reply.Disk = MayFail state (call.Record ps now)
Reply state (call.Record ps now) reply.Unfit = IsUp state × ¬ (AreFresh state ps)
Reply state (call.Record ps now) reply.OutOfMemory = IsUp state
Reply state (call.Record ps now) (reply.Full size wanted) = IsTooMuch state (call.Record ps now) size wanted
Reply state (call.Record ps now) reply.Recorded = Succeeds state (call.Record ps now)
Reply state (call.Allow key now) reply.Disk = MayFail state (call.Allow key now)
Reply state (call.Allow key now) reply.Unknown = IsBarred state key reply.Unknown
Reply state (call.Allow key now) reply.NotActive = IsBarred state key reply.NotActive
Reply state (call.Allow key now) reply.Closing = IsBarred state key reply.Closing
Reply state (call.Allow key now) (reply.Live epoch) = IsBarred state key (reply.Live epoch)
Reply state (call.Allow key now) (reply.Watching first second) = IsBarred state key (reply.Watching first second)
Reply state (call.Allow key now) reply.OutOfMemory = MayWant state (call.Allow key now)
Reply state (call.Allow key now) (reply.Granted grant) = Succeeds state (call.Allow key now) × (grant ≡ plain_grant_for state key)
Reply state (call.Answer key epoch live now) reply.Unknown = past_of state key ≡ None
Reply state (call.Answer key epoch live now) reply.NotActive = IsSome (past_of state key) × IsIdle state key
Reply state (call.Answer key epoch live now) reply.OutOfMemory = Proceeds state (call.Answer key epoch live now)
Reply state (call.Answer key epoch live now) reply.Noted = Proceeds state (call.Answer key epoch live now)
Reply state (call.Settle grant outcome) reply.Settled = Unit {0}
Reply state (call.BeginClose key) reply.Unknown = past_of state key ≡ None
Reply state (call.BeginClose key) reply.NotActive = IsSome (past_of state key) × IsIdle state key
Reply state (call.BeginClose key) reply.CloseBegun = IsSome (past_of state key) × IsActive state key
Reply state (call.BeginClose key) reply.AlreadyClosing = IsSome (past_of state key) × IsClosing state key
Reply state (call.FinishClose key) reply.Disk = MayFail state (call.FinishClose key)
Reply state (call.FinishClose key) reply.Unknown = IsUp state × (past_of state key ≡ None)
Reply state (call.FinishClose key) (reply.NotClosing is) = IsUp state × IsSome (past_of state key) × (is ≡ key_state state.states key) × (is ≢ Closing)
Reply state (call.FinishClose key) (reply.Busy grants) = IsUp state × IsSome (past_of state key) × IsClosing state key × (grants ≡ open_grants state.grants key) × (0 < grants)
Reply state (call.FinishClose key) reply.OutOfMemory = MayWant state (call.FinishClose key)
Reply state (call.FinishClose key) (reply.Full size wanted) = IsTooMuch state (call.FinishClose key) size wanted
Reply state (call.FinishClose key) (reply.Closed book) = Succeeds state (call.FinishClose key) × IsSomeAnd (past_of state key) (λ past. IsExport past book)
Reply state (call.Export keys) (reply.Exported file) = (file.genesis ≡ state.genesis) × Exports state.keys keys file.books
Reply state (call.Export keys) reply.OutOfMemory = Unit {0}
Reply state (call.Prune key) reply.Disk = MayFail state (call.Prune key)
Reply state (call.Prune key) reply.Unknown = IsUp state × (past_of state key ≡ None)
Reply state (call.Prune key) reply.OutOfMemory = MayWant state (call.Prune key)
Reply state (call.Prune key) (reply.Full size wanted) = IsTooMuch state (call.Prune key) size wanted
Reply state (call.Prune key) (reply.Pruned book) = Succeeds state (call.Prune key) × IsSomeAnd (past_of state key) (λ past. book ≡ pruning_of past)
Reply state call.Keys (reply.Keys listed) = listed ≡ key_standings state
Reply state call.Keys reply.OutOfMemory = Unit {0}
Reply state call.HasFailed (reply.HasFailed failed) = failed ≡ is_some state.torn
Reply state call.Size (reply.Size size weight) = (size ≡ state.size) × (weight ≡ weight_of state)
Reply state call.Compact reply.Disk = MayFail state call.Compact
Reply state call.Compact reply.LastGeneration = IsUp state × (state.generation ≡ last_generation)
Reply state call.Compact reply.OutOfMemory = MayWant state call.Compact
Reply state call.Compact (reply.Full size wanted) = IsTooMuch state call.Compact size wanted
Reply state call.Compact (reply.Compacted before after) = Succeeds state call.Compact × (before ≡ state.size) × (after ≡ snapshot_size state)
Reply state c r = ⊥

-- ---- the state after a reply

-- the moment of a call, where it has one
abbrev pub latest_after : ℕ → DeskCall → ℕ
latest_after latest (call.Activate key now) = max latest now
latest_after latest (call.Propose key m now) = max latest now
latest_after latest (call.Record ps now) = max latest now
latest_after latest (call.Allow key now) = max latest now
latest_after latest (call.Answer key epoch live now) = max latest now
latest_after latest c = latest

-- the past of a key gains the book that prunes it
abbrev pub pruned_keys : List (PubKey × Past) → PubKey → Option Past → List (PubKey × Past)
pruned_keys keys key None = keys
pruned_keys keys key (Some past) = with_file keys ((key, pruning_of past) ∷ [])

-- what lasts after the success of a call
abbrev pub lasting_after : State → DeskCall → Lasting
lasting_after state (call.Merge file) = record { keys = with_file state.keys file.books; states = state.states; size = state.size + frame_size (file_items (canonical file).books); generation = state.generation }
lasting_after state (call.Activate key now) = record { keys = with_known state.keys key; states = with_key state.states key Active; size = state.size + frame_size (item.ActivateUndated key ∷ []); generation = state.generation }
lasting_after state (call.Propose key m now) = record { keys = own_grown state.keys key m; states = state.states; size = state.size + frame_size (proposal_items (past_of state key) key m); generation = state.generation }
lasting_after state (call.Record ps now) = record { keys = with_messages state.keys ps; states = state.states; size = state.size + frame_size (message_items ps); generation = state.generation }
lasting_after state (call.BeginClose key) = record { keys = state.keys; states = with_kept state.states key Closing; size = state.size; generation = state.generation }
lasting_after state (call.FinishClose key) = record { keys = state.keys; states = with_kept state.states key Closed; size = state.size + frame_size (item.Close key ∷ []); generation = state.generation }
lasting_after state (call.Prune key) = record { keys = pruned_keys state.keys key (past_of state key); states = state.states; size = state.size + frame_size (prune_items key (past_of state key)); generation = state.generation }
lasting_after state (call.Allow key now) = lasting state
lasting_after state (call.Answer key epoch live now) = lasting state
lasting_after state (call.Settle grant outcome) = lasting state
lasting_after state (call.Export keys) = lasting state
lasting_after state call.Keys = lasting state
lasting_after state call.HasFailed = lasting state
lasting_after state call.Size = lasting state
lasting_after state call.Compact = record { keys = state.keys; states = state.states; size = snapshot_size state; generation = state.generation + 1 }

-- the watches after a call that succeeded: a key that becomes active is watched anew, from the latest moment on; and what is told of a
-- key joins its watch, at the moment at which it is told
abbrev pub watching_after : State → DeskCall → Watching
watching_after state (call.Activate key now) = with_begun state.watching key (max state.latest now)
watching_after state (call.Answer key epoch live now) = with_told state.watching key (record { epoch = epoch; live = live; moment = now })
watching_after state c = state.watching

-- the first call that is torn stays so
abbrev pub torn_first : Option Lasting → Lasting → Option Lasting
torn_first None l = Some l
torn_first (Some first) l = Some first

-- the state with what lasts after a call, at its moment
abbrev pub changed : State → DeskCall → State
changed state c = record state { keys = (lasting_after state c).keys; states = (lasting_after state c).states; size = (lasting_after state c).size; generation = (lasting_after state c).generation; latest = latest_after state.latest c; watching = watching_after state c }

-- the state after a reply; after a refusal only the latest moment may differ, but that a fault of the disk tears the call
abbrev pub after : State → DeskCall → DeskReply → State
after state (call.Merge file) (reply.Merged keys) = changed state (call.Merge file)
after state (call.Activate key now) reply.Active = changed state (call.Activate key now)
after state (call.Propose key m now) (reply.Granted grant) = record (changed state (call.Propose key m now)) { grants = state.grants ++ grant ∷ []; next = state.next + 1 }
after state (call.Record ps now) reply.Recorded = changed state (call.Record ps now)
after state (call.Allow key now) (reply.Granted grant) = record (changed state (call.Allow key now)) { grants = state.grants ++ grant ∷ []; next = state.next + 1 }
after state (call.Answer key epoch live now) reply.Noted = changed state (call.Answer key epoch live now)
after state (call.Settle grant outcome) reply.Settled = record state { grants = without state.grants grant.number }
after state (call.BeginClose key) reply.CloseBegun = changed state (call.BeginClose key)
after state (call.FinishClose key) (reply.Closed book) = changed state (call.FinishClose key)
after state (call.Prune key) (reply.Pruned book) = changed state (call.Prune key)
after state call.Compact (reply.Compacted before size) = changed state call.Compact
after state c reply.Disk = record state { latest = latest_after state.latest c; torn = torn_first state.torn (lasting_after state c) }
after state c r = record state { latest = latest_after state.latest c }
