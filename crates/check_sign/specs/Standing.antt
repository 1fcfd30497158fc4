-- Which states a desk stands for, and to what two files open.
use Rattle.std.specs.Prelude.{[], ◌≡◌, ◌⊎◌, ℕ, List, Option, None, Some, IsSomeAnd}
use Rattle.edge_kit.specs.declared.bytes.Root.{Root}
use Rattle.record_join.specs.BooksPasts.{BooksStand}
use Rattle.journal_frames.specs.Frames.{generation_of}
use Rattle.record_journal.specs.Pairs.{Reads}
use Rattle.record_journal.specs.Journals.{journal_size}
use Rattle.record_codec.specs.declared.version.JournalVersion.TheVariants.{One}
use Rattle.record_replay.specs.Items.{items_in}
use Rattle.record_replay.specs.Replaying.{ItemsStand}
use Rattle.desk_machine.specs.States.{State, Lasting, lasting}
use Rattle.desk_machine.specs.Watches.{WatchesStand}
use Rattle.check_sign.specs.Contents.{Contents}
use Rattle.check_sign.specs.Crashes.{Files}

-- payloads stand for what lasts
pub record PayloadsStand (payloads : List (List ℕ)) (l : Lasting) : Type 0 where
  pub items : ItemsStand (items_in One payloads) l.keys l.states []
  pub size : l.size ≡ journal_size payloads
  pub generation : l.generation ≡ generation_of payloads

-- the payloads that a torn call would have left stand for what it would have made of that
abbrev pub TornStands : Option (List (List ℕ)) → Option Lasting → Type 0
TornStands None None = Unit {0}
TornStands None (Some l) = ⊥
TornStands (Some qs) None = ⊥
TornStands (Some qs) (Some l) = PayloadsStand qs l

-- a desk stands for a state: each record stands for its past, each watch for what was told, the journal for what lasts, and all
-- else is equal
pub record DeskStands (desk : Contents) (state : State) : Type 0 where
  pub genesis : desk.genesis ≡ state.genesis
  pub keys : BooksStand desk.keys state.keys
  pub states : desk.states ≡ state.states
  pub grants : desk.grants ≡ state.grants
  pub next : desk.next ≡ state.next
  pub latest : desk.latest ≡ state.latest
  pub watches : WatchesStand desk.watches state.watching
  pub size : desk.size ≡ state.size
  pub payloads : PayloadsStand desk.payloads (lasting state)
  pub torn : TornStands desk.torn state.torn

-- the two files of a journal open to what lasts
pub record Opens (genesis : Root) (files : Files) (l : Lasting) : Type 0 where
  pub payloads : List (List ℕ)
  pub read : Reads genesis.0 payloads files.0 files.1
  pub stand : PayloadsStand payloads l

-- two files open to what lasts of the state, or of the call that was torn
abbrev pub MayOpen : Root → State → Files → Type 0
MayOpen genesis state files = Opens genesis files (lasting state) ⊎ IsSomeAnd state.torn (λ l. Opens genesis files l)
