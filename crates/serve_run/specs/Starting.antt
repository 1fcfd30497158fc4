-- What is asked of the nodes before the journal is opened.
use Rattle.std.specs.Prelude.{◌≡◌, ◌≢◌, ◌⊎◌, ℕ, List, [], ◌∷◌, ◌++◌, Some, Result, Ok, Err, codes, flat_map, string_bytes}
use Rattle.edge_kit.specs.declared.bytes.Root.{Root}
use Rattle.node_calls.specs.Asking.{told_ask}
use Rattle.node_calls.specs.declared.ask.Ask.{Ask}
use Rattle.node_calls.specs.declared.ask.Ask.TheVariants as ask
use Rattle.node_calls.specs.declared.answer.Answer.{Answer}
use Rattle.node_calls.specs.declared.answer.Answer.TheVariants as answer
use Rattle.node_fallback.specs.InOrder.{Tries}
use Rattle.node_fallback.specs.Seen.{Seen}
use Rattle.node_fallback.specs.Texts.{cause_text}
use Rattle.node_fallback.specs.declared.no_node.Cause.{Cause}
use Rattle.node_fallback.specs.declared.no_node.NoAnswer.{NoAnswer}
use Rattle.node_fallback.specs.declared.no_node.NoAnswer.TheVariants as none
use Rattle.program_end.specs.declared.closing.ClosingLine.TheVariants as closing
use Rattle.program_end.specs.declared.status.Status.{Status}
use Rattle.journal_commands.specs.Views.{Output, ClosedBy, Unwritten}
use Rattle.serve_run.specs.declared.start.Start.{Start}
use Rattle.serve_run.specs.declared.start.Unstarted.{Unstarted}
use Rattle.serve_run.specs.declared.start.Unstarted.TheVariants as unstarted

-- the nodes were asked in their order, and this is what the first that gave anything gave
abbrev pub Asks : Ask → List Seen → Result Answer NoAnswer → List Seen → Type 0
Asks a old given new = Tries (told_ask a) old new given

-- what comes of the question for the fork, of a chain that began then
abbrev pub ByFork : ℕ → Result Answer NoAnswer → Result Start Unstarted → Type 0
ByFork time (Ok (answer.Fork fork)) result = result ≡ Ok (record { genesis_time = time; fork = fork })
ByFork time (Ok a) result = ⊥
ByFork time (Err (none.NoNode causes)) result = result ≡ Err (unstarted.NoNode causes)
ByFork time (Err none.OutOfMemory) result = result ≡ Err unstarted.OutOfMemory

pub record ForkAsked (time : ℕ) (old new : List Seen) (result : Result Start Unstarted) : Type 0 where
  pub given : Result Answer NoAnswer
  pub asked : Asks ask.Fork old given new
  pub by : ByFork time given result

-- the fork of a chain of this root is asked for; one of another root is refused, and nothing more is asked
abbrev pub ByRoot : Root → ℕ → Root → List Seen → List Seen → Result Start Unstarted → Type 0
ByRoot genesis time root old new result =
    ((root ≡ genesis) × ForkAsked time old new result)
    ⊎ ((root ≢ genesis) × (result ≡ Err (unstarted.GenesisDiffers root)) × (new ≡ old))

-- what comes of the question for the genesis
abbrev pub ByGenesis : Root → List Seen → List Seen → Result Answer NoAnswer → Result Start Unstarted → Type 0
ByGenesis genesis old new (Ok (answer.Genesis time root)) result = ByRoot genesis time root old new result
ByGenesis genesis old new (Ok a) result = ⊥
ByGenesis genesis old new (Err (none.NoNode causes)) result = (result ≡ Err (unstarted.NoNode causes)) × (new ≡ old)
ByGenesis genesis old new (Err none.OutOfMemory) result = (result ≡ Err unstarted.OutOfMemory) × (new ≡ old)

-- The nodes were asked for the genesis and, where its root is this one, for the fork.
pub record StartsBy (genesis : Root) (old new : List Seen) (result : Result Start Unstarted) : Type 0 where
  pub given : Result Answer NoAnswer
  pub mid : List Seen
  pub asked : Asks ask.Genesis old given mid
  pub by : ByGenesis genesis mid new given result

-- a cause after a comma
abbrev pub behind_comma : Cause → List ℕ
behind_comma c = codes ", " ++ cause_text c

-- the causes, joined by `, `
abbrev pub causes_text : List Cause → List ℕ
causes_text [] = []
causes_text (c ∷ causes) = cause_text c ++ flat_map behind_comma causes

-- the line of a start that is refused was written: it names each node's cause, or both roots; where memory ran out nothing was
abbrev pub ClosesUnstarted : Root → Unstarted → Output → Output → Status → Type 0
ClosesUnstarted genesis (unstarted.NoNode causes) before now result =
    ((line : _) × (string_bytes line ≡ causes_text causes) × ClosedBy (Some (closing.NoNode line)) before now result) ⊎ Unwritten before now result
ClosesUnstarted genesis (unstarted.GenesisDiffers given) before now result = ClosedBy (Some (closing.GenesisDiffers genesis given)) before now result
ClosesUnstarted genesis unstarted.OutOfMemory before now result = Unwritten before now result
