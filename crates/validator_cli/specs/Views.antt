-- How the objects that a run of the program is handed are seen: what each tells, and how often it failed.
use Rattle.std.specs.Prelude.{ℕ, List, Option}
use Rattle.std.specs.Global.{Vec}
use Rattle.edge_kit.specs.declared.disk.Disks.{Disks}
use Rattle.signer_link.specs.declared.reply.Told.{Told}
use Rattle.node_calls.specs.declared.told.NodeCall.{NodeCall}
use Rattle.keymanager_api.specs.Serving.{LinkSeen}
use Rattle.validator_cli.specs.declared.ending.Ending.{Ending}

-- of a disk: the bytes that it shows, the number of its moment, the bytes that a stop at a moment may leave, and its count of faults
pub record DiskView (D : Type 0) : Type 1 where
  pub shows : D → List ℕ → Type 0
  pub moment : D → ℕ
  pub leaves : D → ℕ → List ℕ → Type 0
  pub faults : D → ℕ

-- of a signing service: its calls, as far as it tells, and its counts of faults and of denials
pub record SignerView (S : Type 0) : Type 0 where
  pub told : S → Option (List Told)
  pub faults : S → ℕ
  pub denials : S → ℕ

-- of a beacon node: its calls, as far as it tells, and its count of faults
pub record NodeView (N : Type 0) : Type 0 where
  pub told : N → Option (List NodeCall)
  pub faults : N → ℕ

-- of a door: the connections that come and those that are finished, as far as it tells, which of them is lent, its count of faults, and how each of
-- its connections is seen
pub record DoorView (R C : Type 0) : Type 0 where
  pub coming : R → Option (List C)
  pub finished : R → Option (List C)
  pub lent : R → Option ℕ
  pub faults : R → ℕ
  pub link : C → LinkSeen

-- of an input: the bytes that are left, as far as it tells, and its count of faults
pub record SourceView (I : Type 0) : Type 0 where
  pub left : I → Option (List ℕ)
  pub faults : I → ℕ

-- of an output: the bytes that it holds, as far as it tells, and its count of faults
pub record SinkView (O : Type 0) : Type 0 where
  pub held : O → Option (List ℕ)
  pub faults : O → ℕ

pub record Views (D S N R C I O : Type 0) : Type 1 where
  pub disk : DiskView D
  pub signer : SignerView S
  pub node : NodeView N
  pub door : DoorView R C
  pub input : SourceView I
  pub out : SinkView O

-- what is handed in: the objects, and where the clock starts, if it is on time
pub record HandedIn (D S N R I O : Type 0) : Type 0 where
  pub disks : Disks D
  pub signer : S
  pub nodes : Vec N
  pub door : R
  pub input : I
  pub out : O
  pub clock : Option ℕ

-- what comes back: the ending of the run, and the input and the output as they are then
pub record CameBack (D S N R I O : Type 0) : Type 0 where
  pub ending : Ending D S N R
  pub input : I
  pub out : O

abbrev pub disk_view : {D : Type 0} → (D → List ℕ → Type 0) → (D → ℕ) → (D → ℕ → List ℕ → Type 0) → (D → ℕ) → DiskView D
disk_view shows moment leaves faults = record { shows = shows; moment = moment; leaves = leaves; faults = faults }

abbrev pub signer_view : {S : Type 0} → (S → Option (List Told)) → (S → ℕ) → (S → ℕ) → SignerView S
signer_view told faults denials = record { told = told; faults = faults; denials = denials }

abbrev pub node_view : {N : Type 0} → (N → Option (List NodeCall)) → (N → ℕ) → NodeView N
node_view told faults = record { told = told; faults = faults }

abbrev pub door_view : {R C : Type 0} → (R → Option (List C)) → (R → Option (List C)) → (R → Option ℕ) → (R → ℕ) → (C → LinkSeen) → DoorView R C
door_view coming finished lent faults link = record { coming = coming; finished = finished; lent = lent; faults = faults; link = link }

abbrev pub source_view : {I : Type 0} → (I → Option (List ℕ)) → (I → ℕ) → SourceView I
source_view left faults = record { left = left; faults = faults }

abbrev pub sink_view : {O : Type 0} → (O → Option (List ℕ)) → (O → ℕ) → SinkView O
sink_view held faults = record { held = held; faults = faults }

abbrev pub views : {D S N R C I O : Type 0} → DiskView D → SignerView S → NodeView N → DoorView R C → SourceView I → SinkView O → Views D S N R C I O
views disk signer node door input out = record { disk = disk; signer = signer; node = node; door = door; input = input; out = out }

abbrev pub handed_in : {D S N R I O : Type 0} → Disks D → S → Vec N → R → I → O → Option ℕ → HandedIn D S N R I O
handed_in disks signer nodes door input out clock = record { disks = disks; signer = signer; nodes = nodes; door = door; input = input; out = out; clock = clock }

abbrev pub came_back : {D S N R I O : Type 0} → Ending D S N R → I → O → CameBack D S N R I O
came_back ending input out = record { ending = ending; input = input; out = out }
