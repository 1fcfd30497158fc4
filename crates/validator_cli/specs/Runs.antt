-- What a run of the program comes to, by what its words ask for.
use Rattle.std.specs.Prelude.{◌≡◌, ℕ, Bool, List, [], Option}
use Rattle.edge_kit.specs.Causes.{Rose}
use Rattle.client_calls.specs.Seats.{SignerSeen, signer_seen}
use Rattle.record_journal.specs.TwoDisks.{EitherRose}
use Rattle.desk_machine.specs.declared.event.DeskEvent.{DeskEvent}
use Rattle.program_end.specs.declared.status.Status.{Status}
use Rattle.command_line.specs.Plans.{Asked, serve, proxy}
use Rattle.command_line.specs.declared.proxy_options.ProxyOptions.{ProxyOptions}
use Rattle.command_line.specs.declared.serve_options.ServeOptions.{ServeOptions}
use Rattle.serve_run.specs.Clients.{Parts}
use Rattle.serve_run.specs.Ends.{Because}
use Rattle.proxy_run.specs.Ends.{ProxyEnds}
use Rattle.proxy_run.specs.Parts.{Parts as ProxyParts, parts_seen}
use Rattle.validator_cli.specs.Clients.{ClientRuns, parts_of}
use Rattle.validator_cli.specs.Endings.{Causes, Outside, RunEnds, outside_of}
use Rattle.validator_cli.specs.Views.{CameBack, HandedIn, Views}

module _ {D S N R C I O : Type 0} (seen : Views D S N R C I O) (before : HandedIn D S N R I O) (now : CameBack D S N R I O) where
  -- ---- how the run is seen

  abbrev pub status : Status
  status = now.ending.status

  -- what the desk did
  abbrev pub noted : List DeskEvent
  noted = now.ending.events.items

  -- the input, the output and the signing service
  abbrev pub outside_at : I → O → S → Outside
  outside_at input out signer = outside_of seen.input.left seen.input.faults seen.out.held seen.out.faults seen.signer.told seen.signer.faults seen.signer.denials input out signer

  -- the parts of the validator client when they are handed in, and when they come back; none of its nodes counts as syncing but by these flags
  abbrev pub client_before : Parts C
  client_before = parts_of seen.signer.told seen.signer.faults seen.signer.denials seen.node.told seen.node.faults seen.door.coming seen.door.finished seen.door.faults seen.out.held seen.out.faults
      before.signer before.nodes.items [] [] before.door before.out

  abbrev pub client_now : List Bool → Parts C
  client_now flags = parts_of seen.signer.told seen.signer.faults seen.signer.denials seen.node.told seen.node.faults seen.door.coming seen.door.finished seen.door.faults seen.out.held seen.out.faults
      now.ending.signer now.ending.nodes.items flags now.ending.lanes.items now.ending.door now.out

  -- the parts of the signing proxy
  abbrev pub proxy_at : List S → R → O → ProxyParts C
  proxy_at signers door out = parts_seen seen.signer.told seen.signer.faults seen.signer.denials seen.door.coming seen.door.finished seen.door.lent seen.door.faults seen.out.held seen.out.faults signers door out

  -- the signing service that is handed in
  abbrev pub signer_before : SignerSeen
  signer_before = signer_seen seen.signer.told seen.signer.faults seen.signer.denials before.signer

  -- ---- what failed

  abbrev pub ReadsFailed : Type 0
  ReadsFailed = Rose (seen.input.faults before.input) (seen.input.faults now.input)

  abbrev pub WritesFailed : Type 0
  WritesFailed = Rose (seen.out.faults before.out) (seen.out.faults now.out)

  abbrev pub DiskFailed : Type 0
  DiskFailed = EitherRose seen.disk.faults before.disks now.ending.disks

  abbrev pub DoorFailed : Type 0
  DoorFailed = Rose (seen.door.faults before.door) (seen.door.faults now.ending.door)

  -- what the status of a server tells: which of these failed
  abbrev pub ServerTells : Type 0
  ServerTells = Because WritesFailed DiskFailed DoorFailed status

  -- ---- what was asked for

  -- A command that is no server: a session, a merge, a showing, a rehearsal, a text, or no command at all. It ended as such a command does. No
  -- node was asked and nobody was served.
  pub record CommandRuns (asked : Asked) : Type 0 where
    pub ended : RunEnds seen.disk.shows seen.disk.moment seen.disk.leaves seen.disk.faults asked before.disks now.ending.disks (outside_at before.input before.out before.signer) (outside_at now.input now.out now.ending.signer) noted status
    pub tells : Causes asked (seen.input.left before.input) ReadsFailed WritesFailed DiskFailed status
    pub nodes : now.ending.nodes ≡ before.nodes
    pub door : now.ending.door ≡ before.door
    pub lanes : now.ending.lanes.items ≡ []
    pub signers : now.ending.signers.items ≡ []

  -- The validator client. It ended as a client does that served over the desk of its journal, or did not come to that. Nothing was read.
  pub record ServeRuns (options : ServeOptions) : Type 0 where
    pub ended : ClientRuns seen.disk.shows seen.disk.moment seen.disk.leaves seen.disk.faults seen.door.link before.clock options before.disks now.ending.disks client_before client_now noted status
    pub tells : ServerTells
    pub input : now.input ≡ before.input
    pub signers : now.ending.signers.items ≡ []

  -- The signing proxy. It ended as a proxy does that served over the desk of its journal, or did not come to that. Nothing was read, no node was
  -- asked, and by the signing service that was handed in itself nothing was signed.
  pub record ProxyRuns (options : ProxyOptions) : Type 0 where
    pub ended : ProxyEnds seen.disk.shows seen.disk.moment seen.disk.leaves seen.disk.faults seen.door.link before.clock options signer_before before.disks now.ending.disks
        (proxy_at [] before.door before.out) (proxy_at now.ending.signers.items now.ending.door now.out) noted status
    pub tells : ServerTells
    pub input : now.input ≡ before.input
    pub signer : now.ending.signer ≡ before.signer
    pub nodes : now.ending.nodes ≡ before.nodes
    pub lanes : now.ending.lanes.items ≡ []

  abbrev pub ProgramRuns : Asked → Type 0
  ProgramRuns (serve options) = ServeRuns options
  ProgramRuns (proxy options) = ProxyRuns options
  ProgramRuns asked = CommandRuns asked
