-- What the parts of a run make of it.
use Rattle.std.proofs.Common.{◌≡◌, ◌∙◌, ℕ, Bool, List, [], ap, refl, subst, sym, inl, inr}
use Rattle.std.specs.Global.{Vec}
use Rattle.program_end.specs.declared.status.Status.{Status}
use Rattle.program_end.specs.declared.status.Status.TheVariants as status
use Rattle.command_line.specs.Plans.{Asked, session, serve, proxy, merge, show, rehearse, shown, nothing}
use Rattle.command_line.specs.declared.proxy_options.ProxyOptions.{ProxyOptions}
use Rattle.command_line.specs.declared.serve_options.ServeOptions.{ServeOptions}
use Rattle.serve_run.specs.Ends.{Because}
use Rattle.serve_run.specs.declared.lanes.LaneEnd.{LaneEnd}
use Rattle.validator_cli.specs.declared.ending.Ending.{Ending}
use Rattle.validator_cli.specs.Clients.{parts_of}
use Rattle.validator_cli.specs.Endings.{Causes, IsOther, RunEnds}
use Rattle.validator_cli.specs.Runs.{CommandRuns, DiskFailed, DoorFailed, ProgramRuns, ProxyRuns, ReadsFailed, ServeRuns, WritesFailed, outside_at, proxy_at}
use Rattle.validator_cli.specs.Views.{CameBack, HandedIn, Views, came_back}
use Rattle.validator_cli.proofs.EndingLemmas.{want_causes}

module _ {D S N R C I O : Type 0} (seen : Views D S N R C I O) (before : HandedIn D S N R I O) (now : CameBack D S N R I O) where
  -- no server was asked for
  pub other_runs : (asked : Asked) → IsOther asked → CommandRuns seen before now asked → ProgramRuns seen before now asked
  other_runs (session genesis journal fork altair signer watch) is runs = runs
  other_runs (serve options) is runs = absurd is
  other_runs (proxy options) is runs = absurd is
  other_runs (merge genesis journal) is runs = runs
  other_runs (show genesis journal) is runs = runs
  other_runs (rehearse number clients steps) is runs = runs
  other_runs shown is runs = runs
  other_runs nothing is runs = runs

  -- a server was asked for
  pub server_runs : (asked : Asked) → ¬ (IsOther asked) → ((options : ServeOptions) → asked ≡ serve options → ServeRuns seen before now options)
      → ((options : ProxyOptions) → asked ≡ proxy options → ProxyRuns seen before now options) → ProgramRuns seen before now asked
  server_runs (session genesis journal fork altair signer watch) one serves proxies = absurd (one tt)
  server_runs (serve options) one serves proxies = serves options refl
  server_runs (proxy options) one serves proxies = proxies options refl
  server_runs (merge genesis journal) one serves proxies = absurd (one tt)
  server_runs (show genesis journal) one serves proxies = absurd (one tt)
  server_runs (rehearse number clients steps) one serves proxies = absurd (one tt)
  server_runs shown one serves proxies = absurd (one tt)
  server_runs nothing one serves proxies = absurd (one tt)

-- nothing was begun, since memory ran out: all came back as it was handed in
pub record IsUnbegun {D S N R I O : Type 0} (before : HandedIn D S N R I O) (ending : Ending D S N R) : Type 0 where
  pub is : ending.status ≡ status.OutOfMemory
  pub disks : ending.disks ≡ before.disks
  pub signer : ending.signer ≡ before.signer
  pub nodes : ending.nodes ≡ before.nodes
  pub door : ending.door ≡ before.door
  pub lanes : ending.lanes.items ≡ []
  pub signers : ending.signers.items ≡ []
  pub events : ending.events.items ≡ []

module _ {D S N R C I O : Type 0} (seen : Views D S N R C I O) (before : HandedIn D S N R I O) (ending : Ending D S N R) (none : IsUnbegun before ending) where
  abbrev pub now : CameBack D S N R I O
  now = came_back ending before.input before.out

  unbegun_command : (asked : Asked) → CommandRuns seen before now asked
  unbegun_command asked = record {
    ended = inr (
      record { same = ap (λ (s : S). outside_at seen before now before.input before.out s) none.signer; is = none.is },
      record {
        same = none.disks;
        untouched = record {
          unread = record { left = refl; failed = refl };
          unasked = record { told = ap seen.signer.told none.signer; failed = ap seen.signer.faults none.signer; denied = ap seen.signer.denials none.signer };
        };
        none = none.events;
      },
    );
    tells =
        let P : Status → Type 0 = λ s. Causes asked (seen.input.left before.input) (ReadsFailed seen before now) (WritesFailed seen before now) (DiskFailed seen before now) s in
        subst P (sym none.is) (want_causes asked (seen.input.left before.input) (ReadsFailed seen before now) (WritesFailed seen before now) (DiskFailed seen before now));
    nodes = none.nodes;
    door = none.door;
    lanes = none.lanes;
    signers = none.signers;
  }

  unbegun_tells : Because (WritesFailed seen before now) (DiskFailed seen before now) (DoorFailed seen before now) ending.status
  unbegun_tells = let P : Status → Type 0 = λ s. Because (WritesFailed seen before now) (DiskFailed seen before now) (DoorFailed seen before now) s in subst P (sym none.is) tt

  unbegun_client : (options : ServeOptions) → ServeRuns seen before now options
  unbegun_client options =
      let parts = λ (s : S) (n : List N) (l : List (LaneEnd S N)) (r : R). parts_of seen.signer.told seen.signer.faults seen.signer.denials seen.node.told seen.node.faults seen.door.coming seen.door.finished seen.door.faults seen.out.held seen.out.faults s n [] l r before.out in
      record {
        ended = inr (record {
          is = none.is;
          disks = none.disks;
          parts = ap (λ (s : S). parts s ending.nodes.items ending.lanes.items ending.door) none.signer ∙ ap (λ (n : Vec N). parts before.signer n.items ending.lanes.items ending.door) none.nodes
              ∙ ap (λ (l : List (LaneEnd S N)). parts before.signer before.nodes.items l ending.door) none.lanes ∙ ap (λ (r : R). parts before.signer before.nodes.items [] r) none.door;
          unnoted = none.events;
        });
        tells = unbegun_tells;
        input = refl;
        signers = none.signers;
      }

  unbegun_proxy : (options : ProxyOptions) → ProxyRuns seen before now options
  unbegun_proxy options = record {
    ended = inl (record {
      is = none.is;
      disks = none.disks;
      parts = ap (λ (l : List S). proxy_at seen before now l ending.door before.out) none.signers ∙ ap (λ (r : R). proxy_at seen before now [] r before.out) none.door;
      unnoted = none.events;
    });
    tells = unbegun_tells;
    input = refl;
    signer = none.signer;
    nodes = none.nodes;
    lanes = none.lanes;
  }

  pub unbegun_runs : (asked : Asked) → ProgramRuns seen before now asked
  unbegun_runs (session genesis journal fork altair signer watch) = unbegun_command (session genesis journal fork altair signer watch)
  unbegun_runs (serve options) = unbegun_client options
  unbegun_runs (proxy options) = unbegun_proxy options
  unbegun_runs (merge genesis journal) = unbegun_command (merge genesis journal)
  unbegun_runs (show genesis journal) = unbegun_command (show genesis journal)
  unbegun_runs (rehearse number clients steps) = unbegun_command (rehearse number clients steps)
  unbegun_runs shown = unbegun_command shown
  unbegun_runs nothing = unbegun_command nothing
