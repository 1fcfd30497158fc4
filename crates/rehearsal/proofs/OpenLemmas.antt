-- That a desk that is opened over files stands for what lasts by them.
use Rattle.std.proofs.Common.{◌≡◌, ℕ, false, List, [], Some, None, refl, sym, ◌∙◌, subst}
use Rattle.edge_kit.specs.declared.bytes.Root.{Root}
use Rattle.edge_kit.specs.declared.disk.Disks.{Disks}
use Rattle.journal_frames.specs.Frames.{reading}
use Rattle.record_journal.specs.Opened.{ReadPair}
use Rattle.record_journal.specs.Pairs.{Reads}
use Rattle.desk_machine.specs.States.{State, Lasting, nothing_lasts, no_state, reopened}
use Rattle.check_sign.specs.Contents.{Contents}
use Rattle.check_sign.specs.Crashes.{Files}
use Rattle.check_sign.specs.Standing.{DeskStands, MayOpen, Opens, PayloadsStand}
use Rattle.world_law.specs.Worlds.{lasting_stopped}
use Rattle.world_law.proofs.StopLemmas.{stops_between}
use Rattle.rehearsal.specs.Draws.{genesis}
use Rattle.rehearsal.specs.Clients.{OpensBy, Restarts, StopsBy}

some_inj : {X : Type 0} (a b : X) → Some a ≡ Some b → a ≡ b
some_inj a b e = cc

none_some : {X : Type 0} (x : X) → None ≡ Some x → ⊥
none_some x e = cc

pub opens_by : {D : Type 0} (shows : D → List ℕ → Type 0) (disks : Disks D) (root : Root) (files : Files) (now : ℕ) (desk : Contents) → root ≡ genesis → shows disks.first files.0 → shows disks.second files.1
    → ReadPair shows disks.first disks.second (Reads root.0 desk.payloads) → ((l : Lasting) → PayloadsStand desk.payloads l → DeskStands desk (reopened root l false now)) → desk.genesis ≡ root
    → OpensBy files now desk
opens_by shows disks root files now desk same shown shown_too read stands chain = record { stands = opened; genesis_is = chain ∙ same } where
  opened : (l : Lasting) → Opens genesis files l → DeskStands desk (reopened genesis l false now)
  opened l o =
      let A : List ℕ → Type 0 = λ a. Reads genesis.0 o.payloads a files.1 in
      let B : List ℕ → Type 0 = λ b. Reads genesis.0 o.payloads read.a b in
      let reads : Reads genesis.0 o.payloads read.a read.b = subst B (read.second_shown files.1 shown_too) (subst A (read.first_shown files.0 shown) o.read) in
      let R : Root → Type 0 = λ g. Reads g.0 desk.payloads read.a read.b in
      let equal : o.payloads ≡ desk.payloads = some_inj o.payloads desk.payloads (sym reads ∙ subst R same read.holds) in
      let S : List (List ℕ) → Type 0 = λ ps. PayloadsStand ps l in
      let D : Root → Type 0 = λ g. DeskStands desk (reopened g l false now) in
      subst D same (stands l (subst S equal o.stand))

-- no byte is no journal yet
no_byte_read : (root : Root) → Reads root.0 [] [] []
unfolding reading
no_byte_read root = refl

nothing_opens : Opens genesis ([], []) nothing_lasts
nothing_opens = record {
  payloads = [];
  read = no_byte_read genesis;
  stand = record { items = record { named = refl; each = λ key past h. absurd (none_some past h); states = refl; watches = refl }; size = refl; generation = refl };
}

-- a client that has done nothing
pub nothing_stands : (desk : Contents) → OpensBy ([], []) 0 desk → DeskStands desk (no_state genesis)
nothing_stands desk opens = opens.stands nothing_lasts nothing_opens

-- what a stop leaves is opened again
pub restarts : (files : Files) (now : ℕ) (old new : Contents) → old.genesis ≡ genesis → ((state : State) → DeskStands old state → MayOpen old.genesis state files) → OpensBy files now new → Restarts now old new
restarts files now old new chain left opens = record { stops = stops; genesis_is = opens.genesis_is } where
  stops : (client : ℕ) → StopsBy client now old new
  stops client state stands =
      let of_state : state.genesis ≡ genesis = sym stands.genesis ∙ chain in
      let M : Root → Type 0 = λ g. MayOpen g state files in
      let stop = stops_between genesis state files (subst M chain (left state stands)) in
      let G : Root → Type 0 = λ g. DeskStands new (reopened g (lasting_stopped state None stop.0) false now) in
      (stop.0, (stop.1, tt), subst G (sym of_state) (opens.stands (lasting_stopped state None stop.0) stop.2))
