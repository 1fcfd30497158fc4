-- What calls of a desk come to, one after another.
use Rattle.std.proofs.Common.{◌≡◌, ℕ, List, [], ◌∷◌, ◌++◌, append-nil, append_assoc, sym, ◌∙◌, ap, subst}
use Rattle.desk_machine.specs.States.{State}
use Rattle.desk_machine.specs.Machine.{after}
use Rattle.desk_machine.specs.Noted.{noted}
use Rattle.desk_machine.specs.declared.call.DeskCall.{DeskCall}
use Rattle.desk_machine.specs.declared.call.DeskReply.{DeskReply}
use Rattle.check_sign.specs.Contents.{Seen}
use Rattle.check_sign.specs.Paths.{Path}
use Rattle.check_sign.specs.Standing.{DeskStands}
use Rattle.client_calls.specs.Machines.{CanMake, state_after, noted_of}
use Rattle.session_run.specs.Acts.{DeskFares}
use Rattle.session_run.proofs.FareLemmas.{fares_none, fares_on}

module _ {D : Type 0} (moment : D → ℕ) (leaves : D → ℕ → List ℕ → Type 0) (faults : D → ℕ) where
  -- what the machine says of them
  abbrev pub ByMachine : Seen D → List (DeskCall × DeskReply) → Seen D → State → Type 0
  ByMachine a made b state = CanMake state made × DeskStands b.contents (state_after state made) × (b.contents.events ≡ a.contents.events ++ noted_of state made)

  pub path_machine : (a b : Seen D) (made : List (DeskCall × DeskReply)) → Path moment leaves faults a made b → (state : State) → DeskStands a.contents state → ByMachine a made b state
  path_machine a b [] same state stands =
      let P : Seen D → Type 0 = λ x. ByMachine a [] x state in
      subst P (sym same) (tt, stands, sym (append-nil a.contents.events))
  path_machine a b (x ∷ made) p state stands =
      let mid = p.0 in
      let one = p.1.machine state stands in
      let next = after state x.0 x.1 in
      let rest = path_machine mid b made p.2 next one.1 in
      let here = noted state.latest x.0 x.1 in
      let first : mid.contents.events ≡ a.contents.events ++ here = p.1.counted.events ∙ ap (λ n. a.contents.events ++ noted n x.0 x.1) stands.latest in (
        (one.0, rest.0),
        rest.1,
        rest.2 ∙ ap (λ es. es ++ noted_of next made) first ∙ append_assoc a.contents.events here (noted_of next made),
      )

  pub path_fares : (a b : Seen D) (made : List (DeskCall × DeskReply)) → Path moment leaves faults a made b → DeskFares faults a b
  path_fares a b [] same = let P : Seen D → Type 0 = λ x. DeskFares faults a x in subst P (sym same) (fares_none faults a)
  path_fares a b (x ∷ made) p =
      fares_on faults a p.0 b (record { later = p.1.later; fails = p.1.fails; genesis = p.1.counted.genesis }) (path_fares p.0 b made p.2)
