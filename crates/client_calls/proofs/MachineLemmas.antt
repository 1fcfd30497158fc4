-- Calls of the machine, some after others.
use Rattle.std.proofs.Common.{◌≡◌, List, [], ◌∷◌, ◌++◌, refl, sym, ◌∙◌, ap, append_assoc}
use Rattle.desk_machine.specs.States.{State}
use Rattle.desk_machine.specs.Machine.{after}
use Rattle.desk_machine.specs.Noted.{noted}
use Rattle.desk_machine.specs.declared.call.DeskCall.{DeskCall}
use Rattle.desk_machine.specs.declared.call.DeskReply.{DeskReply}
use Rattle.client_calls.specs.Machines.{CanMake, state_after, noted_of}

pub can_on : (state : State) (xs ys : List (DeskCall × DeskReply)) → CanMake state xs → CanMake (state_after state xs) ys → CanMake state (xs ++ ys)
can_on state [] ys p q = q
can_on state (x ∷ xs) ys p q = (p.0, can_on (after state x.0 x.1) xs ys p.1 q)

pub can_split : (state : State) (xs ys : List (DeskCall × DeskReply)) → CanMake state (xs ++ ys) → CanMake state xs × CanMake (state_after state xs) ys
can_split state [] ys p = (tt, p)
can_split state (x ∷ xs) ys p = let r = can_split (after state x.0 x.1) xs ys p.1 in ((p.0, r.0), r.1)

pub after_on : (state : State) (xs ys : List (DeskCall × DeskReply)) → state_after state (xs ++ ys) ≡ state_after (state_after state xs) ys
after_on state [] ys = refl
after_on state (x ∷ xs) ys = after_on (after state x.0 x.1) xs ys

pub noted_on : (state : State) (xs ys : List (DeskCall × DeskReply)) → noted_of state (xs ++ ys) ≡ noted_of state xs ++ noted_of (state_after state xs) ys
noted_on state [] ys = refl
noted_on state (x ∷ xs) ys =
    let next = after state x.0 x.1 in
    let here = noted state.latest x.0 x.1 in
    ap (λ es. here ++ es) (noted_on next xs ys) ∙ sym (append_assoc here (noted_of next xs) (noted_of (state_after next xs) ys))
