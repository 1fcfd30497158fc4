-- What holds of calls that follow one another.
use Rattle.std.specs.Prelude.{◌≡◌, ℕ, List, [], ◌∷◌, ◌++◌}
use Rattle.std.proofs.Common.{subst, sym, ap, ◌∙◌}
use Rattle.desk_machine.specs.Machine.{MayCall}
use Rattle.desk_machine.specs.Given.{MayMake, grants_over}
use Rattle.desk_machine.specs.HandLaws.{desk_admits}
use Rattle.desk_machine.specs.declared.open_grant.OpenGrant.{OpenGrant}
use Rattle.desk_machine.specs.declared.call.DeskCall.{DeskCall}
use Rattle.desk_machine.specs.declared.call.DeskReply.{DeskReply}
use Rattle.check_sign.specs.Contents.{Seen}
use Rattle.check_sign.specs.Paths.{Path}

module _ {D : Type 0} (moment : D → ℕ) (leaves : D → ℕ → List ℕ → Type 0) (faults : D → ℕ) where
  pub path_more : (d e f : Seen D) (xs ys : List (DeskCall × DeskReply)) → Path moment leaves faults d xs e → Path moment leaves faults e ys f → Path moment leaves faults d (xs ++ ys) f
  path_more d e f [] ys p q = subst (λ (x : Seen D). Path moment leaves faults x ys f) p q
  path_more d e f (x ∷ xs) ys p q = (p.0, p.1, path_more p.0 e f xs ys p.2 q)

  pub path_grants : (d e : Seen D) (xs : List (DeskCall × DeskReply)) → Path moment leaves faults d xs e → e.contents.grants ≡ grants_over d.contents.grants xs
  path_grants d e [] p = ap (λ (x : Seen D). x.contents.grants) p
  path_grants d e (x ∷ xs) p = path_grants p.0 e xs p.2 ∙ ap (λ (gs : List OpenGrant). grants_over gs xs) p.1.counted.grants

  pub path_admits : (d e : Seen D) (xs : List (DeskCall × DeskReply)) (c : DeskCall) → Path moment leaves faults d xs e → MayMake xs c → MayCall e.contents.grants c
  path_admits d e xs c p h = subst (λ (gs : List OpenGrant). MayCall gs c) (sym (path_grants d e xs p)) (desk_admits d.contents.grants xs c h)
