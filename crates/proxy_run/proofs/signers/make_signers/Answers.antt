use Rattle.std.proofs.Common.{◌≡◌, ◌+◌, ◌∷◌, ◌++◌, [], ℕ, All, List, length, sym, ap, ◌∙◌, subst}
use Rattle.std.proofs.lemmas.List.{length-append}
use Rattle.std.proofs.lemmas.List.Elements.{All-push}
use Rattle.proxy_run.specs.Ends.{IsMadeOf}
use Rattle.proxy_run.proofs.signers.make_signers.Goals as goal

pub signers-preserved : goal.signers-preserved
signers-preserved g c =
    let E : Type 0 = g.row.S.Denot in
    let Made : E → Type 0 = IsMadeOf g.S.Signer.told g.S.Signer.faults g.S.Signer.denials c.args.signer.now in
    let i = c.signers.invariant in
    let signers : List E = c.signers.signers.items in
    let one : E = c.in_ok-twin.field-0 in
    let items : c.push.new.self.items ≡ signers ++ one ∷ [] = c.in_ok-push.ensures.items in
    record {
      count = ap (λ (l : List E). length l) items ∙ length-append signers (one ∷ []) ∙ ap (λ (n : ℕ). n + 1) i.count;
      each = subst (λ (l : List E). All Made l) (sym items) (All-push Made signers one i.each (record { told_is = c.in_ok-twin.ensures.told; unfailed = c.in_ok-twin.ensures.faults; undenied = c.in_ok-twin.ensures.denials }));
    }
