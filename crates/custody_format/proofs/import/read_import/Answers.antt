use Rattle.std.proofs.Common.{◌≡◌, IfOk, Result, string_bytes, map, sym, ap, subst, ◌∙◌}
use Rattle.std.specs.Prelude.{option_map}
use Rattle.custody_format.specs.declared.import.Import.{Import}
use Rattle.custody_format.specs.declared.import.ImportFault.{ImportFault}
use Rattle.custody_format.proofs.KeystoreLemmas.{lists_read}
use Rattle.custody_format.proofs.import.read_import.Goals as goal

pub returns : goal.returns
returns c =
    let whole = lists_read (λ s. string_bytes s) c.in-Some.keystores.items c.in-Some-2.passwords.items _ _ c.in-Some-new.keystores _
    (sym c.in_ok-keystores.ensures ∙ ap (λ o. option_map (λ v. map (λ s. string_bytes s) v.items) o) c.in-Some.is)
    (sym c.in_ok-passwords.ensures ∙ ap (λ o. option_map (λ v. map (λ s. string_bytes s) v.items) o) c.in-Some-2.is)
    (sym c.new.ensures ∙ c.in-Some-new.is) in
    subst (λ (read : Result Import ImportFault). IfOk c.read_file.result (λ r. r ≡ read)) whole c.read_file.ensures
