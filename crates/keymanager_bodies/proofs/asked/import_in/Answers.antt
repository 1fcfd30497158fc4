use Rattle.std.proofs.Common.{sym, ap, ◌∙◌, string_bytes}
use Rattle.serde_json.specs.View.{view}
use Rattle.keymanager_routes.specs.declared.member.Member.TheVariants as member
use Rattle.keymanager_bodies.specs.Members.{texts_in, optional_text_in}
use Rattle.keymanager_bodies.specs.Asking.{read_or_refused, paired_in, file_in}
use Rattle.keymanager_bodies.specs.declared.asked.Asked.TheVariants as asked
use Rattle.keymanager_bodies.proofs.KeystoreLemmas.{five_read, paired_in-map}
use Rattle.keymanager_bodies.proofs.asked.import_in.Goals as goal

pub returns-clause-asked : goal.returns-clause-asked
returns-clause-asked c =
    let d = view c.args.value.now in
    five_read (read_or_refused (texts_in member.Keystores d)) (read_or_refused (texts_in member.Passwords d)) (read_or_refused (optional_text_in member.SlashingProtection d))
    (λ ks ps. paired_in (λ text. text) ks ps) (λ t. file_in t) (λ file pairs. asked.Import file pairs) _ _ _ _ _
    c.in_ok-keystores.ensures c.in_ok-passwords.ensures (ap read_or_refused c.in-Ok.ensures)
    (paired_in-map (λ s. string_bytes s) c.in_ok-keystores.keystores.items c.in_ok-passwords.passwords.items ∙ sym c.in_ok-keystores-2.ensures)
    c.in_ok-file.ensures.file

pub returns-clause-once : goal.returns-clause-once
returns-clause-once c = c.in_ok-file.ensures.once
