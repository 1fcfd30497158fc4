use Rattle.std.proofs.Common.{◌≡◌, ◌||◌, Bool, true, false, cond, List, [], ◌∷◌, map, refl, sym, ap, ◌∙◌}
use Rattle.std.specs.List.{list_any}
use Rattle.http_wire.specs.Parts.{parts}
use Rattle.proxy_api.specs.Forms.{accepts_json}
use Rattle.proxy_api.specs.declared.form.Form.{Form}
use Rattle.proxy_api.specs.declared.form.Form.TheVariants as form
use Rattle.proxy_api.proofs.form.form_of.Goals as goal

any_of : {X Y : Type 0} (f : X → Y) (p : Y → Bool) (xs : List X) → list_any p (map f xs) ≡ list_any (λ x. p (f x)) xs
any_of f p [] = refl
any_of f p (x ∷ xs) = ap (λ (b : Bool). p (f x) || b) (any_of f p xs)

by : Bool → Form
by b = cond b form.Json form.Text

pub returns-then-is_json_accepted : goal.returns-then-is_json_accepted
unfolding by
returns-then-is_json_accepted c = sym (ap by (any_of parts accepts_json c.args.fields.now ∙ sym c.is_json_accepted.ensures ∙ c.if-is_json_accepted.true))

pub returns-else-is_json_accepted : goal.returns-else-is_json_accepted
unfolding by
returns-else-is_json_accepted c = sym (ap by (any_of parts accepts_json c.args.fields.now ∙ sym c.is_json_accepted.ensures ∙ c.if-is_json_accepted.false))
