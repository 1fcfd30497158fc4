use Rattle.std.proofs.Common.{◌≡◌, ◌∙◌, sym, true}
use Rattle.key_custody.specs.Replies.{is_listed_active}
use Rattle.key_custody.proofs.list.is_active_at.Goals as goal

pub returns-then-is_active : goal.returns-then-is_active
returns-then-is_active c = let e : is_listed_active c.args.listed.now ≡ true = sym c.is_active.ensures ∙ c.if-is_active.true in rw e c.is_key.ensures
