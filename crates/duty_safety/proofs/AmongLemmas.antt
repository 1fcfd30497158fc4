-- A list is safe where any two of its messages are safe with each other, wherever they stand: so a list of some of them is safe too.
use Rattle.std.proofs.Common.{◌≡◌, ◌⊎◌, ⊎_elim, inl, inr, ◌<◌, List, ◌++◌, get_or, refl, sym, ◌∙◌, ap, subst, arith}
use Rattle.std.specs.Prelude.{◌≢◌, Contains}
use Rattle.std.proofs.lemmas.Bool.{cases_order}
use Rattle.std.proofs.lemmas.List.{get_or_default}
use Rattle.std.proofs.lemmas.List.Elements.{Contains-get_or, Contains-append_left, Contains-append_right, Contains-append_cases}
use Rattle.edge_kit.specs.declared.bytes.PubKey.{PubKey}
use Rattle.slash_defs.specs.declared.message.Message.{Message}
use Rattle.slash_defs.specs.declared.message.Message.TheVariants as message
use Rattle.slash_defs.specs.Slashing.{Slashable}
use Rattle.slash_defs.specs.Lists.{SafeList, IsUnsafe}
use Rattle.protect_record.specs.PastLaws.{Slashable-sym}

abbrev pub Sent : Type 0
Sent = List (PubKey × Message)

abbrev AreSafe : Sent → Type 0
AreSafe list = (x y : PubKey × Message) → Contains list x → Contains list y → ¬ (IsUnsafe x y)

-- no message is slashable with itself
not_itself : (m : Message) → ¬ (Slashable m m)
not_itself (message.Block slot root) h = h.1 refl
not_itself (message.Vote s t r) (inl d) = either d.1 where
  either : (s ≢ s) ⊎ (r ≢ r) → ⊥
  either (inl n) = n refl
  either (inr n) = n refl
not_itself (message.Vote s t r) (inr (inl h)) = let less : s < s = h.0 in absurd (omega arith)
not_itself (message.Vote s t r) (inr (inr h)) = let less : s < s = h.0 in absurd (omega arith)

of_safe : (list : Sent) → SafeList list → AreSafe list
of_safe list safe x y in_x in_y un = by_order (cases_order in_x.0 in_y.0) where
  at_y : get_or list in_y.0 x ≡ y
  at_y = get_or_default list in_y.0 x y in_y.1 ∙ in_y.2

  by_order : (in_x.0 ≡ in_y.0) ⊎ ((in_x.0 < in_y.0) ⊎ (in_y.0 < in_x.0)) → ⊥
  by_order (inl same) =
      let is : x ≡ y = sym in_x.2 ∙ ap (λ k. get_or list k x) same ∙ at_y in
      let P : PubKey × Message → Type 0 = λ z. Slashable z.1 y.1 in
      not_itself y.1 (subst P is un.1)
  by_order (inr (inl less)) =
      let P : PubKey × Message → Type 0 = λ z. IsUnsafe z (get_or list in_y.0 x) in
      let Q : PubKey × Message → Type 0 = λ z. IsUnsafe x z in
      safe in_x.0 in_y.0 x less in_y.1 (subst P (sym in_x.2) (subst Q (sym at_y) un))
  by_order (inr (inr more)) =
      let P : PubKey × Message → Type 0 = λ z. IsUnsafe (get_or list in_y.0 x) z in
      let Q : PubKey × Message → Type 0 = λ z. IsUnsafe z x in
      safe in_y.0 in_x.0 x more in_x.1 (subst P (sym in_x.2) (subst Q (sym at_y) (sym un.0, Slashable-sym x.1 y.1 un.1)))

to_safe : (list : Sent) → AreSafe list → SafeList list
to_safe list are i j d less within = are (get_or list i d) (get_or list j d) (Contains-get_or list i d (omega arith)) (Contains-get_or list j d within)

-- some of the messages that come after are safe as all are
pub safe_within : (before all some : Sent) → SafeList (before ++ all) → ((x : PubKey × Message) → Contains some x → Contains all x) → SafeList (before ++ some)
safe_within before all some safe within = to_safe (before ++ some) (λ x y in_x in_y. of_safe (before ++ all) safe x y (into x in_x) (into y in_y)) where
  into : (x : PubKey × Message) → Contains (before ++ some) x → Contains (before ++ all) x
  into x c = ⊎_elim (λ left. Contains-append_left before all x left) (λ right. Contains-append_right before all x (within x right)) (Contains-append_cases before some x c)
