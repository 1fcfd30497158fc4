use Rattle.std.proofs.Common.{◌≡◌, ℕ, List, length, true}
use Rattle.std.specs.Io.KnownBytes.{Consumes}
use Rattle.http_wire.specs.Fronts.{HasNoFront, HasText}
use Rattle.http_wire.proofs.BlankLemmas.{IsBlank}
use Rattle.http_wire.specs.Listening.{OnlyListens}
use Rattle.http_wire.proofs.front.read_form.Given as goal

abbrev pub invariant-bytes : goal.invariant-bytes
invariant-bytes g l = record {
  taken : Consumes (g.L.Link.left l.fn.link) (g.L.Link.left l.link) l.text.items;
  count : length l.text.items ≡ l.counter;
  none : HasNoFront g.F.Form.is_form l.text.items;
  blank : l.is_blank ≡ true → IsBlank l.text.items × ((t : List ℕ) → g.F.Form.is_form t → HasText t);
  listens : OnlyListens (g.L.Link.held l.fn.link) (g.L.Link.held l.link) (g.L.Link.coming l.fn.link) (g.L.Link.coming l.link) (g.L.Link.faults l.fn.link) (g.L.Link.faults l.link);
}
