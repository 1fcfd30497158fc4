use Rattle.std.proofs.Common.{ℕ, List, ◌++◌, take, length-drop, sym, ◌∙◌, ap, subst, arith}
use Rattle.std.specs.Io.KnownBytes.{Appends}
use Rattle.std.proofs.lemmas.List.{take_rest, length-take}
use Rattle.std.proofs.Math.Seq.{take-add}
use Rattle.edge_kit.proofs.TellingLemmas.{Appends-trans}
use Rattle.http_wire.proofs.ListenLemmas.{speaks-trans}
use Rattle.keymanager_api.proofs.send.send_all.Goals as goal

pub pieces-preserved : goal.pieces-preserved
pieces-preserved g c =
    let piece = take_rest c.args.bytes.now c.pieces.at in
    let A : List ℕ → Type 0 = λ bs. Appends (g.L.Link.held c.args.link.now) (g.L.Link.held c.send.new.self) bs in
    record {
      within = omega (arith, c.in-Ok.ensures.bound, length-take {A = ℕ}, length-drop {A = ℕ});
      written = subst A
          (ap (λ p. take c.pieces.at c.args.bytes.now ++ take c.in-Ok.count p) piece ∙ sym (take-add c.pieces.at c.in-Ok.count c.args.bytes.now))
          (Appends-trans _ _ _ _ _ c.pieces.invariant.written c.in-Ok.ensures.bytes);
      speaks = speaks-trans c.pieces.invariant.speaks (record { left = c.send.ensures.left; coming = c.send.ensures.coming; later = c.in-Ok.ensures.cause.later });
    }
