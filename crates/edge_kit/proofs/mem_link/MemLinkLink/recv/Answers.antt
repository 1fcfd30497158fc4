use Rattle.std.proofs.Common.{arith, ◌≡◌, ℕ, ◌∙◌, ◌≤◌, length, length-append, length-drop}
use Rattle.std.proofs.lemmas.List.{length-take, length-take-le}
use Rattle.edge_kit.proofs.Copies.{front_and_rest}
use Rattle.edge_kit.proofs.mem_link.MemLinkLink.recv.Goals as goal

pub returns-clause-bytes : goal.returns-clause-bytes
returns-clause-bytes c =
    let fits : c.min-count.result ≤ length c.args.buf.now = omega arith in
    let len : length c.copy_from_slice.new.self ≡ c.min-count.result = c.copy_from_slice.ensures.len ∙ length-take-le c.min-count.result c.args.buf.now fits in (
      front_and_rest _ c.copy_from_slice.new.self _ c.args.self.now.at c.min-count.result (cc) len,
      λ z h. absurd (omega (arith, length-take {A = ℕ}, length-drop {A = ℕ}, length-append {A = ℕ})),
    )
