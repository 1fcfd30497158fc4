use Rattle.std.proofs.Common.{◌≡◌, ◌≤◌, ℕ, List, [], ◌∷◌, ◌++◌, length, length-append, sym, ap, subst, ◌∙◌, inl, inr, arith}
use Rattle.std.specs.Io.KnownBytes.{Consumes}
use Rattle.edge_kit.proofs.TellingLemmas.{Consumes-trans}
use Rattle.http_wire.specs.Fronts.{HasNoFront, NeverHasFront, HasFront}
use Rattle.http_wire.proofs.FrontLemmas.{no_front-more, whole_text, no_front-limit, no_front-within, never-within}
use Rattle.http_wire.specs.Fronts.{is_line_byte}
use Rattle.http_wire.proofs.BlankLemmas.{IsBlank, blank-more, blank_no_front}
use Rattle.std.proofs.lemmas.Bool.{and_parts}
use Rattle.http_wire.proofs.ListenLemmas.{listens-trans}
use Rattle.http_wire.proofs.TakeLemmas.{taken-nothing, at_most}
use Rattle.http_wire.proofs.front.read_form.Goals.{then-byte-eq10+in-Partial, else-byte-eq10}
use Rattle.http_wire.proofs.front.read_form.Goals as goal

pub returns-in-Ok-None-clause-stuck : goal.returns-in-Ok-None-clause-stuck
returns-in-Ok-None-clause-stuck g c = λ e.
    let none = rw c.in-Ok-None.field-0-is at c.in-Ok-None.ensures.none in
    let end = rw c.in-Ok-None.field-0-is at c.in-Ok-None.ensures.end in
    (c.bytes.text.items, taken-nothing _ _ _ _ c.bytes.invariant.taken none, record { stuck = inr (no_front-within _ c.args.limit _ c.bytes.invariant.none, end); short = omega (arith, c.bytes.invariant.count) })

pub returns-in_err-push-clause-bound : goal.returns-in_err-push-clause-bound
returns-in_err-push-clause-bound g c =
    let some = rw c.in-Ok-Some.field-0-is at c.in-Ok-Some.ensures.some in
    at_most _ _ _ (c.bytes.text.items ++ c.in-Ok-Some.byte ∷ []) (Consumes-trans _ _ _ _ _ c.bytes.invariant.taken some) (omega (arith, c.bytes.invariant.count, length-append {A = ℕ}))

pub returns-in-Whole-clause-form : goal.returns-in-Whole-clause-form
returns-in-Whole-clause-form g c =
    let P : List ℕ → Type 0 = g.F.Form.is_form in
    let some = rw c.in-Ok-Some.field-0-is at c.in-Ok-Some.ensures.some in
    let items : c.push.new.self.items ≡ c.bytes.text.items ++ c.in-Ok-Some.byte ∷ [] = c.in_ok-push.ensures.items in
    let C : List ℕ → Type 0 = Consumes (g.L.Link.left c.args.link.now) (g.L.Link.left c.next_byte.new.link) in
    let F : List ℕ → Type 0 = HasFront P in
    let found : HasFront P (c.bytes.text.items ++ c.in-Ok-Some.byte ∷ []) = subst F (c.as_slice.ensures.value ∙ items) c.in-Whole.ensures in
    let whole : P c.push.new.self.items = subst P (sym items) (whole_text P c.bytes.text.items c.in-Ok-Some.byte c.bytes.invariant.none found) in
    let count : length c.push.new.self.items ≤ c.args.limit = omega (arith, ap length items, length-append {A = ℕ}) in
    (subst C (sym items) (Consumes-trans _ _ _ _ _ c.bytes.invariant.taken some), record { form = whole; short = count })

pub returns-in-Never-clause-stuck : goal.returns-in-Never-clause-stuck
returns-in-Never-clause-stuck g c = λ e.
    let P : List ℕ → Type 0 = g.F.Form.is_form in
    let some = rw c.in-Ok-Some.field-0-is at c.in-Ok-Some.ensures.some in
    let items : c.push.new.self.items ≡ c.bytes.text.items ++ c.in-Ok-Some.byte ∷ [] = c.in_ok-push.ensures.items in
    let N : List ℕ → Type 0 = NeverHasFront P in
    let never : NeverHasFront P (c.bytes.text.items ++ c.in-Ok-Some.byte ∷ []) = subst N (c.as_slice.ensures.value ∙ items) c.in-Never.ensures in
    (c.bytes.text.items ++ c.in-Ok-Some.byte ∷ [], Consumes-trans _ _ _ _ _ c.bytes.invariant.taken some, record { stuck = inl (never-within P c.args.limit _ never); short = omega (arith, c.bytes.invariant.count, length-append {A = ℕ}) })

pub bytes-preserved : goal.bytes-preserved
bytes-preserved g c =
    let P : List ℕ → Type 0 = g.F.Form.is_form in
    let some = rw c.in-Ok-Some.field-0-is at c.in-Ok-Some.ensures.some in
    let items : c.push.new.self.items ≡ c.bytes.text.items ++ c.in-Ok-Some.byte ∷ [] = c.in_ok-push.ensures.items in
    let C : List ℕ → Type 0 = Consumes (g.L.Link.left c.args.link.now) (g.L.Link.left c.next_byte.new.link) in
    let N : List ℕ → Type 0 = HasNoFront P in
    record {
      taken = subst C (sym items) (Consumes-trans _ _ _ _ _ c.bytes.invariant.taken some);
      count = omega (arith, ap length items, length-append {A = ℕ});
      none = elim c.if-byte-eq10.branch [
        | then-byte-eq10+in-Partial w ↦ subst N w.as_slice.ensures.value w.in-Partial.ensures
        | else-byte-eq10 w ↦ subst N (sym items) (no_front-more P c.bytes.text.items c.in-Ok-Some.byte g.met.F.Form.ends c.bytes.invariant.none w.if-byte-eq10.false)
      ];
      blank = λ still.
          let both = and_parts c.bytes.is_blank (is_line_byte c.in-Ok-Some.byte) (sym c.is_still_blank-is_blank.ensures ∙ still) in
          let before = c.bytes.invariant.blank both.0 in
          let B : List ℕ → Type 0 = IsBlank in (subst B (sym items) (blank-more c.bytes.text.items c.in-Ok-Some.byte before.0 both.1), before.1);
      listens = listens-trans c.bytes.invariant.listens c.next_byte.ensures.listens;
    }

pub returns-clause-stuck : goal.returns-clause-stuck
returns-clause-stuck g c = λ e.
    let P : List ℕ → Type 0 = g.F.Form.is_form in
    let long : c.args.limit ≤ length c.bytes.text.items = omega arith in
    (c.bytes.text.items, c.bytes.invariant.taken, record { stuck = inl (no_front-limit P c.args.limit _ long c.bytes.invariant.none); short = omega (arith, c.bytes.invariant.count) })

pub look_at-requires : goal.look_at-requires
look_at-requires g c = λ still.
    let P : List ℕ → Type 0 = g.F.Form.is_form in
    let items : c.push.new.self.items ≡ c.bytes.text.items ++ c.in-Ok-Some.byte ∷ [] = c.in_ok-push.ensures.items in
    let N : List ℕ → Type 0 = HasNoFront P in
    let both = and_parts c.bytes.is_blank (is_line_byte c.in-Ok-Some.byte) (sym c.is_still_blank-is_blank.ensures ∙ still) in
    let before = c.bytes.invariant.blank both.0 in
    let came : c.as_slice.result.now ≡ c.bytes.text.items ++ c.in-Ok-Some.byte ∷ [] = c.as_slice.ensures.value ∙ items in
    subst N (sym came) (blank_no_front P (c.bytes.text.items ++ c.in-Ok-Some.byte ∷ []) before.1 (blank-more c.bytes.text.items c.in-Ok-Some.byte before.0 both.1))
