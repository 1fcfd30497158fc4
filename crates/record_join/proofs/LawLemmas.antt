-- What is kept of one key after a file or a join.
use Rattle.std.proofs.Common.{List, None, Some, Option, sym, subst}
use Rattle.std.specs.Prelude.{◌↔◌, IsSomeAnd}
use Rattle.std.proofs.lemmas.List.Elements.{All-append}
use Rattle.edge_kit.specs.declared.bytes.PubKey.{PubKey}
use Rattle.slash_defs.specs.declared.message.Message.{Message}
use Rattle.slash_defs.specs.Slashing.{Slashable}
use Rattle.protect_record.specs.Pasts.{Past, then_past}
use Rattle.protect_record.specs.Passing.{Passes, BookRefuses}
use Rattle.protect_record.specs.PastLaws.{passes-then_past_first, passes-then_past_second}
use Rattle.record_join.specs.Keys.{kept_of}
use Rattle.record_join.specs.BooksPasts.{EachOnce, PassesAt, gained, joined}
pub use Rattle.record_join.specs.BooksPastsLaws.{gained_listed}

-- what both pasts let pass, the one after the other lets pass
passes_both : (p q : Past) (m : Message) → Passes p m → Passes q m → Passes (then_past p q) m
passes_both p q m first second =
    (All-append (λ b. ¬ (BookRefuses b m)) p.books q.books first.0 second.0, All-append (λ n. ¬ (Slashable n m)) p.own q.own first.1 second.1)

turned : (o p : Option Past) (m : Message) → IsSomeAnd (gained then_past o p) (λ past. Passes past m) → IsSomeAnd (gained then_past p o) (λ past. Passes past m)
turned None None m h = h
turned None (Some q) m h = h
turned (Some p) None m h = h
turned (Some p) (Some q) m h = passes_both q p m (passes-then_past_second p q m h) (passes-then_past_first p q m h)

once_again : (o : Option Past) (m : Message) → IsSomeAnd (gained then_past o o) (λ past. Passes past m) ↔ IsSomeAnd o (λ past. Passes past m)
once_again None m = (λ h. h, λ h. h)
once_again (Some p) m = (λ h. passes-then_past_first p p m h, λ h. passes_both p p m h h)

other_way : (pasts others : List (PubKey × Past)) (key : PubKey) (m : Message) → EachOnce pasts → EachOnce others → PassesAt (joined pasts others) key m → PassesAt (joined others pasts) key m
other_way pasts others key m once also h =
    let P : Option Past → Type 0 = λ o. IsSomeAnd o (λ past. Passes past m) in
    subst P (sym (gained_listed then_past others pasts key once)) (turned (kept_of pasts key) (kept_of others key) m (subst P (gained_listed then_past pasts others key also) h))

pub both_ways : (pasts others : List (PubKey × Past)) (key : PubKey) (m : Message) → EachOnce pasts → EachOnce others → PassesAt (joined pasts others) key m ↔ PassesAt (joined others pasts) key m
both_ways pasts others key m once also = (λ h. other_way pasts others key m once also h, λ h. other_way others pasts key m also once h)

pub repeated : (pasts : List (PubKey × Past)) (key : PubKey) (m : Message) → EachOnce pasts → PassesAt (joined pasts pasts) key m ↔ PassesAt pasts key m
repeated pasts key m once =
    let P : Option Past → Type 0 = λ o. IsSomeAnd o (λ past. Passes past m) in
    let is = gained_listed then_past pasts pasts key once in
    let both = once_again (kept_of pasts key) m in
    (λ h. both.0 (subst P is h), λ h. subst P (sym is) (both.1 h))
