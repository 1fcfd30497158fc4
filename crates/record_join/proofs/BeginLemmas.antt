-- A key that was made fresh, at the pasts.
use Rattle.std.proofs.Common.{◌≡◌, ℕ, ◌<◌, ◌≤◌, length, None, arith, inl, inr, Bool, true, false, cond, List, [], sym, ap, subst}
use Rattle.std.specs.Prelude.{is_some}
use Rattle.edge_kit.specs.declared.bytes.PubKey.{PubKey}
use Rattle.protect_record.specs.Parts.{Parts, SameParts}
use Rattle.protect_record.specs.Pasts.{Past, no_past}
use Rattle.protect_record.specs.Standing.{Stands}
use Rattle.record_join.specs.Keys.{kept_of, with_key, EachKey}
use Rattle.record_join.specs.BooksPasts.{BooksStand}
use Rattle.record_join.specs.Preparing.{no_parts, AreTaken, Knows}
use Rattle.record_join.proofs.KeyLemmas.{each_new, each_none, each_present, each_self}
use Rattle.record_join.proofs.OrderLemmas.{length_new}
use Rattle.record_join.proofs.BooksLemmas.{same_itself, same_stands}
use Rattle.record_join.proofs.FreshLemmas.{known_same}
use Rattle.record_join.proofs.FileLemmas.{no_parts_stand}

pub known_within : (old new : List (PubKey × Parts)) (key : PubKey) (fresh more : List PubKey) (n : ℕ) → Knows old new key fresh more → (kept_of old key ≡ None → length old < n) → length old ≤ n → length new ≤ n
known_within old new key fresh more n (inl h) room within = rw h.1 within
known_within old new key fresh more n (inr h) room within = let one = length_new old key h.1.0 h.0 in let below = room h.0 in rw h.1.2 (omega (arith, one, below))

pub known_taken : (old new : List (PubKey × Parts)) (key : PubKey) (fresh : List PubKey) → Knows old new key [] fresh → AreTaken old fresh new
known_taken old new key fresh knows =
    let at = known_same old new key [] fresh knows old tt (each_self SameParts same_itself old) in
    record { absent = at.0; same = at.1 }

pub known_stand : (old new : List (PubKey × Parts)) (key : PubKey) (fresh : List PubKey) → Knows old new key [] fresh → (pasts : List (PubKey × Past)) → BooksStand old pasts
    → BooksStand new (cond (is_some (kept_of pasts key)) pasts (with_key pasts key no_past))
known_stand old new key fresh (inl h) pasts each =
    let there : is_some (kept_of pasts key) ≡ true = each_present Stands old pasts key each h.0 in
    let B : Bool → Type 0 = λ b. EachKey Stands new (cond b pasts (with_key pasts key no_past)) in
    let E : List (PubKey × Parts) → Type 0 = λ l. EachKey Stands l pasts in
    subst B (sym there) (subst E (sym h.1) each)
known_stand old new key fresh (inr h) pasts each =
    let absent : is_some (kept_of pasts key) ≡ false = ap is_some (each_none Stands old pasts key each h.0) in
    let B : Bool → Type 0 = λ b. EachKey Stands new (cond b pasts (with_key pasts key no_past)) in
    let E : List (PubKey × Parts) → Type 0 = λ l. EachKey Stands l (with_key pasts key no_past) in
    let stands = same_stands no_parts h.1.0 no_past h.1.1 no_parts_stand in
    subst B (sym absent) (subst E (sym h.1.2) (each_new Stands old pasts key h.1.0 no_past each stands))
