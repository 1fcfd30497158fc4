-- What items give a key together, and that items which do not name it give it nothing.
use Rattle.std.proofs.Common.{◌≡◌, Bool, true, false, ◌||◌, List, [], ◌∷◌, ◌++◌, map, fold, refl, sym, ◌∙◌, ap}
use Rattle.std.specs.BTreeMap.{is_at}
use Rattle.std.proofs.lemmas.Grind.{flat_map-append}
use Rattle.std.proofs.lemmas.List.{map-append}
use Rattle.std.proofs.lemmas.List.Sums.{fold-append}
use Rattle.edge_kit.specs.declared.bytes.PubKey.{PubKey}
use Rattle.protect_record.specs.declared.floors.Floors.{Floors}
use Rattle.protect_record.specs.Floors.{greater_floors}
use Rattle.protect_record.specs.Parts.{no_floors}
use Rattle.protect_record.proofs.BoundLemmas.{greater-none, greater_floors-assoc, greater_pair-none, same_floors}
use Rattle.record_codec.specs.declared.item.JournalItem.{JournalItem}
use Rattle.record_codec.specs.declared.item.JournalItem.TheVariants as item
use Rattle.record_join.specs.Keys.{key_cmp}
use Rattle.record_replay.specs.Items.{blocks_in, blocks_of, floors_in, floors_of_item, key_of, votes_in, votes_of}
use Rattle.record_replay.proofs.NamedLemmas.{has}

-- ---- items and more items

pub blocks_more : (items more : List JournalItem) (key : PubKey) → blocks_in (items ++ more) key ≡ blocks_in items key ++ blocks_in more key
blocks_more items more key = flat_map-append (blocks_of key) items more

pub votes_more : (items more : List JournalItem) (key : PubKey) → votes_in (items ++ more) key ≡ votes_in items key ++ votes_in more key
votes_more items more key = flat_map-append (votes_of key) items more

pub floors-none : (f : Floors) → greater_floors f no_floors ≡ f
floors-none f = same_floors (greater_floors f no_floors) f (greater-none f.block) (greater_pair-none f.vote)

fold_floors : (f : Floors) (fs : List Floors) → fold greater_floors f fs ≡ greater_floors f (fold greater_floors no_floors fs)
fold_floors f [] = sym (floors-none f)
fold_floors f (g ∷ gs) = fold_floors (greater_floors f g) gs ∙ greater_floors-assoc f g (fold greater_floors no_floors gs) ∙ ap (λ h. greater_floors f h) (sym (fold_floors g gs))

pub floors_more : (items more : List JournalItem) (key : PubKey) → floors_in (items ++ more) key ≡ greater_floors (floors_in items key) (floors_in more key)
floors_more items more key =
    ap (λ fs. fold greater_floors no_floors fs) (map-append (floors_of_item key) items more)
    ∙ fold-append greater_floors no_floors (map (floors_of_item key) items) (map (floors_of_item key) more) ∙ fold_floors (floors_in items key) (map (floors_of_item key) more)

-- ---- items that do not name the key

none_of_two : (a b : Bool) → (a || b) ≡ false → (a ≡ false) × (b ≡ false)
none_of_two true b off = let bad : true ≡ false = off in cc
none_of_two false b off = (refl, off)

no_blocks_of : (key : PubKey) (i : JournalItem) → is_at (key_cmp key) (key_of i) ≡ false → blocks_of key i ≡ []
no_blocks_of key (item.Block k entry) apart = rw apart refl
no_blocks_of key (item.Vote k entry) apart = refl
no_blocks_of key (item.Floors k block vote) apart = refl
no_blocks_of key (item.ActivateUndated k) apart = refl
no_blocks_of key (item.Activate k epoch) apart = refl
no_blocks_of key (item.Answer k epoch live moment) apart = refl
no_blocks_of key (item.Close k) apart = refl

no_votes_of : (key : PubKey) (i : JournalItem) → is_at (key_cmp key) (key_of i) ≡ false → votes_of key i ≡ []
no_votes_of key (item.Block k entry) apart = refl
no_votes_of key (item.Vote k entry) apart = rw apart refl
no_votes_of key (item.Floors k block vote) apart = refl
no_votes_of key (item.ActivateUndated k) apart = refl
no_votes_of key (item.Activate k epoch) apart = refl
no_votes_of key (item.Answer k epoch live moment) apart = refl
no_votes_of key (item.Close k) apart = refl

no_floors_of : (key : PubKey) (i : JournalItem) → is_at (key_cmp key) (key_of i) ≡ false → floors_of_item key i ≡ no_floors
no_floors_of key (item.Block k entry) apart = refl
no_floors_of key (item.Vote k entry) apart = refl
no_floors_of key (item.Floors k block vote) apart = rw apart refl
no_floors_of key (item.ActivateUndated k) apart = refl
no_floors_of key (item.Activate k epoch) apart = refl
no_floors_of key (item.Answer k epoch live moment) apart = refl
no_floors_of key (item.Close k) apart = refl

pub no_blocks_in : (items : List JournalItem) (key : PubKey) → has key (map key_of items) ≡ false → blocks_in items key ≡ []
no_blocks_in [] key off = refl
no_blocks_in (i ∷ items) key off =
    let parts = none_of_two (is_at (key_cmp key) (key_of i)) (has key (map key_of items)) off in
    ap (λ bs. bs ++ blocks_in items key) (no_blocks_of key i parts.0) ∙ no_blocks_in items key parts.1

pub no_votes_in : (items : List JournalItem) (key : PubKey) → has key (map key_of items) ≡ false → votes_in items key ≡ []
no_votes_in [] key off = refl
no_votes_in (i ∷ items) key off =
    let parts = none_of_two (is_at (key_cmp key) (key_of i)) (has key (map key_of items)) off in
    ap (λ vs. vs ++ votes_in items key) (no_votes_of key i parts.0) ∙ no_votes_in items key parts.1

pub no_floors_in : (items : List JournalItem) (key : PubKey) → has key (map key_of items) ≡ false → floors_in items key ≡ no_floors
no_floors_in [] key off = refl
no_floors_in (i ∷ items) key off =
    let parts = none_of_two (is_at (key_cmp key) (key_of i)) (has key (map key_of items)) off in
    ap (λ f. fold greater_floors f (map (floors_of_item key) items)) (no_floors_of key i parts.0) ∙ no_floors_in items key parts.1
