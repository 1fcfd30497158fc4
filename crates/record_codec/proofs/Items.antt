-- An item that is read is the item that was written, and what was written is read again.
use Rattle.std.proofs.Common.{◌≡◌, ◌⊎◌, ℕ, suc, ◌<◌, Bool, true, false, cond, eqb, List, [], ◌∷◌, ◌++◌, length, Option, Some, None, refl, sym, ap, subst, ◌∙◌, append_assoc, arith, inl, inr}
use Rattle.std.proofs.lemmas.Bool.{eqb-true, ne_eqb}
use Rattle.std.proofs.lemmas.List.{append-nil, nil_from_length}
use Rattle.edge_kit.specs.declared.bytes.PubKey.{PubKey}
use Rattle.edge_kit.specs.declared.bytes.Root.{Root}
use Rattle.record_codec.specs.declared.item.JournalItem.{JournalItem}
use Rattle.record_codec.specs.declared.item.JournalItem.TheVariants.{Block, Vote, Floors, ActivateUndated, Activate, Answer, Close}
use Rattle.record_codec.specs.declared.version.JournalVersion.{JournalVersion}
use Rattle.record_codec.specs.declared.version.JournalVersion.TheVariants.{One, Two}
use Rattle.record_codec.specs.Spelling.{number, flag_byte, optional_root, optional_number, optional_pair, item_bytes, is_record, IsOf, IsBytes, Fits}
use Rattle.record_codec.specs.Reading.{◌>>=◌, number_at, optional_root_at, optional_number_at, optional_pair_at, key_at, block_at, vote_at, floors_at, tagged_at, record_at, moment_at, flag_at, activate_at, answer_at, tagged_state_at, state_at}
use Rattle.record_codec.proofs.Fields.{AreBytes, bind_some, some_is, Takes, Takes-then, number_takes, number_again, moment_takes, moment_again, flag_takes, flag_again, optional_root_takes, optional_root_again, optional_number_takes, optional_number_again, optional_pair_takes, optional_pair_again, key_takes, key_again}

-- what is read behind a tag and a key
pub record Says (tag : ℕ) (key : PubKey) (bytes : List ℕ) (x : JournalItem × List ℕ) : Type 0 where
  pub text : List ℕ
  pub spelled : item_bytes x.0 ≡ tag ∷ key.0 ++ text
  pub takes : Takes bytes text x.1
  pub fits : IsBytes 48 key.0 → Fits x.0
  pub is_one : is_record x.0 ≡ true

block_says : (key : PubKey) (bytes : List ℕ) (x : JournalItem × List ℕ) → AreBytes bytes → block_at key bytes ≡ Some x → Says 1 key bytes x
unfolding block_at
block_says key bytes x fits e =
    let a = bind_some (number_at bytes) (λ (slot : ℕ × List ℕ). optional_root_at slot.1 >>= λ root. Some (Block key (record { slot = slot.0; root = root.0 }), root.1)) x e in
    let b = bind_some (optional_root_at a.0.1) (λ (root : Option Root × List ℕ). Some (Block key (record { slot = a.0.0; root = root.0 }), root.1)) x a.2 in
    let s = number_takes bytes a.0 fits a.1 in
    let t = optional_root_takes a.0.1 b.0 s.0.rest_fits b.1 in
    subst (λ (y : JournalItem × List ℕ). Says 1 key bytes y) (some_is (Block key (record { slot = a.0.0; root = b.0.0 }), b.0.1) x b.2)
    (record { text = number a.0.0 ++ optional_root b.0.0; spelled = refl; takes = Takes-then bytes (number a.0.0) a.0.1 (optional_root b.0.0) b.0.1 s.0 t.0; fits = λ k. (k, s.1, t.1); is_one = refl })

vote_says : (key : PubKey) (bytes : List ℕ) (x : JournalItem × List ℕ) → AreBytes bytes → vote_at key bytes ≡ Some x → Says 2 key bytes x
unfolding vote_at
vote_says key bytes x fits e =
    let a = bind_some (number_at bytes) (λ (source : ℕ × List ℕ). number_at source.1 >>= λ target. optional_root_at target.1 >>= λ root. Some (Vote key (record { target = target.0; source = source.0; root = root.0 }), root.1)) x e in
    let b = bind_some (number_at a.0.1) (λ (target : ℕ × List ℕ). optional_root_at target.1 >>= λ root. Some (Vote key (record { target = target.0; source = a.0.0; root = root.0 }), root.1)) x a.2 in
    let c = bind_some (optional_root_at b.0.1) (λ (root : Option Root × List ℕ). Some (Vote key (record { target = b.0.0; source = a.0.0; root = root.0 }), root.1)) x b.2 in
    let s = number_takes bytes a.0 fits a.1 in
    let t = number_takes a.0.1 b.0 s.0.rest_fits b.1 in
    let u = optional_root_takes b.0.1 c.0 t.0.rest_fits c.1 in
    subst (λ (y : JournalItem × List ℕ). Says 2 key bytes y) (some_is (Vote key (record { target = b.0.0; source = a.0.0; root = c.0.0 }), c.0.1) x c.2)
    (record {
      text = number a.0.0 ++ (number b.0.0 ++ optional_root c.0.0);
      spelled = refl;
      takes = Takes-then bytes (number a.0.0) a.0.1 (number b.0.0 ++ optional_root c.0.0) c.0.1 s.0 (Takes-then a.0.1 (number b.0.0) b.0.1 (optional_root c.0.0) c.0.1 t.0 u.0);
      fits = λ k. (k, s.1, t.1, u.1);
      is_one = refl;
    })

floors_says : (key : PubKey) (bytes : List ℕ) (x : JournalItem × List ℕ) → AreBytes bytes → floors_at key bytes ≡ Some x → Says 3 key bytes x
unfolding floors_at
floors_says key bytes x fits e =
    let a = bind_some (optional_number_at bytes) (λ (block : Option ℕ × List ℕ). optional_pair_at block.1 >>= λ vote. Some (Floors key block.0 vote.0, vote.1)) x e in
    let b = bind_some (optional_pair_at a.0.1) (λ (vote : Option (ℕ × ℕ) × List ℕ). Some (Floors key a.0.0 vote.0, vote.1)) x a.2 in
    let s = optional_number_takes bytes a.0 fits a.1 in
    let t = optional_pair_takes a.0.1 b.0 s.0.rest_fits b.1 in
    subst (λ (y : JournalItem × List ℕ). Says 3 key bytes y) (some_is (Floors key a.0.0 b.0.0, b.0.1) x b.2)
    (record { text = optional_number a.0.0 ++ optional_pair b.0.0; spelled = refl; takes = Takes-then bytes (optional_number a.0.0) a.0.1 (optional_pair b.0.0) b.0.1 s.0 t.0; fits = λ k. (k, s.1, t.1); is_one = refl })

-- a choice that found something
chosen : (b : Bool) (x y : Option (JournalItem × List ℕ)) (z : JournalItem × List ℕ) → cond b x y ≡ Some z → ((b ≡ true) × (x ≡ Some z)) ⊎ ((b ≡ false) × (y ≡ Some z))
chosen true x y z e = inl (refl, e)
chosen false x y z e = inr (refl, e)

tagged_says : (tag : ℕ) (key : PubKey) (bytes : List ℕ) (x : JournalItem × List ℕ) → AreBytes bytes → tagged_at tag key bytes ≡ Some x → Says tag key bytes x
unfolding tagged_at
tagged_says tag key bytes x fits e =
    elim (chosen (eqb tag 1) (block_at key bytes) (cond (eqb tag 2) (vote_at key bytes) (cond (eqb tag 3) (floors_at key bytes) None)) x e) [
      | inl one ↦ subst (λ (t : ℕ). Says t key bytes x) (sym (eqb-true tag 1 one.0)) (block_says key bytes x fits one.1)
      | inr other ↦ elim (chosen (eqb tag 2) (vote_at key bytes) (cond (eqb tag 3) (floors_at key bytes) None) x other.1) [
        | inl two ↦ subst (λ (t : ℕ). Says t key bytes x) (sym (eqb-true tag 2 two.0)) (vote_says key bytes x fits two.1)
        | inr others ↦ elim (chosen (eqb tag 3) (floors_at key bytes) None x others.1) [
          | inl three ↦ subst (λ (t : ℕ). Says t key bytes x) (sym (eqb-true tag 3 three.0)) (floors_says key bytes x fits three.1)
          | inr none ↦ absurd (nothing x none.1)
        ]
      ]
    ]
  where
    nothing : (y : JournalItem × List ℕ) → None ≡ Some y → ⊥
    nothing y same = cc

-- ---- an item

pub record Reads (bytes : List ℕ) (x : JournalItem × List ℕ) : Type 0 where
  pub takes : Takes bytes (item_bytes x.0) x.1
  pub fits : Fits x.0
  pub is_one : is_record x.0 ≡ true

pub record_takes : (bytes : List ℕ) (x : JournalItem × List ℕ) → AreBytes bytes → record_at bytes ≡ Some x → Reads bytes x
unfolding record_at
record_takes [] x fits e = absurd cc
record_takes (tag ∷ bytes) x fits e =
    let k = bind_some (key_at bytes) (λ (key : PubKey × List ℕ). tagged_at tag key.0 key.1) x e in
    let t = key_takes bytes k.0 (λ i. fits (suc i)) k.1 in
    let s = tagged_says tag k.0.0 k.0.1 x t.0.rest_fits k.2 in
    let both = Takes-then bytes k.0.0.0 k.0.1 s.text x.1 t.0 s.takes in
    record {
      takes = record { parts = ap (λ (l : List ℕ). tag ∷ l) both.parts ∙ ap (λ (l : List ℕ). l ++ x.1) (sym s.spelled); rest_fits = both.rest_fits };
      fits = s.fits t.1;
      is_one = s.is_one;
    }

-- behind its tag and its key an item is read
keyed_again : (tag : ℕ) (key : PubKey) (text rest : List ℕ) (x : Option (JournalItem × List ℕ)) → IsBytes 48 key.0 → tagged_at tag key (text ++ rest) ≡ x → record_at (tag ∷ key.0 ++ text ++ rest) ≡ x
unfolding record_at
keyed_again tag key text rest x fits e = ap (λ (l : List ℕ). record_at (tag ∷ l)) (append_assoc key.0 text rest) ∙ rw (key_again key (text ++ rest) fits) e

pub record_again : (item : JournalItem) (rest : List ℕ) → Fits item → is_record item ≡ true → record_at (item_bytes item ++ rest) ≡ Some (item, rest)
unfolding tagged_at block_at vote_at floors_at
record_again (Block key entry) rest fits one =
    keyed_again 1 key (number entry.slot ++ optional_root entry.root) rest (Some (Block key entry, rest)) fits.0
    (ap (λ (l : List ℕ). block_at key l) (append_assoc (number entry.slot) (optional_root entry.root) rest)
    ∙ rw (number_again entry.slot (optional_root entry.root ++ rest) fits.1, optional_root_again entry.root rest fits.2) refl)
record_again (Vote key entry) rest fits one =
    keyed_again 2 key (number entry.source ++ (number entry.target ++ optional_root entry.root)) rest (Some (Vote key entry, rest)) fits.0
    (ap (λ (l : List ℕ). vote_at key l) (append_assoc (number entry.source) (number entry.target ++ optional_root entry.root) rest ∙ ap (λ (l : List ℕ). number entry.source ++ l) (append_assoc (number entry.target) (optional_root entry.root) rest))
    ∙ rw (number_again entry.source (number entry.target ++ (optional_root entry.root ++ rest)) fits.1, number_again entry.target (optional_root entry.root ++ rest) fits.2, optional_root_again entry.root rest fits.3) refl)
record_again (Floors key block vote) rest fits one =
    keyed_again 3 key (optional_number block ++ optional_pair vote) rest (Some (Floors key block vote, rest)) fits.0
    (ap (λ (l : List ℕ). floors_at key l) (append_assoc (optional_number block) (optional_pair vote) rest)
    ∙ rw (optional_number_again block (optional_pair vote ++ rest) fits.1, optional_pair_again vote rest fits.2) refl)
record_again (ActivateUndated key) rest fits one = absurd cc
record_again (Activate key epoch) rest fits one = absurd cc
record_again (Answer key epoch live moment) rest fits one = absurd cc
record_again (Close key) rest fits one = absurd cc

-- ---- a state of a key, or an answer

-- what is read behind the tag and the key of an item that stands alone
pub record StateSays (version : JournalVersion) (tag : ℕ) (key : PubKey) (bytes : List ℕ) (x : JournalItem × List ℕ) : Type 0 where
  pub text : List ℕ
  pub spelled : item_bytes x.0 ≡ tag ∷ key.0 ++ text
  pub takes : Takes bytes text x.1
  pub fits : IsBytes 48 key.0 → Fits x.0
  pub is_one : is_record x.0 ≡ false
  pub of : IsOf version x.0

-- nothing behind the key
key_alone : (version : JournalVersion) (tag : ℕ) (key : PubKey) (bytes : List ℕ) (item : JournalItem) → AreBytes bytes → item_bytes item ≡ tag ∷ key.0
    → (IsBytes 48 key.0 → Fits item) → is_record item ≡ false → IsOf version item → StateSays version tag key bytes (item, bytes)
key_alone version tag key bytes item fits spelled fit one of = record {
  text = [];
  spelled = spelled ∙ ap (λ (l : List ℕ). tag ∷ l) (sym (append-nil key.0));
  takes = record { parts = refl; rest_fits = fits };
  fits = fit;
  is_one = one;
  of = of;
}

activate_says : (key : PubKey) (bytes : List ℕ) (x : JournalItem × List ℕ) → AreBytes bytes → activate_at key bytes ≡ Some x → StateSays Two 7 key bytes x
unfolding activate_at
activate_says key bytes x fits e =
    let a = bind_some (moment_at bytes) (λ (epoch : ℕ × List ℕ). Some (Activate key epoch.0, epoch.1)) x e in
    let s = moment_takes bytes a.0 fits a.1 in
    subst (λ (y : JournalItem × List ℕ). StateSays Two 7 key bytes y) (some_is (Activate key a.0.0, a.0.1) x a.2)
    (record { text = number a.0.0; spelled = refl; takes = s.0; fits = λ k. (k, s.1); is_one = refl; of = refl })

answer_says : (key : PubKey) (bytes : List ℕ) (x : JournalItem × List ℕ) → AreBytes bytes → answer_at key bytes ≡ Some x → StateSays Two 8 key bytes x
unfolding answer_at
answer_says key bytes x fits e =
    let a = bind_some (number_at bytes) (λ (epoch : ℕ × List ℕ). flag_at epoch.1 >>= λ live. moment_at live.1 >>= λ moment. Some (Answer key epoch.0 live.0 moment.0, moment.1)) x e in
    let b = bind_some (flag_at a.0.1) (λ (live : Bool × List ℕ). moment_at live.1 >>= λ moment. Some (Answer key a.0.0 live.0 moment.0, moment.1)) x a.2 in
    let d = bind_some (moment_at b.0.1) (λ (moment : ℕ × List ℕ). Some (Answer key a.0.0 b.0.0 moment.0, moment.1)) x b.2 in
    let s = number_takes bytes a.0 fits a.1 in
    let t = flag_takes a.0.1 b.0 s.0.rest_fits b.1 in
    let u = moment_takes b.0.1 d.0 t.rest_fits d.1 in
    subst (λ (y : JournalItem × List ℕ). StateSays Two 8 key bytes y) (some_is (Answer key a.0.0 b.0.0 d.0.0, d.0.1) x d.2)
    (record {
      text = number a.0.0 ++ (flag_byte b.0.0 ++ number d.0.0);
      spelled = refl;
      takes = Takes-then bytes (number a.0.0) a.0.1 (flag_byte b.0.0 ++ number d.0.0) d.0.1 s.0 (Takes-then a.0.1 (flag_byte b.0.0) b.0.1 (number d.0.0) d.0.1 t u.0);
      fits = λ k. (k, s.1, u.1);
      is_one = refl;
      of = refl;
    })

no_item : {A : Type 0} (z : A) → None ≡ Some z → ⊥
no_item z same = cc

tagged_state_says : (version : JournalVersion) (tag : ℕ) (key : PubKey) (bytes : List ℕ) (x : JournalItem × List ℕ) → AreBytes bytes → tagged_state_at version tag key bytes ≡ Some x → StateSays version tag key bytes x
unfolding tagged_state_at
tagged_state_says One tag key bytes x fits e =
    elim (chosen (eqb tag 4) (Some (ActivateUndated key, bytes)) (cond (eqb tag 5) (Some (Close key, bytes)) None) x e) [
      | inl four ↦ subst (λ (y : JournalItem × List ℕ). StateSays One tag key bytes y) (some_is (ActivateUndated key, bytes) x four.1)
          (key_alone One tag key bytes (ActivateUndated key) fits (ap (λ (t : ℕ). t ∷ key.0) (sym (eqb-true tag 4 four.0))) (λ k. k) refl refl)
      | inr other ↦ elim (chosen (eqb tag 5) (Some (Close key, bytes)) None x other.1) [
        | inl five ↦ subst (λ (y : JournalItem × List ℕ). StateSays One tag key bytes y) (some_is (Close key, bytes) x five.1)
            (key_alone One tag key bytes (Close key) fits (ap (λ (t : ℕ). t ∷ key.0) (sym (eqb-true tag 5 five.0))) (λ k. k) refl tt)
        | inr none ↦ absurd (no_item x none.1)
      ]
    ]
tagged_state_says Two tag key bytes x fits e =
    elim (chosen (eqb tag 5) (Some (Close key, bytes)) (cond (eqb tag 7) (activate_at key bytes) (cond (eqb tag 8) (answer_at key bytes) None)) x e) [
      | inl five ↦ subst (λ (y : JournalItem × List ℕ). StateSays Two tag key bytes y) (some_is (Close key, bytes) x five.1)
          (key_alone Two tag key bytes (Close key) fits (ap (λ (t : ℕ). t ∷ key.0) (sym (eqb-true tag 5 five.0))) (λ k. k) refl tt)
      | inr other ↦ elim (chosen (eqb tag 7) (activate_at key bytes) (cond (eqb tag 8) (answer_at key bytes) None) x other.1) [
        | inl seven ↦ subst (λ (t : ℕ). StateSays Two t key bytes x) (sym (eqb-true tag 7 seven.0)) (activate_says key bytes x fits seven.1)
        | inr others ↦ elim (chosen (eqb tag 8) (answer_at key bytes) None x others.1) [
          | inl eight ↦ subst (λ (t : ℕ). StateSays Two t key bytes x) (sym (eqb-true tag 8 eight.0)) (answer_says key bytes x fits eight.1)
          | inr none ↦ absurd (no_item x none.1)
        ]
      ]
    ]

pub record IsState (version : JournalVersion) (bytes : List ℕ) (item : JournalItem) : Type 0 where
  pub whole : bytes ≡ item_bytes item
  pub fits : Fits item
  pub is_one : is_record item ≡ false
  pub of : IsOf version item

-- what stands alone
ended : (b : Bool) (x y : JournalItem) → cond b (Some x) None ≡ Some y → (b ≡ true) × (x ≡ y)
ended true x y e = (refl, some_is x y e)
ended false x y e = absurd (no_item y e)

pub state_takes : (version : JournalVersion) (bytes : List ℕ) (item : JournalItem) → AreBytes bytes → state_at version bytes ≡ Some item → IsState version bytes item
unfolding state_at
state_takes version [] item fits e = absurd cc
state_takes version (tag ∷ bytes) item fits e =
    let k = bind_some (key_at bytes) (λ (key : PubKey × List ℕ). tagged_state_at version tag key.0 key.1 >>= λ x. cond (eqb (length x.1) 0) (Some x.0) None) item e in
    let x = bind_some (tagged_state_at version tag k.0.0 k.0.1) (λ (x : JournalItem × List ℕ). cond (eqb (length x.1) 0) (Some x.0) None) item k.2 in
    let end = ended (eqb (length x.0.1) 0) x.0.0 item x.2 in
    let t = key_takes bytes k.0 (λ i. fits (suc i)) k.1 in
    let s = tagged_state_says version tag k.0.0 k.0.1 x.0 t.0.rest_fits x.1 in
    let both = Takes-then bytes k.0.0.0 k.0.1 s.text x.0.1 t.0 s.takes in
    let last : x.0.1 ≡ [] = nil_from_length x.0.1 (eqb-true _ _ end.0) in
    subst (λ (i : JournalItem). IsState version (tag ∷ bytes) i) end.1 (record {
      whole = ap (λ (l : List ℕ). tag ∷ l) (both.parts ∙ ap (λ (l : List ℕ). (k.0.0.0 ++ s.text) ++ l) last ∙ append-nil (k.0.0.0 ++ s.text)) ∙ sym s.spelled;
      fits = s.fits t.1;
      is_one = s.is_one;
      of = s.of;
    })

-- behind its tag and its key an item that stands alone is read
alone_again : (version : JournalVersion) (tag : ℕ) (key : PubKey) (text : List ℕ) (item : JournalItem) → IsBytes 48 key.0 → tagged_state_at version tag key text ≡ Some (item, []) → state_at version (tag ∷ key.0 ++ text) ≡ Some item
unfolding state_at
alone_again version tag key text item fits e = rw (key_again key text fits, e) refl

nothing_behind : (version : JournalVersion) (tag : ℕ) (key : PubKey) (item : JournalItem) → IsBytes 48 key.0 → tagged_state_at version tag key [] ≡ Some (item, []) → state_at version (tag ∷ key.0) ≡ Some item
nothing_behind version tag key item fits e = ap (λ (l : List ℕ). state_at version (tag ∷ l)) (sym (append-nil key.0)) ∙ alone_again version tag key [] item fits e

pub state_again : (version : JournalVersion) (item : JournalItem) → IsOf version item → Fits item → is_record item ≡ false → state_at version (item_bytes item) ≡ Some item
unfolding tagged_state_at activate_at answer_at
state_again version (Block key entry) of fits one = absurd cc
state_again version (Vote key entry) of fits one = absurd cc
state_again version (Floors key block vote) of fits one = absurd cc
state_again One (ActivateUndated key) of fits one = nothing_behind One 4 key (ActivateUndated key) fits refl
state_again Two (ActivateUndated key) of fits one = absurd cc
state_again One (Activate key epoch) of fits one = absurd cc
state_again Two (Activate key epoch) of fits one =
    alone_again Two 7 key (number epoch) (Activate key epoch) fits.0
    (ap (λ (l : List ℕ). activate_at key l) (sym (append-nil (number epoch))) ∙ rw (moment_again epoch [] fits.1) refl)
state_again One (Answer key epoch live moment) of fits one = absurd cc
state_again Two (Answer key epoch live moment) of fits one =
    alone_again Two 8 key (number epoch ++ (flag_byte live ++ number moment)) (Answer key epoch live moment) fits.0
    (ap (λ (l : List ℕ). answer_at key (number epoch ++ (flag_byte live ++ l))) (sym (append-nil (number moment)))
    ∙ rw (number_again epoch (flag_byte live ++ (number moment ++ [])) fits.1, flag_again live (number moment ++ []), moment_again moment [] fits.2) refl)
state_again One (Close key) of fits one = nothing_behind One 5 key (Close key) fits refl
state_again Two (Close key) of fits one = nothing_behind Two 5 key (Close key) fits refl

-- a tag of no item that stands alone
not_alone : (version : JournalVersion) (tag : ℕ) (key : PubKey) (bytes : List ℕ) → tag < 4 → tagged_state_at version tag key bytes ≡ None
unfolding tagged_state_at
not_alone One tag key bytes low = rw (ne_eqb tag 4 (λ same. absurd (omega arith)), ne_eqb tag 5 (λ same. absurd (omega arith))) refl
not_alone Two tag key bytes low = rw (ne_eqb tag 5 (λ same. absurd (omega arith)), ne_eqb tag 7 (λ same. absurd (omega arith)), ne_eqb tag 8 (λ same. absurd (omega arith))) refl

no_state : (version : JournalVersion) (tag : ℕ) (bytes : List ℕ) → tag < 4 → state_at version (tag ∷ bytes) ≡ None
unfolding state_at
no_state version tag bytes low =
    elim (cases_keyed (key_at bytes)) [
      | inl none ↦ rw none refl
      | inr some ↦ rw (some.1, not_alone version tag some.0.0 some.0.1 low) refl
    ]
  where
    cases_keyed : (o : Option (PubKey × List ℕ)) → (o ≡ None) ⊎ ((x : PubKey × List ℕ) × (o ≡ Some x))
    cases_keyed None = inl refl
    cases_keyed (Some x) = inr (x, refl)

-- records are no state
pub state_none : (version : JournalVersion) (item : JournalItem) (rest : List ℕ) → is_record item ≡ true → state_at version (item_bytes item ++ rest) ≡ None
state_none version (Block key entry) rest one = no_state version 1 ((key.0 ++ (number entry.slot ++ optional_root entry.root)) ++ rest) (omega arith)
state_none version (Vote key entry) rest one = no_state version 2 ((key.0 ++ (number entry.source ++ (number entry.target ++ optional_root entry.root))) ++ rest) (omega arith)
state_none version (Floors key block vote) rest one = no_state version 3 ((key.0 ++ (optional_number block ++ optional_pair vote)) ++ rest) (omega arith)
state_none version (ActivateUndated key) rest one = absurd cc
state_none version (Activate key epoch) rest one = absurd cc
state_none version (Answer key epoch live moment) rest one = absurd cc
state_none version (Close key) rest one = absurd cc

pub some_bytes : (item : JournalItem) → 0 < length (item_bytes item)
some_bytes (Block key entry) = omega arith
some_bytes (Vote key entry) = omega arith
some_bytes (Floors key block vote) = omega arith
some_bytes (ActivateUndated key) = omega arith
some_bytes (Activate key epoch) = omega arith
some_bytes (Answer key epoch live moment) = omega arith
some_bytes (Close key) = omega arith
