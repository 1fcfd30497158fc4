-- What a first token says of the value that it begins.
use Rattle.std.proofs.Common.{◌≡◌, ℕ, List, ◌∷◌, Option, Some, None, option_map, refl, sym, ap, ◌∙◌, subst}
use Rattle.json.specs.Token.{Token}
use Rattle.json.specs.Json as json
use Rattle.json.specs.Json.{Parse, value, value_with, parse_map}
use Rattle.json.specs.Reads.{token_of}
use Rattle.json.specs.declared.token.Token as declared
use Rattle.json.specs.declared.token.Token.TheVariants as front
use Rattle.std.specs.Borrow.{Bor}
use Rattle.json.proofs.Grammar.{value_is}
use Rattle.serde_json.specs.Data.{Num, Data, Items, Members, no_members, null, boolean, number, string, array, object}
use Rattle.serde_json.specs.Read.{of_json, of_items, of_members, converted, number_of}
use Rattle.serde_json.specs.Find.{as_null, as_array, as_object}
use Rattle.json_walk.specs.Walk.{value_at, text_or_null}

-- the kind of the data, as far as it matters
pub data Kind : Type 0 where
  of_null : Kind
  of_text : Kind
  of_list : Kind
  of_object : Kind
  of_other : Kind

abbrev kind : Data → Kind
kind null = of_null
kind (boolean b) = of_other
kind (number n) = of_other
kind (string s) = of_text
kind (array ds) = of_list
kind (object ms) = of_object

abbrev kind_of : Token → Kind
kind_of Token.begin_object = of_object
kind_of Token.end_object = of_other
kind_of Token.begin_array = of_list
kind_of Token.end_array = of_other
kind_of (Token.key s) = of_other
kind_of (Token.string s) = of_text
kind_of (Token.number s) = of_other
kind_of (Token.boolean b) = of_other
kind_of Token.null = of_null
kind_of Token.bad = of_other

abbrev KindIs : Kind → Option (Data × List Token) → Type 0
KindIs k None = Unit {0}
KindIs k (Some p) = kind p.0 ≡ k

under_array : (x : Option Items) (r : List Token) → KindIs of_list (option_map (λ b. (b, r)) (option_map array x))
under_array None r = tt
under_array (Some x) r = refl

under_object : (x : Option Members) (r : List Token) → KindIs of_object (option_map (λ b. (b, r)) (option_map object x))
under_object None r = tt
under_object (Some x) r = refl

under_number : (x : Option Num) (r : List Token) → KindIs of_other (option_map (λ b. (b, r)) (option_map number x))
under_number None r = tt
under_number (Some x) r = refl

kind_array : (o : Option (json.Items × List Token)) → KindIs of_list (converted of_json (parse_map json.array o))
kind_array None = tt
kind_array (Some p) = under_array (of_items p.0) p.1

kind_object : (o : Option (json.Members × List Token)) → KindIs of_object (converted of_json (parse_map json.object o))
kind_object None = tt
kind_object (Some p) = under_object (of_members p.0 no_members) p.1

kind_with : (a : Parse json.Items) (o : Parse json.Members) (t : Token) (ts : List Token) → KindIs (kind_of t) (converted of_json (value_with a o (t ∷ ts)))
kind_with a o Token.begin_object ts = kind_object (o ts)
kind_with a o Token.end_object ts = tt
kind_with a o Token.begin_array ts = kind_array (a ts)
kind_with a o Token.end_array ts = tt
kind_with a o (Token.key s) ts = tt
kind_with a o (Token.string s) ts = refl
kind_with a o (Token.number s) ts = under_number (number_of s) ts
kind_with a o (Token.boolean b) ts = refl
kind_with a o Token.null ts = refl
kind_with a o Token.bad ts = tt

kind_at : (depth : ℕ) (t : Token) (ts : List Token) → KindIs (kind_of t) (value_at depth (t ∷ ts))
kind_at depth t ts = subst (KindIs (kind_of t)) (sym (ap (converted of_json) (value_is depth (t ∷ ts)))) (kind_with _ _ t ts)

kind_is : (depth : ℕ) (t : Token) (ts r : List Token) (d : Data) → value_at depth (t ∷ ts) ≡ Some (d, r) → kind d ≡ kind_of t
kind_is depth t ts r d e = subst (KindIs (kind_of t)) e (kind_at depth t ts)

never_null : (t : declared.Token) → (t ≡ front.Null → ⊥) → kind_of (token_of t) ≡ of_null → ⊥
never_null front.BeginObject h e = cc
never_null front.EndObject h e = cc
never_null front.BeginArray h e = cc
never_null front.EndArray h e = cc
never_null (front.Key s) h e = cc
never_null (front.String s) h e = cc
never_null (front.Number s) h e = cc
never_null (front.Bool b) h e = cc
never_null front.Null h e = h refl
never_null front.Bad h e = cc

never_object : (t : declared.Token) → (t ≡ front.BeginObject → ⊥) → kind_of (token_of t) ≡ of_object → ⊥
never_object front.BeginObject h e = h refl
never_object front.EndObject h e = cc
never_object front.BeginArray h e = cc
never_object front.EndArray h e = cc
never_object (front.Key s) h e = cc
never_object (front.String s) h e = cc
never_object (front.Number s) h e = cc
never_object (front.Bool b) h e = cc
never_object front.Null h e = cc
never_object front.Bad h e = cc

never_list : (t : declared.Token) → (t ≡ front.BeginArray → ⊥) → kind_of (token_of t) ≡ of_list → ⊥
never_list front.BeginObject h e = cc
never_list front.EndObject h e = cc
never_list front.BeginArray h e = h refl
never_list front.EndArray h e = cc
never_list (front.Key s) h e = cc
never_list (front.String s) h e = cc
never_list (front.Number s) h e = cc
never_list (front.Bool b) h e = cc
never_list front.Null h e = cc
never_list front.Bad h e = cc

never_text : (t : declared.Token) → ((s : Bor (List ℕ)) → t ≡ front.String s → ⊥) → kind_of (token_of t) ≡ of_text → ⊥
never_text front.BeginObject h e = cc
never_text front.EndObject h e = cc
never_text front.BeginArray h e = cc
never_text front.EndArray h e = cc
never_text (front.Key s) h e = cc
never_text (front.String s) h e = h s refl
never_text (front.Number s) h e = cc
never_text (front.Bool b) h e = cc
never_text front.Null h e = cc
never_text front.Bad h e = cc

no_null : (d : Data) → (kind d ≡ of_null → ⊥) → as_null d ≡ None
no_null null h = absurd (h refl)
no_null (boolean b) h = refl
no_null (number n) h = refl
no_null (string s) h = refl
no_null (array ds) h = refl
no_null (object ms) h = refl

no_object : (d : Data) → (kind d ≡ of_object → ⊥) → as_object d ≡ None
no_object null h = refl
no_object (boolean b) h = refl
no_object (number n) h = refl
no_object (string s) h = refl
no_object (array ds) h = refl
no_object (object ms) h = absurd (h refl)

no_list : (d : Data) → (kind d ≡ of_list → ⊥) → as_array d ≡ None
no_list null h = refl
no_list (boolean b) h = refl
no_list (number n) h = refl
no_list (string s) h = refl
no_list (array ds) h = absurd (h refl)
no_list (object ms) h = refl

no_text : (d : Data) → (kind d ≡ of_null → ⊥) → (kind d ≡ of_text → ⊥) → text_or_null d ≡ Some None
no_text null h k = absurd (h refl)
no_text (boolean b) h k = refl
no_text (number n) h k = refl
no_text (string s) h k = absurd (k refl)
no_text (array ds) h k = refl
no_text (object ms) h k = refl

module _ (depth : ℕ) (t : declared.Token) (ts r : List Token) (d : Data) (read : value_at depth (token_of t ∷ ts) ≡ Some (d, r)) (no : t ≡ front.Null → ⊥) where
  of_token : kind d ≡ kind_of (token_of t)
  of_token = kind_is depth (token_of t) ts r d read

  pub other_no_null : as_null d ≡ None
  other_no_null = no_null d (λ e. never_null t no (sym of_token ∙ e))

  pub other_no_object : (t ≡ front.BeginObject → ⊥) → as_object d ≡ None
  other_no_object h = no_object d (λ e. never_object t h (sym of_token ∙ e))

  pub other_no_list : (t ≡ front.BeginArray → ⊥) → as_array d ≡ None
  other_no_list h = no_list d (λ e. never_list t h (sym of_token ∙ e))

  pub other_no_text : ((s : Bor (List ℕ)) → t ≡ front.String s → ⊥) → text_or_null d ≡ Some None
  other_no_text h = no_text d (λ e. never_null t no (sym of_token ∙ e)) (λ e. never_text t h (sym of_token ∙ e))
