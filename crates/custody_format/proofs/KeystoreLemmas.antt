-- Keystores with their passwords, of texts and of the lists of their bytes.
use Rattle.std.proofs.Common.{◌≡◌, ◌==◌, ℕ, cond, List, [], ◌∷◌, map, length, Option, Some, None, refl, sym, ap, ◌∙◌}
use Rattle.std.proofs.lemmas.List.{length-map}
use Rattle.key_custody.specs.Plans.{paired}
use Rattle.serde_json.specs.Data.{Data}
use Rattle.custody_format.specs.Keystores.{keystores_of}
use Rattle.custody_format.specs.Imports.{import_by, import_lists, import_paired}

paired-map : {A : Type 0} (text : A → List ℕ) (ks ps : List A) → paired (λ t. t) (map text ks) (map text ps) ≡ paired text ks ps
paired-map text [] ps = refl
paired-map text (k ∷ ks) [] = refl
paired-map text (k ∷ ks) (p ∷ ps) = ap (λ pairs. (text k, text p) ∷ pairs) (paired-map text ks ps)

pub keystores_of-map : {A : Type 0} (text : A → List ℕ) (ks ps : List A) → keystores_of (λ t. t) (map text ks) (map text ps) ≡ keystores_of text ks ps
keystores_of-map text ks ps =
    ap (λ pairs. cond (length (map text ks) == length (map text ps)) (Some pairs) None) (paired-map text ks ps)
    ∙ ap (λ n. cond (n == length (map text ps)) (Some (paired text ks ps)) None) (length-map ks text)
    ∙ ap (λ n. cond (length ks == n) (Some (paired text ks ps)) None) (length-map ps text)

-- what is read of two lists of texts
pub lists_read : {A : Type 0} (text : A → List ℕ) (ks ps : List A) (keystores passwords : Option (List (List ℕ))) (found : List (List ℕ × List ℕ)) (protection : Option Data)
    → keystores ≡ Some (map text ks) → passwords ≡ Some (map text ps) → keystores_of text ks ps ≡ Some found → import_by found protection ≡ import_lists keystores passwords protection
lists_read text ks ps keystores passwords found protection k p is = sym
    (ap (λ o. import_lists o passwords protection) k ∙ ap (λ o. import_lists (Some (map text ks)) o protection) p
    ∙ ap (λ o. import_paired o protection) (keystores_of-map text ks ps ∙ is))
