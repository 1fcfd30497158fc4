-- A list of keys holds no float.
use Rattle.std.proofs.Common.{◌≡◌, ℕ, ap, List, [], ◌∷◌, false, map, refl}
use Rattle.edge_kit.specs.declared.bytes.PubKey.{PubKey}
use Rattle.keymanager_routes.specs.declared.reply.Reply.{Reply}
use Rattle.serde_json.specs.View.{items_of}
use Rattle.serde_json.specs.Written.{has_float, items_have_float}
use Rattle.proxy_api.specs.Listing.{key_text, keys_data}

texts_plain : (keys : List PubKey) → items_have_float (items_of (map key_text keys)) ≡ false
texts_plain [] = refl
texts_plain (k ∷ keys) = texts_plain keys

pub keys_plain : (keys : List PubKey) → has_float (keys_data keys) ≡ false
keys_plain keys = texts_plain keys

-- replies of one body
pub reply_of : (a b : List ℕ) → a ≡ b → record { status = 200; body = a } ≡ (let r : Reply = record { status = 200; body = b } in r)
reply_of a b e = ap (λ (body : List ℕ). let r : Reply = record { status = 200; body = body } in r) e
