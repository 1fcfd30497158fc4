-- Statuses of replies, and what holds no float.
use Rattle.std.proofs.Common.{◌≡◌, ℕ, Bool, List, [], ◌∷◌, false, map, refl, lit<, lit≤, IfOk, Result, Ok, Err, subst, sym}
use Rattle.std.specs.Prelude.{◌||◌}
use Rattle.http.specs.StatusCode.{IsStatusCode}
use Rattle.edge_kit.specs.declared.bytes.PubKey.{PubKey}
use Rattle.serde_json.specs.Data.{array}
use Rattle.serde_json.specs.View.{items_of}
use Rattle.serde_json.specs.Written.{has_float, items_have_float}
use Rattle.key_custody.specs.declared.status.KeyStatus.{KeyStatus}
use Rattle.custody_format.specs.Statuses.{statuses_data}
use Rattle.custody_format.proofs.PlainLemmas.{statuses_plain}
use Rattle.keymanager_routes.specs.Refusals.{refusal_reply}
use Rattle.keymanager_routes.specs.declared.reply.Reply.{Reply}
use Rattle.keymanager_routes.specs.declared.refusal.Refusal.{Refusal}
use Rattle.keymanager_routes.specs.declared.refusal.Refusal.TheVariants as refusal
use Rattle.key_custody.specs.declared.status.DeskRefusal.{DeskRefusal}
use Rattle.key_custody.specs.declared.status.DeskRefusal.TheVariants as desk
use Rattle.key_custody.specs.declared.import.ImportEnd.{ImportEnd}
use Rattle.key_custody.specs.declared.import.ImportEnd.TheVariants as ending
use Rattle.keymanager_bodies.specs.Bodies.{listed_key, with_data, deletion_data, merge_refused_reply, import_reply}

pub refusal_status : (r : Refusal) → IsStatusCode (refusal_reply r).status
refusal_status refusal.BadHead = (lit≤ tt, lit< tt)
refusal_status (refusal.Encoded value) = (lit≤ tt, lit< tt)
refusal_status refusal.BodyTooLong = (lit≤ tt, lit< tt)
refusal_status refusal.BadBody = (lit≤ tt, lit< tt)
refusal_status refusal.NoRoute = (lit≤ tt, lit< tt)
refusal_status refusal.NoMethod = (lit≤ tt, lit< tt)
refusal_status refusal.NoToken = (lit≤ tt, lit< tt)
refusal_status refusal.WrongToken = (lit≤ tt, lit< tt)
refusal_status (refusal.BadMember m) = (lit≤ tt, lit< tt)
refusal_status (refusal.ListsDiffer keystores passwords) = (lit≤ tt, lit< tt)
refusal_status (refusal.BadProtection f) = (lit≤ tt, lit< tt)

merge_status : (d : DeskRefusal) → IsStatusCode (merge_refused_reply d).status
merge_status (desk.GenesisDiffers kept given) = (lit≤ tt, lit< tt)
merge_status (desk.TooManyKeys have new) = (lit≤ tt, lit< tt)
merge_status (desk.Full size wanted) = (lit≤ tt, lit< tt)
merge_status desk.Disk = (lit≤ tt, lit< tt)
merge_status desk.Closing = (lit≤ tt, lit< tt)
merge_status desk.Unknown = (lit≤ tt, lit< tt)
merge_status (desk.NotClosing state) = (lit≤ tt, lit< tt)
merge_status (desk.Busy grants) = (lit≤ tt, lit< tt)

pub import_status : (e : ImportEnd) → IsStatusCode (import_reply e).status
import_status (ending.Treated statuses) = (lit≤ tt, lit< tt)
import_status (ending.MergeRefused d) = merge_status d

-- a reply that is this one has its status
pub status_of : {E : Type 0} (r : Result Reply E) (x : Reply) → IsStatusCode x.status → IfOk r (λ y. y ≡ x) → IfOk r (λ y. IsStatusCode y.status)
status_of (Ok y) x s h = subst (λ (z : Reply). IsStatusCode z.status) (sym h) s
status_of (Err e) x s h = tt

-- ---- no body holds a float

neither : (a b : Bool) → a ≡ false → b ≡ false → (a || b) ≡ false
neither a b p q = rw (p, q) refl

keys_plain : (keys : List PubKey) → items_have_float (items_of (map listed_key keys)) ≡ false
keys_plain [] = refl
keys_plain (k ∷ keys) = keys_plain keys

pub listed_plain : (keys : List PubKey) → has_float (with_data (array (items_of (map listed_key keys)))) ≡ false
listed_plain keys = neither (items_have_float (items_of (map listed_key keys))) false (keys_plain keys) refl

pub treated_plain : (statuses : List KeyStatus) → has_float (with_data (statuses_data statuses)) ≡ false
treated_plain statuses = neither (has_float (statuses_data statuses)) false (statuses_plain statuses) refl

pub deletion_plain : (statuses : List KeyStatus) (text : List ℕ) → has_float (deletion_data statuses text) ≡ false
deletion_plain statuses text = neither (has_float (statuses_data statuses)) false (statuses_plain statuses) refl
