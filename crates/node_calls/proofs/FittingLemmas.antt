-- Whether rows are within the bounds of their epoch.
use Rattle.std.proofs.Common.{◌≡◌, ◌&&◌, ◌==◌, ℕ, ◌≤◌, Bool, true, List, length, refl, nat_eq, nat_le}
use Rattle.std.specs.BTreeSet.{IsFromIterResult, btree_set_len}
use Rattle.std.specs.BTreeSet.{BTreeSet}
use Rattle.std.specs.Cmp.{IsTotalOrder}
use Rattle.std.specs.declared.cmp.Ordering.{Ordering}
use Rattle.std.proofs.lemmas.Bool.{le-leb}
use Rattle.std.proofs.lemmas.Cmp.{nat_list_cmp_total}
use Rattle.std.proofs.lemmas.Map.Views.{btree_set_len-from_list}
use Rattle.std.specs.Cmp.Lexicographic.{on_texts}
use Rattle.node_calls.specs.Fitting.{are_distinct, key_order, most_rows}

pub keys_total : IsTotalOrder key_order
keys_total = on_texts (λ key. key.0)

-- few rows, all of the epoch, and as many keys as rows
pub within : {K : Type 0} (cmp : K → K → Ordering) → IsTotalOrder cmp → (keys : List K) (set : BTreeSet K) (rows n : ℕ) (each : Bool) → rows ≤ most_rows → each ≡ true → IsFromIterResult cmp keys set → n ≡ btree_set_len set → length keys ≡ rows → nat_eq n rows ≡ (nat_le rows most_rows && each && are_distinct cmp keys)
within cmp total keys set rows n each few all made len count = rw (le-leb rows most_rows few, all, len, btree_set_len-from_list total keys set made, count)
