-- What is called of the desk outside the duties, and that what is old is forgotten.
use Rattle.std.proofs.Common.{◌≡◌, ℕ, true, false, List, [], ◌∷◌, length, Option, Some, None, Result, Ok, Err, refl, sym, subst, arith}
use Rattle.std.specs.Prelude.{◌==◌}
use Rattle.std.proofs.lemmas.Bool.{eqb-true}
use Rattle.std.specs.declared.alloc.AllocError.{AllocError}
use Rattle.client_calls.proofs.SeatLemmas.{Leads}
use Rattle.edge_kit.specs.declared.bytes.PubKey.{PubKey}
use Rattle.slash_defs.specs.declared.book.Book.{Book}
use Rattle.slash_defs.specs.declared.book.File.{File}
use Rattle.desk_machine.specs.Grants.{IsGrantFor}
use Rattle.desk_machine.specs.Kinds.{IsKind}
use Rattle.desk_machine.specs.declared.call.DeskCall.{DeskCall}
use Rattle.desk_machine.specs.declared.call.DeskCall.TheVariants as call
use Rattle.desk_machine.specs.declared.call.DeskReply.{DeskReply}
use Rattle.desk_machine.specs.declared.call.DeskReply.TheVariants as reply
use Rattle.node_fallback.specs.Seen.{Seen}
use Rattle.call_plans.specs.Paths.{Carries, Comes}
use Rattle.call_plans.proofs.PathLemmas.{carries_cut, comes_none, comes_run}
use Rattle.duty_plans.specs.Hands.{Free, MayCall, hand_called, hand_given}
use Rattle.duty_plans.specs.Seats.{Seat}
use Rattle.duty_pruning.specs.Pruning.{pruning_file}
use Rattle.duty_turns.specs.Standing.{Standing}
use Rattle.duty_turns.specs.Times.{epoch_of}
use Rattle.duty_turns.specs.Turns.{NextPlan, calls, exported, exports, keys_of_turn, merges, prunes, unless_short}
use Rattle.duty_turns.specs.TurnSteps.{Does, Fits, House, SinkSeen}
use Rattle.duty_turns.specs.declared.held.DutyEnd.{DutyEnd}
use Rattle.duty_turns.specs.declared.held.DutyEnd.TheVariants as end
use Rattle.duty_work.specs.Houses.{CalledOn, IsExported, IsMerged, Turns, house, next_value, short_by}
use Rattle.duty_work.proofs.HouseLemmas.{comes_more, turn_calls, turn_comes}

pub kind_exported : (keys : List PubKey) (r : DeskReply) → IsKind (call.Export keys) r → IsExported r
kind_exported keys (reply.Exported file) h = tt
kind_exported keys reply.OutOfMemory h = tt
kind_exported keys r h = absurd h

exported_hand : (r : DeskReply) → IsExported r → hand_given Free r ≡ Free
exported_hand (reply.Exported file) h = refl
exported_hand reply.OutOfMemory h = refl
exported_hand r h = absurd h

pub kind_merged : (file : File) (r : DeskReply) → IsKind (call.Merge file) r → IsMerged r
kind_merged file reply.Disk h = tt
kind_merged file (reply.GenesisDiffers kept given) h = tt
kind_merged file (reply.TooManyKeys have new) h = tt
kind_merged file reply.OutOfMemory h = tt
kind_merged file (reply.Full size wanted) h = tt
kind_merged file (reply.Merged keys) h = tt
kind_merged file r h = absurd h

merged_hand : (r : DeskReply) → IsMerged r → hand_given Free r ≡ Free
merged_hand reply.Disk h = refl
merged_hand (reply.GenesisDiffers kept given) h = refl
merged_hand (reply.TooManyKeys have new) h = refl
merged_hand reply.OutOfMemory h = refl
merged_hand (reply.Full size wanted) h = refl
merged_hand (reply.Merged keys) h = refl
merged_hand r h = absurd h

module _ {K : Type 0} (leads : Leads K) (start : Option ℕ) where
  -- nothing is called
  pub none_called : (next : NextPlan) (a : House K) → CalledOn leads start next next a a (Ok tt)
  none_called next a = comes_none Fits (Does leads start) next a

  -- memory ran out before anything was called
  pub cut_called : (plan next : NextPlan) (a : House K) → CalledOn leads start plan next a a (Err (record {}))
  cut_called plan next a = carries_cut Fits (Does leads start) plan a

  -- one call, and then the rest of this part
  pub called_more : (p q next : NextPlan) (a b c : House K) (result : Result (Unit {0}) AllocError) → Comes Fits (Does leads start) p q a b → CalledOn leads start q next b c result → CalledOn leads start p next a c result
  called_more p q next a b c (Ok done) g h = comes_more Fits (Does leads start) a b c p q next g h
  called_more p q next a b c (Err e) g h = comes_run Fits (Does leads start) a b c p q None g h

  -- ---- the last call of a part

  called_so : (p : NextPlan) (r : DeskReply) (next : NextPlan) (a b : House K) → Carries Fits (Does leads start) p a b None → Comes Fits (Does leads start) p (unless_short r next) a b
      → CalledOn leads start p next a b (short_by r)
  called_so p reply.OutOfMemory next a b cut on = cut
  called_so p r next a b cut on = on

  pub called_last : (c : DeskCall) (next : NextPlan) (d e : K) (ls : List (Seat K)) (nodes : List Seen) (out : SinkSeen) (r : DeskReply) (result : Result (Unit {0}) AllocError)
      → MayCall Free c → hand_called Free c r ≡ Free → leads d ((c, r) ∷ []) e → IsKind c r → IsGrantFor c r → result ≡ short_by r
      → CalledOn leads start (calls c (λ x. unless_short x next)) next (house d ls nodes out) (house e ls nodes out) result
  called_last c next d e ls nodes out r result may hand led kind for is =
      let cut = turn_calls leads start d e ls nodes out (house e ls nodes out) c r (λ x. unless_short x next) None may hand led kind for (carries_cut Fits (Does leads start) (unless_short r next) (house e ls nodes out)) in
      let on = turn_comes leads start d e ls nodes out c r (λ x. unless_short x next) may hand led kind for in
      subst (λ (x : Result (Unit {0}) AllocError). CalledOn leads start (calls c (λ y. unless_short y next)) next (house d ls nodes out) (house e ls nodes out) x) (sym is)
      (called_so (calls c (λ x. unless_short x next)) r next (house d ls nodes out) (house e ls nodes out) cut on)

  -- ---- what is old is forgotten

  pub none_merged : (file : File) (books : List (PubKey × Book)) (next : NextPlan) (a : House K) → (length books == 0) ≡ true → CalledOn leads start (merges file books next) next a a (Ok tt)
  none_merged file [] next a h = none_called next a
  none_merged file (b ∷ books) next a h = absurd (let e : length (b ∷ books) ≡ 0 = eqb-true (length (b ∷ books)) 0 h in omega arith)

  pub file_merged : (file : File) (books : List (PubKey × Book)) (next : NextPlan) (d e : K) (ls : List (Seat K)) (nodes : List Seen) (out : SinkSeen) (r : DeskReply) (result : Result (Unit {0}) AllocError) → (length books == 0) ≡ false
      → leads d ((call.Merge file, r) ∷ []) e → IsKind (call.Merge file) r → IsGrantFor (call.Merge file) r → result ≡ short_by r
      → CalledOn leads start (merges file books next) next (house d ls nodes out) (house e ls nodes out) result
  file_merged file [] next d e ls nodes out r result h led kind for is = absurd (let bad : true ≡ false = h in cc)
  file_merged file (b ∷ books) next d e ls nodes out r result h led kind for is =
      called_last (call.Merge file) next d e ls nodes out r result refl (merged_hand r (kind_merged file r kind)) led kind for is

  pub old_merged : (keep epoch : ℕ) (file pruning : File) (next : NextPlan) (a b : House K) (result : Result (Unit {0}) AllocError) → pruning ≡ pruning_file keep epoch file
      → CalledOn leads start (merges pruning pruning.books next) next a b result → CalledOn leads start (exported keep epoch (reply.Exported file) next) next a b result
  old_merged keep epoch file pruning next a b result is called = subst (λ (f : File). CalledOn leads start (merges f f.books next) next a b result) is called

  pub none_exported : (keep epoch : ℕ) (keys : List PubKey) (next : NextPlan) (a : House K) → (length keys == 0) ≡ true → CalledOn leads start (exports keep epoch keys next) next a a (Ok tt)
  none_exported keep epoch [] next a h = none_called next a
  none_exported keep epoch (key ∷ keys) next a h = absurd (let e : length (key ∷ keys) ≡ 0 = eqb-true (length (key ∷ keys)) 0 h in omega arith)

  pub keys_exported : (keep epoch : ℕ) (keys : List PubKey) (next : NextPlan) (d e : K) (ls : List (Seat K)) (nodes : List Seen) (out : SinkSeen) (c : House K) (r : DeskReply) (file : File) (result : Result (Unit {0}) AllocError)
      → (length keys == 0) ≡ false → leads d ((call.Export keys, r) ∷ []) e → IsKind (call.Export keys) r → IsGrantFor (call.Export keys) r → r ≡ reply.Exported file
      → CalledOn leads start (exported keep epoch (reply.Exported file) next) next (house e ls nodes out) c result → CalledOn leads start (exports keep epoch keys next) next (house d ls nodes out) c result
  keys_exported keep epoch [] next d e ls nodes out c r file result h led kind for is rest = absurd (let bad : true ≡ false = h in cc)
  keys_exported keep epoch (key ∷ keys) next d e ls nodes out c r file result h led kind for is rest =
      let of : List PubKey = key ∷ keys in
      called_more (calls (call.Export of) (λ x. exported keep epoch x next)) (exported keep epoch r next) next (house d ls nodes out) (house e ls nodes out) c result
      (turn_comes leads start d e ls nodes out (call.Export of) r (λ x. exported keep epoch x next) refl (exported_hand r (kind_exported of r kind)) led kind for)
      (subst (λ (x : DeskReply). CalledOn leads start (exported keep epoch x next) next (house e ls nodes out) c result) (sym is) rest)

  pub export_short : (keep epoch : ℕ) (keys : List PubKey) (next : NextPlan) (d e : K) (ls : List (Seat K)) (nodes : List Seen) (out : SinkSeen) (r : DeskReply) → (length keys == 0) ≡ false
      → leads d ((call.Export keys, r) ∷ []) e → IsKind (call.Export keys) r → IsGrantFor (call.Export keys) r → CalledOn leads start (exports keep epoch keys next) next (house d ls nodes out) (house e ls nodes out) (Err (record {}))
  export_short keep epoch [] next d e ls nodes out r h led kind for = absurd (let bad : true ≡ false = h in cc)
  export_short keep epoch (key ∷ keys) next d e ls nodes out r h led kind for =
      let of : List PubKey = key ∷ keys in
      turn_calls leads start d e ls nodes out (house e ls nodes out) (call.Export of) r (λ x. exported keep epoch x next) None refl (exported_hand r (kind_exported of r kind)) led kind for
      (carries_cut Fits (Does leads start) (exported keep epoch r next) (house e ls nodes out))

  pub keys_pruned : (keep slot epoch : ℕ) (keys mine : List PubKey) (next : NextPlan) (a b : House K) (result : Result (Unit {0}) AllocError) → epoch ≡ epoch_of slot → mine ≡ keys_of_turn slot keys
      → CalledOn leads start (exports keep epoch mine next) next a b result → CalledOn leads start (prunes (Some keep) slot (Some keys) next) next a b result
  keys_pruned keep slot epoch keys mine next a b result at of called =
      subst (λ n. CalledOn leads start (exports keep n (keys_of_turn slot keys) next) next a b result) at
      (subst (λ (l : List PubKey). CalledOn leads start (exports keep epoch l next) next a b result) of called)

  -- ---- and then the rest of the turn

  pub called_goes : (Holds : Standing → Type 0) (p next : NextPlan) (a b c : House K) (result : Result (Unit {0}) DutyEnd) → Comes Fits (Does leads start) p next a b → Turns leads start Holds next b c result → Turns leads start Holds p a c result
  called_goes Holds p next a b c result g t = record { after = t.after; held = t.held; runs = comes_run Fits (Does leads start) a b c p next (next_value t.after result) g t.runs }

  pub called_short : (Holds : Standing → Type 0) (s : Standing) (p : NextPlan) (a b : House K) → Carries Fits (Does leads start) p a b None → Turns leads start Holds p a b (Err end.OutOfMemory)
  called_short Holds s p a b run = record { after = s; held = tt; runs = run }
