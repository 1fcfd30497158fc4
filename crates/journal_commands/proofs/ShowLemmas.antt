-- The lines of a desk's keys, and what each fault tells.
use Rattle.std.proofs.Common.{◌≡◌, ℕ, ◌+◌, ◌≤◌, ◌<◌, length, take, drop, get_or, Result, Ok, Err, List, [], ◌∷◌, ◌++◌, map, refl, sym, ◌∙◌, ap, subst, ⊎_elim, inl, inr, append_assoc}
use Rattle.std.specs.Prelude.{flat_map, OnErr, false}
use Rattle.std.specs.Map.{keys_of}
use Rattle.std.proofs.lemmas.List.{append-nil, take-append-drop, take-append-le, take_more}
use Rattle.std.proofs.Math.Seq.{take-append-add}
use Rattle.std.proofs.lemmas.Grind.{flat_map-append}
use Rattle.edge_kit.specs.declared.bytes.PubKey.{PubKey}
use Rattle.edge_kit.specs.declared.bytes.Root.{Root}
use Rattle.edge_kit.specs.declared.disk.Disks.{Disks}
use Rattle.protect_record.specs.Parts.{Parts}
use Rattle.record_join.specs.Keys.{kept_of}
use Rattle.record_replay.specs.declared.state.KeyState.{KeyState}
use Rattle.desk_machine.specs.States.{State, key_state, state_in}
use Rattle.desk_machine.specs.Machine.{Reply, after}
use Rattle.desk_machine.specs.declared.call.KeyStanding.{KeyStanding}
use Rattle.desk_machine.specs.declared.call.DeskCall.TheVariants as call
use Rattle.desk_machine.specs.declared.call.DeskReply.{DeskReply}
use Rattle.desk_machine.specs.declared.call.DeskReply.TheVariants as reply
use Rattle.desk_machine.specs.declared.event.DeskEvent.{DeskEvent}
use Rattle.check_sign.specs.Contents.{Contents, Seen}
use Rattle.check_sign.specs.Standing.{MayOpen}
use Rattle.check_sign.specs.Calls.{IsCallOf}
use Rattle.check_sign.specs.Opening.{Opening}
use Rattle.check_sign.specs.Images.{Leaves, OpensByCall}
use Rattle.check_sign.proofs.ImageLemmas.{called, weaker}
use Rattle.program_end.specs.declared.status.Status.{Status}
use Rattle.journal_commands.specs.Views.{Output}
use Rattle.journal_commands.specs.Openings.{EachImage, WritesCurrent}
use Rattle.journal_commands.specs.Showing.{DeskShowEnds, ShowEnds, WritesLines, kept_text, listed_text, show_text}
use Rattle.journal_commands.proofs.OpeningLemmas.{Handed, each_image, fares_call, had_desk}

-- one more line
pub listed_more : (keys : List (PubKey × Parts)) (listed : List (PubKey × KeyStanding)) (one : PubKey × KeyStanding) → listed_text keys (listed ++ one ∷ []) ≡ listed_text keys listed ++ kept_text one.0 (state_in one.1) (kept_of keys one.0)
listed_more keys listed one =
    flat_map-append (λ (o : PubKey × KeyStanding). kept_text o.0 (state_in o.1) (kept_of keys o.0)) listed (one ∷ []) ∙ ap (λ t. listed_text keys listed ++ t) (append-nil (kept_text one.0 (state_in one.1) (kept_of keys one.0)))

-- what holds whatever came holds where an error came
pub at_err : {T E A : Type 0} (result : Result T E) → A → OnErr result A
at_err (Ok x) h = tt
at_err (Err e) h = h

-- what stands before a line, and a front of it, is a front of all lines
pub listed_part : (keys : List (PubKey × Parts)) (listed : List (PubKey × KeyStanding)) (i : ℕ) (d : PubKey × KeyStanding) (n : ℕ) → i < length listed
    → n ≤ length (kept_text (get_or listed i d).0 (state_in (get_or listed i d).1) (kept_of keys (get_or listed i d).0))
    → listed_text keys (take i listed) ++ take n (kept_text (get_or listed i d).0 (state_in (get_or listed i d).1) (kept_of keys (get_or listed i d).0)) ≡ take (length (listed_text keys (take i listed)) + n) (listed_text keys listed)
listed_part keys listed i d n within short =
    let one = get_or listed i d in
    let front = listed_text keys (take i listed) in
    let line = kept_text one.0 (state_in one.1) (kept_of keys one.0) in
    let rest = listed_text keys (drop (i + 1) listed) in
    let whole : listed_text keys listed ≡ front ++ (line ++ rest) =
    ap (listed_text keys) (sym (take-append-drop (i + 1) listed))
    ∙ flat_map-append (λ (o : PubKey × KeyStanding). kept_text o.0 (state_in o.1) (kept_of keys o.0)) (take (i + 1) listed) (drop (i + 1) listed)
    ∙ ap (λ t. t ++ rest) (ap (listed_text keys) (take_more listed i d within) ∙ listed_more keys (take i listed) one)
    ∙ append_assoc front line rest in
    sym (ap (take (length front + n)) whole ∙ take-append-add front (line ++ rest) n ∙ ap (λ t. front ++ t) (take-append-le n line rest short))

abbrev names_text : List (PubKey × Parts) → List (PubKey × KeyState) → List PubKey → List ℕ
names_text keys states names = flat_map (λ key. kept_text key (key_state states key) (kept_of keys key)) names

-- the lines of keys by their states
abbrev states_text : List (PubKey × Parts) → List (PubKey × KeyState) → List ℕ
states_text keys listed = flat_map (λ one. kept_text one.0 one.1 (kept_of keys one.0)) listed

abbrev in_states : List (PubKey × KeyStanding) → List (PubKey × KeyState)
in_states listed = map (λ l. (l.0, state_in l.1)) listed

listed_states : (keys : List (PubKey × Parts)) (listed : List (PubKey × KeyStanding)) → listed_text keys listed ≡ states_text keys (in_states listed)
listed_states keys [] = refl
listed_states keys (one ∷ listed) = ap (λ t. kept_text one.0 (state_in one.1) (kept_of keys one.0) ++ t) (listed_states keys listed)

listed_names : (keys : List (PubKey × Parts)) (states : List (PubKey × KeyState)) (names : List PubKey) → states_text keys (map (λ key. (key, key_state states key)) names) ≡ names_text keys states names
listed_names keys states [] = refl
listed_names keys states (key ∷ names) = ap (λ t. kept_text key (key_state states key) (kept_of keys key) ++ t) (listed_names keys states names)

-- the listed keys are those of the desk, in their states
listed_shown : (old new : Contents) (listed : List (PubKey × KeyStanding)) → in_states listed ≡ map {B = PubKey × KeyState} (λ key. (key, key_state old.states key)) (keys_of old.keys) → new.keys ≡ old.keys → new.states ≡ old.states → listed_text new.keys listed ≡ show_text new
listed_shown old new listed is keys states =
    listed_states new.keys listed ∙ ap (states_text new.keys) is ∙ listed_names new.keys old.states (keys_of old.keys)
    ∙ ap (λ s. names_text new.keys s (keys_of old.keys)) (sym states)
    ∙ ap (λ ks. names_text new.keys new.states (keys_of ks)) (sym keys)

-- ---- the desk's answer

unchanged : (state : State) (r : DeskReply) → Reply state call.Keys r → after state call.Keys r ≡ state
unchanged state (reply.Keys listed) h = refl
unchanged state reply.OutOfMemory h = refl
unchanged state r h = absurd h

module _ {D : Type 0} (moment : D → ℕ) (leaves : D → ℕ → List ℕ → Type 0) (faults : D → ℕ) (old new : Seen D) where
  pub listed_ends : (listed : List (PubKey × KeyStanding)) (before now : Output) (result : Status) → IsCallOf moment leaves faults old new call.Keys (reply.Keys listed)
      → WritesLines (listed_text new.contents.keys listed) before now result → DeskShowEnds moment leaves faults before now old new result
  listed_ends listed before now result asked writes = record {
    reply_is = reply.Keys listed;
    called = asked;
    done_or_short = ⊎_elim (λ done. inl done.0) (λ short. inr short.0) writes;
    writes = let W : List ℕ → Type 0 = λ lines. WritesLines lines before now result in subst W (listed_shown old.contents new.contents listed asked.own.0 asked.own.1 asked.own.2) writes;
  }

  own_leaves : (r : DeskReply) → IsCallOf moment leaves faults old new call.Keys r → Leaves moment leaves (MayOpen old.contents.genesis) old new
  own_leaves r asked = weaker moment leaves old new (OpensByCall old.contents.genesis call.Keys) (MayOpen old.contents.genesis)
      (λ state stands file. ⊎_elim (λ before. before) (λ now. subst (λ s. MayOpen old.contents.genesis s file) (unchanged state now.0 now.1) now.2))
      (called moment leaves faults old new call.Keys r asked)

  -- what a crash leaves of a showing
  pub show_leaves : (genesis : Root) → old.contents.genesis ≡ genesis → (r : DeskReply) → IsCallOf moment leaves faults old new call.Keys r → Leaves moment leaves (MayOpen genesis) old new
  show_leaves genesis is r asked = let L : Root → Type 0 = λ root. Leaves moment leaves (MayOpen root) old new in subst L is (own_leaves r asked)

-- a desk was opened and shown, and its disks handed back
pub show_ended : {D : Type 0} (shows : D → List ℕ → Type 0) (moment : D → ℕ) (leaves : D → ℕ → List ℕ → Type 0) (faults : D → ℕ) (genesis : Root) (first last : Disks D) (before now : Output) (events : List DeskEvent) (result : Status) (opened ended : Seen D)
    → Opening shows moment leaves faults first genesis false 0 opened → DeskShowEnds moment leaves faults before now opened ended result → Handed ended last events
    → ShowEnds shows moment leaves faults genesis first last before now events result
show_ended shows moment leaves faults genesis first last before now events result opened ended opening ends handed =
    let run = show_leaves moment leaves faults opened ended genesis opening.opened.genesis_is ends.reply_is ends.called in
    inr (had_desk moment leaves faults shows genesis false 0 first last events
    (λ o e. DeskShowEnds moment leaves faults before now o e result × EachImage shows moment leaves genesis first last (MayOpen genesis) o × WritesCurrent o e) opened ended opening
    (ends, each_image moment leaves faults shows genesis false first last (MayOpen genesis) opened ended opening run handed.disks, record { other = ends.called.disks.0; place = ends.called.disks.1 })
    (fares_call moment leaves faults opened ended call.Keys ends.reply_is ends.called) ends.called.left handed)
