-- One call more in the list of a disk in memory.
use Rattle.std.proofs.Common.{◌≡◌, ℕ, ◌+◌, ◌/◌, ◌<◌, ◌≤◌, true, List, [], ◌∷◌, ◌++◌, length, get_or, take, drop, Vec, refl, sym, ◌∙◌, ap, subst, arith, take-append-drop}
use Rattle.std.proofs.lemmas.List.{take_all, drop_all, length-take, take-append-le, drop-append-le, length_push, take_more}
use Rattle.std.specs.List.{list_all}
use Rattle.std.specs.declared.alloc.Global.{Global}
use Rattle.edge_kit.specs.declared.mem_disk.DiskStep.{DiskStep}
use Rattle.edge_kit.specs.declared.mem_disk.DiskStep.TheVariants.{Wrote, Shortened, Synced}
use Rattle.edge_kit.specs.declared.mem_disk.Crash.{Crash}
use Rattle.edge_kit.specs.declared.mem_disk.Crash.TheVariants as crash
use Rattle.edge_kit.specs.Disks.{Torn, Cut, Same, Follows, Elapses, overwrite}
use Rattle.edge_kit.specs.MemDisks.{after, crashed_after, content, crashed, is_change, LeavesAfter, LeavesAt}
use Rattle.edge_kit.specs.OnMemDisks.{steps_with_sync}
use Rattle.edge_kit.proofs.Moments.{torn_nothing}
use Rattle.edge_kit.proofs.DiskLemmas.{written_is_torn, cut_is_done, cut_nothing, torn_more}

pub content-push : (now : List ℕ) (steps : List DiskStep) (step : DiskStep) → content now (steps ++ step ∷ []) ≡ after step (content now steps)
content-push now [] step = refl
content-push now (s ∷ steps) step = content-push (after s now) steps step

pub crashed-push : (how : Crash) (now : List ℕ) (steps : List DiskStep) (step : DiskStep) → crashed how now (steps ++ step ∷ []) ≡ crashed_after how step (crashed how now steps)
crashed-push how now [] step = refl
crashed-push how now (s ∷ steps) step = crashed-push how (crashed_after how s now) steps step

-- where each step stands as it was made
pub crashed-written : (now : List ℕ) (steps : List DiskStep) → crashed crash.Written now steps ≡ content now steps
crashed-written now [] = refl
crashed-written now (s ∷ steps) = crashed-written (after s now) steps

content-append : (now : List ℕ) (steps more : List DiskStep) → content now (steps ++ more) ≡ content (content now steps) more
content-append now [] more = refl
content-append now (s ∷ steps) more = content-append (after s now) steps more

wrote_last : (base : List ℕ → Type 0) (now : List ℕ) (steps : List DiskStep) (at : ℕ) (v : Vec ℕ Global) → Follows (Torn at (length v.items)) (LeavesAfter base now steps) (LeavesAfter base now (steps ++ Wrote at v ∷ []))
wrote_last base now [] at v c left = left
wrote_last base now (Wrote to bytes ∷ steps) at v c left = wrote_last (λ e. (d : List ℕ) × base d × Torn to (length bytes.items) d e) (overwrite to bytes.items now) steps at v c left
wrote_last base now (Shortened len ∷ steps) at v c left = wrote_last (λ e. (d : List ℕ) × base d × Cut len d e) (take len now) steps at v c left
wrote_last base now (Synced ∷ steps) at v c left = wrote_last (λ e. e ≡ now) now steps at v c left

shortened_last : (base : List ℕ → Type 0) (now : List ℕ) (steps : List DiskStep) (n : ℕ) → Follows (Cut n) (LeavesAfter base now steps) (LeavesAfter base now (steps ++ Shortened n ∷ []))
shortened_last base now [] n c left = left
shortened_last base now (Wrote to bytes ∷ steps) n c left = shortened_last (λ e. (d : List ℕ) × base d × Torn to (length bytes.items) d e) (overwrite to bytes.items now) steps n c left
shortened_last base now (Shortened len ∷ steps) n c left = shortened_last (λ e. (d : List ℕ) × base d × Cut len d e) (take len now) steps n c left
shortened_last base now (Synced ∷ steps) n c left = shortened_last (λ e. e ≡ now) now steps n c left

synced_last : (base : List ℕ → Type 0) (now : List ℕ) (steps : List DiskStep) (c : List ℕ) → LeavesAfter base now (steps ++ Synced ∷ []) c → c ≡ content now steps
synced_last base now [] c left = left
synced_last base now (Wrote to bytes ∷ steps) c left = synced_last (λ e. (d : List ℕ) × base d × Torn to (length bytes.items) d e) (overwrite to bytes.items now) steps c left
synced_last base now (Shortened len ∷ steps) c left = synced_last (λ e. (d : List ℕ) × base d × Cut len d e) (take len now) steps c left
synced_last base now (Synced ∷ steps) c left = synced_last (λ e. e ≡ now) now steps c left

-- what is there is among what a crash may leave
content_is_left : (base : List ℕ → Type 0) (now : List ℕ) (steps : List DiskStep) → base now → LeavesAfter base now steps (content now steps)
content_is_left base now [] here = here
content_is_left base now (Wrote at bytes ∷ steps) here = content_is_left (λ e. (d : List ℕ) × base d × Torn at (length bytes.items) d e) (overwrite at bytes.items now) steps (now, here, written_is_torn at bytes.items now)
content_is_left base now (Shortened len ∷ steps) here = content_is_left (λ e. (d : List ℕ) × base d × Cut len d e) (take len now) steps (now, here, cut_is_done len now)
content_is_left base now (Synced ∷ steps) here = content_is_left (λ e. e ≡ now) now steps refl

-- what a crash makes of changes is among what it may leave
crashed_is_left : (how : Crash) (base : List ℕ → Type 0) (now image : List ℕ) (steps : List DiskStep) → list_all is_change steps ≡ true → base image → LeavesAfter base now steps (crashed how image steps)
crashed_is_left how base now image [] unsynced here = here
crashed_is_left how base now image (Wrote at bytes ∷ steps) unsynced here =
    crashed_is_left how (λ e. (d : List ℕ) × base d × Torn at (length bytes.items) d e) (overwrite at bytes.items now) (crashed_after how (Wrote at bytes) image) steps unsynced (image, here, crashed_write how at bytes image)
  where
    crashed_write : (how : Crash) (at : ℕ) (bytes : Vec ℕ Global) (image : List ℕ) → Torn at (length bytes.items) image (crashed_after how (Wrote at bytes) image)
    crashed_write crash.Written at bytes image = written_is_torn at bytes.items image
    crashed_write crash.Before at bytes image = torn_nothing at (length bytes.items) image
    crashed_write crash.Torn at bytes image =
        let half = take (length bytes.items / 2) bytes.items in
        torn_more at (length half) (length bytes.items) image (overwrite at half image) (omega (arith, length-take (length bytes.items / 2) bytes.items)) (written_is_torn at half image)
crashed_is_left how base now image (Shortened len ∷ steps) unsynced here =
    crashed_is_left how (λ e. (d : List ℕ) × base d × Cut len d e) (take len now) (crashed_after how (Shortened len) image) steps unsynced (image, here, crashed_cut how len image)
  where
    crashed_cut : (how : Crash) (len : ℕ) (image : List ℕ) → Cut len image (crashed_after how (Shortened len) image)
    crashed_cut crash.Written len image = cut_is_done len image
    crashed_cut crash.Before len image = cut_nothing len image
    crashed_cut crash.Torn len image = cut_nothing len image
crashed_is_left how base now image (Synced ∷ steps) unsynced here = absurd cc

left_append : (base : List ℕ → Type 0) (now : List ℕ) (xs ys : List DiskStep) (c : List ℕ) → LeavesAfter (LeavesAfter base now xs) (content now xs) ys c → LeavesAfter base now (xs ++ ys) c
left_append base now [] ys c left = left
left_append base now (Wrote at bytes ∷ xs) ys c left = left_append (λ e. (d : List ℕ) × base d × Torn at (length bytes.items) d e) (overwrite at bytes.items now) xs ys c left
left_append base now (Shortened len ∷ xs) ys c left = left_append (λ e. (d : List ℕ) × base d × Cut len d e) (take len now) xs ys c left
left_append base now (Synced ∷ xs) ys c left = left_append (λ e. e ≡ now) now xs ys c left

whole : (first : List ℕ) (steps : List DiskStep) (c : List ℕ) → LeavesAfter (λ d. d ≡ first) first steps c → LeavesAt first steps (length steps) c
whole first steps c left = subst (λ (l : List DiskStep). LeavesAfter (λ d. d ≡ first) first l c) (sym (take_all (length steps) steps (omega arith))) left

unwhole : (first : List ℕ) (steps : List DiskStep) (k : ℕ) (c : List ℕ) → length steps ≤ k → LeavesAt first steps k c → LeavesAfter (λ d. d ≡ first) first steps c
unwhole first steps k c all left = subst (λ (l : List DiskStep). LeavesAfter (λ d. d ≡ first) first l c) (take_all k steps all) left

pub image_left : (how : Crash) (first image : List ℕ) (steps : List DiskStep) (n : ℕ) → list_all is_change (drop n steps) ≡ true → image ≡ crashed how (content first (take n steps)) (drop n steps) → LeavesAt first steps (length steps) image
image_left how first image steps n unsynced is =
    let made = crashed how (content first (take n steps)) (drop n steps) in
    let parts : LeavesAfter (λ d. d ≡ first) first (take n steps ++ drop n steps) made =
    left_append (λ d. d ≡ first) first (take n steps) (drop n steps) made
    (crashed_is_left how (LeavesAfter (λ d. d ≡ first) first (take n steps)) (content first (take n steps)) (content first (take n steps)) (drop n steps) unsynced
    (content_is_left (λ d. d ≡ first) first (take n steps) refl)) in
    let all : LeavesAfter (λ d. d ≡ first) first steps made = subst (λ (l : List DiskStep). LeavesAfter (λ d. d ≡ first) first l made) (take-append-drop n steps) parts in
    subst (λ (l : List ℕ). LeavesAt first steps (length steps) l) (sym is) (whole first steps made all)

-- what a read sees is left
pub held_left : (first : List ℕ) (steps : List DiskStep) (held c : List ℕ) → held ≡ content first steps → c ≡ held → LeavesAt first steps (length steps) c
held_left first steps held c current is =
    whole first steps c (subst (λ (l : List ℕ). LeavesAfter (λ d. d ≡ first) first steps l) (sym (is ∙ current)) (content_is_left (λ d. d ≡ first) first steps refl))

-- ---- one call

elapses_push : (step : List ℕ → List ℕ → Type 0) (first : List ℕ) (steps : List DiskStep) (e : DiskStep)
    → Follows step (LeavesAt first steps (length steps)) (LeavesAfter (λ d. d ≡ first) first (steps ++ e ∷ []))
    → Elapses step (length steps) (length (steps ++ e ∷ [])) (LeavesAt first steps) (LeavesAt first (steps ++ e ∷ []))
elapses_push step first steps e follows = record {
  later = omega (arith, length_push steps e);
  past_stays = λ k c le left. subst (λ (l : List DiskStep). LeavesAfter (λ d. d ≡ first) first l c) (take-append-le k steps (e ∷ []) le) left;
  steps = λ k lt le c left. follows c (unwhole first (steps ++ e ∷ []) k c (omega (arith, length_push steps e)) left);
}

pub elapses_same : (first : List ℕ) (steps : List DiskStep) → Elapses Same (length steps) (length steps) (LeavesAt first steps) (LeavesAt first steps)
elapses_same first steps = record { later = omega arith; past_stays = λ k c le left. left; steps = λ k lt le c left. absurd (omega arith) }

pub elapses_wrote : (first : List ℕ) (steps later : List DiskStep) (at : ℕ) (v : Vec ℕ Global) (bytes : List ℕ) → later ≡ steps ++ Wrote at v ∷ [] → v.items ≡ bytes → Elapses (Torn at (length bytes)) (length steps) (length later) (LeavesAt first steps) (LeavesAt first later)
elapses_wrote first steps later at v bytes is same =
    let made : Elapses (Torn at (length v.items)) (length steps) (length (steps ++ Wrote at v ∷ [])) (LeavesAt first steps) (LeavesAt first (steps ++ Wrote at v ∷ [])) =
    elapses_push (Torn at (length v.items)) first steps (Wrote at v) (λ c left. let from = wrote_last (λ d. d ≡ first) first steps at v c left in (from.0, whole first steps from.0 from.1, from.2)) in
    let sized : Elapses (Torn at (length bytes)) (length steps) (length (steps ++ Wrote at v ∷ [])) (LeavesAt first steps) (LeavesAt first (steps ++ Wrote at v ∷ [])) =
    subst (λ (l : List ℕ). Elapses (Torn at (length l)) (length steps) (length (steps ++ Wrote at v ∷ [])) (LeavesAt first steps) (LeavesAt first (steps ++ Wrote at v ∷ []))) same made in
    subst (λ (l : List DiskStep). Elapses (Torn at (length bytes)) (length steps) (length l) (LeavesAt first steps) (LeavesAt first l)) (sym is) sized

pub elapses_cut : (first : List ℕ) (steps later : List DiskStep) (n : ℕ) → later ≡ steps ++ Shortened n ∷ [] → Elapses (Cut n) (length steps) (length later) (LeavesAt first steps) (LeavesAt first later)
elapses_cut first steps later n is =
    subst (λ (l : List DiskStep). Elapses (Cut n) (length steps) (length l) (LeavesAt first steps) (LeavesAt first l)) (sym is)
    (elapses_push (Cut n) first steps (Shortened n) (λ c left. let from = shortened_last (λ d. d ≡ first) first steps n c left in (from.0, whole first steps from.0 from.1, from.2)))

pub elapses_synced : (first : List ℕ) (steps later : List DiskStep) → later ≡ steps ++ Synced ∷ [] → Elapses Same (length steps) (length later) (LeavesAt first steps) (LeavesAt first later)
elapses_synced first steps later is =
    subst (λ (l : List DiskStep). Elapses Same (length steps) (length l) (LeavesAt first steps) (LeavesAt first l)) (sym is)
    (elapses_push Same first steps Synced (λ c left. (content first steps, whole first steps (content first steps) (content_is_left (λ d. d ≡ first) first steps refl), synced_last (λ d. d ≡ first) first steps c left)))

-- ---- what a disk in memory keeps

abbrev pub Durable : List ℕ → List DiskStep → ℕ → Type 0
Durable first steps n = (c : List ℕ) → LeavesAt first steps n c → c ≡ content first (take n steps)

pub current_after : (first : List ℕ) (steps later : List DiskStep) (held new : List ℕ) (step : DiskStep) → held ≡ content first steps → later ≡ steps ++ step ∷ [] → new ≡ after step held → new ≡ content first later
current_after first steps later held new step current is done = done ∙ ap (after step) current ∙ sym (content-push first steps step) ∙ ap (content first) (sym is)

pub durable_stays : (first : List ℕ) (steps later : List DiskStep) (n : ℕ) (step : DiskStep) → n ≤ length steps → later ≡ steps ++ step ∷ [] → Durable first steps n → Durable first later n
durable_stays first steps later n step within is durable =
    let same : take n later ≡ take n steps = ap (λ (l : List DiskStep). take n l) is ∙ take-append-le n steps (step ∷ []) within in
    λ c left. durable c (subst (λ (l : List DiskStep). LeavesAfter (λ d. d ≡ first) first l c) same left) ∙ ap (content first) (sym same)

pub durable_synced : (first : List ℕ) (steps later : List DiskStep) (n : ℕ) → n ≡ length later → later ≡ steps ++ Synced ∷ [] → Durable first later n
durable_synced first steps later n all is = λ c left.
    let last : LeavesAfter (λ d. d ≡ first) first (steps ++ Synced ∷ []) c = subst (λ (l : List DiskStep). LeavesAfter (λ d. d ≡ first) first l c) is (unwhole first later n c (omega arith) left) in
    synced_last (λ d. d ≡ first) first steps c last ∙ sym (content-push first steps Synced) ∙ ap (content first) (sym is) ∙ ap (content first) (sym (take_all n later (omega arith)))

pub unsynced_stays : (steps later : List DiskStep) (n : ℕ) (step : DiskStep) → n ≤ length steps → later ≡ steps ++ step ∷ [] → is_change step ≡ true → list_all is_change (drop n steps) ≡ true → list_all is_change (drop n later) ≡ true
unsynced_stays steps later n step within is change unsynced = ap (λ (l : List DiskStep). list_all is_change (drop n l)) is ∙ ap (list_all is_change) (drop-append-le n steps (step ∷ []) within) ∙ all_push (drop n steps) unsynced
  where
    all_push : (l : List DiskStep) → list_all is_change l ≡ true → list_all is_change (l ++ step ∷ []) ≡ true
    all_push [] all = rw change refl
    all_push (Wrote at v ∷ l) all = all_push l all
    all_push (Shortened len ∷ l) all = all_push l all
    all_push (Synced ∷ l) all = absurd cc

pub unsynced_synced : (later : List DiskStep) (n : ℕ) → n ≡ length later → list_all is_change (drop n later) ≡ true
unsynced_synced later n all = ap (list_all is_change) (drop_all n later (omega arith))

pub since_push : (steps later : List DiskStep) (n : ℕ) (step : DiskStep) → n ≤ length steps → later ≡ steps ++ step ∷ [] → drop n later ≡ drop n steps ++ step ∷ []
since_push steps later n step within is = ap (λ (l : List DiskStep). drop n l) is ∙ drop-append-le n steps (step ∷ []) within

pub sync_kept : (changes steps later : List DiskStep) → 0 < length changes → later ≡ steps ++ Synced ∷ [] → later ≡ steps_with_sync changes steps
sync_kept [] steps later some is = absurd (omega arith)
sync_kept (change ∷ changes) steps later some is = is

pub sync_left_out : (steps : List DiskStep) (n : ℕ) → n ≡ length steps → steps ≡ steps_with_sync (drop n steps) steps
sync_left_out steps n all = ap (λ (l : List DiskStep). steps_with_sync l steps) (sym (drop_all n steps (omega arith)))

-- after a sync of all that there is
pub left_synced : (first held : List ℕ) (steps : List DiskStep) (n : ℕ) (c : List ℕ) → held ≡ content first steps → n ≡ length steps → Durable first steps n → LeavesAt first steps (length steps) c → c ≡ held
left_synced first held steps n c current all durable left =
    durable c (subst (λ (k : ℕ). LeavesAt first steps k c) (sym all) left) ∙ ap (content first) (take_all n steps (omega arith)) ∙ sym current

-- ---- one step more of a loop

pub crashed_more : (how : Crash) (first : List ℕ) (steps : List DiskStep) (i : ℕ) (step : DiskStep) → i < length steps → step ≡ get_or steps i step → crashed how first (take (i + 1) steps) ≡ crashed_after how step (crashed how first (take i steps))
crashed_more how first steps i step lt is = ap (crashed how first) (take_more steps i step lt) ∙ crashed-push how first (take i steps) (get_or steps i step) ∙ ap (λ (s : DiskStep). crashed_after how s (crashed how first (take i steps))) (sym is)
