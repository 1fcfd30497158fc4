-- The exits of a session's loop.
use Rattle.std.proofs.Common.{◌≡◌, ℕ, ◌+◌, ◌<◌, ◌≤◌, List, [], ◌∷◌, ◌++◌, length, length-append, true, false, nat_eq, Option, None, Ok, Err, refl, sym, ◌∙◌, ap, subst, arith, inl, inr}
use Rattle.std.specs.Prelude.{IsSome}
use Rattle.std.specs.Io.KnownBytes.{Appends, IsAtEnd}
use Rattle.std.proofs.lemmas.List.{append-nil}
use Rattle.std.proofs.lemmas.Grind.{common_steps, flat_map-append}
use Rattle.edge_kit.specs.Causes.{Rose}
use Rattle.record_journal.specs.TwoDisks.{EitherRose}
use Rattle.check_sign.specs.Contents.{disks_in}
use Rattle.edge_kit.proofs.TellingLemmas.{Appends-nil, Appends-trans, Appends-kept}
use Rattle.session_format.specs.declared.chain.SessionChain.{SessionChain}
use Rattle.session_format.specs.Requests.{request_of}
use Rattle.program_end.specs.Closing.{TakesMemory, closing_status}
use Rattle.program_end.specs.Endings.{Closes}
use Rattle.program_end.specs.Limits.{input_limit}
use Rattle.program_end.specs.declared.closing.ClosingLine.{ClosingLine}
use Rattle.program_end.specs.declared.closing.ClosingLine.TheVariants as closing
use Rattle.program_end.specs.declared.limit.Limit.{Limit}
use Rattle.program_end.specs.declared.limit.Limit.TheVariants as limit
use Rattle.program_end.specs.declared.status.Status.{Status}
use Rattle.program_end.specs.declared.status.Status.TheVariants as status
use Rattle.program_end.proofs.ClosingLemmas.{closed_by}
use Rattle.session_run.specs.Lines.{IsShortLine, BeginsTooLong}
use Rattle.session_run.specs.Reading.{Pending, ReadsMore, GivesLine, piece_size}
use Rattle.session_run.specs.Inputs.{HasRead, ReadsWhole, ReadsFirst, IsNext, StopsReading, StoppedShort, PassesLimit, WithinLimits}
use Rattle.session_run.specs.Acts.{AtBench, DeskFares, Unanswered}
use Rattle.std.specs.Map.{keys_of}
use Rattle.session_run.specs.Plans.{line_plan, moment_by}
use Rattle.session_run.specs.Turns.{Turn, made, moment_after, written, text_of}
use Rattle.session_run.specs.Runs.{Run}
use Rattle.session_run.specs.Ends.{Wires, Because, Closed, EndsBy, Ends, IsFront, IsWhole}
use Rattle.session_run.specs.Exits.{IsTurn, ServesLine, UnservedCloses, UnreadCloses}
use Rattle.session_run.specs.declared.next.LineFault.{LineFault}
use Rattle.session_run.specs.declared.next.LineFault.TheVariants as fault
use Rattle.session_run.specs.declared.next.Next.TheVariants as next
use Rattle.session_run.specs.declared.session.Unserved.{Unserved}
use Rattle.session_run.specs.declared.session.Unserved.TheVariants as unserved
use Rattle.session_run.proofs.ReadLemmas.{read_none, read_on, read_line, read_last, left_few, first_of, first_whole, line_fits, no_line_fits, one_line, no_line}
use Rattle.check_sign.specs.PathLaws.{path_more}
use Rattle.call_plans.proofs.PlanLemmas.{cut_now}
use Rattle.client_calls.specs.Steps.{Fits, desk_calls}
use Rattle.session_run.proofs.RunLemmas.{run_then, run_makes, makes_nothing, ran_of, laws_of, moment_then}
use Rattle.session_run.proofs.FareLemmas.{fares_on}
use Rattle.session_run.proofs.PathLemmas.{path_fares}
use Rattle.session_run.proofs.MomentLemmas.{images_of}
use Rattle.session_run.proofs.LimitLemmas.{passes_none}

-- a session so far
pub record SoFar {D : Type 0} (moment : D → ℕ) (leaves : D → ℕ → List ℕ → Type 0) (faults : D → ℕ) (chain : SessionChain) (left_before left_now : Option (List ℕ)) (bench_before bench_now : AtBench D) (held_before held_now : Option (List ℕ)) (pending : Pending) (latest : ℕ) : Type 0 where
  pub turns : List Turn
  pub has_read : HasRead left_before left_now turns pending.bytes pending.total
  pub few : length pending.bytes ≤ piece_size
  pub run : Run moment leaves faults chain 0 turns bench_before bench_now
  pub answered : Appends held_before held_now (written turns)
  pub latest_is : latest ≡ moment_after 0 turns
  pub up : bench_now.desk.contents.torn ≡ None

rose_back : (x y z : ℕ) → x ≤ y → Rose y z → Rose x z
rose_back x y z h r = omega arith

written_then : (h1 h2 h3 : Option (List ℕ)) (ts : List Turn) (t : Turn) → Appends h1 h2 (written ts) → Appends h2 h3 (text_of t) → Appends h1 h3 (written (ts ++ t ∷ []))
written_then h1 h2 h3 ts t p q =
    let A : List ℕ → Type 0 = λ bs. Appends h1 h3 bs in
    subst A (sym (flat_map-append text_of ts (t ∷ []) ∙ ap (λ l. written ts ++ l) (append-nil (text_of t)))) (Appends-trans h1 h2 h3 (written ts) (text_of t) p q)

-- each line takes a byte at least
pub counted : {l2 l3 : Option (List ℕ)} {old new : Pending} (n : ℕ) (line : _) → GivesLine l2 l3 old new (next.Line line) → n + length old.bytes ≤ old.total → n + 1 + length new.bytes ≤ new.total
counted {l2} {l3} {old} {new} n line gives h =
    omega (arith, gives.total, ap length gives.line.0, length-append old.bytes gives.more, length-append line.items (10 ∷ new.bytes))

some_long : (line : List ℕ) → nat_eq (length line) 0 ≡ false → 0 < length line
some_long line h = grind (arith, common_steps)

module _ {D : Type 0} (moment : D → ℕ) (leaves : D → ℕ → List ℕ → Type 0) (faults : D → ℕ) (chain : SessionChain) where
  -- an ending, from what its status says
  ended : (turns : List Turn) (a b c : AtBench D) (line : List ℕ) (before now : Wires) (result : Status) → Run moment leaves faults chain 0 turns a b
      → (u : Unanswered moment leaves faults chain (moment_after 0 turns) (request_of chain line) b c) → EndsBy faults turns line u.steps a b c before now result → Ends moment leaves faults chain a c before now result
  ended turns a b c line before now result run u ends =
      let ran = ran_of moment leaves faults chain 0 turns a b run in
      let makes = run_makes moment leaves faults chain 0 turns a b run in
      record {
        turns = turns;
        mid = b;
        line = line;
        run = run;
        unanswered = u;
        ends = ends;
        ran = ran;
        laws = laws_of moment leaves faults chain 0 turns a b ran;
        images = λ left. images_of moment leaves faults a.desk.contents.genesis c.desk (made turns ++ desk_calls u.steps) a.desk
            (path_more moment leaves faults a.desk b.desk c.desk (made turns) (desk_calls u.steps) makes.desk u.makes.desk) refl left;
      }

  -- no line was begun after the turns
  abbrev none_begun : (latest : ℕ) (b : AtBench D) → Unanswered moment leaves faults chain latest (request_of chain []) b b
  none_begun latest b = record {
    steps = [];
    breaks_off = record { front = []; follows = cut_now Fits (line_plan chain (keys_of b.desk.contents.keys) latest (request_of chain [])); steps_are = refl };
    makes = makes_nothing moment leaves faults b;
  }

  -- one where each line that was begun is answered
  served : (turns : List Turn) (a b : AtBench D) (before now : Wires) (result : Status) → Run moment leaves faults chain 0 turns a b → EndsBy faults turns [] [] a b b before now result → Ends moment leaves faults chain a b before now result
  served turns a b before now result run ends = ended turns a b b [] before now result run (none_begun (moment_after 0 turns) b) ends

  pub so_far_none : (left : Option (List ℕ)) (bench : AtBench D) (held : Option (List ℕ)) (pending : Pending) → pending.bytes ≡ [] → pending.total ≡ 0 → bench.desk.contents.torn ≡ None → SoFar moment leaves faults chain left left bench bench held held pending 0
  so_far_none left bench held pending none zero up = record {
    turns = [];
    has_read = let P : List ℕ → Type 0 = λ bs. HasRead left left [] bs pending.total in let Q : ℕ → Type 0 = λ n. HasRead left left [] [] n in subst P (sym none) (subst Q (sym zero) (read_none left));
    few = omega (arith, ap length none);
    run = refl;
    answered = Appends-nil held;
    latest_is = refl;
    up = up;
  }

  module _ (l1 l2 l3 : Option (List ℕ)) (a b c : AtBench D) (h1 h2 h3 : Option (List ℕ)) (old new : Pending) (latest : ℕ) (s : SoFar moment leaves faults chain l1 l2 a b h1 h2 old latest) where
    -- a turn more
    run_on : (t : Turn) (line : List ℕ) → IsTurn moment leaves faults chain latest line b c t → Run moment leaves faults chain 0 (s.turns ++ t ∷ []) a c
    run_on t line is =
        let P : ℕ → Type 0 = λ n. IsTurn moment leaves faults chain n line b c t in
        run_then moment leaves faults chain 0 s.turns t a b c s.run s.up is.request (subst P s.latest_is is).turned

    -- what is left after a line
    few_left : (line : _) → GivesLine l2 l3 old new (next.Line line) → length new.bytes ≤ piece_size
    few_left line gives = left_few old.bytes gives.more line.items new.bytes gives.ahead s.few gives.line.0

    pub so_far_line : (line : _) (n : ℕ) (wf2 wf3 : ℕ) → GivesLine l2 l3 old new (next.Line line) → ServesLine moment leaves faults chain latest line.items b c h2 h3 wf2 wf3 (Ok n) → SoFar moment leaves faults chain l1 l3 a c h1 h3 new n
    so_far_line line n wf2 wf3 gives v =
        let t = v.0 in
        record {
          turns = s.turns ++ t ∷ [];
          has_read = read_line {new = new} t line.items new.bytes gives.more s.has_read gives.taken gives.line.0 gives.line.1 refl gives.total gives.within v.1.is_line (few_left line gives);
          few = few_left line gives;
          run = run_on t line.items v.1;
          answered = written_then h1 h2 h3 s.turns t s.answered v.2;
          latest_is = v.3 ∙ ap (λ m. moment_by m t.request) s.latest_is ∙ sym (moment_then 0 s.turns (t ∷ []));
          up = v.5;
        }

    -- what was read where a line is the next
    line_first : (line : _) (t : Turn) → GivesLine l2 l3 old new (next.Line line) → t.line ≡ line.items → ReadsFirst l1 l3 (s.turns ++ t ∷ [])
    line_first line t gives is = first_of (read_line {new = new} t line.items new.bytes gives.more s.has_read gives.taken gives.line.0 gives.line.1 refl gives.total gives.within is (few_left line gives)) (few_left line gives)

    last_whole : (line : _) (t : Turn) → GivesLine l2 l3 old new (next.Last line) → IsAtEnd l3 → nat_eq (length line.items) 0 ≡ false → t.line ≡ line.items → ReadsWhole l1 l3 (s.turns ++ t ∷ [])
    last_whole line t gives end some is =
        read_last (t ∷ []) line.items gives.more new.total s.has_read gives.taken gives.line.0 gives.line.1 gives.total gives.within end (ap (λ l. l ∷ []) is ∙ one_line line.items some) (line_fits t line.items is)

    -- ---- a line that is not served to its end

    module _ (line : List ℕ) (more : List ℕ) (h4 : Option (List ℕ)) (rf1 rf2 wf1 wf2 wf3 wf4 : ℕ) (result : Status) (has_read : HasRead l1 l3 s.turns (old.bytes ++ more) new.total) (is_next : IsNext l3 (old.bytes ++ more) line)
        (first : (t : Turn) → t.line ≡ line → ReadsFirst l1 l3 (s.turns ++ t ∷ [])) (earlier : wf1 ≤ wf2) (later : wf2 ≤ wf3) where
      abbrev First : Wires
      First = record { left = l1; held = h1; reads_failed = rf1; writes_failed = wf1 }

      abbrev Now : Wires
      Now = record { left = l3; held = h4; reads_failed = rf2; writes_failed = wf4 }

      abbrev Ended : Status → Type 0
      Ended st = Ends moment leaves faults chain a c First Now st

      -- the disk failed at it, and a line closed the output
      closes_disk : (t : Turn) → IsTurn moment leaves faults chain latest line b c t → Appends h2 h3 (text_of t) → IsSome c.desk.contents.torn → Closes closing.DiskFault h3 h4 wf3 wf4 result → Ended result
      closes_disk t is answered torn closes =
          let turns = s.turns ++ t ∷ [] in
          let run = run_on t line is in
          let ran = ran_of moment leaves faults chain 0 turns a c run in
          let up : a.desk.contents.torn ≡ None = begun turns run in
          let because : Because faults turns a c First Now closing.DiskFault = (ran.fares.fails up torn, torn, first t is.is_line) in
          let whole = written_then h1 h2 h3 s.turns t s.answered answered in
          closed_by Ended closing.DiskFault result h3 h4 wf3 wf4 closes
          (λ closed. served turns a c First Now status.DiskFault run ((refl, refl), record { because = because; held = h3; answered = whole; closed = closed }))
          (λ part. served turns a c First Now status.WriteFault run
          ((refl, refl), rose_back wf1 wf3 wf4 (omega (arith, earlier, later)) part.rose, inr (closing.DiskFault, record { because = because; held = h3; answered = whole; closed = (part.count, part.within, part.front) })))
          (λ takes same unfailed. absurd takes)
        where
          begun : (ts : List Turn) → Run moment leaves faults chain 0 ts a c → a.desk.contents.torn ≡ None
          begun ts run = first_up s.turns s.run where
            first_up : (us : List Turn) → Run moment leaves faults chain 0 us a b → a.desk.contents.torn ≡ None
            first_up [] same = let P : AtBench D → Type 0 = λ x. x.desk.contents.torn ≡ None in subst P same s.up
            first_up (u ∷ us) r = r.1

      pub ends_unserved : (f : Unserved) → ServesLine moment leaves faults chain latest line b c h2 h3 wf2 wf3 (Err f) → UnservedCloses f h3 h4 wf3 wf4 result → Ended result
      ends_unserved unserved.Disk v closes = closes_disk v.0 v.1 v.2 v.3 closes
      ends_unserved unserved.Write v closes =
          let t = v.0 in
          let front = v.2 in
          let H : Option (List ℕ) → Type 0 = λ h. IsFront h2 h (text_of t) in
          let cut : IsFront h2 h4 (text_of t) = subst H (sym closes.1) (front.count, front.within, front.front) in
          let rose : Rose wf1 wf4 = let R : ℕ → Type 0 = λ n. Rose wf1 n in subst R (sym closes.2) (rose_back wf1 wf2 wf3 earlier front.rose) in
          let P : Status → Type 0 = Ended in
          subst P (sym closes.0) (served (s.turns ++ t ∷ []) a c First Now status.WriteFault (run_on t line v.1)
          ((refl, refl), rose, inl (record { front = s.turns; last = t; turns_are = refl; first = first t v.1.is_line; held = h2; answered = s.answered; cut = cut })))
      ends_unserved unserved.Memory v closes =
          let P : Status → Type 0 = Ended in
          let U : ℕ → Type 0 = λ n. Unanswered moment leaves faults chain n (request_of chain line) b c in
          let H : Option (List ℕ) → Type 0 = λ h. Appends h1 h (written s.turns) in
          subst P (sym closes.0) (ended s.turns a b c line First Now status.OutOfMemory s.run (subst U s.latest_is v.1) (record {
            pending = old.bytes ++ more;
            total = new.total;
            has_read = has_read;
            answered = subst H (sym closes.1) (Appends-kept h1 h2 h3 (written s.turns) s.answered v.0);
            up = s.up;
            is_next = inr is_next;
          }))

    -- what was read, and nothing given of it
    more_read : (gives_more : List ℕ) (given : _) → (gives : GivesLine l2 l3 old new given) → HasRead l1 l3 s.turns (old.bytes ++ gives.more) new.total
    more_read gives_more given gives = read_on {new = record { bytes = old.bytes ++ gives.more; total = new.total }} s.has_read (record { more = gives.more; taken = gives.taken; bytes = refl; total = omega (arith, gives.total, gives.within); ahead = gives.ahead })

    pub ends_line : (line : _) (f : Unserved) (h4 : Option (List ℕ)) (rf1 rf2 wf1 wf2 wf3 wf4 : ℕ) (result : Status) → GivesLine l2 l3 old new (next.Line line) → ServesLine moment leaves faults chain latest line.items b c h2 h3 wf2 wf3 (Err f) → UnservedCloses f h3 h4 wf3 wf4 result → wf1 ≤ wf2 → wf2 ≤ wf3
        → Ends moment leaves faults chain a c (record { left = l1; held = h1; reads_failed = rf1; writes_failed = wf1 }) (record { left = l3; held = h4; reads_failed = rf2; writes_failed = wf4 }) result
    ends_line line f h4 rf1 rf2 wf1 wf2 wf3 wf4 result gives v closes earlier later =
        ends_unserved line.items gives.more h4 rf1 rf2 wf1 wf2 wf3 wf4 result (more_read gives.more (next.Line line) gives) (gives.line.1, inr (new.bytes, gives.line.0)) (λ t is. line_first line t gives is) earlier later f v closes

    pub ends_last : (line : _) (f : Unserved) (h4 : Option (List ℕ)) (rf1 rf2 wf1 wf2 wf3 wf4 : ℕ) (result : Status) → GivesLine l2 l3 old new (next.Last line) → IsAtEnd l3 → nat_eq (length line.items) 0 ≡ false → ServesLine moment leaves faults chain latest line.items b c h2 h3 wf2 wf3 (Err f) → UnservedCloses f h3 h4 wf3 wf4 result
        → wf1 ≤ wf2 → wf2 ≤ wf3
        → Ends moment leaves faults chain a c (record { left = l1; held = h1; reads_failed = rf1; writes_failed = wf1 }) (record { left = l3; held = h4; reads_failed = rf2; writes_failed = wf4 }) result
    ends_last line f h4 rf1 rf2 wf1 wf2 wf3 wf4 result gives end some v closes earlier later =
        ends_unserved line.items gives.more h4 rf1 rf2 wf1 wf2 wf3 wf4 result (more_read gives.more (next.Last line) gives) (gives.line.1, inl (gives.line.0, end, some_long line.items some)) (λ t is. first_whole (last_whole line t gives end some is)) earlier later f v closes

    -- ---- the input was read to its end

    pub ends_done : (line : _) (n : ℕ) (rf1 rf2 wf1 wf2 wf3 : ℕ) → GivesLine l2 l3 old new (next.Last line) → IsAtEnd l3 → nat_eq (length line.items) 0 ≡ false → ServesLine moment leaves faults chain latest line.items b c h2 h3 wf2 wf3 (Ok n)
        → Ends moment leaves faults chain a c (record { left = l1; held = h1; reads_failed = rf1; writes_failed = wf1 }) (record { left = l3; held = h3; reads_failed = rf2; writes_failed = wf3 }) status.Done
    ends_done line n rf1 rf2 wf1 wf2 wf3 gives end some v =
        let t = v.0 in
        served (s.turns ++ t ∷ []) a c _ _ status.Done (run_on t line.items v.1) ((refl, refl), last_whole line t gives end some v.1.is_line, written_then h1 h2 h3 s.turns t s.answered v.2, v.5)

  module _ (l1 l2 l3 : Option (List ℕ)) (a b : AtBench D) (h1 h2 : Option (List ℕ)) (old new : Pending) (latest : ℕ) (s : SoFar moment leaves faults chain l1 l2 a b h1 h2 old latest) where
    -- nothing stood after the last newline
    pub ends_empty : (line : _) (rf1 rf2 wf1 wf2 : ℕ) → GivesLine l2 l3 old new (next.Last line) → IsAtEnd l3 → nat_eq (length line.items) 0 ≡ true
        → Ends moment leaves faults chain a b (record { left = l1; held = h1; reads_failed = rf1; writes_failed = wf1 }) (record { left = l3; held = h2; reads_failed = rf2; writes_failed = wf2 }) status.Done
    ends_empty line rf1 rf2 wf1 wf2 gives end none =
        let W : List Turn → Type 0 = λ ts. ReadsWhole l1 l3 ts in
        let whole = read_last [] line.items gives.more new.total s.has_read gives.taken gives.line.0 gives.line.1 gives.total gives.within end (no_line line.items none) (no_line_fits line.items none) in
        served s.turns a b _ _ status.Done s.run ((refl, refl), subst W (append-nil s.turns) whole, s.answered, s.up)

    -- ---- reading stopped

    module _ (h3 : Option (List ℕ)) (rf1 rf2 rf3 wf1 wf2 wf3 : ℕ) (result : Status) (more : ReadsMore l2 l3 old new) (reads : rf1 ≤ rf2) (writes : wf1 ≤ wf2) where
      abbrev Start : Wires
      Start = record { left = l1; held = h1; reads_failed = rf1; writes_failed = wf1 }

      abbrev End : Wires
      End = record { left = l3; held = h3; reads_failed = rf3; writes_failed = wf3 }

      closes_read : (line : ClosingLine) → Because faults s.turns a b Start End line → Closes line h2 h3 wf2 wf3 result → (Closed faults s.turns a b Start End line IsWhole → EndsBy faults s.turns [] [] a b b Start End (closing_status line)) → Ends moment leaves faults chain a b Start End result
      closes_read line because closes says =
          closed_by (λ st. Ends moment leaves faults chain a b Start End st) line result h2 h3 wf2 wf3 closes
          (λ closed. served s.turns a b Start End (closing_status line) s.run (says (record { because = because; held = h2; answered = s.answered; closed = closed })))
          (λ part. served s.turns a b Start End status.WriteFault s.run
          ((refl, refl), rose_back wf1 wf2 wf3 writes part.rose, inr (line, record { because = because; held = h2; answered = s.answered; closed = (part.count, part.within, part.front) })))
          (λ takes same unfailed. takes_none line because takes same)
        where
          takes_none : (x : ClosingLine) → Because faults s.turns a b Start End x → TakesMemory x → h3 ≡ h2 → Ends moment leaves faults chain a b Start End status.OutOfMemory
          takes_none closing.ReadFault why takes same = absurd takes
          takes_none closing.DiskFault why takes same = absurd takes
          takes_none (closing.TooLong l) why takes same = absurd takes
          takes_none (closing.Damaged file offset byte) why takes same = absurd why
          takes_none (closing.GenesisDiffers kept given) why takes same = absurd why
          takes_none (closing.NoNode causes) why takes same = absurd why
          takes_none closing.DoorFault why takes same = absurd takes
          takes_none (closing.FileRefused r) why takes same = absurd why
          takes_none (closing.Usage line) why takes same = absurd why

      stops_at : (IsSuch : List ℕ → ℕ → Type 0) → IsSuch new.bytes new.total → StopsReading l1 l3 s.turns IsSuch
      stops_at IsSuch such = record { pending = new.bytes; total = new.total; has_read = read_on s.has_read more; such = such }

      pub ends_unread : (f : LineFault) → (f ≡ fault.TooLong limit.File → ⊥) → (f ≡ fault.TooLong limit.Keys → ⊥) → (f ≡ fault.Read → Rose rf2 rf3 × IsShortLine new.bytes × (new.total < input_limit)) → (f ≡ fault.TooLong limit.Line → BeginsTooLong new.bytes) → (f ≡ fault.TooLong limit.Input → new.total ≡ input_limit)
          → UnreadCloses f h2 h3 wf2 wf3 result → Ends moment leaves faults chain a b Start End result
      ends_unread fault.Memory file keys read line input closes =
          let P : Status → Type 0 = λ st. Ends moment leaves faults chain a b Start End st in
          let H : Option (List ℕ) → Type 0 = λ h. Appends h1 h (written s.turns) in
          subst P (sym closes.0) (served s.turns a b Start End status.OutOfMemory s.run (record { pending = new.bytes; total = new.total; has_read = read_on s.has_read more; answered = subst H (sym closes.1) s.answered; up = s.up; is_next = inl (refl, refl) }))
      ends_unread fault.Read file keys read line input closes =
          closes_read closing.ReadFault (rose_back rf1 rf2 rf3 reads (read refl).0, stops_at StoppedShort ((read refl).1, (read refl).2), s.up) closes (λ c. ((refl, refl), c))
      ends_unread (fault.TooLong limit.Line) file keys read line input closes = closes_read (closing.TooLong limit.Line) (stops_at (PassesLimit limit.Line) (line refl), s.up) closes (λ c. ((refl, refl), c))
      ends_unread (fault.TooLong limit.Input) file keys read line input closes = closes_read (closing.TooLong limit.Input) (stops_at (PassesLimit limit.Input) (input refl), s.up) closes (λ c. ((refl, refl), c))
      ends_unread (fault.TooLong limit.File) file keys read line input closes = absurd (file refl)
      ends_unread (fault.TooLong limit.Keys) file keys read line input closes = absurd (keys refl)

  -- memory ran out before anything was read
  pub ends_begin : (left held : Option (List ℕ)) (bench : AtBench D) (rf wf : ℕ) → bench.desk.contents.torn ≡ None
      → Ends moment leaves faults chain bench bench (record { left = left; held = held; reads_failed = rf; writes_failed = wf }) (record { left = left; held = held; reads_failed = rf; writes_failed = wf }) status.OutOfMemory
  ends_begin left held bench rf wf up = served [] bench bench _ _ status.OutOfMemory refl (record { pending = []; total = 0; has_read = read_none left; answered = Appends-nil held; up = up; is_next = inl (refl, refl) })

  -- ---- what an ending says of the limits

  pub ends_within : (a c : AtBench D) (before now : Wires) (result : Status) → Ends moment leaves faults chain a c before now result → WithinLimits before.left → (l : Limit) → result ≡ status.InputTooLong l → ⊥
  ends_within a c before now result ends within l is =
      let P : Status → Type 0 = λ st. Ends moment leaves faults chain a c before now st in
      let e = subst P is ends in
      passes_none before.left now.left e.turns l within e.ends.1.because.0

  -- ---- what an ending says of faults

  module _ (a c : AtBench D) (before now : Wires) (result : Status) (ends : Ends moment leaves faults chain a c before now result) where
    abbrev As : Status → Type 0
    As st = Ends moment leaves faults chain a c before now st

    pub ends_read : result ≡ status.ReadFault → Rose before.reads_failed now.reads_failed
    ends_read is = let e = subst As is ends in e.ends.1.because.0

    pub ends_write : result ≡ status.WriteFault → Rose before.writes_failed now.writes_failed
    ends_write is = let e = subst As is ends in e.ends.1

    pub ends_disk : result ≡ status.DiskFault → EitherRose faults (disks_in a.desk) (disks_in c.desk)
    ends_disk is = let e = subst As is ends in e.ends.1.because.0

    pub ends_fares : DeskFares faults a.desk c.desk
    ends_fares = fares_on faults a.desk ends.mid.desk c.desk ends.ran.fares (path_fares moment leaves faults ends.mid.desk c.desk (desk_calls ends.unanswered.steps) ends.unanswered.makes.desk)
