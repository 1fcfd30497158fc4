-- One turn after another, and what a run comes to.
use Rattle.std.proofs.Common.{◌≡◌, ℕ, List, [], ◌∷◌, ◌++◌, map, None, refl, sym, ◌∙◌, ap, subst}
use Rattle.std.specs.Map.{keys_of}
use Rattle.edge_kit.specs.declared.bytes.PubKey.{PubKey}
use Rattle.protect_record.specs.Standing.{Stands}
use Rattle.record_join.specs.Keys.{EachKey}
use Rattle.session_format.specs.declared.chain.SessionChain.{SessionChain}
use Rattle.desk_machine.specs.States.{State}
use Rattle.desk_machine.specs.declared.call.DeskCall.{DeskCall}
use Rattle.desk_machine.specs.declared.call.DeskReply.{DeskReply}
use Rattle.check_sign.specs.Contents.{Seen}
use Rattle.check_sign.specs.Paths.{Path}
use Rattle.check_sign.specs.PathLaws.{path_more}
use Rattle.check_sign.specs.Standing.{DeskStands}
use Rattle.client_calls.specs.Machines.{state_after}
use Rattle.client_calls.specs.Steps.{ClientStep}
use Rattle.client_calls.proofs.SeatLemmas.{makes_none, makes_on}
use Rattle.session_format.specs.Requests.{request_of}
use Rattle.session_run.specs.Acts.{AtBench, MakesAt, Turned}
use Rattle.session_run.specs.Plans.{moment_by}
use Rattle.session_run.specs.Turns.{Turn, IsPlanned, AllPlanned, AskAsWritten, calls_of, moment_after, steps_of, made}
use Rattle.session_run.specs.Runs.{Run, Ran, Laws}
use Rattle.session_run.proofs.PathLemmas.{path_machine, path_fares}
use Rattle.session_run.proofs.SafeLemmas.{safe_run}
use Rattle.session_run.proofs.SilentLemmas.{silent_turns, silent_run}
use Rattle.session_run.proofs.CompleteLemmas.{complete_run}

pub moment_then : (moment : ℕ) (ts us : List Turn) → moment_after moment (ts ++ us) ≡ moment_after (moment_after moment ts) us
moment_then moment [] us = refl
moment_then moment (t ∷ ts) us = moment_then (moment_by moment (t.request)) ts us

pub same_keys : {X Y : Type 0} (R : X → Y → Type 0) (xs : List (PubKey × X)) (ys : List (PubKey × Y)) → EachKey R xs ys → keys_of xs ≡ keys_of ys
same_keys R [] [] h = refl
same_keys R [] (y ∷ ys) h = absurd h
same_keys R (x ∷ xs) [] h = absurd h
same_keys R (x ∷ xs) (y ∷ ys) h = ap (λ k. k ∷ keys_of xs) h.0 ∙ ap (λ ks. y.0 ∷ ks) (same_keys R xs ys h.2)

module _ {D : Type 0} (moment : D → ℕ) (leaves : D → ℕ → List ℕ → Type 0) (faults : D → ℕ) where
  abbrev Led : Seen D → List (DeskCall × DeskReply) → Seen D → Type 0
  Led d xs e = Path moment leaves faults d xs e

  led_more : (d e f : Seen D) (xs ys : List (DeskCall × DeskReply)) → Led d xs e → Led e ys f → Led d (xs ++ ys) f
  led_more d e f xs ys p q = path_more moment leaves faults d e f xs ys p q

  pub makes_nothing : (a : AtBench D) → MakesAt moment leaves faults a [] a
  makes_nothing a = makes_none Led (λ d. refl) a

  pub makes_then : (a b c : AtBench D) (xs ys : List ClientStep) → MakesAt moment leaves faults a xs b → MakesAt moment leaves faults b ys c → MakesAt moment leaves faults a (xs ++ ys) c
  makes_then a b c xs ys p q = makes_on Led led_more a b c xs ys p q

  module _ (chain : SessionChain) where
    -- one turn more
    pub run_then : (latest : ℕ) (ts : List Turn) (t : Turn) (a b c : AtBench D) → Run moment leaves faults chain latest ts a b → b.desk.contents.torn ≡ None → t.request ≡ request_of chain t.line
        → Turned moment leaves faults chain (moment_after latest ts) t b c → Run moment leaves faults chain latest (ts ++ t ∷ []) a c
    run_then latest [] t a b c same up is turned = let P : AtBench D → Type 0 = λ x. Run moment leaves faults chain latest (t ∷ []) x c in subst P same (c, up, is, turned, refl)
    run_then latest (u ∷ us) t a b c run up is turned = (run.0, run.1, run.2, run.3, run_then (moment_by latest u.request) us t run.0 b c run.4 up is turned)

    -- all steps of a run
    pub run_makes : (latest : ℕ) (ts : List Turn) (a b : AtBench D) → Run moment leaves faults chain latest ts a b → MakesAt moment leaves faults a (steps_of ts) b
    run_makes latest [] a b same = let P : AtBench D → Type 0 = λ x. MakesAt moment leaves faults a [] x in subst P (sym same) (makes_nothing a)
    run_makes latest (t ∷ ts) a b run = makes_then a run.0 b t.steps (steps_of ts) run.3.makes (run_makes (moment_by latest t.request) ts run.0 b run.4)

    asks_all : (latest : ℕ) (ts : List Turn) (a b : AtBench D) → Run moment leaves faults chain latest ts a b → AskAsWritten chain ts
    asks_all latest [] a b same = refl
    asks_all latest (t ∷ ts) a b run =
        ap (λ q. q ∷ map (λ (u : Turn). u.request) ts) run.2 ∙ ap (λ l. request_of chain t.line ∷ l) (asks_all (moment_by latest t.request) ts run.0 b run.4)

    -- each turn did what its line asks
    pub planned_all : (latest : ℕ) (ts : List Turn) (a b : AtBench D) (state : State) → Run moment leaves faults chain latest ts a b → DeskStands a.desk.contents state → AllPlanned chain latest state ts
    planned_all latest [] a b state same stands = tt
    planned_all latest (t ∷ ts) a b state run stands =
        let K : List PubKey → Type 0 = λ ks. IsPlanned chain ks latest t in
        let one = path_machine moment leaves faults a.desk run.0.desk (calls_of t) run.3.makes.desk state stands in (
          subst K (same_keys Stands a.desk.contents.keys state.keys stands.keys) run.3.planned,
          planned_all (moment_by latest t.request) ts run.0 b (state_after state (calls_of t)) run.4 one.1,
        )

    pub ran_of : (latest : ℕ) (ts : List Turn) (a b : AtBench D) → Run moment leaves faults chain latest ts a b → Ran faults chain latest ts a b
    ran_of latest ts a b run =
        let makes = run_makes latest ts a b run in
        record {
          planned = λ state stands. planned_all latest ts a b state run stands;
          machine = λ state stands. path_machine moment leaves faults a.desk b.desk (made ts) makes.desk state stands;
          requests = asks_all latest ts a b run;
          signer = makes.signer;
          fares = path_fares moment leaves faults a.desk b.desk (made ts) makes.desk;
        }

    pub laws_of : (latest : ℕ) (ts : List Turn) (a b : AtBench D) → Ran faults chain latest ts a b → Laws latest ts a
    laws_of latest ts a b ran = record {
      safe = λ state stands. safe_run chain latest state ts (ran.machine state stands).0 (ran.planned state stands);
      starts_silent = λ state stands key off. silent_turns chain latest state key ts (ran.machine state stands).0 (ran.planned state stands) off;
      silent = λ state stands. silent_run chain latest state ts (ran.machine state stands).0 (ran.planned state stands);
      complete = λ state stands. complete_run chain latest state ts (ran.machine state stands).0 (ran.planned state stands);
    }
