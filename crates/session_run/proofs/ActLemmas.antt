-- How a plan ends at a bench.
use Rattle.std.proofs.Common.{◌≡◌, ℕ, ◌≤◌, List, [], ◌∷◌, ◌++◌, map, Option, Some, None, Result, Ok, Err, refl, sym, ◌∙◌, ap, subst, append-nil}
use Rattle.std.specs.Prelude.{IfOk, IfSome, OnErr}
use Rattle.edge_kit.specs.Causes.{Rose}
use Rattle.edge_kit.specs.Tellings.{Tells}
use Rattle.edge_kit.specs.declared.bytes.PubKey.{PubKey}
use Rattle.slash_defs.specs.declared.message.Message.{Message}
use Rattle.signer_link.specs.Outcomes.{CountsDenial, sign_denied}
use Rattle.signer_link.specs.Signing.{asked, told_sign}
use Rattle.signer_link.specs.declared.request.SignRequest.{SignRequest}
use Rattle.signer_link.specs.declared.reply.SignReply.{SignReply}
use Rattle.signer_link.specs.declared.reply.Told.{Told}
use Rattle.signer_link.specs.declared.reply.SignReply.TheVariants as signing
use Rattle.check_sign.specs.Contents.{Seen}
use Rattle.check_sign.specs.Calls.{IsCallOf}
use Rattle.check_sign.specs.Paths.{Path}
use Rattle.check_sign.specs.PathLaws.{path_more}
use Rattle.desk_machine.specs.Given.{given}
use Rattle.desk_machine.specs.Kinds.{IsKind}
use Rattle.desk_machine.specs.declared.open_grant.OpenGrant.{OpenGrant}
use Rattle.desk_machine.specs.declared.call.DeskCall.{DeskCall}
use Rattle.desk_machine.specs.declared.call.DeskCall.TheVariants as call
use Rattle.desk_machine.specs.declared.call.DeskReply.{DeskReply}
use Rattle.desk_machine.specs.declared.call.DeskReply.TheVariants as reply
use Rattle.desk_machine.specs.declared.call.Outcome.{Outcome}
use Rattle.desk_machine.specs.declared.call.Outcome.TheVariants as outcome
use Rattle.call_plans.specs.Plans.{Done, bind, Follows}
use Rattle.call_plans.proofs.PlanLemmas.{cut_now, follows_bind, follows_cut}
use Rattle.call_plans.specs.Paths.{Carries}
use Rattle.client_calls.specs.Seats.{SignerSeen, Does, Ran, at_seat}
use Rattle.client_calls.specs.Steps.{ClientStep, ClientPlan, Calls, Signs, Replies, Signed, Fits, told_under, desk_calls}
use Rattle.client_calls.proofs.AskLemmas.{AllAsked, steps_asked, cut_after}
use Rattle.client_calls.proofs.QuietLemmas.{AllQuiet, IsQuiet, IsQuietCall, quiet_given}
use Rattle.client_calls.proofs.SeatLemmas.{signer_none, sign_fault, makes_step, ran_of}
use Rattle.session_format.specs.Answers.{answer_text}
use Rattle.session_format.specs.declared.answer.Answer.{Answer}
use Rattle.session_run.specs.Acts.{AtBench, MakesAt, drop_of, Broken, Answered, PlanEnds, IsLineOf, SignDropped, SignEnds}
use Rattle.session_run.specs.Plans.{answer_given, answered, calls, outcome_of, signed_answer, settles, signed, signs, proposed_by, proposes}
use Rattle.session_run.proofs.ReplyLemmas.{IsNoGrant}
use Rattle.session_run.proofs.RunLemmas.{makes_nothing}

module _ {D : Type 0} (moment : D → ℕ) (leaves : D → ℕ → List ℕ → Type 0) (faults : D → ℕ) where
  -- ---- steps at a bench

  led_more : (d e f : Seen D) (xs ys : List (DeskCall × DeskReply)) → Path moment leaves faults d xs e → Path moment leaves faults e ys f → Path moment leaves faults d (xs ++ ys) f
  led_more d e f xs ys p q = path_more moment leaves faults d e f xs ys p q

  abbrev Led : Seen D → List (DeskCall × DeskReply) → Seen D → Type 0
  Led d xs e = Path moment leaves faults d xs e

  -- a call of the desk before others
  pub makes_call : (d e : Seen D) (s : SignerSeen) (b : AtBench D) (c : DeskCall) (r : DeskReply) (steps : List ClientStep) → IsCallOf moment leaves faults d e c r → MakesAt moment leaves faults (at_seat e s) steps b
      → MakesAt moment leaves faults (at_seat d s) ((Calls c, Replies r) ∷ steps) b
  makes_call d e s b c r steps h rest = makes_step Led led_more (at_seat d s) (at_seat e s) b (Calls c, Replies r) steps (record { desk = (e, h, refl); signer = signer_none s }) rest

  told_by : (g : OpenGrant) (request : SignRequest) (o : Option Message) (m : Message) (r : SignReply) (x y : Option (List Told)) → o ≡ Some m → Tells x y (told_sign (asked g.key m request) r) → Tells x y (told_under g request o r)
  told_by g request o m r x y e h = let P : Option Message → Type 0 = λ q. Tells x y (told_under g request q r) in subst P (sym e) h

  -- a signing before others
  pub makes_sign : (d : Seen D) (s t : SignerSeen) (b : AtBench D) (g : OpenGrant) (m : Message) (request : SignRequest) (r : SignReply) (steps : List ClientStep) → g.message ≡ Some m
      → Tells s.told t.told (told_sign (asked g.key m request) r) → s.faults ≤ t.faults → (r ≡ signing.Fault → Rose s.faults t.faults) → s.denials ≤ t.denials → CountsDenial (sign_denied r) s.denials t.denials
      → MakesAt moment leaves faults (at_seat d t) steps b → MakesAt moment leaves faults (at_seat d s) ((Signs g request, Signed r) ∷ steps) b
  makes_sign d s t b g m request r steps is told later fault denials denied rest =
      makes_step Led led_more (at_seat d s) (at_seat d t) b (Signs g request, Signed r) steps
      (record { desk = refl; signer = record { told = told_by g request g.message m r s.told t.told is told; later = later; fault = sign_fault r s.faults t.faults fault; denials = denials; denied = denied } }) rest

  -- ---- a plan that asks for no grant

  none_open : (steps : List ClientStep) → AllQuiet steps → steps ≡ steps ++ map drop_of (given [] (desk_calls steps))
  none_open steps quiet = sym (ap (λ l. steps ++ map drop_of l) (quiet_given [] steps quiet) ∙ append-nil steps)

  module _ {T E : Type 0} (bytes : T → List ℕ) (result : Result T E) (plan : ClientPlan Answer) (a b : AtBench D) (steps : List ClientStep) where
    pub plan_done : (answer : Answer) → AllQuiet steps → Follows Fits plan steps (Some answer) → MakesAt moment leaves faults a steps b → IfOk result (λ text. bytes text ≡ answer_text answer) → PlanEnds moment leaves faults bytes plan a b result
    plan_done answer quiet f makes text = at result text where
      at : (x : Result T E) → IfOk x (λ text. bytes text ≡ answer_text answer) → PlanEnds moment leaves faults bytes plan a b x
      at (Ok t) is = record { steps = steps; answer = answer; follows = f; makes = makes; text_is = is }
      at (Err e) is = record { steps = steps; breaks_off = record { front = steps; follows = cut_after Fits plan steps answer f; steps_are = none_open steps quiet }; makes = makes }

  pub plan_cut : (plan : ClientPlan Answer) (a b : AtBench D) (steps : List ClientStep) → AllQuiet steps → Follows Fits plan steps None → MakesAt moment leaves faults a steps b → Broken moment leaves faults plan a b
  plan_cut plan a b steps quiet f makes = record { steps = steps; breaks_off = record { front = steps; follows = f; steps_are = none_open steps quiet }; makes = makes }

  -- nothing was asked
  pub nothing_asked : {T E : Type 0} (bytes : T → List ℕ) (result : Result T E) (plan : ClientPlan Answer) (a : AtBench D) (answer : Answer) → Follows Fits plan [] (Some answer) → IfOk result (λ text. bytes text ≡ answer_text answer) → PlanEnds moment leaves faults bytes plan a a result
  nothing_asked bytes result plan a answer f text = plan_done bytes result plan a a [] answer tt f (makes_nothing moment leaves faults a) text

  -- the same of the text itself
  pub bad_answered : (plan : ClientPlan Answer) (a : AtBench D) (answer : Answer) (text : List ℕ) → Follows Fits plan [] (Some answer) → text ≡ answer_text answer → Answered moment leaves faults plan a a text
  bad_answered plan a answer text f is = record { steps = []; answer = answer; follows = f; makes = makes_nothing moment leaves faults a; text_is = is }

  pub none_done : (plan : ClientPlan Answer) (a : AtBench D) → Broken moment leaves faults plan a a
  none_done plan a = plan_cut plan a a [] tt (cut_now Fits plan) (makes_nothing moment leaves faults a)

  -- ---- custody of keys

  module _ {X T E : Type 0} (bytes : T → List ℕ) (result : Result T E) (plan : ClientPlan X) (answer_by : X → Answer) (a b : AtBench D) where
    -- the plan gave a value, and this is the line of its answer
    pub custody_done : (x : X) (given : Answer) → AllAsked IsQuiet plan → Ran Led plan a b (Some x) → given ≡ answer_by x → IsLineOf bytes (Some given) result → PlanEnds moment leaves faults bytes (bind plan (λ x. Done (answer_by x))) a b result
    custody_done x given quiet ran is line =
        let L : List ClientStep → Type 0 = λ l. Follows Fits (bind plan (λ x. Done (answer_by x))) l (Some (answer_by x)) in
        plan_done bytes result (bind plan (λ x. Done (answer_by x))) a b ran.steps (answer_by x) (steps_asked Fits IsQuiet plan ran.steps (Some x) quiet ran.follows)
        (subst L (append-nil ran.steps) (follows_bind Fits plan (λ x. Done (answer_by x)) ran.steps x ran.follows [] (Some (answer_by x)) refl)) (record { desk = ran.desk; signer = ran.signer }) (text_is result line)
      where
        some_same : (u v : Answer) → Some u ≡ Some v → u ≡ v
        some_same u v e = cc

        text_is : (r : Result T E) → IsLineOf bytes (Some given) r → IfOk r (λ text. bytes text ≡ answer_text (answer_by x))
        text_is (Ok text) l = l.2 ∙ ap answer_text (sym (some_same given l.0 l.1) ∙ is)
        text_is (Err e) l = tt

  pub ran_at : {X : Type 0} (plan : ClientPlan X) (a b : AtBench D) (v : Option X) → Carries Fits (Does Led) plan a b v → Ran Led plan a b v
  ran_at plan a b v h = ran_of Led (λ d. refl) led_more plan a b v h

  -- memory ran out in it
  pub custody_cut : {X : Type 0} (plan : ClientPlan X) (answer_by : X → Answer) (a b : AtBench D) → AllAsked IsQuiet plan → Ran Led plan a b None → Broken moment leaves faults (bind plan (λ x. Done (answer_by x))) a b
  custody_cut plan answer_by a b quiet ran =
      plan_cut (bind plan (λ x. Done (answer_by x))) a b ran.steps (steps_asked Fits IsQuiet plan ran.steps None quiet ran.follows) (follows_cut Fits plan (λ x. Done (answer_by x)) ran.steps ran.follows) (record { desk = ran.desk; signer = ran.signer })

  -- ---- one call

  given_done : (o : Option Answer) (answer : Answer) → o ≡ Some answer → Follows Fits (answered o) [] (Some answer)
  given_done o answer e = let P : Option Answer → Type 0 = λ x. Follows Fits (answered x) [] (Some answer) in subst P (sym e) refl

  line_by : {T E : Type 0} (bytes : T → List ℕ) (result : Result T E) (o p : Option Answer) → o ≡ p → IsLineOf bytes o result → IsLineOf bytes p result
  line_by {T} {E} bytes result o p e line = let P : Option Answer → Type 0 = λ x. IsLineOf {T = T} {E = E} bytes x result in subst P e line

  pub call_ends : {T E : Type 0} (bytes : T → List ℕ) (result : Result T E) (d e : Seen D) (s : SignerSeen) (c : DeskCall) (r : DeskReply) (o : Option Answer) → IsQuietCall c → IsCallOf moment leaves faults d e c r → o ≡ answer_given r → IsLineOf bytes o result
      → PlanEnds moment leaves faults bytes (calls c) (at_seat d s) (at_seat e s) result
  call_ends {T} {E} bytes result d e s c r o quiet h o_is line = at result (line_by {T = T} {E = E} bytes result o (answer_given r) o_is line) where
    steps : List ClientStep
    steps = (Calls c, Replies r) ∷ []

    kind : IsKind c r
    kind = h.counted.kind

    makes : MakesAt moment leaves faults (at_seat d s) steps (at_seat e s)
    makes = makes_call d e s (at_seat e s) c r [] h (makes_nothing moment leaves faults (at_seat e s))

    at : (x : Result T E) → IsLineOf bytes (answer_given r) x → PlanEnds moment leaves faults bytes (calls c) (at_seat d s) (at_seat e s) x
    at (Ok text) is = record { steps = steps; answer = is.0; follows = (refl, kind, given_done (answer_given r) is.0 is.1); makes = makes; text_is = is.2 }
    at (Err x) is = plan_cut (calls c) (at_seat d s) (at_seat e s) steps ((quiet, kind), tt) (refl, kind, cut_now Fits (answered (answer_given r))) makes

  -- ---- a proposal

  plain_plan : (request : SignRequest) (r : DeskReply) → IsNoGrant r → proposed_by request r ≡ answered (answer_given r)
  plain_plan request (reply.Granted g) plain = absurd plain
  plain_plan request r plain = refl

  plain_given : (key : PubKey) (m : Message) (now : ℕ) (r : DeskReply) → IsNoGrant r → given [] ((call.Propose key m now, r) ∷ []) ≡ []
  plain_given key m now (reply.Granted g) plain = absurd plain
  plain_given key m now r plain = refl

  module _ {T E : Type 0} (bytes : T → List ℕ) (result : Result T E) (request : SignRequest) (key : PubKey) (m : Message) (now : ℕ) (d e : Seen D) (s : SignerSeen) where
    abbrev Asked : DeskCall
    Asked = call.Propose key m now

    pub plain_ends : (r : DeskReply) (o : Option Answer) → IsNoGrant r → IsCallOf moment leaves faults d e Asked r → o ≡ answer_given r → IsLineOf bytes o result → PlanEnds moment leaves faults bytes (proposes request Asked) (at_seat d s) (at_seat e s) result
    plain_ends r o plain h o_is line = at result (line_by {T = T} {E = E} bytes result o (answer_given r) o_is line) where
      kind : IsKind (call.Propose key m now) r
      kind = h.counted.kind

      makes : MakesAt moment leaves faults (at_seat d s) ((Calls (call.Propose key m now), Replies r) ∷ []) (at_seat e s)
      makes = makes_call d e s (at_seat e s) (call.Propose key m now) r [] h (makes_nothing moment leaves faults (at_seat e s))

      at : (x : Result T E) → IsLineOf bytes (answer_given r) x → PlanEnds moment leaves faults bytes (proposes request (call.Propose key m now)) (at_seat d s) (at_seat e s) x
      at (Ok text) is =
          let P : ClientPlan Answer → Type 0 = λ p. Follows Fits p [] (Some is.0) in
          record {
            steps = (Calls (call.Propose key m now), Replies r) ∷ [];
            answer = is.0;
            follows = (refl, kind, subst P (sym (plain_plan request r plain)) (given_done (answer_given r) is.0 is.1));
            makes = makes;
            text_is = is.2;
          }
      at (Err x) is = record {
        steps = (Calls (call.Propose key m now), Replies r) ∷ [];
        breaks_off = record {
          front = (Calls (call.Propose key m now), Replies r) ∷ [];
          follows = (refl, kind, cut_now Fits (proposed_by request r));
          steps_are = ap (λ l. (Calls (call.Propose key m now), Replies r) ∷ map drop_of l) (sym (plain_given key m now r plain));
        };
        makes = makes;
      }

    pub granted_ends : (b : AtBench D) (g : OpenGrant) → IsCallOf moment leaves faults d e Asked (reply.Granted g) → SignEnds moment leaves faults bytes request g (at_seat e s) b result → PlanEnds moment leaves faults bytes (proposes request Asked) (at_seat d s) b result
    granted_ends b g h ends = at result ends where
      first : ClientStep
      first = (Calls (call.Propose key m now), Replies (reply.Granted g))

      led : (steps : List ClientStep) → MakesAt moment leaves faults (at_seat e s) steps b → MakesAt moment leaves faults (at_seat d s) (first ∷ steps) b
      led steps rest = makes_call d e s b (call.Propose key m now) (reply.Granted g) steps h rest

      at : (x : Result T E) → SignEnds moment leaves faults bytes request g (at_seat e s) b x → PlanEnds moment leaves faults bytes (proposes request (call.Propose key m now)) (at_seat d s) b x
      at (Ok text) is = record { steps = first ∷ is.steps; answer = is.answer; follows = (refl, tt, is.follows); makes = led is.steps is.makes; text_is = is.text_is }
      at (Err x) is =
          let asks : ClientStep = (Signs g request, Signed is.signing) in
          let S : Option Message → Type 0 = λ o. Follows Fits (signs request g o) (asks ∷ []) None in
          record {
            steps = first ∷ asks ∷ drop_of g ∷ [];
            breaks_off = record {
              front = first ∷ asks ∷ [];
              follows = (refl, tt, subst S (sym is.is_message) (refl, tt, cut_now Fits (signed g is.message (Signed is.signing))));
              steps_are = refl;
            };
            makes = led (asks ∷ drop_of g ∷ []) is.makes;
          }

  -- ---- under a grant

  given_settles : (g : OpenGrant) (o : Outcome) (given : Option Answer) (answer : Answer) → given ≡ Some answer → Follows Fits (settles g o given) ((Calls (call.Settle g o), Replies reply.Settled) ∷ []) (Some answer)
  given_settles g o given answer e =
      let P : Option Answer → Type 0 = λ x. Follows Fits (settles g o x) ((Calls (call.Settle g o), Replies reply.Settled) ∷ []) (Some answer) in
      subst P (sym e) (refl, tt, refl)

  module _ {T E : Type 0} (bytes : T → List ℕ) (result : Result T E) (request : SignRequest) (g : OpenGrant) (m : Message) (r : SignReply) (d e : Seen D) (s t : SignerSeen) (is_message : g.message ≡ Some m)
      (told : Tells s.told t.told (told_sign (asked g.key m request) r)) (later : s.faults ≤ t.faults) (fault : r ≡ signing.Fault → Rose s.faults t.faults) (denials : s.denials ≤ t.denials) (denied : CountsDenial (sign_denied r) s.denials t.denials) where
    settled_makes : (o : Outcome) → IsCallOf moment leaves faults d e (call.Settle g o) reply.Settled
        → MakesAt moment leaves faults (at_seat d s) ((Signs g request, Signed r) ∷ (Calls (call.Settle g o), Replies reply.Settled) ∷ []) (at_seat e t)
    settled_makes o h =
        makes_sign d s t (at_seat e t) g m request r ((Calls (call.Settle g o), Replies reply.Settled) ∷ []) is_message told later fault denials denied
        (makes_call d e t (at_seat e t) (call.Settle g o) reply.Settled [] h (makes_nothing moment leaves faults (at_seat e t)))

    -- memory ran out, and the grant was dropped
    pub sign_dropped : IsCallOf moment leaves faults d e (call.Settle g outcome.Dropped) reply.Settled → SignDropped moment leaves faults request g (at_seat d s) (at_seat e t)
    sign_dropped h = record { message = m; is_message = is_message; signing = r; makes = settled_makes outcome.Dropped h }

    pub sign_done : (text : T) (o : Outcome) (given : Option Answer) → o ≡ outcome_of r → IsCallOf moment leaves faults d e (call.Settle g o) reply.Settled → given ≡ signed_answer m r → IsLineOf bytes given result → result ≡ Ok text
        → Answered moment leaves faults (signs request g g.message) (at_seat d s) (at_seat e t) (bytes text)
    sign_done text o given o_is h given_is line ok =
        let R : Result T E → Type 0 = λ x. IsLineOf bytes given x in
        let whole = line_of_ok text given given_is (subst R ok line) in
        let S : Option Message → Type 0 = λ x. Follows Fits (signs request g x) ((Signs g request, Signed r) ∷ (Calls (call.Settle g o), Replies reply.Settled) ∷ []) (Some whole.0) in
        let O : Outcome → Type 0 = λ x. Follows Fits (settles g (outcome_of r) (signed_answer m r)) ((Calls (call.Settle g x), Replies reply.Settled) ∷ []) (Some whole.0) in
        record {
          steps = (Signs g request, Signed r) ∷ (Calls (call.Settle g o), Replies reply.Settled) ∷ [];
          answer = whole.0;
          follows = subst S (sym is_message) (refl, tt, subst O (sym o_is) (given_settles g (outcome_of r) (signed_answer m r) whole.0 whole.1));
          makes = settled_makes o h;
          text_is = whole.2;
        }
      where
        line_of_ok : (text : T) (given : Option Answer) → given ≡ signed_answer m r → IsLineOf {T = T} {E = E} bytes given (Ok text) → (a : Answer) × (signed_answer m r ≡ Some a) × (bytes text ≡ answer_text a)
        line_of_ok text given is line = (line.0, sym is ∙ line.1, line.2)

  -- what the signer was asked under a grant with this message
  pub told_at : (o : Option Message) (m : Message) (P : Message → Type 0) → o ≡ Some m → IfSome o P → P m
  told_at None m P e h = absurd (let bad : None ≡ Some m = e in cc)
  told_at (Some x) m P e h = subst P (let same : Some x ≡ Some m = e in cc) h

pub on_err : {T E A : Type 0} (result : Result T E) → A → OnErr result A
on_err (Ok text) h = tt
on_err (Err e) h = h
