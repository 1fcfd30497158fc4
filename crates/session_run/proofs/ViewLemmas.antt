-- What the steps of a turn are: of a proposal, the call alone, or the call, the signing and the settling of its grant; of any other
-- line such that nothing is granted, settled or signed.
use Rattle.std.proofs.Common.{◌≡◌, ◌⊎◌, inl, inr, ℕ, List, [], ◌∷◌, Option, Some, None, Result, Ok, Err, refl, sym, ◌∙◌, ap, subst}
use Rattle.edge_kit.specs.declared.bytes.PubKey.{PubKey}
use Rattle.slash_defs.specs.declared.message.Message.{Message}
use Rattle.session_format.specs.declared.chain.SessionChain.{SessionChain}
use Rattle.signer_link.specs.declared.request.SignRequest.{SignRequest}
use Rattle.signer_link.specs.declared.reply.SignReply.{SignReply}
use Rattle.signer_link.specs.declared.reply.SignReply.TheVariants as signing
use Rattle.desk_machine.specs.Kinds.{IsKind}
use Rattle.desk_machine.specs.declared.open_grant.OpenGrant.{OpenGrant}
use Rattle.desk_machine.specs.declared.call.DeskCall.{DeskCall}
use Rattle.desk_machine.specs.declared.call.DeskCall.TheVariants as call
use Rattle.desk_machine.specs.declared.call.DeskReply.{DeskReply}
use Rattle.desk_machine.specs.declared.call.DeskReply.TheVariants as reply
use Rattle.desk_machine.specs.declared.call.Outcome.{Outcome}
use Rattle.call_plans.specs.Plans.{Done, Follows}
use Rattle.client_calls.specs.Steps.{ClientReply, ClientStep, Calls, Signs, Replies, ClosedBy, Signed, Imported, Deleted, Fits}
use Rattle.client_calls.proofs.AskLemmas.{AllAsked, asked_bind, steps_asked}
use Rattle.client_calls.proofs.QuietLemmas.{IsQuiet, IsQuietCall, AllQuiet}
use Rattle.key_custody.specs.Plans.{import_plan, list_plan, deletion_plan}
use Rattle.key_custody.proofs.QuietLemmas.{quiet_import, quiet_list, quiet_deletion}
use Rattle.session_format.specs.declared.answer.Answer.{Answer}
use Rattle.session_format.specs.declared.answer.Answer.TheVariants as answer
use Rattle.session_format.specs.declared.request.Op.{Op}
use Rattle.session_format.specs.declared.request.Op.TheVariants as op
use Rattle.session_format.specs.declared.request.Request.{Request}
use Rattle.session_format.specs.declared.member.Member.{Member}
use Rattle.session_run.specs.Plans.{answer_given, answered, replied, calls, outcome_of, signed_answer, settles, signed, signs, proposed_by, proposed, proposes, sign_request, import_answer, op_plan, line_plan, moment_at}
use Rattle.session_run.specs.Safe.{IsCarriedOut}
use Rattle.session_run.specs.Turns.{Turn, IsPlanned}

-- the call alone
pub record PlainProposal (c : DeskCall) (steps : List ClientStep) (answer : Answer) : Type 0 where
  pub reply : DeskReply
  pub steps_are : steps ≡ (Calls c, Replies reply) ∷ []
  pub ends : answer_given reply ≡ Some answer

-- under the grant the signer was asked, and the grant was settled
pub record GrantedProposal (request : SignRequest) (c : DeskCall) (steps : List ClientStep) (answer : Answer) : Type 0 where
  pub grant : OpenGrant
  pub message : Message
  pub signing : SignReply
  pub is_message : grant.message ≡ Some message
  pub steps_are : steps ≡ (Calls c, Replies (reply.Granted grant)) ∷ (Signs grant request, Signed signing) ∷ (Calls (call.Settle grant (outcome_of signing)), Replies reply.Settled) ∷ []
  pub carried : IsCarriedOut answer

abbrev pub ProposalView : SignRequest → DeskCall → List ClientStep → Answer → Type 0
ProposalView request c steps answer = PlainProposal c steps answer ⊎ GrantedProposal request c steps answer

-- ---- a proposal

answered_end : (o : Option Answer) (steps : List ClientStep) (a : Answer) → Follows Fits (answered o) steps (Some a) → steps ≡ []
answered_end o [] a f = refl
answered_end None (s ∷ steps) a f = absurd f
answered_end (Some x) (s ∷ steps) a f = absurd f

settle_kind : (grant : OpenGrant) (o : Outcome) (r : DeskReply) → IsKind (call.Settle grant o) r → r ≡ reply.Settled
settle_kind grant o reply.Settled k = refl
settle_kind grant o r k = absurd k

-- the settling, and the answer
settled_is : (grant : OpenGrant) (o : Outcome) (given answer : Answer) (steps : List ClientStep) → Follows Fits (settles grant o (Some given)) steps (Some answer)
    → (steps ≡ (Calls (call.Settle grant o), Replies reply.Settled) ∷ []) × (answer ≡ given)
settled_is grant o given answer [] f = absurd f
settled_is grant o given answer (s ∷ []) f = (ap (λ c. (c, s.1) ∷ []) f.0 ∙ ap (λ r. (Calls (call.Settle grant o), r) ∷ []) (by_reply s.1 f.1), f.2) where
  by_reply : (y : ClientReply) → Fits (Calls (call.Settle grant o)) y → y ≡ Replies reply.Settled
  by_reply (Replies r) k = ap Replies (settle_kind grant o r k)
  by_reply (ClosedBy made r) k = absurd k
  by_reply (Signed r) k = absurd k
  by_reply (Imported r) k = absurd k
  by_reply (Deleted r) k = absurd k
settled_is grant o given answer (s ∷ t ∷ steps) f = absurd f.2

some_answer : {A : Type 0} (a b : Answer) → ((a ≡ b) → A) → Some a ≡ Some b → A
some_answer a b k e = k (let h : Some a ≡ Some b = e in cc)

-- the answer of a signed or unsigned proposal
signed_carried : (m : Message) (s : SignReply) (a : Answer) → signed_answer m s ≡ Some a → IsCarriedOut a
signed_carried m (signing.Signed signature) a e = let P : Answer → Type 0 = IsCarriedOut in some_answer _ a (λ h. subst P h tt) e
signed_carried m (signing.NoKey status) a e = let P : Answer → Type 0 = IsCarriedOut in some_answer _ a (λ h. subst P h tt) e
signed_carried m (signing.Denied status) a e = let P : Answer → Type 0 = IsCarriedOut in some_answer _ a (λ h. subst P h tt) e
signed_carried m signing.Fault a e = let P : Answer → Type 0 = IsCarriedOut in some_answer _ a (λ h. subst P h tt) e
signed_carried m (signing.BadAnswer body) a e = let P : Answer → Type 0 = IsCarriedOut in some_answer _ a (λ h. subst P h tt) e
signed_carried m signing.OutOfMemory a e = absurd (let h : None ≡ Some a = e in cc)

module _ (request : SignRequest) (c : DeskCall) (answer : Answer) where
  abbrev Granted : OpenGrant → List ClientStep → Type 0
  Granted grant steps = GrantedProposal request c ((Calls c, Replies (reply.Granted grant)) ∷ steps) answer

  by_answer : (grant : OpenGrant) (m : Message) (s : SignReply) (o : Option Answer) (steps : List ClientStep) → grant.message ≡ Some m → signed_answer m s ≡ o → Follows Fits (settles grant (outcome_of s) o) steps (Some answer)
      → Granted grant ((Signs grant request, Signed s) ∷ steps)
  by_answer grant m s None [] e is f = absurd f
  by_answer grant m s None (x ∷ steps) e is f = absurd f
  by_answer grant m s (Some given) steps e is f =
      let x = settled_is grant (outcome_of s) given answer steps f in
      let P : Answer → Type 0 = IsCarriedOut in
      record {
        grant = grant;
        message = m;
        signing = s;
        is_message = e;
        steps_are = ap (λ l. (Calls c, Replies (reply.Granted grant)) ∷ (Signs grant request, Signed s) ∷ l) x.0;
        carried = subst P (sym x.1) (signed_carried m s given is);
      }

  by_message : (grant : OpenGrant) (o : Option Message) (steps : List ClientStep) → grant.message ≡ o → Follows Fits (signs request grant o) steps (Some answer) → Granted grant steps
  by_message grant None [] e f = absurd f
  by_message grant None (s ∷ steps) e f = absurd f
  by_message grant (Some m) [] e f = absurd f
  by_message grant (Some m) (s ∷ steps) e f =
      let G : List ClientStep → Type 0 = Granted grant in
      subst G (ap (λ q. (q, s.1) ∷ steps) (sym f.0)) (by_reply s.1 f.1 f.2) where
        by_reply : (y : ClientReply) → Fits (Signs grant request) y → Follows Fits (signed grant m y) steps (Some answer) → Granted grant ((Signs grant request, y) ∷ steps)
        by_reply (Signed r) k g = by_answer grant m r (signed_answer m r) steps e refl g
        by_reply (Replies r) k g = absurd k
        by_reply (ClosedBy made r) k g = absurd k
        by_reply (Imported r) k g = absurd k
        by_reply (Deleted r) k g = absurd k

module _ (request : SignRequest) (key : PubKey) (m : Message) (now : ℕ) (answer : Answer) where
  abbrev Asked : DeskCall
  Asked = call.Propose key m now

  is_given : (o : Option Answer) → Follows Fits (answered o) [] (Some answer) → o ≡ Some answer
  is_given None f = absurd f
  is_given (Some a) f = ap Some (sym f)

  plain : (r : DeskReply) (steps : List ClientStep) → Follows Fits (answered (answer_given r)) steps (Some answer) → ProposalView request Asked ((Calls Asked, Replies r) ∷ steps) answer
  plain r steps f =
      let none = answered_end (answer_given r) steps answer f in
      let F : List ClientStep → Type 0 = λ l. Follows Fits (answered (answer_given r)) l (Some answer) in
      inl (record { reply = r; steps_are = ap (λ l. (Calls Asked, Replies r) ∷ l) none; ends = is_given (answer_given r) (subst F none f) })

  by_desk : (r : DeskReply) (steps : List ClientStep) → IsKind Asked r → Follows Fits (proposed_by request r) steps (Some answer) → ProposalView request Asked ((Calls Asked, Replies r) ∷ steps) answer
  by_desk (reply.Granted grant) steps k f = inr (by_message request Asked answer grant grant.message steps refl f)
  by_desk reply.Disk steps k f = plain reply.Disk steps f
  by_desk reply.Unknown steps k f = plain reply.Unknown steps f
  by_desk reply.NotActive steps k f = plain reply.NotActive steps f
  by_desk reply.Closing steps k f = plain reply.Closing steps f
  by_desk (reply.Live epoch) steps k f = plain (reply.Live epoch) steps f
  by_desk (reply.Watching first second) steps k f = plain (reply.Watching first second) steps f
  by_desk (reply.Refused v) steps k f = plain (reply.Refused v) steps f
  by_desk reply.OutOfMemory steps k f = plain reply.OutOfMemory steps f
  by_desk (reply.Full size wanted) steps k f = plain (reply.Full size wanted) steps f
  by_desk r steps k f = absurd k

  pub proposal_of : (steps : List ClientStep) → Follows Fits (proposes request Asked) steps (Some answer) → ProposalView request Asked steps answer
  proposal_of [] f = absurd f
  proposal_of (s ∷ steps) f =
      let V : List ClientStep → Type 0 = λ l. ProposalView request Asked l answer in
      subst V (ap (λ q. (q, s.1) ∷ steps) (sym f.0)) (by_reply s.1 f.1 f.2) where
        by_reply : (y : ClientReply) → Fits (Calls Asked) y → Follows Fits (proposed request y) steps (Some answer) → ProposalView request Asked ((Calls Asked, y) ∷ steps) answer
        by_reply (Replies r) k g = by_desk r steps k g
        by_reply (ClosedBy made r) k g = absurd k
        by_reply (Signed r) k g = absurd k
        by_reply (Imported r) k g = absurd k
        by_reply (Deleted r) k g = absurd k

-- ---- a line that proposes nothing

quiet_answered : (o : Option Answer) → AllAsked IsQuiet (answered o)
quiet_answered None = tt
quiet_answered (Some a) = tt

quiet_replied : (y : ClientReply) → AllAsked IsQuiet (replied y)
quiet_replied (Replies r) = quiet_answered (answer_given r)
quiet_replied (ClosedBy made r) = tt
quiet_replied (Signed r) = tt
quiet_replied (Imported r) = tt
quiet_replied (Deleted r) = tt

pub quiet_calls : (c : DeskCall) → IsQuietCall c → AllAsked IsQuiet (calls c)
quiet_calls c h = (h, quiet_replied)

-- ---- a turn

pub record Proposal (t : Turn) : Type 0 where
  pub request : SignRequest
  pub key : PubKey
  pub message : Message
  pub now : ℕ
  pub view : ProposalView request (call.Propose key message now) t.steps t.answer

abbrev pub TurnView : Turn → Type 0
TurnView t = AllQuiet t.steps ⊎ Proposal t

module _ (chain : SessionChain) (kept : List PubKey) (t : Turn) where
  pub op_view : (now : ℕ) (o : Op) → Follows Fits (op_plan chain kept now o) t.steps (Some t.answer) → TurnView t
  op_view now (op.Propose key m object) f = inr (record {
    request = sign_request chain object;
    key = key;
    message = m;
    now = now;
    view = proposal_of (sign_request chain object) key m now t.answer t.steps f;
  })
  op_view now (op.Merge file) f = inl (steps_asked Fits IsQuiet (calls (call.Merge file)) t.steps (Some t.answer) (quiet_calls (call.Merge file) tt) f)
  op_view now (op.BadFile fault) f = inl (steps_asked Fits IsQuiet (op_plan chain kept now (op.BadFile fault)) t.steps (Some t.answer) tt f)
  op_view now (op.Activate key) f = inl (steps_asked Fits IsQuiet (calls (call.Activate key now)) t.steps (Some t.answer) (quiet_calls (call.Activate key now) tt) f)
  op_view now (op.Export None) f = inl (steps_asked Fits IsQuiet (calls (call.Export kept)) t.steps (Some t.answer) (quiet_calls (call.Export kept) tt) f)
  op_view now (op.Export (Some keys)) f = inl (steps_asked Fits IsQuiet (calls (call.Export keys)) t.steps (Some t.answer) (quiet_calls (call.Export keys) tt) f)
  op_view now (op.Prune key) f = inl (steps_asked Fits IsQuiet (calls (call.Prune key)) t.steps (Some t.answer) (quiet_calls (call.Prune key) tt) f)
  op_view now (op.Live key epoch live) f = inl (steps_asked Fits IsQuiet (calls (call.Answer key epoch live now)) t.steps (Some t.answer) (quiet_calls (call.Answer key epoch live now) tt) f)
  op_view now op.Compact f = inl (steps_asked Fits IsQuiet (calls call.Compact) t.steps (Some t.answer) (quiet_calls call.Compact tt) f)
  op_view now (op.Import file keystores) f =
      inl (steps_asked Fits IsQuiet (op_plan chain kept now (op.Import file keystores)) t.steps (Some t.answer) (asked_bind IsQuiet (import_plan file now keystores) (λ end. Done (import_answer end)) (quiet_import file now keystores) (λ end. tt)) f)
  op_view now (op.Delete keys) f =
      inl (steps_asked Fits IsQuiet (op_plan chain kept now (op.Delete keys)) t.steps (Some t.answer) (asked_bind IsQuiet (deletion_plan keys) (λ d. Done (answer.Deleted d.statuses d.file)) (quiet_deletion keys) (λ d. tt)) f)
  op_view now op.List f =
      inl (steps_asked Fits IsQuiet (op_plan chain kept now op.List) t.steps (Some t.answer) (asked_bind IsQuiet list_plan (λ keys. Done (answer.Listed keys)) quiet_list (λ keys. tt)) f)

  pub view_of : (latest : ℕ) → IsPlanned chain kept latest t → TurnView t
  view_of latest f = by_request t.request f where
    by_request : (q : Result Request Member) → Follows Fits (line_plan chain kept latest q) t.steps (Some t.answer) → TurnView t
    by_request (Err m) g = inl (steps_asked Fits IsQuiet (line_plan chain kept latest (Err m)) t.steps (Some t.answer) tt g)
    by_request (Ok q) g = op_view (moment_at latest q) q.op g
