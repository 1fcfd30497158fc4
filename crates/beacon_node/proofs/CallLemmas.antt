-- A call of a beacon node, from the HTTP call that it makes.
use Rattle.std.proofs.Common.{◌≡◌, ◌∙◌, ◌⊎◌, inl, inr, ℕ, List, Option, Some, None, Result, Err, refl, ap, subst, arith}
use Rattle.http_wire.specs.declared.message.Response.{Response}
use Rattle.http_wire.specs.declared.message.WireFault.{WireFault}
use Rattle.http_wire.specs.declared.message.WireFault.TheVariants as wire
use Rattle.http_wire.proofs.ListenLemmas.{Stays-same}
use Rattle.service_url.specs.Services.{Service}
use Rattle.http_call.specs.Calls.{IsCall, called_text}
use Rattle.http_call.proofs.CallLemmas.{appends_nothing, front_none, unanswered}
use Rattle.node_calls.specs.declared.answer.NodeFault.{NodeFault}
use Rattle.node_calls.specs.declared.answer.NodeFault.TheVariants as fault
use Rattle.std.specs.Global.{Vec}
use Rattle.edge_kit.specs.Tellings.{Tells}
use Rattle.node_calls.specs.declared.told.NodeCall.{NodeCall}
use Rattle.node_calls.specs.declared.told.PostCall.{PostCall}
use Rattle.node_calls.specs.Asking.{told_post}
use Rattle.beacon_node.specs.Calls.{IsNodeCall, IsReady, kept, told_ready}

module _ {Value Meaning : Type 0} (meaning : Result Value NodeFault → Result Meaning NodeFault) (reading : Result Response WireFault → Result Meaning NodeFault) where
  -- memory ran out before the call
  pub uncalled : (text : List ℕ) (h : Option (List ℕ)) (xs : Option (List (List ℕ))) (f : ℕ) → IsNodeCall meaning reading text h h xs xs f f (Err fault.OutOfMemory)
  uncalled text h xs f = record {
    response = Err wire.OutOfMemory;
    call = record {
      sent = front_none text h h (appends_nothing h h (Stays-same h));
      answered = unanswered xs (Err wire.OutOfMemory) (λ left text. tt);
      left = inl (Stays-same xs);
      later = omega arith;
      fault = λ e. absurd (cc);
    };
    means = inr refl;
  }

  -- the call was made with this method, path and body, and what it means was told
  pub called : (url : Service) (method path body sent_method sent_path sent_body : List ℕ) (h i : Option (List ℕ)) (xs ys : Option (List (List ℕ))) (f g : ℕ) (response : Result Response WireFault) (reply told : Result Value NodeFault) →
      sent_method ≡ method → sent_path ≡ path → sent_body ≡ body →
      IsCall (called_text url sent_method sent_path sent_body) h i xs ys f g response →
      (meaning reply ≡ reading response) ⊎ (reply ≡ Err fault.OutOfMemory) → (told ≡ reply) ⊎ (told ≡ Err fault.OutOfMemory) →
      IsNodeCall meaning reading (called_text url method path body) h i xs ys f g told
  called url method path body sent_method sent_path sent_body h i xs ys f g response reply told m p b call means same =
      let M : List ℕ → Type 0 = λ t. IsCall (called_text url t sent_path sent_body) h i xs ys f g response in
      let P : List ℕ → Type 0 = λ t. IsCall (called_text url method t sent_body) h i xs ys f g response in
      let B : List ℕ → Type 0 = λ t. IsCall (called_text url method path t) h i xs ys f g response in
      record { response = response; call = subst B b (subst P p (subst M m call)); means = at means same } where
        at : (meaning reply ≡ reading response) ⊎ (reply ≡ Err fault.OutOfMemory) → (told ≡ reply) ⊎ (told ≡ Err fault.OutOfMemory) → (meaning told ≡ reading response) ⊎ (told ≡ Err fault.OutOfMemory)
        at means (inr e) = inr e
        at (inl r) (inl e) = inl (ap meaning e ∙ r)
        at (inr r) (inl e) = inr (e ∙ r)

-- what was made ready to be told is told
pub ready_told : (told : Option (Vec NodeCall)) (call : Option PostCall) (given : PostCall) (reply : Result (Unit {0}) NodeFault) (now : Option (List NodeCall)) → IsReady told call given → Tells (kept told) now (told_ready call reply) → Tells (kept told) now (told_post given reply)
ready_told None call given reply now ready tells = tt
ready_told (Some calls) call given reply now ready tells = subst (λ c. Tells (Some calls.items) now (told_ready c reply)) ready tells
