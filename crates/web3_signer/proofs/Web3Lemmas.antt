-- A call of Web3Signer, from the HTTP call that it makes.
use Rattle.std.proofs.Common.{◌≡◌, ◌∙◌, ◌⊎◌, inl, inr, ℕ, List, Option, Some, None, Result, Err, refl, subst, arith}
use Rattle.std.specs.Global.{Vec}
use Rattle.http_wire.specs.declared.message.Response.{Response}
use Rattle.http_wire.specs.declared.message.WireFault.{WireFault}
use Rattle.http_wire.specs.declared.message.WireFault.TheVariants as fault
use Rattle.http_wire.proofs.ListenLemmas.{Stays-same}
use Rattle.service_url.specs.Services.{Service}
use Rattle.http_call.specs.Calls.{IsCall, called_text}
use Rattle.http_call.proofs.CallLemmas.{appends_nothing, front_none, unanswered}
use Rattle.edge_kit.specs.Tellings.{Tells}
use Rattle.signer_link.specs.declared.reply.SignReply.{SignReply}
use Rattle.signer_link.specs.declared.reply.Told.{Told}
use Rattle.signer_link.specs.Keeping.{IsReady, kept, told_by}
use Rattle.web3_signer.specs.Web3Calls.{IsWeb3Call}

-- memory ran out before the call
pub uncalled : {Reply : Type 0} (reading : Result Response WireFault → Reply) (lacks : Reply) (text : List ℕ) (h : Option (List ℕ)) (xs : Option (List (List ℕ))) (f : ℕ) → IsWeb3Call reading lacks text h h xs xs f f lacks
uncalled reading lacks text h xs f = record {
  response = Err fault.OutOfMemory;
  call = record {
    sent = front_none text h h (appends_nothing h h (Stays-same h));
    answered = unanswered xs (Err fault.OutOfMemory) (λ left text. tt);
    left = inl (Stays-same xs);
    later = omega arith;
    fault = λ e. absurd (cc);
  };
  means = inr refl;
}

-- the call was made, with this path and this body
pub called : {Reply : Type 0} (reading : Result Response WireFault → Reply) (lacks : Reply) (url : Service) (method path body : List ℕ) (sent_path sent_body : List ℕ) (h i : Option (List ℕ)) (xs ys : Option (List (List ℕ))) (f g : ℕ) (response : Result Response WireFault) (answer : Reply) → sent_path ≡ path → sent_body ≡ body → IsCall (called_text url method sent_path sent_body) h i xs ys f g response → (answer ≡ reading response) ⊎ (answer ≡ lacks) → IsWeb3Call reading lacks (called_text url method path body) h i xs ys f g answer
called reading lacks url method path body sent_path sent_body h i xs ys f g response answer p b call means =
    let P : List ℕ → Type 0 = λ t. IsCall (called_text url method t sent_body) h i xs ys f g response in
    let B : List ℕ → Type 0 = λ t. IsCall (called_text url method path t) h i xs ys f g response in
    record { response = response; call = subst B b (subst P p call); means = means }

-- an answer that was told is the answer, or memory ran out
pub told_means : {Reply : Type 0} (read lacks answer told : Reply) → (answer ≡ read) ⊎ (answer ≡ lacks) → (told ≡ answer) ⊎ (told ≡ lacks) → (told ≡ read) ⊎ (told ≡ lacks)
told_means read lacks answer told means (inr e) = inr e
told_means read lacks answer told (inl m) (inl e) = inl (e ∙ m)
told_means read lacks answer told (inr m) (inl e) = inr (e ∙ m)

-- the call was made with this body, and its answer was told
pub asked : {Reply : Type 0} (reading : Result Response WireFault → Reply) (lacks : Reply) (url : Service) (method path body sent : List ℕ) (h i : Option (List ℕ)) (xs ys : Option (List (List ℕ))) (f g : ℕ) (answer told : Reply) → sent ≡ body → IsWeb3Call reading lacks (called_text url method path sent) h i xs ys f g answer → (told ≡ answer) ⊎ (told ≡ lacks) → IsWeb3Call reading lacks (called_text url method path body) h i xs ys f g told
asked reading lacks url method path body sent h i xs ys f g answer told b c t =
    let B : List ℕ → Type 0 = λ s. IsCall (called_text url method path s) h i xs ys f g c.response in
    record { response = c.response; call = subst B b c.call; means = told_means (reading c.response) lacks answer told c.means t }

-- what was made ready to be told is told
pub ready_told : {C : Type 0} (tell : C → SignReply → List Told) (told : Option (Vec Told)) (call : Option C) (given : C) (answer : SignReply) (now : Option (List Told)) → IsReady told call given → Tells (kept told) now (told_by tell call answer) → Tells (kept told) now (tell given answer)
ready_told tell None call given answer now ready tells = tt
ready_told tell (Some calls) call given answer now ready tells = subst (λ c. Tells (Some calls.items) now (told_by tell c answer)) ready tells
