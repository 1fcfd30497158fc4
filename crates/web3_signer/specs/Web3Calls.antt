-- A call of Web3Signer, by what its link tells.
use Rattle.std.specs.Prelude.{◌≡◌, ◌⊎◌, ℕ, List, Option, Result, codes}
use Rattle.edge_kit.specs.declared.bytes.PubKey.{PubKey}
use Rattle.service_url.specs.Services.{Service}
use Rattle.http_wire.specs.declared.message.Response.{Response}
use Rattle.http_wire.specs.declared.message.WireFault.{WireFault}
use Rattle.http_call.specs.Calls.{IsCall, called_text}
use Rattle.signer_link.specs.declared.reply.SignReply.{SignReply}
use Rattle.signer_link.specs.declared.reply.SignReply.TheVariants as reply
use Rattle.signer_link.specs.declared.reply.ImportReply.{ImportReply}
use Rattle.signer_link.specs.declared.reply.ImportReply.TheVariants as importing
use Rattle.signer_link.specs.declared.reply.DeleteReply.{DeleteReply}
use Rattle.signer_link.specs.declared.reply.DeleteReply.TheVariants as deleting
use Rattle.web3_signer.specs.Readings.{sign_reading, import_reading, delete_reading}
use Rattle.web3_signer.specs.Web3.{sign_path, keystores_path, import_body, delete_body}

-- One HTTP call with this request, whose response, or the lack of one, has this meaning, unless memory ran out. What
-- was sent, what the peer says over the next connections and the count of faults stand before and now.
pub record IsWeb3Call {Reply : Type 0} (reading : Result Response WireFault → Reply) (lacks : Reply) (text : List ℕ) (held_before held_now : Option (List ℕ)) (coming_before coming_now : Option (List (List ℕ))) (faults_before faults_now : ℕ) (answer : Reply) : Type 0 where
  pub response : Result Response WireFault
  pub call : IsCall text held_before held_now coming_before coming_now faults_before faults_now response
  pub means : (answer ≡ reading response) ⊎ (answer ≡ lacks)

-- for a signature by a key, with this body
abbrev pub AsksToSign : Service → PubKey → List ℕ → Option (List ℕ) → Option (List ℕ) → Option (List (List ℕ)) → Option (List (List ℕ)) → ℕ → ℕ → SignReply → Type 0
AsksToSign url key body = IsWeb3Call sign_reading reply.OutOfMemory (called_text url (codes "POST") (sign_path key) body)

-- to take a key in
abbrev pub AsksToImport : Service → List ℕ → List ℕ → Option (List ℕ) → Option (List ℕ) → Option (List (List ℕ)) → Option (List (List ℕ)) → ℕ → ℕ → ImportReply → Type 0
AsksToImport url keystore password = IsWeb3Call import_reading importing.OutOfMemory (called_text url (codes "POST") keystores_path (import_body keystore password))

-- to give a key up
abbrev pub AsksToDelete : Service → PubKey → Option (List ℕ) → Option (List ℕ) → Option (List (List ℕ)) → Option (List (List ℕ)) → ℕ → ℕ → DeleteReply → Type 0
AsksToDelete url key = IsWeb3Call delete_reading deleting.OutOfMemory (called_text url (codes "DELETE") keystores_path (delete_body key))
