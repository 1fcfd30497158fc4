-- What is read of a connection, and what is sent before the reply.
use Rattle.std.specs.Prelude.{◌≡◌, ◌⊎◌, ℕ, ◌≤◌, Bool, true, false, List, [], ◌++◌, length, Option, Result, Ok, Err}
use Rattle.std.specs.Io.KnownBytes.{Appends}
use Rattle.edge_kit.specs.Links.{Stays}
use Rattle.http_wire.specs.Expects.{continue_text, expects_continue}
use Rattle.http_wire.specs.Heads.{head_limit}
use Rattle.http_wire.specs.Listening.{AppendsFront}
use Rattle.http_wire.specs.Plain.{IsRequestHead, RequestBodyStep, RequestHeadStep}
use Rattle.http_wire.specs.declared.message.Request.{Request}
use Rattle.http_wire.specs.declared.message.WireFault.{WireFault}
use Rattle.http_wire.specs.declared.message.WireFault.TheVariants as fault
use Rattle.keymanager_routes.specs.declared.refusal.Refusal.{Refusal}

-- What the bytes that were taken are, where heads have to pass this check and these bytes are left, and what was read of them.
pub data MessageStep {A : Type 0} (check : Request → Result A Refusal) (left : Option (List ℕ)) (read : Result Request WireFault) (bytes : List ℕ) : Type 0 where
  -- No head, or why none was read to its end and checked. No more was taken than a head may have.
  headless : (f : WireFault) → read ≡ Err f → RequestHeadStep left (Err f) bytes → length bytes ≤ head_limit → MessageStep check left read bytes
  -- a head that fails a check, and no byte after it: it is refused, whatever its body
  refused : (head : Request) (r : Refusal) → read ≡ Ok head → IsRequestHead bytes head → head.body.items ≡ [] → check head ≡ Err r → MessageStep check left read bytes
  -- a head that passes the checks, and after it the body, or why there is none
  let_in : (head : Request) (what : A) (front rest : List ℕ) → bytes ≡ front ++ rest → IsRequestHead front head → check head ≡ Ok what → RequestBodyStep head left read rest → MessageStep check left read bytes

-- a head that fails a check was read, and nothing else was taken
abbrev pub IsRefusedHead : {A : Type 0} → (Request → Result A Refusal) → Result Request WireFault → List ℕ → Type 0
IsRefusedHead check (Ok head) bytes = IsRequestHead bytes head × (head.body.items ≡ []) × (r : Refusal) × (check head ≡ Err r)
IsRefusedHead check (Err f) bytes = ⊥

-- the response of status 100 was sent, whole, where it is asked for; else nothing was
abbrev pub Asks : Bool → Option (List ℕ) → Option (List ℕ) → Type 0
Asks true held_before held = Appends held_before held continue_text
Asks false held_before held = Stays held_before held

-- so it was; or the link failed at it, and a front of it was sent and no byte of the body taken
abbrev pub SaysContinue : Bool → Result Request WireFault → List ℕ → Option (List ℕ) → Option (List ℕ) → Type 0
SaysContinue asked read rest held_before held = Asks asked held_before held ⊎ ((asked ≡ true) × (read ≡ Err fault.Link) × (rest ≡ []) × AppendsFront held_before held continue_text)

-- It is sent after a head that passes its checks, and then only where that asks for it. Nothing else is sent before the reply.
abbrev pub Continues : {A : Type 0} (check : Request → Result A Refusal) (left : Option (List ℕ)) (read : Result Request WireFault) (bytes : List ℕ) → MessageStep check left read bytes → Option (List ℕ) → Option (List ℕ) → Type 0
Continues check left read bytes (headless f is none short) held_before held = Stays held_before held
Continues check left read bytes (refused head r is text empty fails) held_before held = Stays held_before held
Continues check left read bytes (let_in head what front rest split text passes step) held_before held = SaysContinue (expects_continue head) read rest held_before held
