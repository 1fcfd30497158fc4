-- How the serving of one line ends.
use Rattle.std.proofs.Common.{◌≡◌, ℕ, ◌<◌, ◌≤◌, List, length, take, Bool, true, false, Option, None, Some, Result, Ok, Err, refl, sym, ◌∙◌, subst}
use Rattle.std.specs.Prelude.{is_some}
use Rattle.std.specs.Map.{keys_of}
use Rattle.std.specs.Io.KnownBytes.{Appends}
use Rattle.edge_kit.specs.Causes.{Rose}
use Rattle.session_format.specs.declared.chain.SessionChain.{SessionChain}
use Rattle.desk_machine.specs.Machine.{moment_limit}
use Rattle.session_format.specs.Requests.{request_of}
use Rattle.session_format.specs.declared.request.Request.{Request}
use Rattle.session_format.specs.declared.member.Member.{Member}
use Rattle.session_run.specs.Acts.{AtBench, Answered}
use Rattle.session_run.specs.Exits.{IsTurn, ServesLine}
use Rattle.session_run.specs.Plans.{line_plan, moment_by}
use Rattle.session_run.specs.declared.session.Unserved.TheVariants as unserved

up_from : {X : Type 0} (o : Option X) → is_some o ≡ false → o ≡ None
up_from None h = refl
up_from (Some x) h = absurd (let bad : true ≡ false = h in cc)

module _ {D : Type 0} (moment : D → ℕ) (leaves : D → ℕ → List ℕ → Type 0) (faults : D → ℕ) {chain : SessionChain} {latest : ℕ} {before now : AtBench D} {q : Result Request Member}
    (line bytes : List ℕ) {text : List ℕ} (h1 h2 : Option (List ℕ)) (f1 f2 : ℕ) (is : q ≡ request_of chain line) (done : Answered moment leaves faults (line_plan chain (keys_of before.desk.contents.keys) latest q) before now text) (bytes_are : bytes ≡ text) where
  is_turn : IsTurn moment leaves faults chain latest line before now (record { line = line; request = q; steps = done.steps; answer = done.answer })
  is_turn = record { is_line = refl; request = is; turned = record { planned = done.follows; makes = done.makes } }

  pub serves_ok : (n : ℕ) (b : Bool) → Appends h1 h2 bytes → n ≡ moment_by latest q → n ≤ moment_limit → b ≡ is_some now.desk.contents.torn → b ≡ false → ServesLine moment leaves faults chain latest line before now h1 h2 f1 f2 (Ok n)
  serves_ok n b appended n_is within failed up = (record { line = line; request = q; steps = done.steps; answer = done.answer }, is_turn, subst (Appends h1 h2) (bytes_are ∙ done.text_is) appended, n_is, within, up_from now.desk.contents.torn (sym failed ∙ up))

  pub serves_disk : (b : Bool) → Appends h1 h2 bytes → b ≡ is_some now.desk.contents.torn → b ≡ true → ServesLine moment leaves faults chain latest line before now h1 h2 f1 f2 (Err unserved.Disk)
  serves_disk b appended failed down = (record { line = line; request = q; steps = done.steps; answer = done.answer }, is_turn, subst (Appends h1 h2) (bytes_are ∙ done.text_is) appended, sym failed ∙ down)

  pub serves_write : (n : ℕ) → n < length bytes → Appends h1 h2 (take n bytes) → Rose f1 f2 → ServesLine moment leaves faults chain latest line before now h1 h2 f1 f2 (Err unserved.Write)
  serves_write n within appended rose =
      let L : List ℕ → Type 0 = λ bs. n < length bs in
      let A : List ℕ → Type 0 = λ bs. Appends h1 h2 (take n bs) in
      (record { line = line; request = q; steps = done.steps; answer = done.answer }, is_turn, record { rose = rose; count = n; within = subst L (bytes_are ∙ done.text_is) within; front = subst A (bytes_are ∙ done.text_is) appended })
