-- What a record that lets a message pass keeps of it.
use Rattle.std.proofs.Common.{◌≡◌, ℕ, ◌<◌, ◌≤◌, Bool, Option, None, Some, arith}
use Rattle.std.specs.Prelude.{◌↔◌, IfSome, IsSomeAnd, IsTrue}
use Rattle.std.proofs.lemmas.Bool.Decides.{same_from_decides}
use Rattle.slash_defs.specs.declared.message.Message.{Message}
use Rattle.slash_defs.specs.declared.message.Message.TheVariants as message
use Rattle.protect_record.specs.Parts.{Parts}
use Rattle.protect_record.specs.Pasts.{Past}
use Rattle.protect_record.specs.Standing.{Stands}
use Rattle.protect_record.specs.Verdicts.{IsVerdict, IsOverFloors}
use Rattle.protect_record.specs.declared.verdict.Verdict.TheVariants as verdict
use Rattle.record_join.specs.Repeats.{IsRepeat, IsKeptIn, block_entry, vote_entry, repeats}
pub use Rattle.record_join.specs.RepeatLaws.{repeats_decides}

-- ---- what passes is not dead

block_lives : (floor : Option ℕ) (slot : ℕ) → IfSome floor (λ f. f ≤ slot) → ¬ (IsSomeAnd floor (λ f. slot < f))
block_lives None slot over dead = absurd dead
block_lives (Some f) slot over dead = absurd (omega (arith, over, dead))

vote_lives : (floors : Option (ℕ × ℕ)) (source target : ℕ) → IsOverFloors floors source target → ¬ (IsSomeAnd floors (λ floor. (target < floor.1) × (source ≤ floor.0)))
vote_lives None source target over dead = absurd dead
vote_lives (Some f) source target over dead = absurd (omega (arith, over.1, dead.0))

-- a record that lets a message pass keeps it exactly where the past has it
kept_or_not : (parts : Parts) (past : Past) (m : Message) → Stands parts past → IsVerdict parts m verdict.Pass → IsKeptIn parts m ↔ IsRepeat past m
kept_or_not parts past (message.Block slot root) stands pass =
    let tie = stands.blocks (block_entry slot root) in
    (λ h. (tie.0 h).0, λ h. tie.1 (h, block_lives parts.floors.block slot pass.0))
kept_or_not parts past (message.Vote source target root) stands pass =
    let tie = stands.votes (vote_entry source target root) in
    (λ h. (tie.0 h).0, λ h. tie.1 (h, vote_lives parts.floors.vote source target pass.0))

-- so what was found is what the past has
pub found_is : (parts : Parts) (past : Past) (m : Message) (repeat : Bool) → Stands parts past → IsVerdict parts m verdict.Pass → IsTrue repeat ↔ IsKeptIn parts m → repeat ≡ repeats past m
found_is parts past m repeat stands pass found =
    let tie = kept_or_not parts past m stands pass in
    same_from_decides repeat (repeats past m) (λ e. tie.0 (found.0 e), λ h. found.1 (tie.1 h)) (repeats_decides past m)
