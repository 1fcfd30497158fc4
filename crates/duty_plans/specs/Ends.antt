-- How duties ended, and what of them can be done again.
use Rattle.std.specs.Prelude.{ℕ, ◌+◌, if◌then◌else◌, Bool, true, false, List, [], ◌∷◌, map, drop, Option, Some, None}
use Rattle.duty_plans.specs.declared.ended.Aggregation.{Aggregation}
use Rattle.duty_plans.specs.declared.ended.Aggregation.TheVariants as votes
use Rattle.duty_plans.specs.declared.ended.Ended.{Ended}
use Rattle.duty_plans.specs.declared.ended.Unsent.{Unsent}
use Rattle.duty_plans.specs.declared.ended.Unsent.TheVariants as granted
use Rattle.duty_plans.specs.declared.result.Unsigned.TheVariants as unsigned
use Rattle.duty_plans.specs.declared.result.DutyResult.{DutyResult}
use Rattle.duty_plans.specs.declared.result.DutyResult.TheVariants as ended

-- another try may send what was granted: the service failed or answered something else, or no node took what was posted
abbrev pub is_repeated : DutyResult → Bool
is_repeated (ended.Unsigned unsigned.Fault) = true
is_repeated (ended.Unsigned unsigned.BadAnswer) = true
is_repeated ended.Unposted = true
is_repeated by = false

-- the end of a duty for which nothing is left
abbrev pub over : DutyResult → Ended
over by = record { result = by; unsent = None; aggregation = None }

-- what is known of a committee's votes by what is to be sent
abbrev pub aggregation_of : Unsent → Option Aggregation
aggregation_of granted.Reveal = None
aggregation_of (granted.Vote details) = Some (votes.Voted details)
aggregation_of (granted.Block block) = None

-- the end of a duty for which the desk gave no leave to send this
abbrev pub barred : Unsent → DutyResult → Ended
barred unsent by = record { result = by; unsent = None; aggregation = aggregation_of unsent }

-- the end of a duty for which this was granted
abbrev pub left_by : Unsent → DutyResult → Ended
left_by unsent by = record { result = by; unsent = if is_repeated by then Some unsent else None; aggregation = aggregation_of unsent }

abbrev pub results_of : List Ended → List DutyResult
results_of ends = map (λ e. e.result) ends

-- ---- ends of which those with something left were tried once more

-- how one ended at last, where these are the ends of the other tries from its own on
abbrev pub last_by : Option Unsent → DutyResult → List Ended → DutyResult
last_by None by again = by
last_by (Some unsent) by [] = by
last_by (Some unsent) by (a ∷ again) = a.result

abbrev pub last_result : Ended → List Ended → DutyResult
last_result e again = last_by e.unsent e.result again

-- those of the tries after it
abbrev pub left_after : Option Unsent → List Ended → List Ended
left_after None again = again
left_after (Some unsent) again = drop 1 again

abbrev pub place_by : Option Unsent → ℕ → ℕ
place_by None at = at
place_by (Some unsent) at = at + 1

abbrev pub place_after : Ended → ℕ → ℕ
place_after e at = place_by e.unsent at

-- how each ended at last, in order
abbrev pub merged : List Ended → List Ended → List DutyResult
merged [] again = []
merged (e ∷ ends) again = last_result e again ∷ merged ends (left_after e.unsent again)
