-- What is printed of how a duty ended.
use Rattle.std.specs.Prelude.{ℕ, List, ◌++◌, codes}
use Rattle.duty_plans.specs.declared.result.Refusal.{Refusal}
use Rattle.duty_plans.specs.declared.result.Refusal.TheVariants as refusal
use Rattle.duty_plans.specs.declared.result.Unsigned.{Unsigned}
use Rattle.duty_plans.specs.declared.result.Unsigned.TheVariants as unsigned
use Rattle.duty_plans.specs.declared.result.DutyResult.{DutyResult}
use Rattle.duty_plans.specs.declared.result.DutyResult.TheVariants as ended

abbrev pub refusal_word : Refusal → List ℕ
refusal_word refusal.Disk = codes "disk"
refusal_word refusal.Unknown = codes "unknown"
refusal_word refusal.NotActive = codes "not_active"
refusal_word refusal.Closing = codes "closing"
refusal_word refusal.Live = codes "live"
refusal_word refusal.Watching = codes "watching"
refusal_word refusal.SlotBelow = codes "slot_below"
refusal_word refusal.DoubleBlock = codes "double_block"
refusal_word refusal.SourceBelow = codes "source_below"
refusal_word refusal.TargetBelow = codes "target_below"
refusal_word refusal.DoubleVote = codes "double_vote"
refusal_word refusal.Surrounds = codes "surrounds"
refusal_word refusal.Surrounded = codes "surrounded"
refusal_word refusal.Full = codes "full"

abbrev pub unsigned_word : Unsigned → List ℕ
unsigned_word unsigned.NoKey = codes "no_key"
unsigned_word unsigned.Denied = codes "denied"
unsigned_word unsigned.Fault = codes "fault"
unsigned_word unsigned.BadAnswer = codes "bad_answer"

abbrev pub result_words : DutyResult → List ℕ
result_words ended.Sent = codes "sent"
result_words (ended.Refused why) = codes "refused " ++ refusal_word why
result_words (ended.Unsigned why) = codes "unsigned " ++ unsigned_word why
result_words ended.NoData = codes "nodata none"
result_words ended.DataDiffers = codes "nodata differs"
result_words ended.Unposted = codes "unposted"
