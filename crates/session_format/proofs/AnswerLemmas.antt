-- No answer holds a float.
use Rattle.std.proofs.Common.{◌≡◌, ℕ, false, refl, List, Option, Some, None}
use Rattle.std.specs.Prelude.{codes, decimal}
use Rattle.slash_defs.specs.declared.entry.BlockEntry.{BlockEntry}
use Rattle.slash_defs.specs.declared.entry.VoteEntry.{VoteEntry}
use Rattle.edge_kit.specs.declared.bytes.Root.{Root}
use Rattle.protect_record.specs.declared.verdict.Verdict.{Verdict}
use Rattle.protect_record.specs.declared.verdict.Verdict.TheVariants as verdict
use Rattle.interchange_io.specs.declared.fault.ReadFault.{ReadFault}
use Rattle.interchange_io.specs.declared.fault.ReadFault.TheVariants as fault
use Rattle.serde_json.specs.Data.{string, member, no_members}
use Rattle.serde_json.specs.Written.{has_float}
use Rattle.custody_format.proofs.PlainLemmas.{imported_plain, deleted_plain, listed_plain}
use Rattle.session_format.specs.Causes.{cause_data}
use Rattle.session_format.specs.declared.cause.Cause.{Cause}
use Rattle.session_format.specs.declared.cause.Cause.TheVariants as cause
use Rattle.session_format.specs.Answers.{with_root, with_entry, block_data, vote_data, verdict_data, fault_data, answer_data}
use Rattle.session_format.specs.declared.answer.Answer.{Answer}
use Rattle.session_format.specs.declared.answer.Answer.TheVariants as answer

plain_block : (kept : BlockEntry) (reason : List ℕ) → has_float (with_entry (block_data kept) reason) ≡ false
plain_block kept reason = at kept.root where
  at : (root : Option Root) → has_float (with_entry (with_root root (member (codes "slot") (string (decimal kept.slot)) no_members)) reason) ≡ false
  at None = refl
  at (Some root) = refl

plain_vote : (kept : VoteEntry) (reason : List ℕ) → has_float (with_entry (vote_data kept) reason) ≡ false
plain_vote kept reason = at kept.root where
  at : (root : Option Root) → has_float (with_entry (with_root root
      (member (codes "source_epoch") (string (decimal kept.source)) (member (codes "target_epoch") (string (decimal kept.target)) no_members))) reason) ≡ false
  at None = refl
  at (Some root) = refl

plain_verdict : (v : Verdict) → has_float (verdict_data v) ≡ false
plain_verdict verdict.Pass = refl
plain_verdict (verdict.SlotBelow floor) = refl
plain_verdict (verdict.DoubleBlock kept) = plain_block kept (codes "double_block")
plain_verdict (verdict.SourceBelow floor) = refl
plain_verdict (verdict.TargetBelow floor) = refl
plain_verdict (verdict.DoubleVote kept) = plain_vote kept (codes "double_vote")
plain_verdict (verdict.Surrounds kept) = plain_vote kept (codes "surrounds")
plain_verdict (verdict.Surrounded kept) = plain_vote kept (codes "surrounded")

plain_fault : (f : ReadFault) → has_float (fault_data f) ≡ false
plain_fault (fault.TooLong len) = refl
plain_fault fault.NotUtf8 = refl
plain_fault fault.Json = refl
plain_fault (fault.Missing m) = refl
plain_fault (fault.Version text) = refl
plain_fault (fault.BadNumber m) = refl
plain_fault (fault.BadHex m) = refl

plain_cause : (c : Cause) → has_float (cause_data c) ≡ false
plain_cause cause.NoKey = refl
plain_cause (cause.Denied status) = refl
plain_cause cause.Fault = refl
plain_cause (cause.BadAnswer body) = refl

pub no_float : (a : Answer) → has_float (answer_data a) ≡ false
no_float (answer.Merged keys) = refl
no_float answer.Active = refl
no_float (answer.Imported statuses) = imported_plain statuses
no_float (answer.Deleted statuses file) = deleted_plain statuses file
no_float (answer.Listed keys) = listed_plain keys
no_float (answer.Signed signature root) = refl
no_float (answer.Unsigned c) = plain_cause c
no_float (answer.Exported file) = refl
no_float answer.Pruned = refl
no_float answer.Noted = refl
no_float (answer.Compacted before after) = refl
no_float (answer.BadRequest m) = refl
no_float (answer.BadFile f) = plain_fault f
no_float (answer.GenesisDiffers kept given) = refl
no_float (answer.TooManyKeys have new) = refl
no_float (answer.Full size wanted) = refl
no_float answer.LastGeneration = refl
no_float answer.Disk = refl
no_float answer.Unknown = refl
no_float answer.NotActive = refl
no_float answer.Closing = refl
no_float (answer.NotClosing state) = refl
no_float (answer.Busy grants) = refl
no_float (answer.Live epoch) = refl
no_float (answer.Watching first None) = refl
no_float (answer.Watching first (Some second)) = refl
no_float (answer.Refused v) = plain_verdict v
