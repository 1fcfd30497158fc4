-- The answer of a line as JSON, and its bytes.
use Rattle.std.specs.Prelude.{ℕ, List, [], ◌∷◌, ◌++◌, Option, Some, None, codes, decimal}
use Rattle.edge_kit.specs.Texts.{hex_text}
use Rattle.slash_defs.specs.declared.entry.BlockEntry.{BlockEntry}
use Rattle.slash_defs.specs.declared.entry.VoteEntry.{VoteEntry}
use Rattle.edge_kit.specs.declared.bytes.Root.{Root}
use Rattle.protect_record.specs.declared.verdict.Verdict.{Verdict}
use Rattle.protect_record.specs.declared.verdict.Verdict.TheVariants as verdict
use Rattle.interchange_io.specs.Members.{name_of}
use Rattle.interchange_io.specs.Writing.{file_text}
use Rattle.interchange_io.specs.declared.fault.ReadFault.{ReadFault}
use Rattle.interchange_io.specs.declared.fault.ReadFault.TheVariants as fault
use Rattle.serde_json.specs.Data.{Data, string, array, object, Items, item, no_items, Members, member, no_members}
use Rattle.serde_json.specs.Written.{compact_text}
use Rattle.key_custody.specs.declared.status.DeskRefusal.{DeskRefusal}
use Rattle.key_custody.specs.declared.status.DeskRefusal.TheVariants as refusal
use Rattle.custody_format.specs.Answers.{imported_data, deleted_data, listed_data, not_closing_data, busy_data}
use Rattle.session_format.specs.Causes.{cause_data}
use Rattle.session_format.specs.Members.{member_name}
use Rattle.session_format.specs.declared.answer.Answer.{Answer}
use Rattle.session_format.specs.declared.answer.Answer.TheVariants as answer

-- a signing root before the other members, where it is known
abbrev pub with_root : Option Root → Members → Data
with_root None others = object others
with_root (Some root) others = object (member (codes "signing_root") (string (hex_text root.0)) others)

-- an entry as an interchange file has it (EIP-3076)
abbrev pub block_data : BlockEntry → Data
block_data kept = with_root kept.root (member (codes "slot") (string (decimal kept.slot)) no_members)

abbrev pub vote_data : VoteEntry → Data
vote_data kept = with_root kept.root
    (member (codes "source_epoch") (string (decimal kept.source))
    (member (codes "target_epoch") (string (decimal kept.target)) no_members))

-- done, with nothing more to say
abbrev pub done : List ℕ → Data
done word = object (member (codes "answer") (string word) no_members)

-- refused for this reason, with further members before it
abbrev pub with_reason : List ℕ → Data
with_reason reason = object (member (codes "answer") (string (codes "refused")) (member (codes "reason") (string reason) no_members))

abbrev pub with_one : List ℕ → Data → List ℕ → Data
with_one name value reason =
    object (member (codes "answer") (string (codes "refused"))
    (member name value
    (member (codes "reason") (string reason) no_members)))

abbrev pub with_entry : Data → List ℕ → Data
with_entry entry reason = with_one (codes "entry") entry reason

abbrev pub with_floor : ℕ → List ℕ → Data
with_floor floor reason = with_one (codes "floor") (string (decimal floor)) reason

-- the epochs of a watch that are missing, the lesser first
abbrev pub missing_epochs : ℕ → Option ℕ → Items
missing_epochs first None = item (string (decimal first)) no_items
missing_epochs first (Some second) = item (string (decimal first)) (item (string (decimal second)) no_items)

abbrev pub with_member : List ℕ → List ℕ → Data
with_member name reason = with_one (codes "member") (string name) reason

abbrev pub verdict_data : Verdict → Data
verdict_data verdict.Pass = with_reason (codes "pass")
verdict_data (verdict.SlotBelow floor) = with_floor floor (codes "slot_below")
verdict_data (verdict.DoubleBlock kept) = with_entry (block_data kept) (codes "double_block")
verdict_data (verdict.SourceBelow floor) = with_floor floor (codes "source_below")
verdict_data (verdict.TargetBelow floor) = with_floor floor (codes "target_below")
verdict_data (verdict.DoubleVote kept) = with_entry (vote_data kept) (codes "double_vote")
verdict_data (verdict.Surrounds kept) = with_entry (vote_data kept) (codes "surrounds")
verdict_data (verdict.Surrounded kept) = with_entry (vote_data kept) (codes "surrounded")

-- why a text is no interchange file
abbrev pub fault_data : ReadFault → Data
fault_data (fault.TooLong len) = with_one (codes "len") (string (decimal len)) (codes "too_long")
fault_data fault.NotUtf8 = with_reason (codes "not_utf8")
fault_data fault.Json = with_reason (codes "json")
fault_data (fault.Missing m) = with_member (name_of m) (codes "missing")
fault_data (fault.Version text) =
    object (member (codes "answer") (string (codes "refused"))
    (member (codes "reason") (string (codes "version"))
    (member (codes "text") (string text) no_members)))
fault_data (fault.BadNumber m) = with_member (name_of m) (codes "bad_number")
fault_data (fault.BadHex m) = with_member (name_of m) (codes "bad_hex")

abbrev pub answer_data : Answer → Data
answer_data (answer.Merged keys) =
    object (member (codes "answer") (string (codes "merged")) (member (codes "keys") (string (decimal keys)) no_members))
answer_data answer.Active = done (codes "active")
answer_data (answer.Imported statuses) = imported_data statuses
answer_data (answer.Deleted statuses file) = deleted_data statuses file
answer_data (answer.Listed keys) = listed_data keys
answer_data (answer.Signed signature root) =
    object (member (codes "answer") (string (codes "signed"))
    (member (codes "signature") (string (hex_text signature.0))
    (member (codes "signing_root") (string (hex_text root.0)) no_members)))
answer_data (answer.Unsigned c) = cause_data c
answer_data (answer.Exported file) =
    object (member (codes "answer") (string (codes "exported")) (member (codes "file") (string (file_text file)) no_members))
answer_data answer.Pruned = done (codes "pruned")
answer_data answer.Noted = done (codes "noted")
answer_data (answer.Compacted before after) =
    object (member (codes "after") (string (decimal after))
    (member (codes "answer") (string (codes "compacted"))
    (member (codes "before") (string (decimal before)) no_members)))
answer_data (answer.BadRequest m) = with_member (member_name m) (codes "bad_request")
answer_data (answer.BadFile f) = fault_data f
answer_data (answer.GenesisDiffers kept given) =
    object (member (codes "answer") (string (codes "refused"))
    (member (codes "given") (string (hex_text given.0))
    (member (codes "kept") (string (hex_text kept.0))
    (member (codes "reason") (string (codes "genesis_differs")) no_members))))
answer_data (answer.TooManyKeys have new) =
    object (member (codes "answer") (string (codes "refused"))
    (member (codes "have") (string (decimal have))
    (member (codes "new") (string (decimal new))
    (member (codes "reason") (string (codes "too_many_keys")) no_members))))
answer_data (answer.Full size wanted) =
    object (member (codes "answer") (string (codes "refused"))
    (member (codes "reason") (string (codes "full"))
    (member (codes "size") (string (decimal size))
    (member (codes "wanted") (string (decimal wanted)) no_members))))
answer_data answer.LastGeneration = with_reason (codes "last_generation")
answer_data answer.Disk = with_reason (codes "disk")
answer_data answer.Unknown = with_reason (codes "unknown")
answer_data answer.NotActive = with_reason (codes "not_active")
answer_data answer.Closing = with_reason (codes "closing")
answer_data (answer.NotClosing state) = not_closing_data state
answer_data (answer.Busy grants) = busy_data grants
answer_data (answer.Live epoch) = with_one (codes "epoch") (string (decimal epoch)) (codes "live")
answer_data (answer.Watching first second) = with_one (codes "missing") (array (missing_epochs first second)) (codes "watching")
answer_data (answer.Refused v) = verdict_data v

-- the answer where the desk refused what custody of keys asked of it
abbrev pub refusal_answer : DeskRefusal → Answer
refusal_answer (refusal.GenesisDiffers kept given) = answer.GenesisDiffers kept given
refusal_answer (refusal.TooManyKeys have new) = answer.TooManyKeys have new
refusal_answer (refusal.Full size wanted) = answer.Full size wanted
refusal_answer refusal.Disk = answer.Disk
refusal_answer refusal.Closing = answer.Closing
refusal_answer refusal.Unknown = answer.Unknown
refusal_answer (refusal.NotClosing state) = answer.NotClosing state
refusal_answer (refusal.Busy grants) = answer.Busy grants

-- the bytes of the answer's line
unfoldable pub answer_text : Answer → List ℕ
answer_text a = compact_text (answer_data a) ++ 10 ∷ []
