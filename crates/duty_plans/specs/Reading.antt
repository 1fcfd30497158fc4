-- What is read of the replies to a duty's calls.
use Rattle.std.specs.Prelude.{ℕ, if◌then◌else◌, Option, Some, None, Result, Ok, Err}
use Rattle.std.specs.Str.{bytes_eq}
use Rattle.edge_kit.specs.declared.bytes.Root.{Root}
use Rattle.edge_kit.specs.declared.bytes.Sig.{Sig}
use Rattle.protect_record.specs.declared.verdict.Verdict.{Verdict}
use Rattle.protect_record.specs.declared.verdict.Verdict.TheVariants as verdict
use Rattle.phase0_types.specs.declared.attestation.AttestationData.{AttestationData}
use Rattle.phase0_blocks.specs.declared.vote.Attestation.{Attestation}
use Rattle.altair_blocks.specs.declared.any_block.AnyBlock.{AnyBlock}
use Rattle.desk_machine.specs.declared.open_grant.OpenGrant.{OpenGrant}
use Rattle.desk_machine.specs.declared.call.DeskReply.{DeskReply}
use Rattle.desk_machine.specs.declared.call.DeskReply.TheVariants as reply
use Rattle.signer_link.specs.declared.reply.SignReply.{SignReply}
use Rattle.signer_link.specs.declared.reply.SignReply.TheVariants as signing
use Rattle.node_calls.specs.declared.answer.Answer.{Answer}
use Rattle.node_calls.specs.declared.answer.Answer.TheVariants as answer
use Rattle.node_calls.specs.declared.answer.AttesterRow.{AttesterRow}
use Rattle.node_calls.specs.declared.answer.ProposerRow.{ProposerRow}
use Rattle.node_fallback.specs.declared.no_node.NoAnswer.{NoAnswer}
use Rattle.node_fallback.specs.declared.no_node.NoAnswer.TheVariants as none
use Rattle.duty_schedule.specs.Checking.{block_members, data_members, first_that_differs}
use Rattle.duty_schedule.specs.declared.checks.DataDiffers.{DataDiffers}
use Rattle.duty_plans.specs.Messages.{details_root}
use Rattle.duty_plans.specs.declared.got.AggregateDiffers.{AggregateDiffers}
use Rattle.duty_plans.specs.declared.got.Got.{Got}
use Rattle.duty_plans.specs.declared.got.Got.TheVariants as got
use Rattle.duty_plans.specs.declared.result.Refusal.TheVariants as refusal
use Rattle.duty_plans.specs.declared.result.Unsigned.TheVariants as unsigned
use Rattle.duty_plans.specs.declared.result.DutyResult.TheVariants as ended

-- the desk refused by a verdict; one that lets pass is no refusal, and comes never
abbrev pub judged : Verdict → Got OpenGrant
judged verdict.Pass = got.Nothing
judged (verdict.SlotBelow floor) = got.Failed (ended.Refused refusal.SlotBelow)
judged (verdict.DoubleBlock kept) = got.Failed (ended.Refused refusal.DoubleBlock)
judged (verdict.SourceBelow floor) = got.Failed (ended.Refused refusal.SourceBelow)
judged (verdict.TargetBelow floor) = got.Failed (ended.Refused refusal.TargetBelow)
judged (verdict.DoubleVote kept) = got.Failed (ended.Refused refusal.DoubleVote)
judged (verdict.Surrounds kept) = got.Failed (ended.Refused refusal.Surrounds)
judged (verdict.Surrounded kept) = got.Failed (ended.Refused refusal.Surrounded)

-- leave, or why there is none; a reply that fits no such call comes never
abbrev pub grant_of : DeskReply → Got OpenGrant
grant_of (reply.Granted grant) = got.Given grant
grant_of reply.Disk = got.Failed (ended.Refused refusal.Disk)
grant_of reply.Unknown = got.Failed (ended.Refused refusal.Unknown)
grant_of reply.NotActive = got.Failed (ended.Refused refusal.NotActive)
grant_of reply.Closing = got.Failed (ended.Refused refusal.Closing)
grant_of (reply.Live epoch) = got.Failed (ended.Refused refusal.Live)
grant_of (reply.Watching first second) = got.Failed (ended.Refused refusal.Watching)
grant_of (reply.Refused v) = judged v
grant_of (reply.Full size wanted) = got.Failed (ended.Refused refusal.Full)
grant_of r = got.Nothing

-- the signature, or why there is none
abbrev pub signature_of : SignReply → Got Sig
signature_of (signing.Signed signature) = got.Given signature
signature_of (signing.NoKey status) = got.Failed (ended.Unsigned unsigned.NoKey)
signature_of (signing.Denied status) = got.Failed (ended.Unsigned unsigned.Denied)
signature_of signing.Fault = got.Failed (ended.Unsigned unsigned.Fault)
signature_of (signing.BadAnswer body) = got.Failed (ended.Unsigned unsigned.BadAnswer)
signature_of signing.OutOfMemory = got.Nothing

-- it is the duty's where no member differs
abbrev pub matching : {T : Type 0} → Option DataDiffers → T → Got T
matching None value = got.Given value
matching (Some differs) value = got.Failed ended.DataDiffers

-- no node gave anything, or memory ran out
abbrev pub nothing_of : {T : Type 0} → NoAnswer → Got T
nothing_of (none.NoNode causes) = got.Failed ended.NoData
nothing_of none.OutOfMemory = got.Nothing

-- what a committee is to vote, where it is this duty's; an answer to another question comes never
abbrev pub vote_of : AttesterRow → Result Answer NoAnswer → Got AttestationData
vote_of row (Ok (answer.Data details)) = matching (first_that_differs (data_members row details)) details
vote_of row (Ok a) = got.Nothing
vote_of row (Err why) = nothing_of why

-- a block, where it is this duty's; blocks are Altair's from this epoch on, or never
abbrev pub block_of : Option ℕ → ProposerRow → Result Answer NoAnswer → Got AnyBlock
block_of altair row (Ok (answer.Block block)) = matching (first_that_differs (block_members row.slot altair block)) block
block_of altair row (Ok a) = got.Nothing
block_of altair row (Err why) = nothing_of why

-- how the data of an aggregate differs from that of which one was asked for, by its root
abbrev pub root_differs : Root → AttestationData → Option AggregateDiffers
root_differs asked details = if bytes_eq (details_root details) asked.0 then None else Some (record { asked = asked; got = record { 0 = details_root details } })

-- an aggregate, where it is of the votes for this data, by its root
abbrev pub aggregate_of : AttestationData → Result Answer NoAnswer → Got Attestation
aggregate_of details (Ok (answer.Aggregate aggregate)) = if bytes_eq (details_root aggregate.details) (details_root details) then got.Given aggregate else got.Failed ended.DataDiffers
aggregate_of details (Ok a) = got.Nothing
aggregate_of details (Err why) = nothing_of why

-- whether a node took the post
abbrev pub posted_of : Result (Unit {0}) NoAnswer → Got (Unit {0})
posted_of (Ok done) = got.Given done
posted_of (Err (none.NoNode causes)) = got.Failed ended.Unposted
posted_of (Err none.OutOfMemory) = got.Nothing
