-- What is signed and posted of a task is that task's.
use Rattle.std.specs.Prelude.{◌≡◌, List, [], ◌∷◌, Some, None}
use Rattle.edge_kit.specs.declared.bytes.PubKey.{PubKey}
use Rattle.edge_kit.specs.declared.bytes.Sig.{Sig}
use Rattle.slash_defs.specs.declared.message.Message.{Message}
use Rattle.phase0_types.specs.declared.attestation.AttestationData.{AttestationData}
use Rattle.altair_blocks.specs.declared.any_block.AnyBlock.{AnyBlock}
use Rattle.duty_types.specs.declared.aggregate.AggregateAndProof.{AggregateAndProof}
use Rattle.desk_machine.specs.declared.open_grant.OpenGrant.{OpenGrant}
use Rattle.signer_link.specs.declared.request.SignRequest.{SignRequest}
use Rattle.signer_link.specs.declared.request.PlainRequest.{PlainRequest}
use Rattle.node_calls.specs.Aggregation.{aggregation_bits}
use Rattle.node_calls.specs.declared.answer.AttesterRow.{AttesterRow}
use Rattle.node_calls.specs.declared.answer.ProposerRow.{ProposerRow}
use Rattle.node_calls.specs.declared.ask.Ask.TheVariants as ask
use Rattle.node_calls.specs.declared.post.Post.{Post}
use Rattle.node_calls.specs.declared.post.Post.TheVariants as post
use Rattle.duty_schedule.specs.Checking.{block_members, data_members, first_that_differs}
use Rattle.duty_schedule.specs.declared.rows.Duty.{Duty}
use Rattle.duty_schedule.specs.declared.rows.Duty.TheVariants as duty
use Rattle.duty_plans.specs.declared.task.Task.{Task}
use Rattle.duty_plans.specs.declared.task.Task.TheVariants as task
use Rattle.duty_plans.specs.declared.work.SlotWork.{SlotWork}
use Rattle.duty_plans.specs.Messages.{aggregate_request, block_message, block_request, details_root, reveal_request, slot_request, vote_message, vote_request}
use Rattle.duty_plans.specs.Steps.{DutyCall, DutyStep, Asks, Signs, Reveals, Posts}

-- the grant is of this key for this message
pub record IsGrantOf (grant : OpenGrant) (owner : PubKey) (m : Message) : Type 0 where
  pub key : grant.key ≡ owner
  pub message : grant.message ≡ Some m

-- what a committee is to vote is what this duty is to vote, and leave was given for just that
pub record IsOwnVote (work : SlotWork) (row : AttesterRow) (grant : OpenGrant) (details : AttestationData) : Type 0 where
  pub same : first_that_differs (data_members row details) ≡ None
  pub leave : IsGrantOf grant row.pubkey (vote_message work.domains details)

-- a block is of the duty's slot and of its version, and leave was given for just that
pub record IsOwnBlock (work : SlotWork) (row : ProposerRow) (grant : OpenGrant) (block : AnyBlock) : Type 0 where
  pub same : first_that_differs (block_members row.slot work.altair block) ≡ None
  pub leave : IsGrantOf grant row.pubkey (block_message work.domains block)

-- the grant is of this key, and for no message
pub record IsPlainGrantOf (grant : OpenGrant) (owner : PubKey) : Type 0 where
  pub key : grant.key ≡ owner
  pub message : grant.message ≡ None

-- an aggregate is by this validator, with this proof, and of the votes for this data, by its root
pub record IsOwnAggregate (row : AttesterRow) (details : AttestationData) (proof : Sig) (given : AggregateAndProof) : Type 0 where
  pub index : given.aggregator_index ≡ row.validator_index
  pub proof_is : given.selection_proof ≡ proof
  pub root : details_root given.aggregate.details ≡ details_root details

-- ---- of a duty

-- what is signed
abbrev pub SignsOwn : SlotWork → Duty → OpenGrant → SignRequest → Type 0
SignsOwn work (duty.Vote row) grant q = (details : AttestationData) × (q ≡ vote_request work details) × IsOwnVote work row grant details
SignsOwn work (duty.Block row) grant q = (block : AnyBlock) × (q ≡ block_request work block) × IsOwnBlock work row grant block

-- what is posted: of a vote with the bit of the validator's own place
abbrev pub PostsOwn : SlotWork → Duty → OpenGrant → Post → Type 0
PostsOwn work (duty.Vote row) grant (post.Vote vote) = IsOwnVote work row grant vote.details × (vote.aggregation_bits ≡ aggregation_bits row.validator_committee_index row.committee_length)
PostsOwn work (duty.Block row) grant (post.Block signed) = IsOwnBlock work row grant signed.message
PostsOwn work d grant p = ⊥

-- what is revealed: the randomness of the slot's epoch, for a block alone, under a grant of no message
abbrev pub RevealsOwn : SlotWork → Duty → OpenGrant → PlainRequest → Type 0
RevealsOwn work (duty.Block row) grant q = (q ≡ reveal_request work) × IsPlainGrantOf grant row.pubkey
RevealsOwn work (duty.Vote row) grant q = ⊥

abbrev pub IsOfDuty : SlotWork → Duty → DutyCall → Type 0
IsOfDuty work d (Signs grant q) = SignsOwn work d grant q
IsOfDuty work d (Posts grant p) = PostsOwn work d grant p
IsOfDuty work d (Reveals grant q) = RevealsOwn work d grant q
IsOfDuty work d c = Unit {0}

-- ---- of a question for what a committee is to vote

-- nothing is called of the desk, signed or posted
abbrev pub IsOfData : SlotWork → AttesterRow → DutyCall → Type 0
IsOfData work row (Asks a) = a ≡ ask.Data work.slot row.committee_index
IsOfData work row c = ⊥

-- ---- of an aggregate

-- of the choice of its aggregator only the slot is signed, and nothing is posted
abbrev pub IsOfChoice : SlotWork → AttesterRow → DutyCall → Type 0
IsOfChoice work row (Signs grant q) = ⊥
IsOfChoice work row (Posts grant p) = ⊥
IsOfChoice work row (Reveals grant q) = (q ≡ slot_request work) × IsPlainGrantOf grant row.pubkey
IsOfChoice work row c = Unit {0}

abbrev pub PostsAggregate : AttesterRow → AttestationData → Sig → OpenGrant → Post → Type 0
PostsAggregate row details proof grant (post.Aggregate signed) = IsOwnAggregate row details proof signed.message × IsPlainGrantOf grant row.pubkey
PostsAggregate row details proof grant p = ⊥

-- the aggregate is signed and posted
abbrev pub IsOfAggregate : SlotWork → AttesterRow → AttestationData → Sig → DutyCall → Type 0
IsOfAggregate work row details proof (Signs grant q) = ⊥
IsOfAggregate work row details proof (Posts grant p) = PostsAggregate row details proof grant p
IsOfAggregate work row details proof (Reveals grant q) = (given : AggregateAndProof) × (q ≡ aggregate_request work given) × IsOwnAggregate row details proof given × IsPlainGrantOf grant row.pubkey
IsOfAggregate work row details proof c = Unit {0}

-- ---- of a task

abbrev pub IsOwn : SlotWork → Task → DutyCall → Type 0
IsOwn work (task.Fresh d) = IsOfDuty work d
IsOwn work (task.Again d unsent) = IsOfDuty work d
IsOwn work (task.Data row) = IsOfData work row
IsOwn work (task.Vote row details) = IsOfDuty work (duty.Vote row)
IsOwn work (task.Choose row details) = IsOfChoice work row
IsOwn work (task.Aggregate row details proof) = IsOfAggregate work row details proof

abbrev pub AllCall : (DutyCall → Type 0) → List DutyStep → Type 0
AllCall P [] = Unit {0}
AllCall P (s ∷ steps) = P s.0 × AllCall P steps

abbrev pub AllOwn : SlotWork → Task → List DutyStep → Type 0
AllOwn work t steps = AllCall (IsOwn work t) steps
