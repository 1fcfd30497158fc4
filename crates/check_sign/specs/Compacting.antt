-- What a compaction makes of a desk, whether or not it stands for a state.
use Rattle.std.specs.Prelude.{◌≡◌, ℕ, ◌^◌, ◌<◌, ◌≤◌, List, map, Option, None, Some}
use Rattle.journal_frames.specs.Frames.{generation_of}
use Rattle.record_codec.specs.Spelling.{spelling}
use Rattle.record_journal.specs.Journals.{journal_size, next_payloads}
use Rattle.desk_machine.specs.Machine.{last_generation}
use Rattle.desk_machine.specs.declared.call.DeskReply.{DeskReply}
use Rattle.desk_machine.specs.declared.call.DeskReply.TheVariants as reply
use Rattle.check_sign.specs.Contents.{Contents}
use Rattle.check_sign.specs.DeskBatches.{desk_batches}

-- what is written: the next generation, and then the batches of each kept key, in key order, each spelled
abbrev pub compacted_payloads : Contents → List (List ℕ)
compacted_payloads desk = next_payloads desk.payloads (map spelling (desk_batches desk.states desk.keys))

-- records, states and watches are the same
pub record SameKept (old new : Contents) : Type 0 where
  pub keys : new.keys ≡ old.keys
  pub states : new.states ≡ old.states
  pub watches : new.watches ≡ old.watches

-- the journal has these payloads and no others, and both sizes are told
pub record IsCompacted (old : Contents) (before after : ℕ) (new : Contents) : Type 0 where
  pub up : old.torn ≡ None
  pub less : generation_of old.payloads < last_generation
  pub kept : SameKept old new
  pub payloads : new.payloads ≡ compacted_payloads old
  pub size : new.size ≡ journal_size new.payloads
  pub room : new.size ≤ 2 ^ 40
  pub before_is : before ≡ old.size
  pub after_is : after ≡ new.size
  pub whole : new.torn ≡ None

-- the journal is the same
pub record IsUnwritten (old new : Contents) : Type 0 where
  pub kept : SameKept old new
  pub payloads : new.payloads ≡ old.payloads
  pub size : new.size ≡ old.size

-- what the torn compaction would have left; a desk that had failed before stays as it was
abbrev pub TornBy : Option (List (List ℕ)) → Contents → Contents → Type 0
TornBy None old new = (generation_of old.payloads < last_generation) × (journal_size (compacted_payloads old) ≤ 2 ^ 40) × (new.torn ≡ Some (compacted_payloads old))
TornBy (Some torn) old new = new.torn ≡ Some torn

-- by the reply, of which each refusal has its cause
abbrev pub IsOwnCompaction : Contents → DeskReply → Contents → Type 0
IsOwnCompaction old (reply.Compacted before after) new = IsCompacted old before after new
IsOwnCompaction old reply.Disk new = IsUnwritten old new × TornBy old.torn old new
IsOwnCompaction old reply.LastGeneration new = IsUnwritten old new × (old.torn ≡ None) × (new.torn ≡ None) × (generation_of old.payloads ≡ last_generation)
IsOwnCompaction old reply.OutOfMemory new = IsUnwritten old new × (old.torn ≡ None) × (new.torn ≡ None) × (generation_of old.payloads < last_generation)
IsOwnCompaction old (reply.Full size wanted) new = IsUnwritten old new × (old.torn ≡ None) × (new.torn ≡ None) × (generation_of old.payloads < last_generation) × (size ≡ 0) × (wanted ≡ journal_size (compacted_payloads old)) × (2 ^ 40 < wanted)
IsOwnCompaction old r new = ⊥
