-- What the desk notes of its calls.
use Rattle.std.specs.Prelude.{ℕ, max, List, [], ◌∷◌}
use Rattle.edge_kit.specs.declared.bytes.PubKey.{PubKey}
use Rattle.slash_defs.specs.declared.message.Message.{Message}
use Rattle.slash_defs.specs.declared.book.Book.{Book}
use Rattle.slash_defs.specs.declared.book.File.{File}
use Rattle.desk_machine.specs.declared.call.DeskCall.{DeskCall}
use Rattle.desk_machine.specs.declared.call.DeskCall.TheVariants as call
use Rattle.desk_machine.specs.declared.call.DeskReply.{DeskReply}
use Rattle.desk_machine.specs.declared.call.DeskReply.TheVariants as reply
use Rattle.desk_machine.specs.declared.event.DeskEvent.{DeskEvent}
use Rattle.desk_machine.specs.declared.event.Event.TheVariants as event

-- a file without keys changes nothing
abbrev pub noted_merge : ℕ → File → List (PubKey × Book) → List DeskEvent
noted_merge latest file [] = []
noted_merge latest file (b ∷ bs) = record { event = event.Merged file; moment = latest } ∷ []

-- and so do no messages
abbrev pub noted_record : ℕ → List (PubKey × Message) → List DeskEvent
noted_record moment [] = []
noted_record moment (p ∷ ps) = record { event = event.Recorded (p ∷ ps); moment = moment } ∷ []

-- what the desk notes of a call: each whose reply changed more than the latest moment
abbrev pub noted : ℕ → DeskCall → DeskReply → List DeskEvent
noted latest (call.Merge file) (reply.Merged keys) = noted_merge latest file file.books
noted latest (call.Activate key now) reply.Active = record { event = event.Activated key; moment = max latest now } ∷ []
noted latest (call.Propose key m now) (reply.Granted grant) = record { event = event.Granted key m grant.number; moment = max latest now } ∷ []
noted latest (call.Record ps now) reply.Recorded = noted_record (max latest now) ps
noted latest (call.Allow key now) (reply.Granted grant) = record { event = event.Allowed key grant.number; moment = max latest now } ∷ []
noted latest (call.Answer key epoch live now) reply.Noted = record { event = event.Told key epoch live; moment = max latest now } ∷ []
noted latest (call.Settle grant outcome) reply.Settled = record { event = event.Settled grant.number outcome; moment = latest } ∷ []
noted latest (call.BeginClose key) reply.CloseBegun = record { event = event.CloseBegun key; moment = latest } ∷ []
noted latest (call.FinishClose key) (reply.Closed book) = record { event = event.Closed key book; moment = latest } ∷ []
noted latest (call.Prune key) (reply.Pruned book) = record { event = event.Pruned key book; moment = latest } ∷ []
noted latest call.Compact (reply.Compacted before after) = record { event = event.Compacted before after; moment = latest } ∷ []
noted latest c r = []
