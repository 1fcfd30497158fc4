-- What is written of a cause.
use Rattle.std.specs.Prelude.{ℕ, List, ◌++◌, codes}
use Rattle.std.specs.Fmt.{decimal}
use Rattle.node_fallback.specs.declared.no_node.Cause.{Cause}
use Rattle.node_fallback.specs.declared.no_node.Cause.TheVariants as cause

-- its name, and the number of a status
abbrev pub cause_text : Cause → List ℕ
cause_text cause.Fault = codes "fault"
cause_text (cause.Status status) = codes "status " ++ decimal status
cause_text (cause.Unreadable body) = codes "unreadable"
cause_text cause.Syncing = codes "syncing"
