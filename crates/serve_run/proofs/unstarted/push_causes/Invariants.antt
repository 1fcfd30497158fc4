use Rattle.std.proofs.Common.{◌≡◌, ◌++◌, take, flat_map, string_bytes}
use Rattle.serve_run.specs.Starting.{behind_comma}
use Rattle.serve_run.proofs.unstarted.push_causes.Given as goal

abbrev pub invariant-causes : goal.invariant-causes
invariant-causes l = string_bytes l.text ≡ string_bytes l.initial.text ++ flat_map behind_comma (take l.cause-index l.causes)
