-- What is noted of one epoch.
use Rattle.std.specs.Prelude.{Bool, if◌then◌else◌}
use Rattle.doppel_watch.specs.declared.liveness.Liveness.{Liveness}
use Rattle.doppel_watch.specs.declared.liveness.Liveness.TheVariants.{Unknown, NotLive, Live}

-- by whether the key was told live, and whether it was told not live where that counts
abbrev pub liveness : Bool → Bool → Liveness
liveness was_live was_absent = if was_live then Live else (if was_absent then NotLive else Unknown)
