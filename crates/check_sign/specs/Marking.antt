-- The states of keys while one of them is changed.
use Rattle.std.specs.Prelude.{◌≡◌, List, Option}
use Rattle.edge_kit.specs.declared.bytes.PubKey.{PubKey}
use Rattle.std.specs.Map.{keys_of}
use Rattle.std.specs.List.Sorted.{IsStrictlySortedBy}
use Rattle.record_join.specs.Keys.{key_cmp, kept_of, with_key}
use Rattle.record_replay.specs.declared.state.KeyState.{KeyState}
use Rattle.record_replay.specs.declared.state.KeyState.TheVariants.{Active}

-- a key was made active; before is what it was, if it was noted
pub record IsMarked (old : List (PubKey × KeyState)) (key : PubKey) (before : Option KeyState) (new : List (PubKey × KeyState)) : Type 0 where
  pub was : before ≡ kept_of old key
  pub ordered : IsStrictlySortedBy key_cmp (keys_of old)
  pub now : new ≡ with_key old key Active
