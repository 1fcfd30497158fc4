-- The text of a fork: two versions and an epoch, joined by `:`.
use Rattle.std.specs.Prelude.{ℕ, ◌==◌, Bool, List, Option, option_map, option_and_then, position}
use Rattle.std.specs.List.{before_first, after_first}
use Rattle.edge_kit.specs.Texts.{hex_bytes, quoted_number}
use Rattle.phase0_types.specs.declared.fork.Fork.{Fork}

-- the byte is `:`
abbrev pub is_colon : ℕ → Bool
is_colon byte = byte == 58

-- what stands before the first `:` of a text, and what stands after it
abbrev pub at_colon : List ℕ → Option (List ℕ × List ℕ)
at_colon text = option_map (λ _. (before_first is_colon text, after_first is_colon text)) (position is_colon text)

-- the fork of its versions and its epoch
abbrev pub fork_with : List ℕ → List ℕ → ℕ → Fork
fork_with previous current epoch = record { previous_version = previous; current_version = current; epoch = epoch }

-- the fork of the texts of its versions and its epoch
abbrev pub fork_of : List ℕ → List ℕ → List ℕ → Option Fork
fork_of previous current epoch =
    option_and_then (λ p. option_and_then (λ c. option_map (fork_with p c) (quoted_number epoch)) (hex_bytes 4 current)) (hex_bytes 4 previous)

-- the fork that a text writes
abbrev pub fork_at : List ℕ → Option Fork
fork_at text = option_and_then (λ a. option_and_then (λ b. fork_of a.0 b.0 b.1) (at_colon a.1)) (at_colon text)
