-- What a number draws: a linear congruential generator modulo 2 ^ 64, with the multiplier and increment of Knuth's MMIX.
use Rattle.std.specs.Prelude.{ℕ, ◌+◌, ◌-◌, ◌*◌, ◌/◌, ◌%◌, ◌^◌, ◌==◌, nat_lt, replicate, if◌then◌else◌}
use Rattle.edge_kit.specs.declared.bytes.PubKey.{PubKey}
use Rattle.edge_kit.specs.declared.bytes.Root.{Root}
use Rattle.edge_kit.specs.declared.mem_disk.Crash.{Crash}
use Rattle.edge_kit.specs.declared.mem_disk.Crash.TheVariants as crash
use Rattle.slash_defs.specs.declared.message.Message.{Message}
use Rattle.slash_defs.specs.declared.message.Message.TheVariants as message
use Rattle.rehearsal.specs.declared.acts.Act.{Act}
use Rattle.rehearsal.specs.declared.acts.Act.TheVariants as act

-- the state after a draw
abbrev pub next : ℕ → ℕ
next x = (x * 6364136223846793005 + 1442695040888963407) % 2 ^ 64

-- what a draw gives: the high 31 bits of the state after it
abbrev pub drawn : ℕ → ℕ
drawn x = x / 2 ^ 33

-- how many keys there are: two for each client
abbrev pub key_count : ℕ → ℕ
key_count clients = 2 * clients

-- a key, by its place
abbrev pub key_of : ℕ → PubKey
key_of place = record { 0 = replicate 48 (place + 1) }

-- a root, by a byte
abbrev pub root_of : ℕ → Root
root_of byte = record { 0 = replicate 32 byte }

-- the genesis root of the one chain
abbrev pub genesis : Root
genesis = root_of 0

-- the vote and the block that a draw gives in an epoch of 32 slots
abbrev pub vote_of : ℕ → ℕ → Message
vote_of epoch v = message.Vote (epoch - v % 3) (epoch + (v / 3) % 3) (root_of ((v / 9) % 4))

abbrev pub block_of : ℕ → ℕ → Message
block_of epoch v = message.Block (32 * epoch + v % 4) (root_of ((v / 4) % 3))

-- what becomes of the bytes that are not synced yet where a client stops
abbrev pub crash_of : ℕ → Crash
crash_of v = if (v / 8) % 2 == 0 then crash.Written else crash.Before

-- a stop, between the calls of the desk or at a call of the disk within a vote
abbrev pub stop_of : ℕ → ℕ → Act
stop_of epoch v = if v % 2 == 0 then act.Stop else act.StopWithin (message.Vote epoch (epoch + 1) (root_of 0)) (1 + (v / 2) % 4) (crash_of v)

-- the act that two draws give: of sixteen, ten are votes, two blocks, two handovers, one a stop and one a prune
abbrev pub act_of : ℕ → ℕ → ℕ → ℕ → Act
act_of clients epoch a v = if nat_lt a 10 then act.Propose (vote_of epoch v) else
    (if nat_lt a 12 then act.Propose (block_of epoch v) else
    (if nat_lt a 14 then act.HandOver (v % clients) else
    (if a == 14 then stop_of epoch v else act.Prune)))

-- four steps make an epoch
abbrev pub epoch_of : ℕ → ℕ
epoch_of step = step / 4

-- the place of the key, and the act, that a state of the generator draws for a step
abbrev pub place_drawn : ℕ → ℕ → ℕ
place_drawn clients x = drawn (next x) % key_count clients

abbrev pub act_drawn : ℕ → ℕ → ℕ → Act
act_drawn clients step x = act_of clients (epoch_of step) (drawn (next (next x)) % 16) (drawn (next (next (next x))))

-- the state after a step
abbrev pub after_step : ℕ → ℕ
after_step x = next (next (next x))
