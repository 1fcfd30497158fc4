use Rattle.std.proofs.Common.{◌-◌, ◌/◌, ◌≤◌, min, length, vec_len, vec_capacity, arith, rules}
use Rattle.protect_record.proofs.record.Record.gather_reserved.Goals as goal

pub rebuild-requires : goal.rebuild-requires
rebuild-requires c =
    let room : length c.args.votes.now ≤ min ((vec_capacity c.self.inside.votes - vec_len c.self.inside.votes) / 2) (c.self.inside.sources.capacity - vec_len c.self.inside.votes) = rw (← c.self.view_is) at c.requires.room.1 in
    let kept : vec_len c.self.inside.votes ≤ c.self.inside.sources.capacity = search rules in
    omega (arith, c.gather_votes.ensures.len, c.as_slice.ensures.len)
