use Rattle.std.proofs.Common.{◌∙◌}
use Rattle.command_line.proofs.ServingLemmas.{fourth_part}
use Rattle.command_line.proofs.listen_address.read_ipv4.Goals as goal

pub returns : goal.returns
returns c =
    let octets = fourth_part c.in_ok-first.first.now c.in_ok-second.second.now c.in_ok-third.third.now c.in_ok-third.fourth.now in
    rw (c.in_ok-first.ensures, c.in_ok-second.ensures, c.in_ok-third.ensures) (c.read_octets.ensures ∙ octets)
