use Rattle.std.proofs.Common.{◌-◌, nat_lt, length, sym, ap, ◌∙◌}
use Rattle.std.proofs.lemmas.Option.{get_or_from_slice_get}
use Rattle.phase0_types.proofs.BitLemmas.{ends_in_a_bit-last}
use Rattle.phase0_types.proofs.bits.ends_in_a_bit.Goals as goal

pub returns-in-Some : goal.returns-in-Some
returns-in-Some c =
    let bytes = c.args.bytes.now in
    ap (nat_lt 0) (sym (get_or_from_slice_get bytes (length bytes - 1) c.in-Some.byte.now 0 (sym c.in-Some.ensures.value))) ∙ sym (ends_in_a_bit-last bytes)
