use Rattle.std.proofs.Common.{◌≡◌, arith, length, sym, ap, ◌∙◌, Option}
use Rattle.std.specs.Prelude.{option_and_then}
use Rattle.serde_json.specs.Data.{Data}
use Rattle.serde_json.specs.Find.{as_array}
use Rattle.web3_signer.specs.Readings.{only_item}
use Rattle.web3_signer.proofs.ReadingLemmas.{only_item-other}
use Rattle.web3_signer.proofs.replies.only_item.Goals as goal

pub returns-then-len-ne1 : goal.returns-then-len-ne1
returns-then-len-ne1 c =
    let other : length c.in_ok-list.list.now.items ≡ 1 → ⊥ = λ e. c.if-len-ne1.true (omega (arith, c.in_ok-list.list.now.ok.0)) in
    sym (only_item-other c.in_ok-list.list.now.items other) ∙ ap (option_and_then only_item) c.in_ok-list.ensures ∙ ap (λ (d : Option Data). option_and_then only_item (option_and_then as_array d)) c.in_ok-get.ensures
