-- What a committee is to vote, as it is read.
use Rattle.std.proofs.Common.{◌≡◌, ◌∙◌, ℕ, Bool, true, Option, Some, None, Ok, Err, IfOk, IfSome, refl, sym, ap, nat_le}
use Rattle.std.specs.declared.result.Result.{Result}
use Rattle.node_calls.specs.Fitting.{fits}
use Rattle.node_calls.specs.declared.answer.Answer.{Answer}
use Rattle.node_calls.specs.declared.ask.Ask.TheVariants as ask
use Rattle.std.specs.Prelude.{if◌then◌else◌}
use Rattle.serde_json.specs.Data.{Data}
use Rattle.phase0_types.specs.Values.{ValueOf}
use Rattle.phase0_types.specs.Containers.{attestation_data, checkpoint}
use Rattle.phase0_types.specs.Attestations.{attestation_data_value, checkpoint_value}
use Rattle.phase0_types.specs.declared.attestation.AttestationData.{AttestationData}
use Rattle.beacon_node.specs.Readings.{◌>>=◌, data_value, details_in, is_ordered}
use Rattle.beacon_node.specs.Said.{Said, data_is}

ordered_is : (details : AttestationData) → is_ordered (attestation_data_value details) ≡ nat_le details.source.epoch details.target.epoch
unfolding is_ordered attestation_data checkpoint attestation_data_value checkpoint_value
ordered_is details = refl

-- what is said by what was read
abbrev said_by : Option (ValueOf attestation_data) → Option Said
said_by read = read >>= (λ details. if is_ordered details then Some (data_is details) else None)

pub details_some : (d : Data) (details : AttestationData) (b : Bool) → Some (attestation_data_value details) ≡ data_value attestation_data d → nat_le details.source.epoch details.target.epoch ≡ b
    → (if b then Some (data_is (attestation_data_value details)) else None) ≡ details_in d
details_some d details b e is =
    ap (λ (x : Bool). if x then Some (data_is (attestation_data_value details)) else None) (sym is ∙ sym (ordered_is details)) ∙ ap said_by e

-- an answer that fits each such question fits this one
pub fits_one : {E : Type 0} (r : Result (Option Answer) E) (slot committee : ℕ) → IfOk r (λ found. IfSome found (λ answer. (s c : ℕ) → fits (ask.Data s c) answer ≡ true))
    → IfOk r (λ found. IfSome found (λ answer. fits (ask.Data slot committee) answer ≡ true))
fits_one (Ok (Some answer)) slot committee h = h slot committee
fits_one (Ok None) slot committee h = h
fits_one (Err e) slot committee h = h
