use Rattle.std.proofs.Common.{◌≡◌, ◌∙◌, ℕ, ◌+◌, ◌<◌, List, length, get_or, sym, ap, arith}
use Rattle.std.proofs.Math.ListN.{set}
use Rattle.std.proofs.lemmas.Nat.{mod_below}
use Rattle.rehearsal.specs.Draws.{drawn, key_count, key_of, next}
use Rattle.rehearsal.specs.Plays.{counted, is_handover, is_stop}
use Rattle.rehearsal.specs.declared.cast.Cast.{Cast}
use Rattle.rehearsal.proofs.CastLemmas.{any_default, playable_stop, playable_to, plays_from}
use Rattle.rehearsal.proofs.StageLemmas.{stood_as, step_on}
use Rattle.rehearsal.proofs.stage.Stage.step.Goals as goal

pub play-requires-clause-to : goal.play-requires-clause-to
play-requires-clause-to c = λ to is.
    let drew = c.draw-place.ensures in
    let same : length c.count.new.self.cast.clients.items ≡ length c.args.self.now.cast.clients.items = ap (λ (x : Cast). length x.clients.items) (c.count.ensures.cast ∙ drew.cast) in
    playable_to c.args.self.now.count (length c.count.new.self.cast.clients.items) c.draw-place.result.1 to drew.playable (sym (same ∙ c.requires.stood.clients_are)) is

pub play-requires-clause-disk : goal.play-requires-clause-disk
play-requires-clause-disk c = λ m disk_call crash is. playable_stop c.args.self.now.count c.draw-place.result.1 m disk_call crash c.draw-place.ensures.playable is

pub returns-clause-stood : goal.returns-clause-stood
returns-clause-stood c =
    let old = c.args.self.now in
    let drew = c.draw-place.ensures in
    let counts = c.count.ensures in
    let place = c.draw-place.result.0 in
    let some = c.requires.some in
    let positive : 0 < key_count old.count = omega (arith, some) in
    let rest = mod_below (drawn (next old.state)) (key_count old.count) positive in
    let is_place = drew.place in
    let below : place < key_count old.count = omega (arith, is_place, rest) in
    let same_cast = counts.cast ∙ drew.cast in
    let same_holders : c.count.new.self.holders.items ≡ old.holders.items = ap (λ h. h.items) (counts.holders ∙ drew.holders) in
    let keys = c.requires.stood.keys_are in
    let fits : place < length old.holders.items = omega (arith, below, keys) in
    let client : c.index-client.result.now ≡ get_or old.holders.items place 0 =
    c.index-client.ensures ∙ (ap (λ (l : List ℕ). get_or l place c.index-client.result.now) same_holders ∙ any_default old.holders.items place c.index-client.result.now 0 fits) in
    let played = plays_from c.count.new.self.cast old.cast c.play.new.self c.index-client.result.now (get_or old.holders.items place 0) c.key_at.result (key_of place) _ c.draw-place.result.1 c.in_ok-holder.holder same_cast client c.key_at.ensures c.in_ok-holder.ensures in
    stood_as old.number c.count.new.self.number old.count c.count.new.self.count (c.args.step + 1) _ (sym (counts.number ∙ drew.number)) (sym (counts.count ∙ drew.count))
    (step_on old.number old.count c.args.step old _ place c.in_ok-holder.holder c.draw-place.result.1 c.requires.stood is_place drew.act played below (counts.state ∙ drew.state)
    (ap (λ (l : List ℕ). set l place c.in_ok-holder.holder) same_holders)
    (counts.handovers ∙ ap (λ n. n + counted (is_handover c.draw-place.result.1)) drew.handovers)
    (counts.stops ∙ ap (λ n. n + counted (is_stop c.draw-place.result.1)) drew.stops))
