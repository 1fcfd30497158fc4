use Rattle.std.specs.Prelude.{◌≡◌, List, refl}
use Rattle.std.specs.Map.{keys_of}
use Rattle.std.proofs.Common.{◌∙◌, sym, subst}
use Rattle.check_sign.specs.Standing.{DeskStands}
use Rattle.check_sign.specs.Calls.{IsOwn}
use Rattle.check_sign.specs.Contents.{Seen}
use Rattle.desk_machine.specs.Watches.{Watching, WatchesStand}
use Rattle.desk_machine.specs.declared.call.KeyStanding.{KeyStanding}
use Rattle.desk_machine.specs.declared.call.DeskReply.TheVariants as reply
use Rattle.edge_kit.specs.declared.bytes.PubKey.{PubKey}
use Rattle.desk_machine.specs.Machine.{Reply, after}
use Rattle.desk_machine.specs.declared.call.DeskCall.TheVariants as DeskCall
use Rattle.desk_machine.specs.declared.call.DeskReply.{DeskReply}
use Rattle.check_sign.proofs.MachineLemmas.{opened}
use Rattle.check_sign.proofs.ReadLemmas.{standings_listed, standings_of, states_of, told_states}
use Rattle.check_sign.proofs.desk.Desk.list_states.Goals.{in-Ok, in-Err}
use Rattle.check_sign.proofs.desk.Desk.list_states.Goals as goal

pub returns-clause-machine : goal.returns-clause-machine
returns-clause-machine g c = λ state stands.
    let P : DeskReply → Type 0 = λ r. Reply state DeskCall.Keys r × DeskStands c.args.self.now.contents (after state DeskCall.Keys r) in
    let s = opened c.args.self.now _ state c.self.view_is stands in
    elim c.match-standings_of.branch [
      | in-Ok w ↦ subst P (sym w.result-is) (w.in-Ok.ensures.standings state.watching s.watches ∙ standings_listed _ state s, stands)
      | in-Err w ↦ subst P (sym w.result-is) (tt, stands)
    ]

abbrev Told : {D : Type 0} → Seen D → List (PubKey × KeyStanding) → Type 0
Told desk listed = (told_states listed ≡ states_of desk.contents.states (keys_of desk.contents.keys))
    × ((w : Watching) → WatchesStand desk.contents.watches w → listed ≡ standings_of desk.contents.states w (keys_of desk.contents.keys))

told : {D : Type 0} (desk seen : Seen D) (listed : List (PubKey × KeyStanding)) → desk ≡ seen → Told desk listed → IsOwn seen.contents DeskCall.Keys (reply.Keys listed) seen.contents
told {D} desk seen listed e is =
    let P : Seen D → Type 0 = λ d. Told d listed in
    let all = subst P e is in
    (all.0, refl, refl, all.1)

pub returns-clause-own : goal.returns-clause-own
returns-clause-own g c =
    let P : DeskReply → Type 0 = λ r. IsOwn c.args.self.now.contents DeskCall.Keys r c.args.self.now.contents in
    elim c.match-standings_of.branch [
      | in-Ok w ↦ subst P (sym w.result-is) (told _ c.args.self.now _ c.self.view_is (w.in-Ok.ensures.states, w.in-Ok.ensures.standings))
      | in-Err w ↦ subst P (sym w.result-is) tt
    ]
