use Rattle.std.proofs.Common.{rules, ◌≡◌, ◌≢◌, ◌++◌, ◌∷◌, [], ℕ, List, length, ap, sym, ◌∙◌, subst, ◌<◌}
use Rattle.doppel_watch.specs.Watching.{Telling, watch_state, kept, tellings_of}
use Rattle.doppel_watch.proofs.TellingLemmas.{latest-push}
use Rattle.doppel_watch.proofs.KeptLemmas.{kept_room, kept-same, kept-more}
use Rattle.doppel_watch.proofs.watch.Watch.answer.Goals as goal

pub returns-then-not-are_same : goal.returns-then-not-are_same
returns-then-not-are_same c = λ s ts stands.
    let t : Telling = record { epoch = c.args.epoch; live = c.args.live; moment = c.args.now } in
    let noted = c.note.ensures.noted s ts stands.noted in
    let was : c.noted_state-before.result ≡ watch_state s ts = c.noted_state-before.ensures s ts stands.noted in
    let is : c.noted_state.result ≡ watch_state s (ts ++ t ∷ []) = c.noted_state.ensures s (ts ++ t ∷ []) noted in
    let differs : c.noted_state-before.result ≢ c.noted_state.result = c.are_same.ensures.other (search rules) in
    let other : watch_state s ts ≢ watch_state s (ts ++ t ∷ []) = λ same. differs (was ∙ same ∙ sym is) in
    let same_kept : tellings_of c.note.new.self.kept ≡ kept s ts = ap tellings_of c.note.ensures.kept ∙ stands.remembered in
    let room : length (tellings_of c.note.new.self.kept) < 4 = subst (λ (l : List Telling). length l < 4) (sym same_kept) (kept_room s ts t other) in
    let at : ℕ → Telling = λ n. record { epoch = c.args.epoch; live = c.args.live; moment = n } in
    record {
      noted = record { begun = noted.begun; seen = noted.seen; first = noted.first; second = noted.second };
      remembered = c.push.ensures room
          ∙ ap (λ (l : List Telling). l ++ at c.note.new.self.latest ∷ []) same_kept
          ∙ ap (λ (n : ℕ). kept s ts ++ at n ∷ []) (noted.seen ∙ latest-push s ts t)
          ∙ sym (kept-more s ts t other);
    }

pub returns-else-not-are_same : goal.returns-else-not-are_same
returns-else-not-are_same c = λ s ts stands.
    let t : Telling = record { epoch = c.args.epoch; live = c.args.live; moment = c.args.now } in
    let noted = c.note.ensures.noted s ts stands.noted in
    let was : c.noted_state-before.result ≡ watch_state s ts = c.noted_state-before.ensures s ts stands.noted in
    let is : c.noted_state.result ≡ watch_state s (ts ++ t ∷ []) = c.noted_state.ensures s (ts ++ t ∷ []) noted in
    let still : c.noted_state-before.result ≡ c.noted_state.result = c.are_same.ensures.same (search rules) in
    record { noted = noted; remembered = ap tellings_of c.note.ensures.kept ∙ stands.remembered ∙ sym (kept-same s ts t (sym was ∙ still ∙ is)) }
