use Rattle.std.proofs.Common.{◌≡◌, ℕ, List, [], Option, Bor, ap, ◌∙◌, subst}
use Rattle.std.specs.Prelude.{unwrap_or}
use Rattle.client_calls.specs.Seats.{at_seat, signer_seen}
use Rattle.sign_proxy.specs.Signing.{Answers}
use Rattle.http_wire.specs.Parts.{parts_of}
use Rattle.http_wire.specs.declared.field.Field.{Field}
use Rattle.proxy_api.specs.Forms.{form_of}
use Rattle.proxy_api.specs.Routes.{identifier_of}
use Rattle.proxy_api.specs.Signing.{RepliesTo}
use Rattle.proxy_api.specs.declared.form.Form.{Form}
use Rattle.proxy_api.proofs.SendLemmas.{replies_later}
use Rattle.proxy_api.proofs.WantedLemmas.{unwrapped}
use Rattle.proxy_api.proofs.serve.sign_wanted.Goals as goal

pub returns-clause-does : goal.returns-clause-does
returns-clause-does g c = λ counted l.
    let shows = signer_seen g.S.Signer.told g.S.Signer.faults g.S.Signer.denials in
    let before = at_seat c.args.desk.now (shows c.args.signer.now) in
    let middle = at_seat c.sign_reply-ended.new.desk (shows c.sign_reply-ended.new.signer) in
    let request = c.args.request.now in
    let identifier : c.unwrap_or-identifier.result.now ≡ unwrap_or (identifier_of request.target.items) [] =
    ap (λ (b : Bor (List ℕ)). b.now) c.unwrap_or-identifier.ensures ∙ unwrapped c.identifier_of.result _ ∙ ap (λ (o : Option (List ℕ)). unwrap_or o []) (c.identifier_of.ensures ∙ ap identifier_of c.as_slice.ensures.value) in
    let A : List ℕ → List ℕ → Type 0 = λ i body. Answers g.K.DeskCalls.leads i c.args.genesis.now body c.args.now before middle c.sign_reply-ended.result in
    let formed : c.form_of-form.result ≡ form_of (parts_of request.fields.items) = c.form_of-form.ensures ∙ ap (λ (fields : List Field). form_of (parts_of fields)) c.as_slice-2.ensures.value in
    let R : Form → Type 0 = λ form. RepliesTo form g.K.DeskCalls.leads (g.L.Link.held c.args.link.now) (g.L.Link.held c.reply_signed.new.link) counted (g.L.Link.faults c.reply_signed.new.link) c.sign_reply-ended.result middle
    (at_seat c.reply_signed.new.desk (shows c.sign_reply-ended.new.signer)) c.reply_signed.result in
    record {
      ended = c.sign_reply-ended.result;
      middle = middle;
      answers = subst (λ (i : List ℕ). A i request.body.items) identifier (subst (λ (body : List ℕ). A c.unwrap_or-identifier.result.now body) c.as_slice-body.ensures.value c.sign_reply-ended.ensures.answers);
      replies = subst R formed (replies_later _ g.K.DeskCalls.leads _ _ counted _ _ c.sign_reply-ended.result middle _ c.reply_signed.result l (c.reply_signed.ensures.replies (shows c.sign_reply-ended.new.signer)));
    }
