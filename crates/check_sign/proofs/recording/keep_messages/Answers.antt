use Rattle.std.proofs.Common.{inl, List, refl, subst}
use Rattle.edge_kit.specs.declared.bytes.PubKey.{PubKey}
use Rattle.slash_defs.specs.declared.message.Message.{Message}
use Rattle.record_join.specs.BooksPasts.{AreNew}
use Rattle.check_sign.proofs.recording.keep_messages.Goals as goal

pub returns-in-Unfit-clause-unkept : goal.returns-in-Unfit-clause-unkept
returns-in-Unfit-clause-unkept g c =
    inl (refl, (λ pasts stand. let N : List (PubKey × Message) → Type 0 = λ l. ¬ (AreNew pasts l) in subst N c.as_slice-listed.ensures (c.judge_all.ensures.unfit c.in-Unfit.is pasts stand)), refl)
