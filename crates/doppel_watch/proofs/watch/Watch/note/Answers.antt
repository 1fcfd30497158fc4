use Rattle.std.proofs.Common.{refl}
use Rattle.doppel_watch.proofs.StateLemmas.{IsNoted-first, IsNoted-second, IsNoted-neither}
use Rattle.doppel_watch.proofs.watch.Watch.note.Goals as goal

pub returns-then-epoch-self-clause-noted : goal.returns-then-epoch-self-clause-noted
returns-then-epoch-self-clause-noted c = λ s ts stands.
    IsNoted-first c.args.self.now _ s ts _ stands c.if-epoch-self.true refl c.max-self.ensures c.after-self.ensures refl

pub returns-then-epoch-self-2-clause-noted : goal.returns-then-epoch-self-2-clause-noted
returns-then-epoch-self-2-clause-noted c = λ s ts stands.
    IsNoted-second c.args.self.now _ s ts _ stands c.if-epoch-self-2.true refl c.max-self.ensures refl c.after-self-then-epoch-self-2.ensures

pub returns-else-epoch-self-2-clause-noted : goal.returns-else-epoch-self-2-clause-noted
returns-else-epoch-self-2-clause-noted c = λ s ts stands.
    IsNoted-neither c.args.self.now _ s ts _ stands c.if-epoch-self.false c.if-epoch-self-2.false refl c.max-self.ensures refl refl
