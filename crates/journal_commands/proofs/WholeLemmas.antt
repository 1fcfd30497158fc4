-- An input that is read piece by piece.
use Rattle.std.proofs.Common.{◌≡◌, ℕ, ◌≤◌, List, [], length, length-append, Option, Some, None, sym, ap, subst, arith}
use Rattle.std.specs.Io.KnownBytes.{Consumes}
use Rattle.edge_kit.proofs.TellingLemmas.{Consumes-nil, Consumes-trans}
use Rattle.journal_commands.specs.Whole.{ReadsMore, PassesLimit, WholeStops, MoreStops, WithinLimit}
use Rattle.journal_commands.specs.declared.whole.WholeFault.{WholeFault}
use Rattle.journal_commands.specs.declared.whole.WholeFault.TheVariants as fault

pub read_none : (left : Option (List ℕ)) (bytes : List ℕ) → bytes ≡ [] → Consumes left left bytes
read_none left bytes is =
    let P : List ℕ → Type 0 = λ b. Consumes left left b in
    subst P (sym is) (Consumes-nil left)

pub read_on : (l1 : Option (List ℕ)) {l2 l3 : Option (List ℕ)} {old new : List ℕ} → Consumes l1 l2 old → ReadsMore l2 l3 old new → Consumes l1 l3 new
read_on l1 {l2} {l3} {old} {new} h r =
    let P : List ℕ → Type 0 = λ b. Consumes l1 l3 b in
    subst P (sym r.bytes) (Consumes-trans l1 l2 l3 old r.more h r.taken)

-- what stops one piece stops the whole
pub stops_more : (f : WholeFault) (limit : ℕ) (left_before left_now : Option (List ℕ)) (before mid now : ℕ) → before ≤ mid → MoreStops f mid now → WholeStops f limit left_before left_now before now
stops_more fault.Read limit left_before left_now before mid now later h = omega arith
stops_more fault.TooLong limit left_before left_now before mid now later h = absurd h
stops_more fault.OutOfMemory limit left_before left_now before mid now later h = tt

-- an input within the limit does not pass it
pub passes_none : (limit : ℕ) (before now : Option (List ℕ)) → PassesLimit limit before now → WithinLimit limit before → ⊥
passes_none limit None now h within = within
passes_none limit (Some bytes) None h within = h.1
passes_none limit (Some bytes) (Some rest) h within = omega (arith, within, h.2, ap length h.1, length-append h.0 rest)
