-- What the words of the table come to.
use Rattle.std.proofs.Common.{◌≡◌, ◌∙◌, Bool, inl, inr, true, false, List, [], ◌∷◌, Option, Some, None, find, is_some, cond, refl, ap}
use Rattle.std.specs.Option.{option_map_or}
use Rattle.clap.specs.Words.{IsAmong, Kinds, Row, Text, fault_of, is_simple, is_simple_and_free, subcommand_of}
use Rattle.clap.specs.Simple.{Shape, argument_words, built, entered, label_of, names_of}
use Rattle.clap.specs.Faults.{entered_fault, level_fault}
use Rattle.clap.specs.Walk.{answers_to, nothing_held, walk}
use Rattle.clap.specs.declared.error.kind.ErrorKind.{ErrorKind}
use Rattle.clap.proofs.OnLiterals.{clap_on_literals}
use Rattle.command_line.specs.Plans.{Asked, asked_by, is_display, nothing, shown}
use Rattle.command_table.specs.Table.{table}
use Rattle.command_line.proofs.UniformLemmas.{AreAll, IsUniform, level_uniform, none}

-- clap's clauses speak of the table
pub table_is_simple : is_simple table ≡ true
unfolding clap_on_literals
table_is_simple = refl

pub table_is_free : is_simple_and_free table ≡ true
unfolding clap_on_literals
table_is_free = refl

-- ---- an error is shown, or it is usage

-- what an error of this kind asks for
abbrev pub asked_of_kind : ErrorKind → Asked
asked_of_kind kind = cond (is_display kind) shown nothing

among_all : (b : Bool) (k : ErrorKind) (ks : Kinds) → AreAll b ks → IsAmong k ks → is_display k ≡ b
among_all b k [] all among = absurd among
among_all b k (x ∷ xs) all among = elim among [ inl here ↦ ap is_display here ∙ all.0 | inr later ↦ among_all b k xs all.1 later ]

uniform_kind : (k : ErrorKind) (ks : Kinds) (met : Option (Text × List Row)) → IsUniform ks → IsAmong k ks → asked_of_kind k ≡ asked_by ks met
uniform_kind k [] met uniform among = absurd among
uniform_kind k (x ∷ xs) met uniform among = ap (λ b. cond b shown nothing) (among_all (is_display x) k (x ∷ xs) (refl, uniform.alike) among)

-- ---- the kinds of the table's errors

-- each shape is without a `help` of `clap`
abbrev HaveNoHelp : List Shape → Type 0
HaveNoHelp [] = Unit {0}
HaveNoHelp (s ∷ ss) = (s.disable_help_subcommand ≡ true) × HaveNoHelp ss

-- how the words fail at the subcommand that is entered
abbrev fault_in : List Text → Option Shape → Kinds
fault_in words entered = option_map_or (λ s. level_fault s [] nothing_held words false []) entered []

found_uniform : (p : Shape → Bool) (words : List Text) (ss : List Shape) → HaveNoHelp ss → IsUniform (fault_in words (find p ss))
found_uniform p words [] free = none
found_uniform p words (s ∷ ss) free = go (p s) (level_uniform s [] nothing_held words false [] free.0 none) (found_uniform p words ss free.1)
  where
    go : (b : Bool) → IsUniform (fault_in words (Some s)) → IsUniform (fault_in words (find p ss)) → IsUniform (fault_in words (cond b (Some s) (find p ss)))
    go true here later = here
    go false here later = later

entered_uniform : (stop : Option (Text × List Text)) → IsUniform (entered_fault (built table) stop)
entered_uniform None = none
entered_uniform (Some p) = found_uniform (λ s. answers_to p.0 (label_of s)) p.1 (built table).subs (refl, (refl, (refl, (refl, (refl, (refl, (refl, tt)))))))

fault_uniform : (words : List Text) → IsUniform (fault_of table words)
fault_uniform words =
    let top : Shape = (built table).top in
    let after : List Text = argument_words table words in
    let stop : Option (Text × List Text) = (walk top.rules (names_of (built table)) nothing_held after).stopped in
    level_uniform top (names_of (built table)) nothing_held after (is_some (entered (built table) stop)) (entered_fault (built table) stop) refl (entered_uniform stop)

-- an error of one of the kinds is answered as the words ask
pub error_asked : (k : ErrorKind) (words : List Text) → IsAmong k (fault_of table words) → asked_of_kind k ≡ asked_by (fault_of table words) (subcommand_of table words)
error_asked k words among = uniform_kind k (fault_of table words) (subcommand_of table words) (fault_uniform words) among
