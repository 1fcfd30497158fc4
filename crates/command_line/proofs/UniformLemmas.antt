-- Where `clap` has no `help` of its own, the kinds that an error may have are all displays of help or the
-- version, or none of them is.
use Rattle.std.proofs.Common.{◌≡◌, ℕ, zero, suc, Bool, true, false, not, ◌&&◌, nat_lt, length, List, [], ◌∷◌, Option, Some, None, is_some, drop, cond, refl}
use Rattle.std.specs.Prelude.{◌==◌, ◌||◌, codes, encode_utf8, slice_get}
use Rattle.std.specs.Str.{bytes_eq, chars}
use Rattle.std.specs.Option.{option_map_or}
use Rattle.clap.specs.Kinds.{Kinds, check_kinds, or_else, range_kinds, request_kinds, value_kinds, values_kinds}
use Rattle.clap.specs.Facts.{parser_of_value, unwrap_or_range}
use Rattle.clap.specs.Walk.{Held, Names, Row, Rule, Step, Text, Walk, next, trailing, subcommand, value, action_of, arg_by_id, arg_by_index, arg_by_long, arg_by_short, attached_value, has_row}
use Rattle.clap.specs.Walk.{is_empty, is_pending, most_values, reacted, settled, subcommand_met, takes_several, takes_values, values_or_missing, walk, walk_from, walked, with_default, word_met}
use Rattle.clap.specs.Lexer.{long_of, short_of}
use Rattle.clap.specs.Simple.{Shape}
use Rattle.clap.specs.Faults.{action_fault, bundle_step_fault, count_fault, default_fault, defaults_fault, flag_word_fault, flags_fault, level_fault, long_fault, option_fault, other_fault, react_fault, repeat_fault, set_fault, settle_fault, short_fault, step_fault, stray_fault, turn_fault, use_fault, walk_fault, word_fault}
use Rattle.clap.specs.declared.builder.action.ArgAction.{ArgAction}
use Rattle.clap.specs.declared.builder.action.ArgAction.TheVariants as action
use Rattle.clap.specs.declared.builder.value_parser.ValueParser.{ValueParser}
use Rattle.clap.specs.declared.error.kind.ErrorKind.{ErrorKind}
use Rattle.clap.specs.declared.error.kind.ErrorKind.TheVariants.{DisplayHelp, InvalidSubcommand}
use Rattle.command_line.specs.Plans.{is_display}

-- each kind is a display, or none is
abbrev pub AreAll : Bool → Kinds → Type 0
AreAll b [] = Unit {0}
AreAll b (k ∷ ks) = (is_display k ≡ b) × AreAll b ks

abbrev pub AreAlike : Kinds → Type 0
AreAlike [] = Unit {0}
AreAlike (k ∷ ks) = AreAll (is_display k) ks

pub record IsUniform (ks : Kinds) : Type 0 where
  pub alike : AreAlike ks

pub none : IsUniform []
none = record { alike = tt }

one : {k : ErrorKind} → IsUniform (k ∷ [])
one = record { alike = tt }

-- ---- steps

then_uniform : (a b : Kinds) → IsUniform a → IsUniform b → IsUniform (or_else a b)
then_uniform [] b p q = q
then_uniform (k ∷ ks) b p q = p

if_uniform : (t : Bool) (a b : Kinds) → IsUniform a → IsUniform b → IsUniform (cond t a b)
if_uniform true a b p q = p
if_uniform false a b p q = q

some_uniform : {X : Type 0} (f : X → Kinds) (o : Option X) (d : Kinds) → ((x : X) → IsUniform (f x)) → IsUniform d → IsUniform (option_map_or f o d)
some_uniform f None d p q = q
some_uniform f (Some x) d p q = p x

-- ---- one use of an argument

values_uniform : (i : Bool) (p : ValueParser) (vs : List Text) → IsUniform (values_kinds i p vs)
values_uniform i p [] = none
values_uniform i p (v ∷ vs) = then_uniform (value_kinds i p v) _ (if_uniform _ _ _ none one) (values_uniform i p vs)

range_uniform : (least most n : ℕ) → IsUniform (range_kinds least most n)
range_uniform least most n =
    if_uniform (nat_lt 0 least && n == 0) _ _ one
    (if_uniform (least == most) _ _ (if_uniform (least == n) _ _ none one) (if_uniform (nat_lt n least) _ _ one (if_uniform (nat_lt most n) _ _ one none)))

request_uniform : (x : ArgAction) → IsUniform (request_kinds x)
request_uniform action.Set = none
request_uniform action.Append = none
request_uniform action.SetTrue = none
request_uniform action.SetFalse = none
request_uniform action.Count = none
request_uniform action.Help = one
request_uniform action.HelpShort = one
request_uniform action.HelpLong = one
request_uniform action.Version = one

count_uniform : (a : Rule) (vs : List Text) (rows : List Row) → IsUniform (count_fault a vs rows)
count_uniform a [] rows = if_uniform _ _ _ none one
count_uniform a (v ∷ vs) rows = values_uniform _ _ (v ∷ vs)

set_uniform : (again : Bool) (a : Rule) (vs : List Text) (rows : List Row) → IsUniform (set_fault again a vs rows)
set_uniform again a vs rows = then_uniform (repeat_fault again a.id rows) _ (if_uniform _ _ _ one none) (values_uniform _ _ vs)

action_uniform : (x : ArgAction) (again : Bool) (a : Rule) (vs : List Text) (rows : List Row) → IsUniform (action_fault x again a vs rows)
action_uniform action.Set again a vs rows = set_uniform again a vs rows
action_uniform action.SetTrue again a vs rows = set_uniform again a vs rows
action_uniform action.SetFalse again a vs rows = set_uniform again a vs rows
action_uniform action.Append again a vs rows = values_uniform _ _ vs
action_uniform action.Count again a vs rows = count_uniform a vs rows
action_uniform action.Help again a vs rows = one
action_uniform action.HelpShort again a vs rows = one
action_uniform action.HelpLong again a vs rows = one
action_uniform action.Version again a vs rows = one

use_uniform : (again : Bool) (a : Rule) (vs : List Text) (rows : List Row) → IsUniform (use_fault again a vs rows)
use_uniform again a vs rows =
    let least : ℕ = (unwrap_or_range a.range).start_inclusive in
    then_uniform (range_kinds least (most_values a) (length vs)) _ (range_uniform least (most_values a) (length vs))
    (action_uniform (action_of a) again a (values_or_missing a vs) rows)

-- ---- one word

settle_uniform : (c : List Rule) (again : Bool) (h : Held) → IsUniform (settle_fault c again h)
settle_uniform c again h = some_uniform _ h.pending [] (λ p. some_uniform _ (arg_by_id c p.0) [] (λ a. use_uniform again a p.1 h.rows) none) none

react_uniform : (c : List Rule) (again : Bool) (a : Rule) (vs : List Text) (h : Held) → IsUniform (react_fault c again a vs h)
react_uniform c again a vs h = then_uniform (settle_fault c again h) _ (settle_uniform c again h) (use_uniform again a vs (settled c h).rows)

option_uniform : (c : List Rule) (again : Bool) (a : Rule) (v : Option Text) (h : Held) → IsUniform (option_fault c again a v h)
option_uniform c again a (Some v) h = react_uniform c again a (v ∷ []) h
option_uniform c again a None h = settle_uniform c again h

long_uniform : (c : List Rule) (again : Bool) (found : Option Rule) (v : Option Text) (h : Held) → IsUniform (long_fault c again found v h)
long_uniform c again None v h = one
long_uniform c again (Some a) v h = if_uniform (takes_values a) _ _ (option_uniform c again a v h) (if_uniform (is_some v) _ _ one (react_uniform c again a [] h))

short_uniform : (c : List Rule) (again : Bool) (found : Option Rule) (rest : Text) (h : Held) (go : Held → Kinds) → ((k : Held) → IsUniform (go k))
    → IsUniform (short_fault c again found rest h go)
short_uniform c again None rest h go p = one
short_uniform c again (Some a) rest h go p =
    if_uniform (takes_values a) _ _ (option_uniform c again a (attached_value rest) h)
    (then_uniform (react_fault c again a [] h) _ (react_uniform c again a [] h) (p (reacted c a [] h)))

bundle_step_uniform : (c : List Rule) (again : Bool) (x : Option ℕ) (flags : Text) (skip : ℕ) (h : Held) (go : Text → ℕ → Held → Kinds)
    → ((rest : Text) (n : ℕ) (k : Held) → IsUniform (go rest n k)) → IsUniform (bundle_step_fault c again x flags skip h go)
bundle_step_uniform c again None flags skip h go p = none
bundle_step_uniform c again (Some x) flags zero h go p =
    let rest : Text = drop (length (encode_utf8 x)) flags in
    short_uniform c again (arg_by_short c x) rest h (go rest 0) (p rest 0)
bundle_step_uniform c again (Some x) flags (suc skip) h go p = p (drop (length (encode_utf8 x)) flags) skip h

flags_uniform : (c : List Rule) (again : Bool) (k : ℕ) (flags : Text) (skip : ℕ) (h : Held) → IsUniform (flags_fault c again k flags skip h)
unfolding flags_fault
flags_uniform c again zero flags skip h = none
flags_uniform c again (suc k) flags skip h = bundle_step_uniform c again (slice_get (chars flags) 0) flags skip h (flags_fault c again k) (flags_uniform c again k)

flag_word_uniform : (c : List Rule) (again : Bool) (met : Option (Text × Option Text)) (word : Text) (h : Held) → IsUniform (flag_word_fault c again met word h)
flag_word_uniform c again (Some p) word h = long_uniform c again (arg_by_long c p.0) p.1 h
flag_word_uniform c again None word h = some_uniform _ (short_of word) [] (λ flags. flags_uniform c again (length flags) flags h.skip (record h { skip = 0 })) none

-- no `help` of `clap` stands among the subcommands
help_uniform : (t disabled : Bool) → disabled ≡ true → IsUniform (cond (t && not disabled) (DisplayHelp ∷ InvalidSubcommand ∷ []) [])
help_uniform true true e = none
help_uniform true false e = absurd (cc)
help_uniform false disabled e = none

other_uniform : (s : Shape) (named : Option Text) (word : Text) (h : Held) → s.disable_help_subcommand ≡ true → IsUniform (other_fault s named word h)
other_uniform s (Some name) word h e = help_uniform (bytes_eq name (codes "help")) s.disable_help_subcommand e
other_uniform s None word h e = if_uniform (bytes_eq word (45 ∷ 45 ∷ [])) _ _ none (flag_word_uniform s.rules s.args_override_self (long_of word) word h)

step_uniform : (s : Shape) (position : ℕ) (h : Held) (met : Step) → IsUniform (step_fault s position h met)
step_uniform s position h value = some_uniform _ (arg_by_index s.rules position) (stray_fault s)
    (λ a. if_uniform (is_pending a h.pending && takes_several a) _ _ none (settle_uniform s.rules s.args_override_self h)) (if_uniform s.is_leaf _ _ one (record { alike = (refl, tt) }))
step_uniform s position h (next waiting) = none
step_uniform s position h (trailing p) = none
step_uniform s position h (subcommand name) = none

turn_uniform : (s : Shape) (names : Names) (w : Walk) (word : Text) → s.disable_help_subcommand ≡ true → IsUniform (turn_fault s names w word)
turn_uniform s names w word e =
    let met : Held × Step = word_met s.rules names w.is_trailing w.waiting w.position word w.held in
    if_uniform (is_some w.stopped) _ _ none (then_uniform (word_fault s names w.is_trailing w.waiting word w.held) _
    (if_uniform w.is_trailing _ _ none (other_uniform s (subcommand_met names w.waiting word) word w.held e)) (step_uniform s w.position met.0 met.1))

-- ---- a level

walk_uniform : (s : Shape) (names : Names) (w : Walk) (words : List Text) → s.disable_help_subcommand ≡ true → IsUniform (walk_fault s names w words)
unfolding walk_fault
walk_uniform s names w [] e = none
walk_uniform s names w (word ∷ rest) e = then_uniform (turn_fault s names w word) _ (turn_uniform s names w word e) (walk_uniform s names (walked s.rules names w word) rest e)

default_uniform : (rows : List Row) (a : Rule) → IsUniform (default_fault rows a)
default_uniform rows a = if_uniform (has_row a.id rows || is_empty a.defaults) _ _ none
    (then_uniform (request_kinds (action_of a)) _ (request_uniform (action_of a)) (values_uniform a.ignore_case (parser_of_value a.parser) a.defaults))

defaults_uniform : (rows : List Row) (c : List Rule) → IsUniform (defaults_fault rows c)
unfolding defaults_fault
defaults_uniform rows [] = none
defaults_uniform rows (a ∷ rest) = then_uniform (default_fault rows a) _ (default_uniform rows a) (defaults_uniform (with_default rows a) rest)

check_uniform : (a b c : Bool) → IsUniform (check_kinds a b c)
check_uniform a b c = if_uniform a _ _ one (if_uniform b _ _ one (if_uniform c _ _ one none))

pub level_uniform : (s : Shape) (names : Names) (h : Held) (words : List Text) (entered : Bool) (below : Kinds) → s.disable_help_subcommand ≡ true → IsUniform below
    → IsUniform (level_fault s names h words entered below)
level_uniform s names h words entered below e p =
    let end : Held = (walk s.rules names h words).held in
    let rows : List Row = (settled s.rules end).rows in
    then_uniform (walk_fault s names (walk_from h) words) _ (walk_uniform s names (walk_from h) words e)
    (then_uniform below _ p (then_uniform (settle_fault s.rules s.args_override_self end) _ (settle_uniform s.rules s.args_override_self end)
    (then_uniform (defaults_fault rows s.rules) _ (defaults_uniform rows s.rules) (check_uniform _ _ _))))
