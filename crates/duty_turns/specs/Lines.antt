-- What is printed of a turn.
use Rattle.std.specs.Prelude.{ℕ, List, [], ◌∷◌, ◌++◌, Option, Some, None, codes, decimal}
use Rattle.edge_kit.specs.Texts.{hex_text}
use Rattle.edge_kit.specs.declared.bytes.PubKey.{PubKey}
use Rattle.duty_schedule.specs.declared.rows.Duty.{Duty}
use Rattle.duty_schedule.specs.declared.rows.Duty.TheVariants as duty
use Rattle.duty_plans.specs.Texts.{result_words}
use Rattle.duty_plans.specs.declared.result.DutyResult.{DutyResult}
use Rattle.duty_plans.specs.declared.task.Task.{Task}
use Rattle.duty_plans.specs.Tasks.{duty_of}

-- what the duty is, and whose
abbrev pub kind_word : Duty → List ℕ
kind_word (duty.Block row) = codes "block"
kind_word (duty.Vote row) = codes "vote"

abbrev pub key_of : Duty → PubKey
key_of (duty.Block row) = row.pubkey
key_of (duty.Vote row) = row.pubkey

-- the slot, what was done, the key, and how it ended
abbrev pub line_of : ℕ → List ℕ → PubKey → DutyResult → List ℕ
line_of slot kind key r = decimal slot ++ (codes " " ++ (kind ++ (codes " " ++ (hex_text key.0 ++ (codes " " ++ (result_words r ++ codes "\n"))))))

abbrev pub duty_line : ℕ → Duty → DutyResult → List ℕ
duty_line slot d r = line_of slot (kind_word d) (key_of d) r

-- what is printed of each of these, up to the last that has a result
abbrev pub lines_by : {A R : Type 0} → (A → R → List ℕ) → List A → List R → List ℕ
lines_by line [] rs = []
lines_by line (x ∷ xs) [] = []
lines_by line (x ∷ xs) (r ∷ rs) = line x r ++ lines_by line xs rs

-- a line for each duty that has a result
abbrev pub duty_lines : ℕ → List Duty → List DutyResult → List ℕ
duty_lines slot ds rs = lines_by (duty_line slot) ds rs

-- nothing where there is nothing to report
abbrev pub report_line : ℕ → Task → Option DutyResult → List ℕ
report_line slot t None = []
report_line slot t (Some r) = line_of slot (codes "aggregate") (key_of (duty_of t)) r

-- those of the choices that have a report
abbrev pub aggregate_lines : ℕ → List Task → List (Option DutyResult) → List ℕ
aggregate_lines slot ts rs = lines_by (report_line slot) ts rs

-- no node gave what was asked for in a slot
abbrev pub none_line : ℕ → List ℕ
none_line slot = decimal slot ++ codes " nodes none\n"
