-- What `decode` gives, by its value.
use Rattle.std.specs.Prelude.{ℕ, List, Result, Ok, Err}
use Rattle.std.specs.Global.{Vec}
use Rattle.record_codec.specs.declared.item.JournalItem.{JournalItem}
use Rattle.record_codec.specs.declared.item.BadAt.{BadAt}

abbrev pub seen : Result (Vec JournalItem) BadAt → Result (List JournalItem) ℕ
seen (Ok items) = Ok items.items
seen (Err bad) = Err bad.offset
