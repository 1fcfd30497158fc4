use Rattle.std.proofs.Common.{◌≡◌, ◌++◌}
use Rattle.std.specs.Prelude.{string_bytes}
use Rattle.std.specs.Str.{IsUtf8}
use Rattle.std.specs.Str.Iter.{chars_rest}
use Rattle.std.specs.Iterator.Adapters.{take_source, take_count}
use Rattle.custody_format.specs.Messages.{first_characters}
use Rattle.custody_format.proofs.messages.first_characters.Given as goal

-- the characters so far and those that are still to be shown are all that are shown
abbrev pub invariant-characters : goal.invariant-characters
invariant-characters l =
    let left = chars_rest (take_source l.character-iterator) in
    IsUtf8 left × (first_characters 200 l.fn.text ≡ string_bytes l.shown ++ first_characters (take_count l.character-iterator) left)
