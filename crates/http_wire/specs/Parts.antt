-- Fields without where they lie in memory.
use Rattle.std.specs.Prelude.{List, map}
use Rattle.http_wire.specs.declared.field.Field.{Field}
use Rattle.http_wire.specs.Framings.{Pair}

abbrev pub parts : Field → Pair
parts f = (f.name.items, f.value.items)

abbrev pub parts_of : List Field → List Pair
parts_of fields = map parts fields
