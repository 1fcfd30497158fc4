-- Steps of reading that may find a member without a reading.
use Rattle.std.specs.Prelude.{◌≡◌, Result, Ok, Err}
use Rattle.session_format.specs.declared.member.Member.{Member}
use Rattle.session_format.specs.declared.reading.Unread.{Unread}
use Rattle.session_format.specs.declared.reading.Unread.TheVariants as unread

-- the next reading, where this one gave a value
infixl 10 ◌>>=◌
abbrev pub ◌>>=◌ : {A B : Type 0} → Result A Member → (A → Result B Member) → Result B Member
(Ok x) >>= f = f x
(Err e) >>= f = Err e

-- want of memory says nothing, and a member without a reading is the reading's own
abbrev pub IsUnread : {A : Type 0} → Unread → Result A Member → Type 0
IsUnread unread.Memory reading = Unit {0}
IsUnread (unread.Member m) reading = reading ≡ Err m

-- what a function gives is what the reading gives, unless memory ran out
abbrev pub Gives : {A : Type 0} → Result A Unread → Result A Member → Type 0
Gives (Ok x) reading = reading ≡ Ok x
Gives (Err e) reading = IsUnread e reading
