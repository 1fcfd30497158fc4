-- The files of the journal that is asked for.
use Rattle.std.specs.Prelude.{ℕ, List, ◌++◌, Option, None, Some, codes}
use Rattle.command_line.specs.Plans.{Asked, session, serve, proxy, merge, show, rehearse, shown, nothing}

-- the files of a journal's path
abbrev pub files_at : List ℕ → List ℕ × List ℕ
files_at path = (path ++ codes ".a", path ++ codes ".b")

-- the files of the journal that is asked for, if one is
abbrev pub files_of : Asked → Option (List ℕ × List ℕ)
files_of (session genesis None fork altair signer watch) = None
files_of (session genesis (Some path) fork altair signer watch) = Some (files_at path)
files_of (serve options) = Some (files_at options.journal)
files_of (proxy options) = Some (files_at options.journal)
files_of (merge genesis path) = Some (files_at path)
files_of (show genesis path) = Some (files_at path)
files_of (rehearse number clients steps) = None
files_of shown = None
files_of nothing = None
