use Rattle.protect_record.proofs.record.Record.check.Given as goal

-- the ledger of the blank that is handed over
abbrev pub ghosts-check_uncounted : goal.ghosts-check_uncounted
ghosts-check_uncounted a = record { name = a.blank.name; parts = a.blank.parts }
