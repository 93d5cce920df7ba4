-- The journal of a call that has ended.
use Rattle.std.specs.Prelude.{List}
use Rattle.caf_journal.specs.declared.entry.Entry.{Entry}
use Rattle.caf_top.specs.declared.ended.Ended.{Ended}

abbrev pub journal_of : Ended → List Entry
journal_of ended = ended.journal
