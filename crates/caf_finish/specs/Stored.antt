-- An account as it is stored.
use Rattle.caf_finish.specs.declared.progress.Progress.TheInside.{Inside}
use Rattle.caf_finish.specs.Account.{Account}
use Rattle.caf_finish.specs.Progress.{IsProgress}

abbrev pub account_of : Inside → Account
account_of progress =
    record {
      rank = progress.rank;
      wave = progress.wave;
      last = progress.last;
      late = progress.late;
      counters = progress.counters;
      parts = progress.summer;
    }

abbrev pub IsStored : Inside → Type 0
IsStored progress = IsProgress (account_of progress)
