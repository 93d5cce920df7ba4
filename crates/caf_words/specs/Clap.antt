-- The command that sorts words: an option `--trace` with one value, and any number of words.
use Rattle.std.specs.Prelude.{◌≡◌, ℕ, true, List, [], ◌∷◌, codes, Option, Some, None, unwrap_or, Result, Ok, Err}
use Rattle.clap.specs.Faults.{fault_of}
use Rattle.clap.specs.Matches.{found_of}
use Rattle.clap.specs.Simple.{App, matches_of, new_app, new_rule, with_rule, on_top}
use Rattle.clap.specs.Walk.{Row, Rule, Text, all_of, first_of, rows_of}
use Rattle.clap.specs.declared.builder.action.ArgAction.TheVariants.{Set, Append}
use Rattle.clap.specs.declared.parser.matches.ArgMatches.{ArgMatches}
use Rattle.clap.specs.declared.error.kind.ErrorKind.{ErrorKind}
use Rattle.clap.specs.declared.error.kind.ErrorKind.TheVariants as kind
use Rattle.caf_words.specs.declared.fault.WordFault.{WordFault}
use Rattle.caf_words.specs.declared.fault.WordFault.TheVariants as fault
use Rattle.caf_words.specs.Sorted.{Sorted, any_from}

abbrev pub trace_rule : Rule
trace_rule = record (new_rule (codes "trace")) { long = Some (codes "trace"); action = Some Set }

abbrev pub words_rule : Rule
words_rule = record (new_rule (codes "words")) { action = Some Append }

abbrev pub bare_app : App
bare_app = on_top (λ s. record s { no_binary_name = true; disable_help_flag = true }) (new_app (codes "caf"))

abbrev pub sorter : App
sorter = with_rule (with_rule bare_app trace_rule) words_rule

-- the words and the trace's name among the matches
abbrev pub words_in : List Row → List Text
words_in rows = unwrap_or (all_of (codes "words") rows) []

abbrev pub sorted_in : List Row → Sorted
sorted_in rows = record { positional = words_in rows; trace = first_of (codes "trace") rows }

-- a parse fails for want of memory, or since the words can't be sorted
abbrev pub word_fault : ErrorKind → WordFault
word_fault kind.OutOfMemory = fault.Memory
word_fault _ = fault.Usage

-- the matches are the words sorted, whatever the trace's name; or they can't be sorted so
abbrev pub Sorts : Option Sorted → Result ArgMatches WordFault → Type 0
Sorts s (Ok m) = s ≡ Some (sorted_in (rows_of (found_of m)))
Sorts s (Err fault.Usage) = s ≡ None
Sorts s (Err fault.Memory) = Unit {0}
