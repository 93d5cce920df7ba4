-- What is done with a file's program, of the requests that are built.
use Rattle.std.specs.Prelude.{ℕ, List, Option, Some, None, option_and_then, codes, nat_eq, nat_le, ◌&&◌, ◌≢◌, ◌≤◌, if◌then◌else◌}
use Rattle.caf_words.specs.Requests.{Request, asked_of}
use Rattle.caf_words.specs.Requests.{Request as request}
use Rattle.caf_top.specs.declared.job.Job.{Job}
use Rattle.caf_top.specs.declared.job.Job.TheVariants as job
use Rattle.caf_top.specs.declared.job.Work.{Work}
use Rattle.caf_top.specs.declared.job.Work.TheVariants as work

-- a file, and what is done with its program: by itself, or by the choices of a trace on so many images
pub data Wanted : Type 0 where
  program : List ℕ → Work → Wanted
  check : List ℕ → ℕ → List ℕ → Wanted

-- what a request wants: `step` on one image, without a trace that is saved, `list`, and `check` are built
abbrev pub wanted_in : Request → Option Wanted
wanted_in (request.step file images seed events None) = if nat_eq images 1 then Some (program file (work.Run events)) else None
wanted_in (request.list file) = Some (program file work.List)
wanted_in (request.check file images trace) = if nat_le 1 images && nat_le images 64 then Some (check file images trace) else None
wanted_in _ = None

-- what the words of a command line want
abbrev pub wanted_by : List (List ℕ) → Option Wanted
wanted_by words = option_and_then wanted_in (asked_of words)

-- what a job is
abbrev pub wanted_of : Job → Wanted
wanted_of (job.Program file w) = program file.now w
wanted_of (job.Check file images trace) = check file.now images trace.now

-- a check is on 1 to 64 images
abbrev pub IsOnImages : Wanted → Type 0
IsOnImages (program file w) = Unit {0}
IsOnImages (check file images trace) = (1 ≤ images) × (images ≤ 64)

-- a name that isn't asked for
abbrev pub IsOther : Wanted → List ℕ → Type 0
IsOther (program file w) other = other ≢ file
IsOther (check file images trace) other = (other ≢ file) × (other ≢ trace)

-- what is written for other words
abbrev pub usage : List ℕ
usage = codes "usage: caf run FILE IMAGES WORKERS EVENTS [--trace NAME]\nusage: caf step FILE IMAGES SEED EVENTS [--trace NAME]\nusage: caf replay FILE IMAGES TRACE\nusage: caf check FILE IMAGES TRACE\nusage: caf list FILE\nusage: caf gen NUMBER\n"
