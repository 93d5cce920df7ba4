-- The bytes of a report: each image's lines, each image's trap, and a last line that says how the run stands.
use Rattle.std.specs.Prelude.{ℕ, suc, List, [], ◌∷◌, ◌++◌, length, codes, decimal, flat_map, count_by, sum_by, is_some, Option, Some, None}
use Rattle.caf_base.specs.Trap.{trap_number, trap_word}
use Rattle.caf_base.specs.declared.trap.Trap.{Trap}
use Rattle.caf_base.specs.declared.summary.Ending.{Ending}
use Rattle.caf_base.specs.declared.summary.Ending.TheVariants.{Done, Trapped, Stuck, Going}
use Rattle.caf_base.specs.declared.summary.ImageSummary.{ImageSummary}
use Rattle.caf_base.specs.declared.summary.Summary.{Summary}

-- a line that an image printed, behind the image's number
abbrev pub line_text : ℕ → List ℕ → List ℕ
line_text image line = decimal image ++ codes ": " ++ line ++ codes "\n"

-- the lines of images in order, the first of which has this number
abbrev pub lines_from : ℕ → List ImageSummary → List ℕ
lines_from image [] = []
lines_from image (one ∷ rest) = flat_map (line_text image) one.lines ++ lines_from (suc image) rest

-- a trap's number and word
abbrev pub trap_name : Trap → List ℕ
trap_name trap = decimal (trap_number trap) ++ codes " " ++ trap_word trap

-- the line on an image's trap
abbrev pub trap_line : ℕ → Trap → List ℕ
trap_line image trap = codes "trap: image " ++ decimal image ++ codes ", " ++ trap_name trap ++ codes "\n"

-- that line, where there is a trap
abbrev pub trap_text : ℕ → Option Trap → List ℕ
trap_text image None = []
trap_text image (Some trap) = trap_line image trap

-- the traps of images in order, the first of which has this number
abbrev pub traps_from : ℕ → List ImageSummary → List ℕ
traps_from image [] = []
traps_from image (one ∷ rest) = trap_text image one.trap ++ traps_from (suc image) rest

abbrev pub ending_word : Ending → List ℕ
ending_word Done = codes "done"
ending_word Trapped = codes "trapped"
ending_word Stuck = codes "stuck"
ending_word Going = codes "going"

-- how the run stands, with the numbers of images, of lines and of traps
abbrev pub tail_text : Ending → List ImageSummary → List ℕ
tail_text ending images = ending_word ending ++ codes ": images " ++ decimal (length images) ++ codes ", lines " ++ decimal (sum_by (λ one. length one.lines) images) ++ codes ", traps " ++ decimal (count_by (λ one. is_some one.trap) images) ++ codes "\n"

abbrev pub report_text : Summary → List ℕ
report_text summary = lines_from 0 summary.images ++ traps_from 0 summary.images ++ tail_text summary.ending summary.images
