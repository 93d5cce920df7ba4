-- The parts of a report, one image after another.
use Rattle.std.proofs.Common.{◌≡◌, ℕ, ◌+◌, ◌<◌, suc, List, [], ◌∷◌, ◌++◌, length, drop, get_or, flat_map, refl, ap, sym, ◌∙◌, append_assoc, add-one}
use Rattle.std.proofs.Math.Seq.{drop-cons}
use Rattle.caf_base.specs.declared.summary.ImageSummary.{ImageSummary}
use Rattle.caf_report.specs.Report.{line_text, lines_from, trap_text, traps_from}

-- the lines of the image at hand, and those of the images after it
pub lines_from-drop : (images : List ImageSummary) (i : ℕ) (d : ImageSummary) → i < length images → lines_from i (drop i images) ≡ flat_map (line_text i) (get_or images i d).lines ++ lines_from (i + 1) (drop (i + 1) images)
lines_from-drop images i d lt = rw (add-one, drop-cons images i d lt) refl

-- the trap of the image at hand, and those of the images after it
pub traps_from-drop : (images : List ImageSummary) (i : ℕ) (d : ImageSummary) → i < length images → traps_from i (drop i images) ≡ trap_text i (get_or images i d).trap ++ traps_from (i + 1) (drop (i + 1) images)
traps_from-drop images i d lt = rw (add-one, drop-cons images i d lt) refl
