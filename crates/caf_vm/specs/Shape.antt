-- A task in the middle of a Step, by the shapes that the rules give to its addresses.
use Rattle.std.specs.Prelude.{◌≡◌, map, length}
use Rattle.caf_code.specs.Shapes.{Part, Shape, cells_of, sort_of}
use Rattle.caf_code.specs.Task.{Frame}
use Rattle.caf_code.specs.declared.listing.Listing.{Listing}

-- the frame of a part has the shape
pub record Fits (code : Listing) (p : Part) (h : Shape) (f : Frame) : Type 0 where
  pub cells : length f.cells ≡ cells_of code p
  pub stack : length f.stack ≡ h.stack
  pub held : length f.held ≡ h.held
  pub loops : length f.loops ≡ h.loops
  pub listed : map sort_of f.listed ≡ h.listed
  pub outs : length f.outs ≡ h.outs
