use Rattle.std.proofs.Common.{◌≡◌, ◌<◌, ◌+ℤ◌, FitsSigned, length, arith, get_or, sym, ◌∙◌, to_z, of_z}
use Rattle.std.specs.Int.{w64}
use Rattle.std.proofs.lemmas.Int.{ints}
use Rattle.std.proofs.lemmas.Option.{slice_get_within, get_or_from_slice_get}
use Rattle.caf_reduce.specs.declared.part.Part.TheVariants.{Missing}
use Rattle.caf_reduce.specs.Sum.{IsMissing, sum_of}
use Rattle.caf_reduce.proofs.Parts.{sum_of-set, missing-set, inside-set}
use Rattle.caf_reduce.proofs.summer.Summer.give.Goals as goal

pub overflow_sub-self : goal.overflow_sub-self
overflow_sub-self c =
    let parts = c.self.inside.parts.items in
    let from = c.args.from in
    let missing : IsMissing parts from = rw c.self.view_is c.requires.missing in
    omega (arith, c.self.invariant.missing, missing-set parts from c.args.sum (slice_get_within parts from Missing missing) (get_or_from_slice_get parts from Missing Missing missing))

pub invariant_of-self : goal.invariant_of-self
invariant_of-self c =
    let parts = c.self.inside.parts.items in
    let from = c.args.from in
    let sum = to_z w64 (of_z w64 c.args.sum) in
    let missing : IsMissing parts from = rw c.self.view_is c.requires.missing in
    let fits : FitsSigned w64 (sum_of parts +ℤ c.args.sum) = rw c.self.view_is c.requires.fits in
    let within : from < length parts = slice_get_within parts from Missing missing in
    let is : get_or parts from Missing ≡ Missing = get_or_from_slice_get parts from Missing Missing missing in
    record {
      all = c.self.invariant.all ∙ sym (inside-set parts from sum within is);
      missing = omega (arith, c.self.invariant.missing, missing-set parts from sum within is);
      sum = omega (arith, ints, c.self.invariant.sum, sum_of-set parts from sum within is);
    }
