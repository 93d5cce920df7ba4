-- Integer arithmetic: computed in exact numbers, and then tested against 64 bits with a sign. As a logical, 0 is false
-- and every other number is true.
use Rattle.std.specs.Prelude.{ℕ, zero, suc, ◌^◌, Bool, true, false, not, ◌&&◌, ◌||◌, Result, Ok, Err, ℤ, pos, negsuc, ◌+ℤ◌, ◌-ℤ◌, ◌*ℤ◌, neg_ℤ, int_lt, int_le, int_div, int_rem, nat_lt, unsigned_abs, if◌then◌else◌}
use Rattle.std.specs.Int.{int_min, int_max}
use Rattle.caf_base.specs.declared.trap.Trap.{Trap}
use Rattle.caf_base.specs.declared.trap.Trap.TheVariants as trap
use Rattle.caf_base.specs.declared.arithmetic.BinaryOperator.{BinaryOperator}
use Rattle.caf_base.specs.declared.arithmetic.BinaryOperator.TheVariants.{Add, Subtract, Multiply, Divide, Modulo, Minimum, Maximum, Equal, NotEqual, Less, LessEqual, Greater, GreaterEqual, And, Or, Equivalent, NotEquivalent}
use Rattle.caf_base.specs.declared.arithmetic.UnaryOperator.{UnaryOperator}
use Rattle.caf_base.specs.declared.arithmetic.UnaryOperator.TheVariants.{Negate, Absolute, Not}

-- a number, or the first trap
abbrev pub Answer : Type 0
Answer = Result ℤ Trap

-- whether 64 bits with a sign hold the number
abbrev pub fits : ℤ → Bool
fits (pos n) = nat_lt n (2 ^ 63)
fits (negsuc n) = nat_lt n (2 ^ 63)

-- the number, tested
abbrev pub tested : ℤ → Answer
tested z = if fits z then Ok z else Err trap.Number

abbrev pub truth_of : Bool → ℤ
truth_of true = pos 1
truth_of false = pos 0

abbrev pub is_zero : ℤ → Bool
is_zero (pos zero) = true
is_zero (pos (suc n)) = false
is_zero (negsuc n) = false

abbrev pub is_true : ℤ → Bool
is_true z = not (is_zero z)

abbrev pub is_equal : ℤ → ℤ → Bool
is_equal a b = int_le a b && int_le b a

-- whether both or neither hold
abbrev pub agree : Bool → Bool → Bool
agree true b = b
agree false b = not b

abbrev pub of_two : BinaryOperator → ℤ → ℤ → Answer
of_two Add a b = tested (a +ℤ b)
of_two Subtract a b = tested (a -ℤ b)
of_two Multiply a b = tested (a *ℤ b)
of_two Divide a b = if is_zero b then Err trap.Divisor else tested (int_div a b)
of_two Modulo a b = if is_zero b then Err trap.Divisor else Ok (int_rem a b)
of_two Minimum a b = Ok (int_min a b)
of_two Maximum a b = Ok (int_max a b)
of_two Equal a b = Ok (truth_of (is_equal a b))
of_two NotEqual a b = Ok (truth_of (not (is_equal a b)))
of_two Less a b = Ok (truth_of (int_lt a b))
of_two LessEqual a b = Ok (truth_of (int_le a b))
of_two Greater a b = Ok (truth_of (int_lt b a))
of_two GreaterEqual a b = Ok (truth_of (int_le b a))
of_two And a b = Ok (truth_of (is_true a && is_true b))
of_two Or a b = Ok (truth_of (is_true a || is_true b))
of_two Equivalent a b = Ok (truth_of (agree (is_true a) (is_true b)))
of_two NotEquivalent a b = Ok (truth_of (not (agree (is_true a) (is_true b))))

abbrev pub of_one : UnaryOperator → ℤ → Answer
of_one Negate a = tested (neg_ℤ a)
of_one Absolute a = tested (pos (unsigned_abs a))
of_one Not a = Ok (truth_of (is_zero a))

-- a count, 0 where it is negative
abbrev pub at_least_none : ℤ → ℕ
at_least_none (pos n) = n
at_least_none (negsuc n) = 0

-- the iterations of a `do` from a first to a last number by a step
abbrev pub iterations : ℤ → ℤ → ℤ → ℕ
iterations first last step = at_least_none (int_div (last -ℤ first +ℤ step) step)
