-- Numbers among the words of a command line.
use Rattle.std.specs.Prelude.{ℕ, ◌^◌, ◌+◌, ◌*◌, ◌-◌, ◌&&◌, List, length, fold, Option, Some, None, nat_lt, nat_le, if◌then◌else◌}
use Rattle.std.specs.List.{list_all}
use Rattle.std.specs.Char.{is_ascii_digit}

abbrev pub Text : Type 0
Text = List ℕ

-- the number that decimal digits say
abbrev pub digits : Text → ℕ
digits bs = fold (λ n d. 10 * n + (d - 48)) 0 bs

-- one to twenty digits, leading zeros among them, of a number that 64 bits hold
abbrev pub number_in : Text → Option ℕ
number_in bs = if nat_lt 0 (length bs) && nat_le (length bs) 20 && list_all is_ascii_digit bs && nat_lt (digits bs) (2 ^ 64) then Some (digits bs) else None

-- the number, where it is in the range
abbrev pub ranged : ℕ → ℕ → Option ℕ → Option ℕ
ranged low high None = None
ranged low high (Some n) = if nat_le low n && nat_le n high then Some n else None

-- how many images a program may run on, how many workers may run them, and how many events a run may have
abbrev pub images_in : Text → Option ℕ
images_in bs = ranged 1 64 (number_in bs)

abbrev pub workers_in : Text → Option ℕ
workers_in bs = ranged 1 8 (number_in bs)

abbrev pub events_in : Text → Option ℕ
events_in bs = ranged 1 1000000 (number_in bs)
