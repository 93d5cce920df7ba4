-- How posts are counted.
use Rattle.std.specs.Prelude.{ℕ, ◌+◌, ◌-◌, Bool, nat_lt, Result, Ok, Err, if◌then◌else◌}
use Rattle.caf_base.specs.declared.trap.Trap.{Trap}
use Rattle.caf_base.specs.declared.trap.Trap.TheVariants as trap

-- whether an event with so many posts takes one more
abbrev pub can_post : ℕ → Bool
can_post posts = nat_lt posts 65535

-- the answer to a post: trap `Posts` where the event takes no more
abbrev pub posted : ℕ → Result (Unit {0}) Trap
posted posts = if can_post posts then Ok tt else Err trap.Posts

-- the posts after a post, as before where it traps
abbrev pub posts_after : ℕ → ℕ
posts_after posts = if can_post posts then posts + 1 else posts

-- whether there is a post to take
abbrev pub can_take : ℕ → Bool
can_take posts = nat_lt 0 posts

-- the posts after one was taken, if there was one
abbrev pub taken : ℕ → ℕ
taken posts = posts - 1
