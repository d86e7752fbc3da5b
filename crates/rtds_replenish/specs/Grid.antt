-- The grid of an RTDS unit's deadlines.
use Rattle.std.specs.Prelude.{ℕ, ◌≤◌, ◌<◌, ◌-◌}

-- the term that ends at `next` has t in it, and begins no earlier than the old one ended; numbers are nanoseconds
pub record IsTermAround (deadline period t next : ℕ) : Type 0 where
  pub begun : next - period ≤ t
  pub not_over : t < next
  pub after_old : deadline ≤ next - period
