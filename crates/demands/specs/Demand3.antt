-- Demand 3 (rules 10.6, 10.7, 10.8 and 10.9), of a sheet of lines at one price and its two totals: the cents of any run of lines against what
-- their energy is worth exactly, in parts of a cent; no line below 0; the totals.
-- Assumes nothing.
use Rattle.std.specs.Prelude.{ℕ, suc, ◌+◌, ◌*◌, ◌≤◌, ◌<◌, ◌≡◌}
use Rattle.laws.specs.Sums.{run_of}
use Rattle.money.specs.Near.{Near, NearHalf}
use Rattle.money.specs.Worth.{cent_parts, exact_worth, rounded_worth}
use Rattle.demands.specs.Faces.{Sheet}

pub record Demand3 (price : ℕ) (s : Sheet) (energy cents : ℕ) : Type 0 where
  -- the k lines from line i on: their cents and what their energy is worth differ by less than a cent
  pub any_run : (i k : ℕ) → i + k ≤ s.lines
      → Near (cent_parts * run_of s.cents i k) (exact_worth price (run_of s.energy i k)) cent_parts
  -- the first k lines: by at most half a cent
  pub first_run : (k : ℕ) → k ≤ s.lines
      → NearHalf (cent_parts * run_of s.cents 0 k) (exact_worth price (run_of s.energy 0 k)) cent_parts
  -- no line takes anything back: with its cents the rounded worth of the lines before it becomes that of the lines up to it
  pub none_negative : (k : ℕ) → k < s.lines
      → rounded_worth price (run_of s.energy 0 k) + s.cents k ≡ rounded_worth price (run_of s.energy 0 (suc k))
  -- all lines together are the totals
  pub cents_add_up : run_of s.cents 0 s.lines ≡ cents
  pub energies_add_up : run_of s.energy 0 s.lines ≡ energy
