-- Two sheets that show the same lines: what demands 2 and 3 say of one they say of the other.
-- Assumes nothing.
use Prim.Native.Nat.{ℕ, suc, ◌+◌, ◌≤◌, ◌<◌}
use mathlib.Core.List.{List}
use mathlib.Core.Path.{◌≡◌, ◌∙◌}
use native.Mathlib.Omega.{arith}
use Rattle.laws.proofs.SumLaws.{run_same}
use Rattle.laws.specs.Sums.{run_of}
use Rattle.demands.specs.Demand2.{Demand2}
use Rattle.demands.specs.Demand3.{Demand3}
use Rattle.demands.specs.Faces.{Sheet}

-- line k is the same on both
pub record SameLine (s t : Sheet) (k : ℕ) : Type 0 where
  pub code : s.code k ≡ t.code k
  pub place : s.place k ≡ t.place k
  pub energy : s.energy k ≡ t.energy k
  pub cents : s.cents k ≡ t.cents k

pub record Same (s t : Sheet) : Type 0 where
  pub lines : s.lines ≡ t.lines
  pub each : (k : ℕ) → k < t.lines → SameLine s t k

module _ {s t : Sheet} (same : Same s t) where
  energy_run : (i k : ℕ) → i + k ≤ t.lines → run_of s.energy i k ≡ run_of t.energy i k
  energy_run i k h = run_same s.energy t.energy i k (λ j b. (same.each j (omega arith)).energy)

  cents_run : (i k : ℕ) → i + k ≤ t.lines → run_of s.cents i k ≡ run_of t.cents i k
  cents_run i k h = run_same s.cents t.cents i k (λ j b. (same.each j (omega arith)).cents)

  pub demand_3_same : {price energy cents : ℕ} → Demand3 price t energy cents → Demand3 price s energy cents
  demand_3_same d =
      record {
        any_run = λ i k h. let b : i + k ≤ t.lines = omega (arith, same.lines) in
            rw (energy_run i k b, cents_run i k b) (d.any_run i k b);
        first_run = λ k h. let b : k ≤ t.lines = omega (arith, same.lines) in
            rw (energy_run 0 k (omega arith), cents_run 0 k (omega arith)) (d.first_run k b);
        none_negative = λ k h. let b : k < t.lines = omega (arith, same.lines) in
            rw (energy_run 0 k (omega arith), energy_run 0 (suc k) (omega arith), (same.each k b).cents) (d.none_negative k b);
        cents_add_up = rw same.lines (cents_run 0 t.lines (omega arith) ∙ d.cents_add_up);
        energies_add_up = rw same.lines (energy_run 0 t.lines (omega arith) ∙ d.energies_add_up);
      }

  pub demand_2_same : {winter : ℕ} {book list : List ℕ} → Demand2 winter book list t → Demand2 winter book list s
  demand_2_same {winter} {book} {list} d =
      record {
        as_many = same.lines ∙ d.as_many;
        each = λ k h. let line = same.each k (omega (arith, d.as_many)) in rw (line.code, line.place, line.energy) (d.each k h);
      }
