-- Beside demand 2: the warm-up hours as a table (rules 5.1 and 5.2), and what no line reads (rule 5.12).
-- Assumes nothing.
use Rattle.std.specs.Prelude.{ℕ, ◌-◌, Bool, cond, ◌&&◌, List, [], ◌∷◌, ◌≡◌, ltb, eqb}
use Rattle.book.specs.Places.{InDay, hour_place}
use Rattle.calendar.specs.Clocks.{clocks_back, clocks_forward, passed_hour}
use Rattle.calendar.specs.WinterOf.{winter_of}
use Rattle.laws.proofs.Every.{Every}
use Rattle.notices.specs.Profiles.{credit}

-- the warm-up hours of an event that starts at hour s, by whether its day is the Sunday the clocks go forward
abbrev pub tabled_hours : Bool → ℕ → List ℕ
tabled_hours forward s =
    cond (forward && eqb s 6) (0 ∷ 1 ∷ 3 ∷ [])
    (cond (forward && eqb s 7) (1 ∷ 3 ∷ 4 ∷ [])
    (cond (ltb s credit.evening.start) ((s - 5) ∷ (s - 4) ∷ (s - 3) ∷ []) ((s - 4) ∷ (s - 3) ∷ [])))

-- rule 5.12, of the places of needed readings: none is hour 2 of that Sunday, and none lies on the Sunday the clocks go back
pub record Unread (winter : ℕ) (places : List ℕ) : Type 0 where
  pub none_passed_hour : Every (λ (p : ℕ). p ≡ hour_place (clocks_forward (winter_of winter)) passed_hour → ⊥) places
  pub none_clocks_back : Every (λ (p : ℕ). (h : ℕ) → InDay h → p ≡ hour_place (clocks_back (winter_of winter)) h → ⊥) places
