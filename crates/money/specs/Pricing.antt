-- The cents of energies: what the call answers, and what it leaves in the lent output.
-- Assumes nothing.
use Rattle.std.specs.Prelude.{ℕ, ◌≤◌, ◌<◌, cond, List, length, get_or, Ok, Err, Result}
use Rattle.laws.specs.Bounds.{largest_energy}
use Rattle.laws.specs.Table.{is_refusal}
use Rattle.money.specs.Cents.{row_energy, cents_in, total_cents}
use Rattle.money.specs.Price.{highest_price}
use Rattle.money.specs.Refusals.{cents_refusal}
use Rattle.money.specs.Worth.{most_energies}
use Rattle.refusals.specs.Refusals.{rule_number}
use Rattle.refusals.specs.declared.refusal.Refusal.{Refusal}

-- what the call answers on paper: the refusal number and place, 0 if it is accepted, and the total cents, 0 if it is refused
pub record Priced : Type 0 where
  pub number : ℕ
  pub place : ℕ
  pub cents : ℕ

-- rule 4.2: no total beside a refusal
abbrev pub refused_with : ℕ → ℕ → Priced
refused_with number place = record { number = number; place = place; cents = 0 }

-- the total, with number and place of an accepted call
abbrev pub priced_at : ℕ → List ℕ → Priced
priced_at p energies = record { number = 0; place = 0; cents = total_cents p energies }

-- what the call gives, as this answer
abbrev pub priced_paper : Result ℕ Refusal → Priced
priced_paper (Ok cents) = record { number = 0; place = 0; cents = cents }
priced_paper (Err refusal) = refused_with (rule_number refusal.rule) refusal.place

-- price, energies, and how many numbers the output has (rule 4.2)
unfoldable pub cents_of : ℕ → List ℕ → ℕ → Priced
cents_of p energies room =
    let refusal = cents_refusal p energies room in
    cond (is_refusal refusal) (refused_with refusal.number (get_or refusal.values 0 0)) (priced_at p energies)

-- price, energies and output (rule 4.2)
unfoldable pub cents_written : ℕ → List ℕ → List ℕ → List ℕ
cents_written p energies out = cond (is_refusal (cents_refusal p energies (length out))) out (cents_in p energies out)

-- energies that are not refused, with room for their cents
pub record Priceable (p : ℕ) (energies : List ℕ) (room : ℕ) : Type 0 where
  pub some : 1 ≤ p
  pub most : p ≤ highest_price
  pub few : length energies ≤ most_energies
  pub room_enough : length energies ≤ room
  pub low : (k : ℕ) → k < length energies → row_energy energies k ≤ largest_energy
