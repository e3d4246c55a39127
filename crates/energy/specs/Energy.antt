-- The spared energy of an event, from the readings: rules 6.3 and 6.4.
-- Assumes nothing.
use Rattle.std.specs.Prelude.{ℕ, List, map, length}
use Rattle.book.specs.Readings.{drawn_at, sum_over}
use Rattle.energy.specs.Asked.{Asked}
use Rattle.energy.specs.Spared.{spared_of}
use Rattle.energy.specs.Trimmed.{trimmed_of}

-- T of an hour (rule 6.2)
unfoldable pub trimmed_at : List ℕ → List ℕ → ℕ → ℕ
trimmed_at book refs h = trimmed_of (map (λ (d : ℕ). drawn_at book d h) refs)

-- H and W are the numbers of event and warm-up hours (rule 5.3)
unfoldable pub energy_of : List ℕ → Asked → ℕ
energy_of book q =
    spared_of (length q.event) (length q.warm)
    (sum_over (trimmed_at book q.refs) q.event)
    (sum_over (trimmed_at book q.refs) q.warm)
    (sum_over (drawn_at book q.day) q.warm)
    (sum_over (drawn_at book q.day) q.event)
