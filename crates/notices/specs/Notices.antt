-- The notices of a list.
-- Assumes nothing.
use Rattle.std.specs.Prelude.{ℕ, ◌+◌, ◌-◌, ◌*◌, ◌/◌, cond, List, ltb, length, get_or}
use Rattle.laws.specs.Sums.{sum_to}
use Rattle.notices.specs.declared.notices.Notice.{Notice}

-- rules 2.10 and 2.11: the numbers of a notice, and the notices of a list at most
abbrev pub notice_numbers : ℕ
notice_numbers = 3

abbrev pub most_notices : ℕ
most_notices = 100

-- so many numbers has the longest list
abbrev pub longest_list : ℕ
longest_list = notice_numbers * most_notices

-- so many notices stand in so many numbers, and in a list: as many as it has whole ones (rule 2.11)
abbrev pub count_in : ℕ → ℕ
count_in numbers = numbers / notice_numbers

abbrev pub count_of : List ℕ → ℕ
count_of l = count_in (length l)

-- no notice: no hours, on day 0 (rule 2.12)
abbrev pub no_notice : Notice
no_notice = record { day = 0; start = 0; end = 0 }

-- the notice whose numbers stand from index i of a list on, and the one at index k, counted from 0
abbrev pub notice_from : List ℕ → ℕ → Notice
notice_from l i = record { day = get_or l i 0; start = get_or l (i + 1) 0; end = get_or l (i + 2) 0 }

unfoldable pub notice_at : List ℕ → ℕ → Notice
notice_at l k = cond (ltb k (count_of l)) (notice_from l (k * notice_numbers)) no_notice

-- rule 2.10: how many hours a notice has
unfoldable pub hours_of : Notice → ℕ
hours_of n = n.end - n.start

-- the hours of the first k notices together
abbrev pub hours_to : List ℕ → ℕ → ℕ
hours_to l k = sum_to (λ (i : ℕ). hours_of (notice_at l i)) k
