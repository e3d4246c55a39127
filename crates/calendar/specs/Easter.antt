-- Easter Sunday, in the letters of rule 1.13.
-- Assumes nothing.
use Rattle.std.specs.Prelude.{ℕ, ◌+◌, ◌-◌, ◌*◌, ◌/◌, ◌%◌, Bool, ◌||◌, ltb}
use Rattle.dates.specs.Winters.{days}
use Rattle.calendar.specs.Days.{march_first}

-- rule 1.14: 1, a year whose Easter is not answered
unfoldable pub no_easter_year : ℕ → Bool
no_easter_year y = ltb y 2011 || ltb 2099 y

-- rule 1.13: the steps from a to t
unfoldable pub easter_t : ℕ → ℕ
easter_t y =
    let a = y % 19 in
    let b = y / 100 in
    let c = y % 100 in
    let d = b / 4 in
    let e = b % 4 in
    let f = (b + 8) / 25 in
    let g = (b - f + 1) / 3 in
    let h = (19 * a + b - d - g + 15) % 30 in
    let i = c / 4 in
    let k = c % 4 in
    let l = (32 + 2 * e + 2 * i - h - k) % 7 in
    let m = (a + 11 * h + 22 * l) / 451 in
    h + l - 7 * m + 114

-- rule 1.13: month and day from t
abbrev pub easter_month : ℕ → ℕ
easter_month y = easter_t y / 31

abbrev pub easter_day : ℕ → ℕ
easter_day y = easter_t y % 31 + 1

-- how many days Easter Sunday of year y comes after 1 March: k April comes 31 days after k March
abbrev pub after_march_first : ℕ → ℕ
after_march_first y = 31 * (easter_month y - 3) + easter_day y - 1

-- Easter Sunday of the year after as a day of the book of winter y, the count going on past the book's end (rule 1.17)
unfoldable pub easter_in_book : ℕ → ℕ
easter_in_book y = march_first (days y) + after_march_first (y + 1)
