-- The text of values in six parts: what stands from each part on, and where each starts.
-- Assumes nothing.
use Prim.Native.Nat.{ℕ, ◌+◌}
use mathlib.Core.List.{List, [], ◌∷◌, ◌++◌, append-nil, map}
use mathlib.Core.Path.{◌≡◌, sym, ap, ◌∙◌}
use native.Mathlib.Omega.{arith}
use lib.ListN.{length, drop, length-append}
use Rattle.numerals.proofs.Here.{past}
use Rattle.numerals.proofs.LineLaws.{lines_more, lines_append}
use Rattle.numerals.specs.Lines.{line, line_bytes, bytes_of_lines}
use Rattle.form.specs.Document.{Document, event_line, read_line, document_lines, text_of}

module _ (d : Document) where
  -- the six parts of the text
  abbrev pub winter_part : List ℕ
  winter_part = line_bytes (line "winter=" (d.winter ∷ []))

  abbrev pub price_part : List ℕ
  price_part = line_bytes (line "price=" (d.price ∷ []))

  abbrev pub count_part : List ℕ
  count_part = line_bytes (line "events=" (length d.events ∷ []))

  abbrev pub events_part : List ℕ
  events_part = bytes_of_lines (map event_line d.events)

  abbrev pub counted_part : List ℕ
  counted_part = line_bytes (line "reads=" (length d.reads ∷ []))

  abbrev pub reads_part : List ℕ
  reads_part = bytes_of_lines (map read_line d.reads)

  -- what stands from each part on
  abbrev pub from_counted : List ℕ
  from_counted = counted_part ++ reads_part

  abbrev pub from_events : List ℕ
  from_events = events_part ++ from_counted

  abbrev pub from_count : List ℕ
  from_count = count_part ++ from_events

  abbrev pub from_price : List ℕ
  from_price = price_part ++ from_count

  pub parts : text_of d ≡ winter_part ++ from_price
  unfolding document_lines
  parts = simp (lines_more, lines_append)

  -- where each part starts
  abbrev pub price_at : ℕ
  price_at = 0 + length winter_part

  abbrev pub count_at : ℕ
  count_at = price_at + length price_part

  abbrev pub events_at : ℕ
  events_at = count_at + length count_part

  abbrev pub counted_at : ℕ
  counted_at = events_at + length events_part

  abbrev pub reads_at : ℕ
  reads_at = counted_at + length counted_part

  pub at_price : drop price_at (text_of d) ≡ from_price
  at_price = past (text_of d) winter_part from_price 0 parts

  pub at_count : drop count_at (text_of d) ≡ from_count
  at_count = past (text_of d) price_part from_count price_at at_price

  pub at_events : drop events_at (text_of d) ≡ from_events
  at_events = past (text_of d) count_part from_events count_at at_count

  pub at_counted : drop counted_at (text_of d) ≡ from_counted
  at_counted = past (text_of d) events_part from_counted events_at at_events

  pub at_reads : drop reads_at (text_of d) ≡ reads_part ++ []
  at_reads = past (text_of d) counted_part reads_part counted_at at_counted ∙ sym (append-nil reads_part)

  -- rule 8.3: the text ends there
  pub at_end : reads_at + length reads_part ≡ length (text_of d)
  at_end = omega (
    arith,
    ap length parts,
    length-append winter_part from_price,
    length-append price_part from_count,
    length-append count_part from_events,
    length-append events_part from_counted,
    length-append counted_part reads_part,
  )
