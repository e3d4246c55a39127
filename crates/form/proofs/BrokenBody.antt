-- A text that breaks the form behind its first three lines: in an event line, in the line `reads=`, in a read line, or by what follows the
-- last. The line that is named is the first that breaks it: the lines before it were read and so stand in the text, and with any lines behind
-- them they are the lines of values; and a line that was not read is of no values whose lines are at the front.
-- Assumes nothing.
use Prim.Native.Nat.{ℕ, suc, ◌+◌, ◌-◌, ◌≤◌}
use mathlib.Core.List.{List, [], ◌∷◌, ◌++◌, append_assoc, map, map-append}
use mathlib.Core.Path.{◌≡◌, ap, ◌∙◌}
use native.Mathlib.Omega.{arith}
use lib.ListN.{length, take, replicate, length-append, length-map, length-replicate}
use lib.Seq.{take-append-le, take-append-add}
use Rattle.std.specs.Prelude.{Some, None, Ok}
use Rattle.laws.proofs.Every.{joined}
use Rattle.numerals.specs.Fields.{keyed_at, number}
use Rattle.numerals.specs.Lines.{line}
use Rattle.numerals.specs.Words.{bytes_of}
use Rattle.form.specs.Document.{event_line, read_line, document_lines, SmallEvent, SmallRead}
use Rattle.form.specs.Lines.{event_line_at, read_line_at, lines_end}
use Rattle.form.proofs.Begins.{body_lines, document_long, Begins, FirstBrokenLine, next_breaks, begins, any_event, any_read, small_events, small_reads}
use Rattle.form.proofs.BrokenTop.{top_lines, after_top_lem, top_here}
use Rattle.form.proofs.Converse.{Held, TopRead}
use Rattle.form.proofs.LineKinds.{lines_written}
use Rattle.form.proofs.LinesInText.{Stands, KeyedFront, keyed_front, keyed_never, lines_front, lines_never, Stops, here_more, keyed_here}
use Rattle.form.proofs.TextLines.{events, reads}

-- so many lines as the top and i more
abbrev past_top : ℕ → ℕ
past_top i = suc (suc (suc i))

module _ (s : List ℕ) (never : Held s → ⊥) {winter price n at : ℕ} (top : TopRead s winter price n at) where
  -- the first i event lines
  events_begin : (i q : ℕ) → i ≤ n → lines_end (event_line_at s) i at 4 ≡ Ok q → Begins s (past_top i)
  unfolding document_lines
  events_begin i q few whole =
      let head = top_here s top in
      let x = lines_written (events s) i at 4 q whole in
      let xs = x.values in
      let more = replicate (n - i) any_event in
      let count : length (xs ++ more) ≡ n = omega (arith, x.counted, length-append xs more, length-replicate (n - i) any_event) in
      begins s (record { winter = winter; price = price; events = xs ++ more; reads = [] }) (past_top i) q
      (top_lines winter price n ++ map event_line xs) (body_lines more [])
      (record {
        winter = head.small_winter;
        price = head.small_price;
        count = omega (arith, head.small_count);
        events = joined SmallEvent xs more x.fit (small_events (n - i));
        counted = omega arith;
        reads = tt;
      })
      (rw (count, map-append, append_assoc))
      (omega (arith, length-map xs event_line, x.counted))
      (here_more s (top_lines winter price n) (map event_line xs) head.here x.here)

  pub no_event : (k : ℕ) → Stops (event_line_at s) n at 4 k → FirstBrokenLine s k
  no_event k stop =
      next_breaks s (past_top stop.whole_lines) k never (omega (arith, stop.named))
      (events_begin stop.whole_lines stop.end (omega (arith, stop.fewer)) stop.whole)
      (λ b.
      let i = suc stop.whole_lines in
      let xs = b.document.events in
      let front = after_top_lem s top i b in
      let few : i ≤ length xs = omega (arith, front.same, stop.fewer) in
      let long : i ≤ length (map event_line xs) = omega (arith, length-map xs event_line) in
      lines_never (events s) b.rest xs at 4 b.writable.events i k few stop.broken
      (rw (take-append-le i (map event_line xs) _ long) at front.after))

  module _ (q : ℕ) (are_events : lines_end (event_line_at s) n at 4 ≡ Ok q) where
    -- after the event lines, and after the number of read lines
    after_events : (i j : ℕ) → j ≡ n + suc i → (b : Begins s (past_top j)) → Stands s q (take (suc i) (body_lines [] b.document.reads)) b.rest
    after_events i j e b =
        let xs = map event_line b.document.events in
        let ys = body_lines [] b.document.reads in
        let front = after_top_lem s top j b in
        let all : j ≡ length xs + suc i = omega (arith, front.same, length-map b.document.events event_line) in
        let there : take j (xs ++ ys) ≡ xs ++ take (suc i) ys = ap (λ (m : ℕ). take m (xs ++ ys)) all ∙ take-append-add xs ys (suc i) in
        lines_front (events s) b.rest b.document.events at 4 b.writable.events (take (suc i) ys) q (rw front.same at are_events)
        (rw there at front.after)

    pub no_counted : (k : ℕ) → keyed_at s q (bytes_of "reads=") ≡ None → k ≡ n + 4 → FirstBrokenLine s k
    no_counted k none e =
        next_breaks s (past_top n) k never (omega arith) (events_begin n q (omega arith) are_events)
        (λ b. keyed_never s b.rest (bytes_of "reads=") q (length b.document.reads) [] b.writable.counted
        (after_events 0 (suc n) (omega arith) b) none)

    module _ (m r : ℕ) (is_counted : keyed_at s q (bytes_of "reads=") ≡ Some (number m r)) where
      after_counted : (i j : ℕ) → j ≡ n + suc i → (b : Begins s (past_top j))
          → KeyedFront s m (length b.document.reads) r (take i (map read_line b.document.reads)) b.rest
      after_counted i j e b =
          keyed_front s b.rest (bytes_of "reads=") q (length b.document.reads) _ b.writable.counted (after_events i j e b) m r is_counted

      -- the first i read lines
      reads_begin : (i t : ℕ) → i ≤ m → lines_end (read_line_at s) i r (n + 4 + 1) ≡ Ok t → Begins s (past_top (n + suc i))
      unfolding document_lines
      reads_begin i t few whole =
          let head = top_here s top in
          let x = lines_written (events s) n at 4 q are_events in
          let y = keyed_here s (bytes_of "reads=") q m r is_counted in
          let z = lines_written (reads s) i r (n + 4 + 1) t whole in
          let xs = map event_line x.values in
          let zs = map read_line z.values in
          let counted = line "reads=" (m ∷ []) ∷ [] in
          let more = replicate (m - i) any_read in
          let count : length (z.values ++ more) ≡ m = omega (arith, z.counted, length-append z.values more, length-replicate (m - i) any_read) in
          begins s (record { winter = winter; price = price; events = x.values; reads = z.values ++ more }) (past_top (n + suc i)) t
          (top_lines winter price n ++ (xs ++ (counted ++ zs))) (map read_line more)
          (record {
            winter = head.small_winter;
            price = head.small_price;
            count = omega (arith, x.counted, head.small_count);
            events = x.fit;
            counted = omega (arith, y.small);
            reads = joined SmallRead z.values more z.fit (small_reads (m - i));
          })
          (simp (count, x.counted, map-append, append_assoc))
          (omega (
            arith,
            length-append xs (counted ++ zs),
            length-map x.values event_line,
            length-map z.values read_line,
            x.counted,
            z.counted,
          ))
          (here_more s (top_lines winter price n) (xs ++ (counted ++ zs)) head.here
          (here_more s xs (counted ++ zs) x.here (here_more s counted zs y.here z.here)))

      pub no_read : (k : ℕ) → Stops (read_line_at s) m r (n + 4 + 1) k → FirstBrokenLine s k
      no_read k stop =
          next_breaks s (past_top (n + suc stop.whole_lines)) k never (omega (arith, stop.named))
          (reads_begin stop.whole_lines stop.end (omega (arith, stop.fewer)) stop.whole)
          (λ b.
          let i = suc stop.whole_lines in
          let front = after_counted i (suc (n + i)) (omega arith) b in
          let few : i ≤ length b.document.reads = omega (arith, front.same, stop.fewer) in
          lines_never (reads s) b.rest b.document.reads r (n + 4 + 1) b.writable.reads i k few stop.broken front.after)

      -- rule 8.3: values with these lines have no line more
      pub no_end : (k t : ℕ) → lines_end (read_line_at s) m r (n + 4 + 1) ≡ Ok t → k ≡ n + 4 + 1 + m → FirstBrokenLine s k
      no_end k t whole e =
          next_breaks s (past_top (n + suc m)) k never (omega arith) (reads_begin m t (omega arith) whole)
          (λ b. omega (
            arith,
            b.enough,
            document_long b.document,
            (after_top_lem s top (suc (n + suc m)) b).same,
            (after_counted (suc m) (suc (n + suc m)) (omega arith) b).same,
          ))
