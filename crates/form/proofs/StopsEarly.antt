-- Rule 8.6 of a text that ends too soon: it is refused at the line that it has only begun or lacks first. Proved by counting line ends: such a
-- text has one for each of its whole lines, so that no further line stands in it; and it is the text of no values, since values of which one's
-- text starts with the other's have equally many lines.
-- Assumes nothing.
use Prim.Native.Nat.{ℕ, suc, ◌+◌, ◌-◌, ◌≤◌, ◌<◌}
use mathlib.Core.List.{List, [], ◌∷◌, ◌++◌, append_assoc, append-nil, map}
use mathlib.Core.Path.{◌≡◌, refl, sym, ap, ◌∙◌}
use native.Mathlib.Omega.{arith}
use lib.ListN.{length, take, drop, get_or, length-append}
use lib.Seq.{length-take-le, split_at, take_at}
use Rattle.form.specs.Lines.{breaks}
use Rattle.laws.proofs.Every.{Every, left, right, joined, front, all, map_of}
use Rattle.numerals.proofs.LineEnds.{ends, ends_append, EndsOnce, numbers_end_once, lines_ends, part_none}
use Rattle.numerals.proofs.LineLaws.{key_line, lines_more, lines_append}
use Rattle.numerals.proofs.ReadFields.{keyed_reads}
use Rattle.numerals.specs.Fields.{Small}
use Rattle.numerals.specs.Lines.{Line, line_bytes, bytes_of_lines}
use Rattle.numerals.specs.Words.{bytes_of}
use Rattle.form.specs.Document.{EventLine, ReadLine, Document, event_numbers, event_line, read_line, document_lines, text_of, SmallEvent, Writable}
use Rattle.form.specs.Form.{form_of}
use Rattle.form.proofs.Begins.{body_lines, document_long, Begins}
use Rattle.form.proofs.Converse.{Held}
use Rattle.form.proofs.FirstBrokenLine.{first_broken_line}
use Rattle.form.proofs.LineKinds.{first_line, lines_read}
use Rattle.form.proofs.LinesInText.{keyed_front, lines_front}
use Rattle.form.proofs.TextLines.{events}

-- Bytes that start with lines in two ways: the same was written first, and the same bytes stand after it.
module _ (r q : List ℕ) where
  record SameNumber (n m : ℕ) (xs ys : List Line) : Type 0 where
    same : n ≡ m
    after : bytes_of_lines xs ++ r ≡ bytes_of_lines ys ++ q

  same_number : (key : List ℕ) (n m : ℕ) (xs ys : List Line) → Small n → Small m
      → bytes_of_lines (key_line key n ∷ xs) ++ r ≡ bytes_of_lines (key_line key m ∷ ys) ++ q → SameNumber n m xs ys
  same_number key n m xs ys a b e =
      let s = bytes_of_lines (key_line key n ∷ xs) ++ r in
      let read = keyed_reads s key (bytes_of_lines xs ++ r) 0 n a (first_line s r 0 (key_line key n) xs refl) in
      let x = keyed_front s r key 0 n xs a refl n _ read in
      let y = keyed_front s q key 0 m ys b e n _ read in
      record { same = y.same; after = sym x.after ∙ y.after }

  same_events : (vs ws : List EventLine) (xs ys : List Line) → Every SmallEvent vs → Every SmallEvent ws → length vs ≡ length ws
      → bytes_of_lines (map event_line vs ++ xs) ++ r ≡ bytes_of_lines (map event_line ws ++ ys) ++ q
      → bytes_of_lines xs ++ r ≡ bytes_of_lines ys ++ q
  same_events vs ws xs ys a b n e =
      let s = bytes_of_lines (map event_line vs ++ xs) ++ r in
      let there : s ≡ bytes_of_lines (map event_line vs) ++ (bytes_of_lines xs ++ r) = rw (lines_append, append_assoc) in
      let read = (lines_read (events s) (bytes_of_lines xs ++ r) vs 0 4 a there).ends in
      sym (lines_front (events s) r vs 0 4 a xs _ read refl) ∙ lines_front (events s) q ws 0 4 b ys _ (rw n at read) e

-- values have equally many lines where one's text starts with the other's, or the same bytes start with both
same_long : (d c : Document) (r q : List ℕ) → Writable d → Writable c → text_of d ++ r ≡ text_of c ++ q
    → length (document_lines d) ≡ length (document_lines c)
unfolding document_lines
same_long d c r q a b e =
    let e₁ = same_number r q (bytes_of "winter=") d.winter c.winter _ _ a.winter b.winter e in
    let e₂ = same_number r q (bytes_of "price=") d.price c.price _ _ a.price b.price e₁.after in
    let e₃ = same_number r q (bytes_of "events=") (length d.events) (length c.events) _ _ a.count b.count e₂.after in
    let e₄ = same_events r q d.events c.events _ _ a.events b.events e₃.same e₃.after in
    let e₅ = same_number r q (bytes_of "reads=") (length d.reads) (length c.reads) _ _ a.counted b.counted e₄ in
    omega (arith, document_long d, document_long c, e₃.same, e₅.same)

-- each line of a document ends once: its key has no line end, and it has a number
event_once : (x : EventLine) → EndsOnce (event_line x)
event_once x = numbers_end_once (bytes_of "event=") (event_numbers x) refl (omega arith)

read_once : (x : ReadLine) → EndsOnce (read_line x)
read_once x = numbers_end_once (bytes_of "read=") (x.day ∷ x.hour ∷ x.values) refl (omega arith)

key_once : (key : List ℕ) (n : ℕ) → ends key ≡ 0 → EndsOnce (key_line key n)
key_once key n none = numbers_end_once key (n ∷ []) none (omega arith)

end_once : (d : Document) → Every EndsOnce (document_lines d)
unfolding document_lines
end_once d =
    let event_lines_lem = map_of EndsOnce event_line d.events (all (λ (x : EventLine). EndsOnce (event_line x)) event_once d.events) in
    let read_lines_lem = map_of EndsOnce read_line d.reads (all (λ (x : ReadLine). EndsOnce (read_line x)) read_once d.reads) in
    let counted = key_once (bytes_of "reads=") (length d.reads) refl in
    let body = joined EndsOnce (map event_line d.events) (body_lines [] d.reads) event_lines_lem (counted, read_lines_lem) in
    let events = key_once (bytes_of "events=") (length d.events) refl in
    (key_once (bytes_of "winter=") d.winter refl, (key_once (bytes_of "price=") d.price refl, (events, body)))

-- values of which the text stops in a line: lines before it, the line itself, of which a part stands there, and lines after it
module _ (d : Document) (ok : Writable d) (xs : List Line) (x : Line) (ys : List Line) (are : document_lines d ≡ xs ++ (x ∷ ys))
    (part rest : List ℕ) (starts : line_bytes x ≡ part ++ rest) (missing : 1 ≤ length rest)
    (s : List ℕ) (is : s ≡ bytes_of_lines xs ++ part) where
  once : Every EndsOnce (xs ++ (x ∷ ys))
  once = rw (← are) (end_once d)

  -- the lines before it stand in the text
  all_before : Begins s (length xs)
  all_before = record {
    document = d;
    writable = ok;
    enough = omega (arith, ap length are, length-append xs (x ∷ ys));
    rest = part;
    is = is ∙ ap (λ (l : List Line). bytes_of_lines l ++ part) (sym (ap (take (length xs)) are ∙ take_at xs (x ∷ ys) (length xs) refl));
  }

  -- which has a line end for each of them
  stopped_ends : ends s ≡ length xs
  stopped_ends = omega (
    arith,
    ap ends is,
    ends_append (bytes_of_lines xs) part,
    lines_ends xs (left EndsOnce xs (x ∷ ys) once),
    part_none x part rest (right EndsOnce xs (x ∷ ys) once).0 starts missing,
  )

  -- so that no further line stands in it
  no_further : Begins s (suc (length xs)) → ⊥
  no_further b =
      let l = take (suc (length xs)) (document_lines b.document) in
      omega (
        arith,
        stopped_ends,
        ap ends b.is,
        ends_append (bytes_of_lines l) b.rest,
        lines_ends l (front EndsOnce (suc (length xs)) (document_lines b.document) (end_once b.document)),
        length-take-le (suc (length xs)) (document_lines b.document) b.enough,
      )

  -- and it is the text of no values, since they would have as many lines as those of which it is a part
  no_values : Held s → ⊥
  no_values h =
      let more = rest ++ bytes_of_lines ys in
      let e : text_of h.document ++ more ≡ text_of d ++ []
      = ap (λ (l : List ℕ). l ++ more) (sym h.is ∙ is)
      ∙ simp (append-nil, are, lines_append, lines_more, starts, append_assoc) in
      omega (
        arith,
        stopped_ends,
        ap ends h.is,
        lines_ends (document_lines h.document) (end_once h.document),
        same_long h.document d more [] h.writable ok e,
        ap length are,
        length-append xs (x ∷ ys),
      )

  refused_there : (j : ℕ) → length xs ≡ j → form_of s ≡ breaks (j + 1)
  refused_there j long =
      let before : j + 1 - 1 ≡ length xs = omega arith in
      let next : j + 1 ≡ suc (length xs) = omega arith in
      first_broken_line s (j + 1)
      (record { no_text = no_values; from_one = omega arith; before = rw before all_before; breaks = rw next no_further })

-- j whole lines of some values, and a part of the next, or nothing of it
pub stops_early : (d : Document) (j : ℕ) (any : Line) (part rest : List ℕ) → Writable d → j < length (document_lines d)
    → line_bytes (get_or (document_lines d) j any) ≡ part ++ rest → 1 ≤ length rest
    → form_of (bytes_of_lines (take j (document_lines d)) ++ part) ≡ breaks (j + 1)
stops_early d j any part rest ok fewer starts missing =
    let xs = document_lines d in
    refused_there d ok (take j xs) (get_or xs j any) (drop (suc j) xs) (split_at xs j any fewer) part rest starts missing _ refl j
    (length-take-le j xs (omega arith))
