-- A text that breaks the form in its first three lines: the line that is named is the first that breaks it. After each line that was read
-- stands the next line of any values whose lines are at the front, so that a line that was not read is of no values.
-- Assumes nothing.
use Prim.Native.Nat.{ℕ, suc}
use mathlib.Core.List.{List, [], ◌∷◌, ◌++◌}
use mathlib.Core.Path.{◌≡◌, refl}
use native.Mathlib.Omega.{arith}
use lib.ListN.{length, take, drop}
use Rattle.std.specs.Prelude.{Some, None}
use Rattle.numerals.proofs.Here.{here_none}
use Rattle.numerals.proofs.LineLaws.{lines_none}
use Rattle.numerals.specs.Fields.{Small, keyed_at, number}
use Rattle.numerals.specs.Lines.{Line, line}
use Rattle.numerals.specs.Words.{bytes_of}
use Rattle.form.specs.Document.{document_lines}
use Rattle.form.proofs.Begins.{body_lines, Begins, FirstBrokenLine, next_breaks, begins}
use Rattle.form.proofs.Converse.{Held, TopRead}
use Rattle.form.proofs.LinesInText.{Stands, KeyedFront, keyed_front, keyed_never, LinesHere, here_more, keyed_here}

-- the first three lines
abbrev pub top_lines : ℕ → ℕ → ℕ → List Line
top_lines winter price count = line "winter=" (winter ∷ []) ∷ line "price=" (price ∷ []) ∷ line "events=" (count ∷ []) ∷ []

module _ (s : List ℕ) where
  -- some of them, where they stand, are the first lines of values with no event lines and no read lines
  bare_begins : (winter price k q : ℕ) (xs ys : List Line) → Small winter → Small price
      → document_lines (record { winter = winter; price = price; events = []; reads = [] }) ≡ xs ++ ys → length xs ≡ k → LinesHere s 0 xs q
      → Begins s k
  bare_begins winter price k q xs ys small_winter small_price =
      begins s (record { winter = winter; price = price; events = []; reads = [] }) k q xs ys
      (record { winter = small_winter; price = small_price; count = omega arith; events = tt; counted = omega arith; reads = tt })

  -- after the line of the winter, after that of the price, and after that of the number of event lines
  module _ {winter p : ℕ} (is_winter : keyed_at s 0 (bytes_of "winter=") ≡ Some (number winter p)) where
    after_winter : (j : ℕ) (b : Begins s (suc j)) → Stands s p (take j (drop 1 (document_lines b.document))) b.rest
    unfolding document_lines
    after_winter j b = (keyed_front s b.rest (bytes_of "winter=") 0 b.document.winter _ b.writable.winter b.is winter p is_winter).after

    module _ {price q : ℕ} (is_price : keyed_at s p (bytes_of "price=") ≡ Some (number price q)) where
      after_price : (j : ℕ) (b : Begins s (suc (suc j))) → Stands s q (take j (drop 2 (document_lines b.document))) b.rest
      unfolding document_lines
      after_price j b =
          (keyed_front s b.rest (bytes_of "price=") p b.document.price _ b.writable.price (after_winter (suc j) b) price q is_price).after

  module _ {winter price count at : ℕ} (top : TopRead s winter price count at) where
    pub after_top_lem : (j : ℕ) (b : Begins s (suc (suc (suc j))))
        → KeyedFront s count (length b.document.events) at (take j (body_lines b.document.events b.document.reads)) b.rest
    unfolding document_lines
    after_top_lem j b =
        keyed_front s b.rest (bytes_of "events=") top.count_at (length b.document.events) _ b.writable.count
        (after_price top.is_winter top.is_price (suc j) b) count at top.is_count

    -- and the three lines stand at the front
    pub record TopHere : Type 0 where
      pub here : LinesHere s 0 (top_lines winter price count) at
      pub small_winter : Small winter
      pub small_price : Small price
      pub small_count : Small count

    pub top_here : TopHere
    top_here =
        let x = keyed_here s (bytes_of "winter=") 0 winter top.price_at_lem top.is_winter in
        let y = keyed_here s (bytes_of "price=") top.price_at_lem price top.count_at top.is_price in
        let z = keyed_here s (bytes_of "events=") top.count_at count at top.is_count in
        record {
          here = here_more s (line "winter=" (winter ∷ []) ∷ []) _ x.here (here_more s (line "price=" (price ∷ []) ∷ []) _ y.here z.here);
          small_winter = x.small;
          small_price = y.small;
          small_count = z.small;
        }

  module _ (k : ℕ) (never : Held s → ⊥) where
    pub no_winter_lem : keyed_at s 0 (bytes_of "winter=") ≡ None → k ≡ 1 → FirstBrokenLine s k
    unfolding document_lines
    no_winter_lem none e =
        next_breaks s 0 k never e (bare_begins 0 0 0 0 [] _ (omega arith) (omega arith) refl refl (rw lines_none (here_none s 0)))
        (λ b. keyed_never s b.rest (bytes_of "winter=") 0 b.document.winter [] b.writable.winter b.is none)

    module _ {winter p : ℕ} (is_winter : keyed_at s 0 (bytes_of "winter=") ≡ Some (number winter p)) where
      pub no_price : keyed_at s p (bytes_of "price=") ≡ None → k ≡ 2 → FirstBrokenLine s k
      unfolding document_lines
      no_price none e =
          let x = keyed_here s (bytes_of "winter=") 0 winter p is_winter in
          next_breaks s 1 k never e (bare_begins winter 0 1 p (line "winter=" (winter ∷ []) ∷ []) _ x.small (omega arith) refl refl x.here)
          (λ b. keyed_never s b.rest (bytes_of "price=") p b.document.price [] b.writable.price (after_winter is_winter 1 b) none)

      pub no_count : {price q : ℕ} → keyed_at s p (bytes_of "price=") ≡ Some (number price q) → keyed_at s q (bytes_of "events=") ≡ None → k ≡ 3
          → FirstBrokenLine s k
      unfolding document_lines
      no_count {price} {q} is_price none e =
          let x = keyed_here s (bytes_of "winter=") 0 winter p is_winter in
          let y = keyed_here s (bytes_of "price=") p price q is_price in
          let two = line "winter=" (winter ∷ []) ∷ line "price=" (price ∷ []) ∷ [] in
          let here = here_more s (line "winter=" (winter ∷ []) ∷ []) (line "price=" (price ∷ []) ∷ []) x.here y.here in
          next_breaks s 2 k never e (bare_begins winter price 2 q two _ x.small y.small refl refl here)
          (λ b. keyed_never s b.rest (bytes_of "events=") q (length b.document.events) [] b.writable.count
          (after_price is_winter is_price 1 b) none)
