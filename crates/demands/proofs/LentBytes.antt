-- The lines that C reads out of the bytes which an accepted settlement leaves are those of the settlement of the numbers that it lent: each number
-- that was written reads back, since it fits 64 bits.
-- Assumes nothing.
use Prim.Native.Nat.{ℕ, ◌+◌, ◌*◌, ◌/◌, ◌^◌, ◌≤◌, ◌<◌}
use mathlib.Core.List.{List, ◌++◌}
use mathlib.Core.Path.{◌≡◌, refl, sym, ap, ◌∙◌}
use native.Mathlib.Omega.{arith}
use lib.ListN.{length, get_or, drop, replicate, length-replicate}
use Rattle.boundary.proofs.Told.{settle_told, accepted_written}
use Rattle.boundary.specs.Calls.{settle_call, settle_bytes}
use Rattle.wire.specs.Decoded.{decoded}
use Rattle.credit.proofs.Exact.{accepted_iff_settles}
use Rattle.credit.proofs.SettlementLaws.{settled_room, written_just}
use Rattle.credit.specs.Lines.{line_numbers}
use Rattle.credit.specs.Settlement.{settlement, written}
use Rattle.credit.specs.Settlement.{Settlement}
use Rattle.notices.specs.Notices.{count_of}
use Rattle.wire.proofs.RoundTrip.{written_back}
use Rattle.wire.specs.Bytes.{bytes_to}
use Rattle.demands.specs.Faces.{number64, in_output, in_bytes}
use Rattle.demands.proofs.Sheets.{Same}
use Rattle.demands.proofs.Small.{line_fits}

module _ (winter price : ℕ) (lent_book lent_list out : List ℕ) (ok : settle_call winter lent_book price lent_list (length out) ≡ 0) where
  abbrev book : List ℕ
  book = decoded lent_book

  abbrev list : List ℕ
  list = decoded lent_list

  abbrev n : ℕ
  n = count_of list

  -- just the room for the lines
  abbrev pub room : List ℕ
  room = replicate (line_numbers * n) 0

  long : length room ≡ line_numbers * n
  long = length-replicate (line_numbers * n) 0

  pub settled_there : (settlement winter book price list (length out / 8)).number ≡ 0
  settled_there = omega (arith, (settle_told winter price lent_book lent_list out).0)

  enough : line_numbers * n ≤ length out / 8
  enough = ((accepted_iff_settles winter price book list (length out / 8)).0 settled_there).room_enough

  -- with just the room it is the same settlement
  pub same_settlement : settlement winter book price list (length room) ≡ settlement winter book price list (length out / 8)
  same_settlement = settled_room winter price book list (length room) (length out / 8) (omega (arith, long)) enough

  pub just : (settlement winter book price list (length room)).number ≡ 0
  just = ap (λ (s : Settlement). s.number) same_settlement ∙ settled_there

  abbrev numbers : List ℕ
  numbers = written winter book price list room

  abbrev bytes : List ℕ
  bytes = settle_bytes winter lent_book price lent_list out

  bytes_are : bytes ≡ bytes_to numbers (line_numbers * n) ++ drop (8 * (line_numbers * n)) out
  bytes_are =
      accepted_written winter price lent_book lent_list out settled_there
      ∙ ap (λ (x : List ℕ). bytes_to x (line_numbers * n) ++ drop (8 * (line_numbers * n)) out) (sym (written_just winter price book list room long just))

  back : (i : ℕ) → i < line_numbers * n → get_or numbers i 0 < 2 ^ 64 → number64 bytes i ≡ get_or numbers i 0
  back i h fits = rw bytes_are (written_back numbers i fits (line_numbers * n) (drop (8 * (line_numbers * n)) out) h)

  pub same_lines : Same (in_bytes n bytes) (in_output n numbers)
  same_lines =
      record {
        lines = refl;
        each = λ k h. let small = line_fits winter price book list room just k h in
            record {
              code = back (line_numbers * k) (omega arith) small.code;
              place = back (line_numbers * k + 1) (omega arith) small.place;
              energy = back (line_numbers * k + 2) (omega arith) small.energy;
              cents = back (line_numbers * k + 3) (omega arith) small.cents;
            };
      }
