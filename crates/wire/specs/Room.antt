-- What lent room holds once its loan is over.
-- Assumes nothing.
use Rattle.std.specs.Prelude.{◌≡◌, ℕ, List}
use Rattle.std.specs.Borrow.{Fml, MutBor, Array, u32}
use Rattle.std.specs.Io.BufRead.{Rests}
use Rattle.wire.specs.Bytes.{numbers_read}

-- the bytes read into it; what there are no bytes for stays (rules 2.1 and 9.2)
abbrev pub RoomRead : List ℕ → MutBor (List ℕ) → Fml
RoomRead bytes room = Rests (Array u32 0) room (λ ends. ends ≡ numbers_read bytes room.now)
