-- `put_number` puts the library's eight bytes of the number in place of those from i on.
-- Assumes nothing.
use mathlib.Core.Path.{◌≡◌, ◌∙◌}
use native.Mathlib.Omega.{arith}
use Rattle.wire.specs.Bytes.{eight_bytes}
use Rattle.wire.proofs.WriteLaws.{put_stores}
use Rattle.wire.proofs.writing.put_number.Goals as goal

pub returns : goal.returns
unfolding eight_bytes
returns c =
    let put : c.copy_from_slice.new.self ≡ eight_bytes c.args.v = c.copy_from_slice.ensures.after ∙ c.to_le_bytes.ensures in
    rw put (put_stores c.args.bytes.now (eight_bytes c.args.v) c.args.i (omega arith) (omega arith))
