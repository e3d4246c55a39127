-- Lent room that is shown for all the time that is left of its loan: nothing writes to it again, so it ends as it is.
-- Assumes nothing.
use Prim.Native.Nat.{ℕ}
use mathlib.Core.List.{List, [], ◌∷◌}
use mathlib.Core.Path.{◌≡◌, refl}
use seplogic.Ra.Ura.{Ura}
use base.Logic.{ent, sep, ex_i}
use base.Fml.{Lft, Share, flft, fres}
use base.Stored.{coded_list}
use mir.Syntax.{Lifetime, erased, w32}
use mir.Val.{Val}
use types.Logic.{Logic, sem}
use types.Kit.{‵, ◌⊛◌, later, ◌$◌, ◌∵◌, !, qed, move, use1, use2, split, fsplit, fjoin, feq_i, feq_l, await, updating, now, done}
use denote.Builtin.{u32}
use denote.Follow.{such_by, follows_by}
use denote.FollowSlice.{finally-res}
use denote.Ref.{Bor, MutBor}
use denote.Slice.{MutSlice, ShrSlice, finally, mut_slice_vals, shr_slice_vals}
use borrow.Rule.Slice.Handed.{sl_Share}
use borrow.Table.Copies.{Shares-copy, c_rf}
use borrow.Table.Owned as bare
use borrow.Table.Referent.{f_int, laws_f}
use Rattle.std.specs.Prelude.{⊤}
use Rattle.wire.specs.Bytes.{numbers_read}
use Rattle.wire.specs.Room.{RoomRead}

-- the room as it is shown
abbrev pub shown : MutBor (List ℕ) → Bor (List ℕ)
shown room = record { ref_ptr = room.ref_ptr; now = room.now }

module _ {M : Type 1} {𝓤 : Ura M} (𝓛 : Logic 𝓤) where
  open 𝓛 use {H, A}

  -- who has the room can show it for all the time that is left, and then it ends at the numbers that are there
  pub shown_on : (ℓ : Lifetime) (κ : Lft) (q : Share) (room : MutBor (List ℕ))
      → ent 𝓤 (sep 𝓤 (sem 𝓛 ((MutSlice ℓ κ u32).own_val room (mut_slice_vals room))) (A.lft κ q))
      (H.⇛ (sep 𝓤 (sem 𝓛 ((ShrSlice ℓ κ u32).own_val (shown room) (shr_slice_vals (shown room))))
      (sep 𝓤 (A.res room.ghost_name ((coded_list u32.coded).code room.now)) (A.lft κ q))))
  shown_on ℓ κ q room =
      qed 𝓛 (‵ ((MutSlice ℓ κ u32).own_val room (mut_slice_vals room)) ∷ ‵ (flft κ q) ∷ []) ∵
      updating ! $ fsplit ! $ fsplit ! $ feq_l ! (λ e. fjoin ! $
      use2 𝓛 (later (‵ ((bare.ShrSlice erased κ u32).own_val (shown room)) ⊛ ‵ (finally u32 room.ghost_name room.now) ⊛ ‵ (flft κ q)))
      (sl_Share 𝓛 u32 room.ref_ptr.0 room.ref_ptr.1 room.ghost_name room.now (laws_f (f_int w32)) κ q (Shares-copy 𝓛 (c_rf (f_int w32)) κ)) $ await ! tt $
      split ! $ move ! (1 ∷ []) $ split ! $
      use1 𝓛 (‵ (fres room.ghost_name ((coded_list u32.coded).code room.now))) (finally-res 𝓛 u32 room.ghost_name room.now) $
      move ! (2 ∷ []) $ fsplit ! $ feq_i ! (List Val) (shr_slice_vals (shown room)) (shr_slice_vals (shown room)) refl $ fjoin ! $ fjoin ! $ now ! $ done !)

  -- so room into which bytes were read ends as they leave it
  pub ends_read : (bytes : List ℕ) (room : MutBor (List ℕ)) {ends : List ℕ} → ends ≡ numbers_read bytes room.now
      → ent 𝓤 (A.res room.ghost_name ((coded_list u32.coded).code ends)) (sem 𝓛 (RoomRead bytes room))
  unfolding such_by follows_by
  ends_read bytes room {ends} read =
      let Ends : Type 0 = (s : (List ℕ → List ℕ) × List ℕ) × (List ℕ → ⊤) × (s.1 ≡ numbers_read bytes room.now) in
      ex_i 𝓤 (λ (s : Ends). A.res room.ghost_name ((coded_list u32.coded).code s.0.1)) ((λ w. ends, ends), (λ w. tt), read)
