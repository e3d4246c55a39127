-- `read_front` has the room read, shows it for as long as it is lent, and hands its front on. The walk is by hand, since the check proves by itself
-- what a lender ends as only of a first parameter that is no slice.
-- Assumes nothing.
use Prim.Native.Nat.{ℕ}
use mathlib.Core.List.{List, [], ◌∷◌}
use mathlib.Core.Path.{◌≡◌, refl, ap, ◌∙◌}
use lib.ListN.{length, take}
use base.Logic.{emp, id⊢}
use base.Fml.{ftrue, flft, fres}
use base.Stored.{coded_list}
use contract.Monad.{fact, fact_i}
use contract.Running.{tables}
use mir.Syntax.{named, w8}
use mir.Val.{Val}
use types.Kit.{‵, raw, ◌⊛◌, some, later, ◌$◌, ◌∵◌, !, qed, by, move, drop, use1, use2, split, join, fjoin, pick, await, rewrite, suffices, frame}
use types.Part.{whole, sub, agg}
use types.Run.{enter, stop, fld, hop, from, addr, no_more, and_then, returns}
use types.ByLocal.{alloc_all, pass_all, free_all, look_at, look_in_at, get, get_in, sets, lands_as}
use denote.Builtin.{u8, u32}
use denote.Exit.{yes, no}
use denote.Laws.{Is, shows}
use denote.Ref.{Bor, MutBor}
use denote.Signature.{plain, shr_slice_of, mut_slice_of}
use denote.Slice.{MutSlice, ShrSlice, slice_val, shr_slice_vals, mut_slice_vals, shr_slice_Tells, mut_slice_Tells, shr_slice_copy}
use denote.Steps.{nothing, heard, peeks, only}
use denote.Triple.Call.{calls_at}
use denote.Triple.Clauses.{Lasts, lasts}
use denote.Triple.Spec.{triple_of}
use denote.Triple.Table.{framed}
use denote.Triple.Walked.{Stays, says, stay_dropped, Goes-dropped, Goes-spent_slice}
use borrow.Table.Referent.{f_int, laws_f}
use Rattle.std.proofs.raw_atomic.Walks.{proved, leaves}
use Rattle.wire.specs.Bytes.{read_count, numbers_read}
use Rattle.wire.specs.Room.{RoomRead}
use Rattle.wire.proofs.ReadLaws.{front_taken}
use Rattle.wire.proofs.ShownRoom.{shown, shown_on, ends_read}
use Rattle.wire.specs.contracts.reading.read_front as f
use Rattle.wire.specs.contracts.reading.read_room as g
use Rattle.wire.specs.contracts.reading.front_of as h
use Rattle.wire.proofs.reading.read_room.Met as room-met
use Rattle.wire.proofs.reading.front_of.Met as front-met
use Rattle.wire.proofs.reading.read_front.Code as code
use Rattle.wire.proofs.reading.read_front.Statement.{statement}

-- nothing is left of the two slices at the return
abbrev stayed : Stays f.ended.signature.params f.ended.kept
stayed = (stay_dropped (shr_slice_of (0 ∷ []) tt (plain (λ _. u8))) yes, (stay_dropped (mut_slice_of (1 ∷ []) tt (plain (λ _. u32))) no, tt))

pub read_front_spec : {M : Type 1} → statement M
read_front_spec 𝓤 𝓛 𝓜 𝓡 wired =
    let c = f.clauses 𝓛 𝓜.mem 𝓡.returns in let 𝓣 = tables 𝓤 𝓛.H 𝓜 𝓡 𝓡.env in
    proved 𝓛 f.ended stayed c 𝓜 𝓡
    (Goes-dropped 𝓛 2 (shr_slice_of (0 ∷ []) tt (plain (λ _. u8))) yes (λ κs x w. refl), (Goes-spent_slice 𝓛 2 (1 ∷ []) tt (plain (λ _. u32)), tt))
    f.Key.name code.function (code.unfolded 𝓤 𝓛.H 𝓜 𝓡 wired)
    (λ κs. (shr_slice_vals, (mut_slice_vals, tt))) (λ κs. (shr_slice_Tells (named 0) κs.0 u8, (mut_slice_Tells (named 1) κs.1.0 u32, tt)))
    (λ κs qs bounds a _ are.
    let bytes = a.0 in let room = a.1.0 in let bs = shr_slice_vals bytes in let rs = mut_slice_vals room in
    let B = ShrSlice (named 0) κs.0 u8 in let R = MutSlice (named 1) κs.1.0 u32 in let S = ShrSlice (named 1) κs.1.0 u32 in
    let Tokens = ‵ (flft κs.0 qs.0) ⊛ ‵ (flft κs.1.0 qs.1.0) ⊛ ‵ ftrue in
    let G = triple_of 𝓛 g.signature (g.spec 𝓛 𝓜.mem 𝓡.returns) in let H = triple_of 𝓛 h.signature (h.spec 𝓛 𝓜.mem 𝓡.returns) in
    let y : G.Ghost = ((κs, qs, bounds, a, (bs, (rs, tt))), tt) in
    let few = are.0.0.1.0 in let roomy = are.1.0.0.1.0 in
    qed 𝓛 ((Tokens ⊛ ‵ (B.own_val bytes bs) ⊛ ‵ (R.own_val room rs) ⊛ ‵ ftrue) ∷ ‵ ftrue ∷ []) ∵
    split ! $ move ! (1 ∷ []) $ split ! $
    use1 𝓛 (‵ (B.own_val bytes bs) ⊛ ‵ (B.own_val bytes bs)) ((shr_slice_copy 𝓛 (named 0) κs.0 u8 (laws_f (f_int w8))).twice bytes bs) $ split ! $
    move ! (1 ∷ 2 ∷ []) $ join ! $ move ! (2 ∷ 0 ∷ []) $ join ! $ move ! (0 ∷ 2 ∷ []) $ use2 𝓛 (raw (G.pre y)) (id⊢ 𝓤 _) $
    enter ! _ _ _ _ _ $
    alloc_all ! (λ l. pass_all ! refl ((tt, (tt, (record { fits = few }, tt))), ((tt, (tt, (record { fits = roomy }, tt))), tt)) $
    -- [what `read_room` asks; the bytes; the locals], and so the call `read_room(bytes, room)`
    sets ! (addr ! (from ! (fld ! refl (hop ! (look_in_at ! 2 (sub ! 0 refl (whole !))) (stop !))))) refl (tt, tt) $
    sets ! (agg ! (and_then ! (get ! refl) (and_then ! (get_in ! (fld ! refl (stop !)) (sub ! 1 refl (whole !))) (no_more !)))) refl
    (tt, (tt, (record { fits = roomy }, tt))) $
    calls_at ! (framed 𝓤 𝓛.H 𝓜 𝓣) G (room-met.met 𝓤 𝓛 𝓜 𝓡 (code.calls-wire::reading::read_room 𝓡.env wired)) y
    (and_then ! (get ! refl) (and_then ! (get ! refl) (no_more !))) (λ v.
    use1 𝓛 (later (some (λ (r : MutBor (List ℕ)). (Tokens ⊛ ‵ (R.own_val r (v ∷ []))) ⊛ some (λ (ws : Lasts g.ended κs a). ‵ (lasts g.ended κs a ws)
    ⊛ raw (fact 𝓤 ((r.ghost_name ≡ room.ghost_name) × (r.ref_ptr ≡ room.ref_ptr))) ⊛ raw (fact 𝓤 (r.now ≡ numbers_read bytes.now room.now)))))) (id⊢ 𝓤 _) $
    await ! tt $ pick ! (λ r. split ! $ split ! $ move ! (2 ∷ []) $ pick ! (λ ws. split ! $ drop ! $ split ! $ heard ! _ (λ same. heard ! _ (λ read.
    move ! (1 ∷ []) $ peeks ! R (Is R) (shows 𝓛 R) r (v ∷ []) (λ is.
    lands_as ! (ap only is.0.0) refl (tt, (tt, (record { fits = is.0.1.0 }, tt))) $ rewrite ! 0 (λ (vs : List Val). ‵ (R.own_val r vs)) is.0.0 refl $
    -- [the room that was read; the tokens; the bytes; the locals]: it is shown
    sets ! (addr ! (from ! (fld ! refl (hop ! (look_in_at ! 3 (sub ! 0 refl (whole !))) (stop !))))) refl (tt, tt) $
    sets ! (agg ! (and_then ! (get ! refl) (and_then ! (get_in ! (fld ! refl (stop !)) (sub ! 1 refl (whole !))) (no_more !)))) refl
    (tt, (tt, (record { fits = is.0.1.0 }, tt))) $
    move ! (1 ∷ []) $ split ! $ move ! (1 ∷ []) $ split ! $ move ! (3 ∷ 0 ∷ []) $
    let s = shown r in let ss = shr_slice_vals (shown r) in
    use2 𝓛 (later (‵ (S.own_val s ss) ⊛ ‵ (fres r.ghost_name ((coded_list u32.coded).code r.now)) ⊛ ‵ (flft κs.1.0 qs.1.0)))
    (shown_on 𝓛 (named 1) κs.1.0 qs.1.0 r) $ await ! tt $ split ! $ move ! (1 ∷ []) $ split ! $
    -- [what the room ends as; a token; the room as it is shown; nothing; a token; the bytes; the locals]
    move ! (2 ∷ 3 ∷ []) $ join ! $ move ! (4 ∷ 0 ∷ []) $ join ! $ nothing ! $ move ! (3 ∷ 0 ∷ []) $ join ! $ move ! (3 ∷ 0 ∷ []) $ join ! $ join ! $
    nothing ! $ move ! (1 ∷ 0 ∷ []) $
    let z : H.Ghost = ((κs, qs, bounds, (bytes, (s, tt)), (bs, (ss, tt))), tt) in
    use2 𝓛 (raw (H.pre z)) (id⊢ 𝓤 _) $
    -- [what `front_of` asks; what the room ends as; the locals], and so the call `front_of(bytes, numbers)`
    calls_at ! (framed 𝓤 𝓛.H 𝓜 𝓣) H (front-met.met 𝓤 𝓛 𝓜 𝓡 (code.calls-wire::reading::front_of 𝓡.env wired)) z
    (and_then ! (get ! refl) (and_then ! (get ! refl) (no_more !))) (λ v.
    use1 𝓛 (later (some (λ (x : Bor (List ℕ)). (Tokens ⊛ ‵ (S.own_val x (v ∷ []))) ⊛ some (λ (ws : Lasts h.ended κs z.0.3). ‵ (lasts h.ended κs z.0.3 ws)
    ⊛ raw (fact 𝓤 (x.ref_ptr ≡ r.ref_ptr)) ⊛ raw (fact 𝓤 (x.now ≡ take (read_count bytes.now r.now) r.now)))))) (id⊢ 𝓤 _) $
    await ! tt $ pick ! (λ x. split ! $ split ! $ move ! (2 ∷ []) $ pick ! (λ ws. split ! $ drop ! $ split ! $ heard ! _ (λ at. heard ! _ (λ front.
    move ! (1 ∷ []) $ peeks ! S (Is S) (shows 𝓛 S) x (v ∷ []) (λ is.
    lands_as ! (ap only is.0.0) refl (tt, (tt, (record { fits = is.0.1.0 }, tt))) $ rewrite ! 0 (λ (vs : List Val). ‵ (S.own_val x vs)) is.0.0 refl $
    returns ! (look_at ! 0 refl) $ free_all ! refl $
    -- [what is handed back; the tokens; what the room ends as]: the clauses
    rewrite ! 2 (λ (γ : ℕ). ‵ (fres γ ((coded_list u32.coded).code r.now))) same.0 refl $ move ! (2 ∷ []) $
    use1 𝓛 (‵ (RoomRead bytes.now room)) (ends_read 𝓛 bytes.now room read) $
    suffices ! _ (leaves 𝓛 f.ended stayed c y (slice_val x.ref_ptr (length x.now)) x (tt, (tt, tt)) (tt, (tt, tt))) $
    nothing ! $ nothing ! $ fjoin ! $ nothing ! $ fjoin ! $ move ! (3 ∷ 0 ∷ 2 ∷ 1 ∷ []) $ frame ! $ frame ! $ frame ! $ frame ! $
    says ! (front_taken bytes.now room.now read front) $ by ! (fact_i 𝓤 (x.ref_ptr ≡ room.ref_ptr) (emp 𝓤) (at ∙ same.1))))))))))))))))
