-- What reads do, one after the other, to the bytes that a reader is known to have left.
-- Assumes nothing.
use Rattle.std.proofs.Common.{◌≡◌, ℕ, ◌+◌, ◌<◌, ◌≤◌, List, ◌++◌, None, Some, Ok, Err, length, take, ap, ◌∙◌, refl, sym, subst}
use Rattle.std.proofs.Common.{arith, append_assoc, length-take-le}
use Rattle.std.proofs.Math.Seq.{take-append-add}
use Rattle.std.proofs.lemmas.List.{take-take}
use Rattle.std.proofs.lemmas.Slice.{take-put_mid}
use borrow.Rule.Slice.PartMut.{put_mid}
use Rattle.std.specs.declared.option.Option.{Option}
use Rattle.std.specs.declared.result.Result.{Result}
use Rattle.std.specs.Io.KnownBytes.{Keeps, Consumes, ReadConsumes}

-- a read that fails leaves what an earlier one left
pub keeps_still : (a b c : Option (List ℕ)) → Keeps a b → Keeps b c → Keeps a c
keeps_still None b c p q = tt
keeps_still (Some x) None c p q = absurd p
keeps_still (Some x) (Some y) None p q = absurd q
keeps_still (Some x) (Some y) (Some z) p q = q ∙ p

-- a read behind one that failed takes what it takes from the first
pub consumes_behind : (a b c : Option (List ℕ)) (bs : List ℕ) → Keeps a b → Consumes b c bs → Consumes a c bs
consumes_behind None b c bs p q = tt
consumes_behind (Some x) None c bs p q = absurd p
consumes_behind (Some x) (Some y) None bs p q = absurd q
consumes_behind (Some x) (Some y) (Some z) bs p q = sym p ∙ q

-- two reads take what one would
pub consumes_more : (a b c : Option (List ℕ)) (bs cs : List ℕ) → Consumes a b bs → Consumes b c cs → Consumes a c (bs ++ cs)
consumes_more None b c bs cs p q = tt
consumes_more (Some x) None c bs cs p q = absurd p
consumes_more (Some x) (Some y) None bs cs p q = absurd q
consumes_more (Some x) (Some y) (Some z) bs cs p q = p ∙ ap (λ l. bs ++ l) q ∙ sym (append_assoc bs cs z)

-- the same of what a read answers
pub reads_behind : {E : Type 0} (a b c : Option (List ℕ)) (r : Result ℕ E) (buf : List ℕ) → Keeps a b → ReadConsumes b c r buf → ReadConsumes a c r buf
reads_behind a b c (Ok n) buf p q = (consumes_behind a b c (take n buf) p q.0, q.1)
reads_behind a b c (Err e) buf p q = keeps_still a b c p q

-- what stands in front of a buffer once a part behind k bytes was read into
pub front_grown : (k m n : ℕ) (buf part : List ℕ) → k ≤ length buf → n ≤ length part → take (k + n) (put_mid k m buf part) ≡ take k buf ++ take n part
front_grown k m n buf part h f =
    let whole = take-put_mid k m buf part (k + length part) refl h in
    let long : length (take k buf) ≡ k = length-take-le k buf h in
    sym (take-take (k + n) (k + length part) (put_mid k m buf part) (omega arith))
    ∙ ap (take (k + n)) whole
    ∙ ap (λ x. take (x + n) (take k buf ++ part)) (sym long)
    ∙ take-append-add (take k buf) part n

-- the same of what was taken from a reader
pub taken_more : (a b c : Option (List ℕ)) (k m n : ℕ) (buf part : List ℕ) → k ≤ length buf → n ≤ length part → Consumes a b (take k buf)
    → Consumes b c (take n part)
    → Consumes a c (take (k + n) (put_mid k m buf part))
taken_more a b c k m n buf part h f p q = subst (Consumes a c) (sym (front_grown k m n buf part h f)) (consumes_more a b c _ _ p q)

-- a front that is shorter than a whole buffer was not filled up
pub front_short : (k m : ℕ) (buf : List ℕ) → k ≤ length buf → m ≡ length buf → length (take k buf) < m → k < length buf
front_short k m buf h e f = omega (arith, length-take-le k buf h)
