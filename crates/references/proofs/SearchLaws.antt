-- The search backwards for the five nearest days that pass any test: one law for each turn and for each end. The invariant: the days that are
-- found and the nearest ones before d that pass are the days that are wanted.
-- Assumes nothing.
use Prim.Native.Nat.{ℕ, suc, ◌+◌, ◌-◌, ◌≤◌, ◌<◌}
use mathlib.Core.Bool.{Bool, true, false}
use mathlib.Core.List.{List, [], ◌∷◌, ◌++◌, append_assoc, append-nil}
use mathlib.Core.Path.{◌≡◌, refl, sym, ap, ◌∙◌}
use native.Mathlib.Omega.{arith}
use lib.ListN.{length, take, set, length-append}
use lib.Seq.{take-nil, set-append_seam}
use Rattle.references.specs.ReferenceDays.{before, refs_of}

-- at most five are found, and the others that are wanted are the nearest before d that pass
pub record Search (ok : ℕ → Bool) (want found : List ℕ) (d : ℕ) : Type 0 where
  pub room : length found ≤ 5
  pub rest : found ++ take (5 - length found) (before ok d) ≡ want

pub search_start : (ok : ℕ → Bool) (day : ℕ) → Search ok (take 5 (before ok day)) [] day
search_start ok day = record { room = omega arith; rest = refl }

pub before_yes : (ok : ℕ → Bool) (d : ℕ) → ok d ≡ true → before ok (suc d) ≡ d ∷ before ok d
unfolding before
before_yes ok d t = rw t

pub before_no : (ok : ℕ → Bool) (d : ℕ) → ok d ≡ false → before ok (suc d) ≡ before ok d
unfolding before
before_no ok d t = rw t

-- a turn at day d, the one before n: it is taken, where there is room, or is passed over
module _ (ok : ℕ → Bool) (want found : List ℕ) (n d : ℕ) (next : n ≡ suc d) (s : Search ok want found n) where
  pub search_took : length found < 5 → ok d ≡ true → (more : List ℕ) → more ≡ found ++ d ∷ [] → Search ok want more d
  search_took room t more is =
      let long : length more ≡ length found + 1 = omega (arith, ap length is, length-append found (d ∷ [])) in
      let left : 5 - length found ≡ suc (5 - length more) = omega arith in
      record {
        room = omega arith;
        rest =
            ap (λ (ds : List ℕ). ds ++ take (5 - length more) (before ok d)) is
            ∙ append_assoc found (d ∷ []) (take (5 - length more) (before ok d))
            ∙ (rw (left, next, before_yes ok d t) at s.rest);
      }

  pub search_passed : ok d ≡ false → Search ok want found d
  search_passed t = record { room = s.room; rest = rw (next, before_no ok d t) at s.rest }

-- no days left: all are found
pub search_through : (ok : ℕ → Bool) (want found : List ℕ) (d : ℕ) → Search ok want found d → d ≤ 0 → found ≡ want
unfolding before
search_through ok want found d s h =
    let z : d ≡ 0 = omega arith in
    sym (append-nil found) ∙ (rw (z, take-nil {A = ℕ} (5 - length found)) at s.rest)

-- what is found is held as its days with zeros behind them, and their count: the next one is stored where the count says
pub held_more : (found : List ℕ) (d count : ℕ) → count ≡ length found → count < 5 → set (refs_of found).days count d ≡ (refs_of (found ++ d ∷ [])).days
held_more found d count is room =
    let left : 5 - length found ≡ suc (5 - (length found + 1)) = omega arith in
    rw (is, length-append, left, set-append_seam, append_assoc) refl
