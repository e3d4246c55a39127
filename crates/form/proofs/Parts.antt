-- Answers that are the same are so part by part: the lines that break a text, heads and hours of read lines, tops, and what was placed.
-- Assumes nothing.
use Prim.Native.Nat.{ℕ}
use mathlib.Core.Path.{◌≡◌, ap}
use native.Mathlib.Omega.{arith}
use Rattle.std.proofs.lemmas.Option.{same_Some}
use Rattle.std.specs.Prelude.{Some, Result, Ok, Err}
use Rattle.form.specs.Form.{top}
use Rattle.form.specs.Lines.{breaks, head}
use Rattle.form.specs.Places.{hours}
use Rattle.form.specs.declared.lines.BrokenLine.{BrokenLine}
use Rattle.form.specs.declared.lines.Head.{Head}
use Rattle.form.specs.declared.places.Hours.{Hours}
use Rattle.form.specs.declared.whole.Top.{Top}

-- what breaks the form does not have it
pub no_whole : {A : Type 0} (line : ℕ) (x : A) → breaks line ≡ Ok x → ⊥
no_whole line x e = let z : ◌≡◌ {A = ℕ} 0 1 = cc in omega arith

pub no_break : {A : Type 0} (line : ℕ) (x : A) → Ok x ≡ breaks line → ⊥
no_break line x e = let z : ◌≡◌ {A = ℕ} 0 1 = cc in omega arith

pub same_Ok : {A B : Type 0} (x y : A) → ◌≡◌ {A = Result A B} (Ok x) (Ok y) → x ≡ y
same_Ok x y e = cc

same_Err : {A B : Type 0} (x y : B) → ◌≡◌ {A = Result A B} (Err x) (Err y) → x ≡ y
same_Err x y e = cc

pub same_line : {A : Type 0} (j k : ℕ) → ◌≡◌ {A = Result A BrokenLine} (breaks j) (breaks k) → j ≡ k
same_line j k e = ap (λ (b : BrokenLine). b.line) (same_Err _ _ e)

pub head_parts : {d h p e i q : ℕ} → Some (head d h p) ≡ Some (head e i q) → (d ≡ e) × (h ≡ i) × (p ≡ q)
head_parts e =
    let same = same_Some _ _ e in
    (ap (λ (x : Head). x.day) same, ap (λ (x : Head). x.hour) same, ap (λ (x : Head). x.next) same)

pub hours_parts : {d h c p e i k q : ℕ} → Some (hours d h c p) ≡ Some (hours e i k q) → (d ≡ e) × (h ≡ i) × (c ≡ k) × (p ≡ q)
hours_parts e =
    let same = same_Some _ _ e in (
      ap (λ (x : Hours). x.day) same,
      ap (λ (x : Hours). x.hour) same,
      ap (λ (x : Hours). x.count) same,
      ap (λ (x : Hours). x.next) same,
    )

pub top_parts : {w p n a v q m b : ℕ} → ◌≡◌ {A = Result Top BrokenLine} (Ok (top w p n a)) (Ok (top v q m b))
    → (w ≡ v) × (p ≡ q) × (n ≡ m) × (a ≡ b)
top_parts e =
    let same = same_Ok _ _ e in
    (ap (λ (x : Top). x.winter) same, ap (λ (x : Top). x.price) same, ap (λ (x : Top). x.events) same, ap (λ (x : Top). x.next) same)
