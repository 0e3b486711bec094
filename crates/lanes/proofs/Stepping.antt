-- What a loop over `(from..end).step_by(num).enumerate()` goes through: every num-th number from `from` on, below end, with how many came before it.
--     step_first                   before the first
--     step_some, step_none         at one of them, and after the last
-- Assumes nothing.
use mathlib.Core.Path.{◌≡◌, refl, sym, ap, ◌∙◌}
use mathlib.Core.List.{List, [], ◌∷◌}
use Prim.Native.Nat.{ℕ, ◌+◌, ◌*◌, ◌-◌, ◌≤◌, ◌<◌}
use native.Mathlib.Nat.{add-mul, one-mul, zero-mul}
use native.Mathlib.Omega.{arith}
use lib.ListN.{length}
use Rattle.std.specs.Prelude.{cond, IsTrue, Some, None}
use Rattle.std.specs.Iterator.{Yields}
use Rattle.std.specs.Iterator.Adapters.{enumerate_steps, step_by_steps}
use Rattle.std.specs.Range.{range_steps}
use Rattle.std.specs.declared.iter.Enumerate.{Enumerate}
use Rattle.std.specs.declared.iter.StepBy.{StepBy}
use Rattle.std.specs.declared.ops.Range.{Range}
use Rattle.std.specs.declared.option.Option.{Option}

-- one number of a range after the other
abbrev counts : Range ℕ → Option ℕ → Range ℕ → Type 0
counts = range_steps (λ a b. b - a) (λ a b. b ≡ a + 1)

-- it stands before the number that has `count` before it
pub record Stepping (from num end : ℕ) (it : Enumerate (StepBy (Range ℕ))) : Type 0 where
  pub gap : it.iter.gap + 1 ≡ num
  pub ends : it.iter.iter.end ≡ end
  pub next : it.iter.iter.start + cond it.iter.first 0 it.iter.gap ≡ from + it.count * num

-- numbers that are passed over
passed : (xs : List ℕ) (s t : Range ℕ) → Yields counts s xs t → (t.end ≡ s.end) × (t.start ≡ s.start + length xs)
passed [] s t y = (sym (ap (λ (k : Range ℕ). k.end) y), omega (arith, ap (λ (k : Range ℕ). k.start) y))
passed (x ∷ xs) s t y = let h = passed xs y.0 t y.2 in (h.0 ∙ y.1.0, omega (arith, h.1, y.1.1.2))

pub step_first : {from num end : ℕ} {r : StepBy (Range ℕ)} {e it : Enumerate (StepBy (Range ℕ))} → r.iter ≡ record { start = from; end = end } → r.gap + 1 ≡ num
    → IsTrue r.first → e.iter ≡ r → e.count ≡ 0 → it ≡ e → (it.count ≡ 0) × Stepping from num end it
step_first {num = num} source gap first whole count same = (
  rw same count,
  record {
    gap = rw (same, whole) gap;
    ends = rw (same, whole, source) refl;
    next = rw (same, whole, source, first, count) (omega (arith, zero-mul num));
  },
)

module _ {from num end : ℕ} {s t : Enumerate (StepBy (Range ℕ))} (h : Stepping from num end s) where
  pub step_some : {q x : ℕ} → enumerate_steps (step_by_steps counts) s (Some (q, x)) t
      → (q ≡ s.count) × (x ≡ from + s.count * num) × (x < end) × (t.count ≡ s.count + 1) × Stepping from num end t
  step_some {q} {x} p =
      let b = p.0.2 in
      let y = b.3 in
      let w = passed b.1 s.iter.iter y.0 y.1 in
      let here : x ≡ from + s.count * num = omega (arith, h.next, b.2, b.4, w.1, y.2.1.1) in
      let many : t.count * num ≡ (s.count + 1) * num = ap (λ (v : ℕ). v * num) p.2 in
      let after : t.iter.iter.start + t.iter.gap ≡ from + t.count * num =
      omega (arith, here, many, h.gap, y.2.1.1, y.2.1.2, p.0.0, add-mul s.count 1 num, one-mul num) in (
        p.1,
        here,
        omega (arith, h.ends, w.0, y.2.1.0, y.2.1.1),
        p.2,
        record {
          gap = omega (arith, h.gap, p.0.0);
          ends = y.2.0 ∙ w.0 ∙ h.ends;
          next = rw p.0.1 after;
        },
      )

  pub step_none : enumerate_steps (step_by_steps counts) s None t → end ≤ from + s.count * num
  step_none p =
      let b = p.0.2 in
      let y = b.3 in
      let w = passed b.1 s.iter.iter y.0 y.1 in
      omega (arith, h.next, h.ends, b.2, b.4, w.0, w.1, y.2.1.0)
