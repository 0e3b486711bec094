-- `rates::terms::Terms::halved` meets its contract. The invariant: what is left has been halved for each power before the x-th.
-- Assumes nothing.
use mathlib.Core.Path.{◌≡◌, sym, ◌∙◌, ap}
use Prim.Native.Nat.{ℕ, suc, ◌+◌, ◌-◌, ◌*◌, ◌/◌, ◌%◌, ◌^◌, ◌≤◌, ◌<◌}
use native.Mathlib.Nat.{one-mul}
use native.Mathlib.Omega.{arith}
use lib.Dec.{lit<}
use lib.Pow.{shl_exact}
use Rattle.rates.specs.Setting.{halved}
use Rattle.rates.proofs.Numbers.{halved_none, halved_more, halved_same}
use Rattle.rates.proofs.terms.Terms.halved.Goals as goal
use Rattle.rates.proofs.terms.Terms.halved.Goals.{then-x-self, else-x-self}

-- one turn at x
module _ (num den m x : ℕ) (from : 1 ≤ x) (to : x ≤ 4) where
  shifted : 1 * 2 ^ x % 2 ^ 32 ≡ 2 ^ x
  shifted = shl_exact {a = 1} 1 x 32 (lit< tt) (omega arith) ∙ one-mul (2 ^ x)

  power-is : 1 * 2 ^ x % 2 ^ 32 * den ≡ 2 ^ suc (x - 1) * den
  power-is = let e : x ≡ suc (x - 1) = omega arith in ap (λ k. k * den) (shifted ∙ ap (λ k. 2 ^ k) e)

  next : halved num den (suc (x - 1)) m ≡ halved num den (x + 1 - 1) m
  next = ap (λ k. halved num den k m) {x = suc (x - 1)} {y = x + 1 - 1} (omega arith)

  halves : (left : ℕ) → left ≡ halved num den (x - 1) m → 1 * 2 ^ x % 2 ^ 32 * den < num → left / 2 ≡ halved num den (x + 1 - 1) m
  halves left e h = ap (λ k. k / 2) e ∙ sym (halved_more num den m (x - 1) (rw power-is at h)) ∙ next

  keeps : (left : ℕ) → left ≡ halved num den (x - 1) m → num ≤ 1 * 2 ^ x % 2 ^ 32 * den → left ≡ halved num den (x + 1 - 1) m
  keeps left e h = e ∙ sym (halved_same num den m (x - 1) (rw power-is at h)) ∙ next

pub loop-x-init : goal.loop-x-init
loop-x-init c = (omega arith, omega arith, sym (halved_none c.args.self.num c.args.self.den c.args.self.row.oversample))

pub loop-x-preserved : goal.loop-x-preserved
loop-x-preserved c =
    let a = c.args.self in
    let l = c.loop-x in
    let to : l.x ≤ 4 = omega arith in (
      omega arith,
      omega arith,
      elim c.if-x-self.branch [
        | then-x-self w ↦ w.left-is ∙ halves a.num a.den a.row.oversample l.x l.invariant.0 to l.left l.invariant.2 w.if-x-self.true
        | else-x-self w ↦ w.left-is ∙ keeps a.num a.den a.row.oversample l.x l.invariant.0 to l.left l.invariant.2 w.if-x-self.false
      ],
    )
