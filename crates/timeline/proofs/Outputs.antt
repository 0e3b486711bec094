-- Runs of outputs: how many, in two runs, of a part of a list, of a list's front. Assumes nothing.
use mathlib.Core.Path.{◌≡◌, refl, sym, ◌∙◌, ap, ap₂}
use mathlib.Core.List.{List, ◌∷◌, ◌++◌}
use Prim.Native.Nat.{ℕ, zero, suc, ◌+◌, ◌≤◌, ◌<◌}
use native.Mathlib.Nat.{zero-add, suc-add, zero-lt-suc}
use native.Mathlib.Omega.{arith}
use lib.ListN.{length, take, drop}
use lib.Seq.{drop-drop}
use Rattle.timeline.specs.Numbers.{Rate, Place, next, ahead}
use Rattle.timeline.specs.Samples.{output, outputs}
use Rattle.timeline.proofs.Places.{lifted, next_lifted}
use Rattle.timeline.proofs.Parts.{same_window}

module _ {A : Type 0} (weigh : ℕ → List A → A) (r : Rate) where
  pub length_outputs : (line : List A) (k : ℕ) (p : Place) → length (outputs weigh r line k p) ≡ k
  length_outputs line zero p = refl
  length_outputs line (suc k) p = ap suc (length_outputs line k (next r p))

  pub outputs_add : (line : List A) (a b : ℕ) (p : Place)
      → outputs weigh r line (a + b) p ≡ outputs weigh r line a p ++ outputs weigh r line b (ahead r a p)
  outputs_add line zero b p = rw (zero-add b)
  outputs_add line (suc a) b p = rw (suc-add a b) (ap (λ (l : List A). output weigh r line p ∷ l) (outputs_add line a b (next r p)))

  -- outputs whose windows end within the first m entries depend on those alone
  pub outputs_same : (a b : List A) (m k : ℕ) (p : Place) → take m a ≡ take m b → ((j : ℕ) → j < k → (ahead r j p).position + r.n ≤ m)
      → outputs weigh r a k p ≡ outputs weigh r b k p
  outputs_same a b m zero p e w = refl
  outputs_same a b m (suc k) p e w =
      ap₂ (λ (x : A) (xs : List A). x ∷ xs)
      (ap (weigh p.phase) (same_window m r.n p.position a b (w zero (zero-lt-suc k)) e))
      (outputs_same a b m k (next r p) e (λ j l. w (suc j) (omega arith)))

  -- outputs of the line from sample c on
  pub outputs_from : (line : List A) (c k : ℕ) (p : Place) → outputs weigh r (drop c line) k p ≡ outputs weigh r line k (lifted c p)
  outputs_from line c zero p = refl
  outputs_from line c (suc k) p =
      ap₂ (λ (x : A) (xs : List A). x ∷ xs)
      (ap (λ (l : List A). weigh p.phase (take r.n l)) (drop-drop p.position c line))
      (outputs_from line c k (next r p) ∙ ap (outputs weigh r line k) (sym (next_lifted r c p)))
