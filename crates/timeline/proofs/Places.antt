-- One output and a run of outputs: where they lead, and how many a round makes. Assumes nothing.
use mathlib.Core.Path.{◌≡◌, refl, sym, ◌∙◌, ap, ap₂}
use mathlib.Core.Logic.{◌⊎◌, inl, inr}
use mathlib.Core.Bool.{Bool, true, false}
use Prim.Native.Nat.{ℕ, zero, suc, ◌+◌, ◌-◌, ◌*◌, ◌/◌, ◌%◌, ◌≤◌, ◌<◌}
use native.Mathlib.Nat.{add_assoc, zero-add, suc-add, div-add-mod, div-add-mod', mod-lt, mul-add-div, mul-add-mod_self_left, div-eq_of_lt, mod-eq_of_lt, not-suc-le-zero}
use native.Mathlib.Omega.{arith}
use lib.Arith.{digits_div, digits_mod}
use lib.Dec.{ltb}
use borrow.Author.Tests.{ltb-true, ltb-false, lt-ltb, le-ltb}
use Rattle.timeline.specs.Numbers.{Rate, Place, next, ahead, made}

-- a < b, or not
pub below_or_not : (a b : ℕ) → (a < b) ⊎ (b ≤ a)
below_or_not a b = go (ltb a b) refl
  where
    go : (t : Bool) → ltb a b ≡ t → (a < b) ⊎ (b ≤ a)
    go true e = inl (ltb-true a b e)
    go false e = inr (ltb-false a b e)

-- a place as one number, in den-ths of a sample
abbrev pub reach : Rate → Place → ℕ
reach r p = r.den * p.position + p.phase

-- a place as it is called c samples earlier in the stream
abbrev pub lifted : ℕ → Place → Place
lifted c p = record { position = c + p.position; phase = p.phase }

pub lifted_none : (p : Place) → lifted 0 p ≡ p
lifted_none p = rw (zero-add p.position)

pub lifted_twice : (a b : ℕ) (p : Place) → lifted (a + b) p ≡ lifted a (lifted b p)
lifted_twice a b p = rw (add_assoc a b p.position)

-- whole samples and phase are quotient and remainder
whole_part : {den : ℕ} (q f h x : ℕ) → 0 < den → f < den → den * q + f ≡ den * h + x → q ≡ h + x / den
whole_part {den} q f h x d s e =
    omega (arith, mul-add-div d q f, mul-add-div d h x, div-eq_of_lt s, ap (λ (y : ℕ). y / den) e)

rest_part : {den : ℕ} (q f h x : ℕ) → f < den → den * q + f ≡ den * h + x → f ≡ x % den
rest_part {den} q f h x s e =
    sym (mod-eq_of_lt s) ∙ sym (mul-add-mod_self_left den q f) ∙ ap (λ (y : ℕ). y % den) e ∙ mul-add-mod_self_left den h x

module _ (r : Rate) where
  pub next_lifted : (c : ℕ) (p : Place) → next r (lifted c p) ≡ lifted c (next r p)
  next_lifted c p = rw (add_assoc c p.position)

  pub ahead_lifted : (k c : ℕ) (p : Place) → ahead r k (lifted c p) ≡ lifted c (ahead r k p)
  ahead_lifted zero c p = refl
  ahead_lifted (suc k) c p = ap (ahead r k) (next_lifted c p) ∙ ahead_lifted k c (next r p)

  pub ahead_add : (a b : ℕ) (p : Place) → ahead r (a + b) p ≡ ahead r b (ahead r a p)
  ahead_add zero b p = rw (zero-add b)
  ahead_add (suc a) b p = rw (suc-add a b) (ahead_add a b (next r p))

  -- the last of k+1 outputs comes after the first k
  pub ahead_last : (k : ℕ) (p : Place) → ahead r (suc k) p ≡ next r (ahead r k p)
  ahead_last zero p = refl
  ahead_last (suc k) p = ahead_last k (next r p)

  next_reach : (p : Place) → reach r (next r p) ≡ reach r p + r.num
  next_reach p = omega (arith, div-add-mod (p.phase + r.num) r.den)

  pub ahead_reach : (k : ℕ) (p : Place) → reach r (ahead r k p) ≡ reach r p + k * r.num
  ahead_reach zero p = omega arith
  ahead_reach (suc k) p = omega (arith, ahead_reach k (next r p), next_reach p)

  pub ahead_phase : 0 < r.den → (k : ℕ) (p : Place) → p.phase < r.den → (ahead r k p).phase < r.den
  ahead_phase d zero p h = h
  ahead_phase d (suc k) p h = ahead_phase d k (next r p) (mod-lt (p.phase + r.num) d)

  -- the place after k outputs, told at once
  pub ahead_is : 0 < r.den → (k : ℕ) (p : Place) → p.phase < r.den
      → ahead r k p ≡ record { position = p.position + (p.phase + k * r.num) / r.den; phase = (p.phase + k * r.num) % r.den }
  ahead_is d k p h =
      let q = ahead r k p in
      let e : r.den * q.position + q.phase ≡ r.den * p.position + (p.phase + k * r.num) = omega (arith, ahead_reach k p) in
      let s : q.phase < r.den = ahead_phase d k p h in
      ap₂ (λ (x y : ℕ). record { position = x; phase = y })
      (whole_part q.position q.phase p.position (p.phase + k * r.num) d s e)
      (rest_part q.position q.phase p.position (p.phase + k * r.num) s e)

  -- den outputs lead num samples on, to the same phase
  pub ahead_class : 0 < r.den → (c m : ℕ) (p : Place) → p.phase < r.den
      → ahead r (c + m * r.den) p ≡ record { position = (ahead r c p).position + m * r.num; phase = (ahead r c p).phase }
  ahead_class d c m p h =
      let q = ahead r c p in
      let s : q.phase < r.den = ahead_phase d c p h in
      let e : q.phase + m * r.den * r.num ≡ m * r.num * r.den + q.phase = omega arith in
      ahead_add c (m * r.den) p ∙ ahead_is d (m * r.den) q s ∙ rw (e, digits_div (m * r.num) s, digits_mod (m * r.num) s)

  -- no output stands before an earlier one
  ahead_on : (k : ℕ) (p : Place) → p.position ≤ (ahead r k p).position
  ahead_on zero p = omega arith
  ahead_on (suc k) p = omega (arith, ahead_on k (next r p))

  pub ahead_later : (j k : ℕ) (p : Place) → j ≤ k → (ahead r j p).position ≤ (ahead r k p).position
  ahead_later j k p h =
      let e : k ≡ j + (k - j) = omega arith in
      rw (e, ahead_add j (k - j) p) (ahead_on (k - j) (ahead r j p))

  -- a round's clauses, by facts instead of tests
  pub made_none : (i room : ℕ) (p : Place) → i ≤ p.position → made r i room p ≡ 0
  made_none i zero p h = refl
  made_none i (suc room) p h = ap (λ (t : Bool). elim t [ true ↦ suc (made r i room (next r p)) | false ↦ 0 ]) (le-ltb p.position i h)

  pub made_more : (i room : ℕ) (p : Place) → p.position < i → made r i (suc room) p ≡ suc (made r i room (next r p))
  made_more i room p h = ap (λ (t : Bool). elim t [ true ↦ suc (made r i room (next r p)) | false ↦ 0 ]) (lt-ltb p.position i h)

  -- an output is made only where its position is below the samples in
  pub made_below : (i room : ℕ) (p : Place) (j : ℕ) → j < made r i room p → (ahead r j p).position < i
  made_below i zero p j h = absurd (not-suc-le-zero h)
  made_below i (suc room) p zero h =
      elim (below_or_not p.position i) [
        | inl l ↦ l
        | inr g ↦ omega (arith, made_none i (suc room) p g)
      ]
  made_below i (suc room) p (suc j) h =
      elim (below_or_not p.position i) [
        | inl l ↦ made_below i room (next r p) j (omega (arith, made_more i room p l))
        | inr g ↦ omega (arith, made_none i (suc room) p g)
      ]

  pub made_fits : (i room : ℕ) (p : Place) → made r i room p ≤ room
  made_fits i zero p = omega arith
  made_fits i (suc room) p =
      elim (below_or_not p.position i) [
        | inl l ↦ omega (arith, made_more i room p l, made_fits i room (next r p))
        | inr g ↦ omega (arith, made_none i (suc room) p g)
      ]

  -- with room left, a round ends where the position is past the samples in
  pub made_ends : (i room : ℕ) (p : Place) → made r i room p < room → i ≤ (ahead r (made r i room p) p).position
  made_ends i zero p h = absurd (not-suc-le-zero h)
  made_ends i (suc room) p h =
      elim (below_or_not p.position i) [
        | inl l ↦ rw (made_more i room p l) (made_ends i room (next r p) (omega (arith, made_more i room p l)))
        | inr g ↦ rw (made_none i (suc room) p g) g
      ]

  -- k is the count of a round, if it fits the room, all outputs before it are made, and with room left the next one is not
  pub made_is : (i room k : ℕ) (p : Place) → k ≤ room → ((j : ℕ) → j < k → (ahead r j p).position < i)
      → (k < room → i ≤ (ahead r k p).position) → made r i room p ≡ k
  made_is i room k p fits below ends =
      elim (below_or_not (made r i room p) k) [
        | inl l ↦ omega (arith, below (made r i room p) l, made_ends i room p (omega arith))
        | inr g ↦
            elim (below_or_not k (made r i room p)) [
              | inl l ↦ omega (arith, made_below i room p k l, ends (omega (arith, made_fits i room p)))
              | inr same ↦ omega arith
            ]
      ]

  -- the code's carry: num/den whole samples and num%den den-ths are added; den of them make one sample more
  pub next_plain : (p : Place) → p.phase + r.num % r.den < r.den
      → next r p ≡ record { position = p.position + r.num / r.den; phase = p.phase + r.num % r.den }
  next_plain p h =
      let e : p.phase + r.num ≡ r.num / r.den * r.den + (p.phase + r.num % r.den) = omega (arith, div-add-mod' r.num r.den) in
      rw (e, digits_div (r.num / r.den) h, digits_mod (r.num / r.den) h)

  pub next_carried : 0 < r.den → (p : Place) → p.phase < r.den → r.den ≤ p.phase + r.num % r.den
      → next r p ≡ record { position = p.position + r.num / r.den + 1; phase = p.phase + r.num % r.den - r.den }
  next_carried d p s h =
      let m : r.num % r.den < r.den = mod-lt r.num d in
      let l : p.phase + r.num % r.den - r.den < r.den = omega arith in
      let e : p.phase + r.num ≡ (r.num / r.den + 1) * r.den + (p.phase + r.num % r.den - r.den) =
      omega (arith, div-add-mod' r.num r.den) in
      rw (e, digits_div (r.num / r.den + 1) l, digits_mod (r.num / r.den + 1) l, add_assoc p.position)
