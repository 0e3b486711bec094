-- A run of outputs made class by class: those den apart have one phase, and their windows start num samples apart.
--     starts, goes_on, ends        before the first class, over one, after the last
--     layout_fits                  what the layout asks
--     class_fits, class_value      what a class asks of the lanes, and what its outputs are
-- Assumes nothing.
use mathlib.Core.Path.{◌≡◌, refl, sym, ap, ◌∙◌}
use mathlib.Core.Logic.{◌⊎◌, inl, inr}
use mathlib.Core.List.{List, [], ◌∷◌}
use Prim.Native.Nat.{ℕ, zero, suc, ◌+◌, ◌-◌, ◌*◌, ◌/◌, ◌%◌, ◌≤◌, ◌<◌}
use native.Mathlib.Nat.{not-suc-le-zero, mod-lt, div-add-mod', eq-or-lt_of_le, zero-lt-suc}
use native.Mathlib.Omega.{arith}
use lib.Arith.{digits_mod}
use lib.ListN.{length, drop, get_or}
use lib.Seq.{paste, length-paste}
use lib.Ieee.{Float, nan}
use Rattle.history.proofs.Pasted.{get_or-paste_high}
use Rattle.timeline.specs.Numbers.{Rate, Place, ahead}
use Rattle.timeline.specs.Samples.{output, outputs}
use Rattle.timeline.proofs.Places.{below_or_not, ahead_is, ahead_class, ahead_later}
use Rattle.timeline.proofs.Parts.{get_d_front}
use Rattle.timeline.proofs.Outputs.{length_outputs}
use Rattle.kernel.specs.Sums.{at}
use Rattle.kernel.specs.Step.{step_of}
use Rattle.kernel.specs.declared.Phase.{Phase}
use Rattle.rates.specs.Rated.{rate_with}
use Rattle.rates.specs.declared.Setting.{Setting}
use Rattle.lanes.specs.Layout.{LayoutFits}
use Rattle.lanes.specs.Class.{Classed, ClassFits}
use Rattle.lanes.specs.declared.Weave.{Weave}
use Rattle.rounds.specs.Output.{phase_of, weigh_of}
use Rattle.rounds.specs.Rounds.{Playable}
use Rattle.rounds.specs.Runs.{RunFits, Ran, WeaveFits}
use Rattle.rounds.proofs.Running.{output_of}
use Rattle.rounds.proofs.Phases.{output_from}

-- lists with the same entries are the same
same_entries : {A : Type 0} (z : A) (a b : List A) → length a ≡ length b → ((k : ℕ) → k < length a → get_or a k z ≡ get_or b k z) → a ≡ b
same_entries z [] [] e h = refl
same_entries z [] (y ∷ b) e h = absurd (omega (arith, e))
same_entries z (x ∷ a) [] e h = absurd (omega (arith, e))
same_entries {A} z (x ∷ a) (y ∷ b) e h =
    ap (λ (v : A). v ∷ a) (h zero (zero-lt-suc (length a)))
    ∙ ap (λ (l : List A). y ∷ l) (same_entries z a b (omega (arith, e)) (λ k l. h (suc k) (omega arith)))

-- a number has one remainder
one_rest : {den c d : ℕ} (m k : ℕ) → c < den → d < den → c + m * den ≡ d + k * den → c ≡ d
one_rest {den} {c} {d} m k hc hd e =
    let f : m * den + c ≡ k * den + d = omega (arith, e) in
    sym (digits_mod m hc) ∙ ap (λ (x : ℕ). x % den) f ∙ digits_mod k hd

module _ (s : Setting) (coefs mem : List Float) (p : Place) (count : ℕ) (before : List Float) where
  abbrev r : Rate
  r = rate_with s 0

  -- output k
  abbrev value : ℕ → Float
  value k = output (weigh_of s coefs) r mem (ahead r k p)

  -- the classes below `from` are made, and what lies past the outputs is as it was
  pub record Classes (den from : ℕ) (after : List Float) : Type 0 where
    pub same : length after ≡ length before
    pub made : (c m : ℕ) → c < from → c + m * den < count → at after (c + m * den) ≡ value (c + m * den)
    pub past : (k : ℕ) → count ≤ k → at after k ≡ at before k

  pub starts : (den : ℕ) → Classes den 0 before
  starts den = record { same = refl; made = λ c m h l. absurd (not-suc-le-zero h); past = λ k h. refl }

  pub goes_on : (den from : ℕ) {f : ℕ → Float} {after then : List Float} → Classes den from after → from < den → Classed after then from den count f
      → ((m : ℕ) → from + m * den < count → f m ≡ value (from + m * den)) → Classes den (from + 1) then
  goes_on den from {f} {after} {then} g h w v =
      record {
        same = w.long ∙ g.same;
        made = λ c m l b. one c m b (eq-or-lt_of_le {n = c} {m = from} (omega arith));
        past = λ k l. w.others k (λ m e. l) ∙ g.past k l;
      }
    where
      one : (c m : ℕ) → c + m * den < count → (c ≡ from) ⊎ (c < from) → at then (c + m * den) ≡ value (c + m * den)
      one c m b (inl e) =
          let i : from + m * den ≡ c + m * den = ap (λ (x : ℕ). x + m * den) (sym e) in
          ap (at then) (sym i) ∙ w.these m (omega arith) ∙ v m (omega arith) ∙ ap value i
      one c m b (inr l) =
          w.others (c + m * den) (λ k e. absurd (omega (arith, one_rest {den = den} m k (omega arith) h e))) ∙ g.made c m l b

  pub ends : (den from : ℕ) {after : List Float} → Classes den from after → 0 < den → (den ≤ from) ⊎ (count ≤ from) → count ≤ length before
      → Ran s coefs mem p count count (ahead r count p) before after
  ends den from {after} g d all room =
      record { within = omega arith; place = refl; same = g.same; out = same_entries nan after (paste before 0 outs count) long (λ k h. entry k (below_or_not k count)) }
    where
      outs : List Float
      outs = outputs (weigh_of s coefs) r mem count p

      many : length outs ≡ count
      many = length_outputs (weigh_of s coefs) r mem count p

      long : length after ≡ length (paste before 0 outs count)
      long = g.same ∙ sym (length-paste before 0 outs count (omega arith) (omega (arith, many)))

      low : (k : ℕ) → k < count → k % den < from
      low k h = elim all [
        | inl e ↦ omega (arith, mod-lt k d)
        | inr e ↦ omega (arith, div-add-mod' k den)
      ]

      entry : (k : ℕ) → (k < count) ⊎ (count ≤ k) → at after k ≡ at (paste before 0 outs count) k
      entry k (inl h) =
          let i : k % den + k / den * den ≡ k = omega (arith, div-add-mod' k den) in
          ap (at after) (sym i)
          ∙ g.made (k % den) (k / den) (low k h) (omega arith)
          ∙ ap value i
          ∙ sym (output_of (weigh_of s coefs) r mem count k p nan h)
          ∙ sym (get_d_front before outs count k nan (omega (arith, many)) h)
      entry k (inr h) = g.past k h ∙ sym (get_or-paste_high before 0 outs count nan (omega arith) (omega (arith, many)) k (omega arith))

-- the layout reaches as far as the last window
last_window : {s : Setting} {p : Place} {w : Weave} {mem : ℕ} → Playable s → RunFits s p w.count mem → WeaveFits s p w
    → p.position + w.reach ≡ (ahead (rate_with s 0) (w.count - 1) p).position + w.n
last_window {s} {p} {w} y f g =
    let last = ap (λ (x : Place). x.position) (ahead_is (rate_with s 0) y.terms.den_from (w.count - 1) p f.phase) in
    omega (arith, last, g.reach, g.n)

-- so it asks for no sample that the history does not have
pub layout_fits : {s : Setting} {p : Place} {w : Weave} {mem : ℕ} → Playable s → RunFits s p w.count mem → WeaveFits s p w
    → LayoutFits w.num w.stride w.reach 2048 (mem - p.position)
layout_fits {s} {p} {w} y f g =
    record {
      num_to = omega (arith, g.num, y.terms.num_to);
      rows = omega (arith, g.rows);
      columns = g.columns;
      held = omega (arith, last_window y f g, (f.each (w.count - 1) (omega (arith, g.some))).window, g.n);
    }

module _ (s : Setting) (p : Place) (w : Weave) (from : ℕ) {q : Place} {mem : ℕ} (y : Playable s) (f : RunFits s p w.count mem) (g : WeaveFits s p w) (low : from < w.count) (e : q ≡ ahead (rate_with s 0) from p) where
  -- output m of the class
  member : (m : ℕ) → ahead (rate_with s 0) (from + m * w.den) p ≡ record { position = q.position + m * w.num; phase = q.phase }
  member m =
      ap (λ (d : ℕ). ahead (rate_with s 0) (from + m * d) p) g.den
      ∙ ahead_class (rate_with s 0) y.terms.den_from from m p f.phase
      ∙ ap (λ (x : Place). record { position = x.position + m * s.num; phase = x.phase }) (sym e)
      ∙ ap (λ (d : ℕ). record { position = q.position + m * d; phase = q.phase }) (sym g.num)

  -- it does not stand before the first output
  pub after_first : p.position ≤ q.position
  after_first = rw e (ahead_later (rate_with s 0) 0 from p (omega arith))

  within : (m : ℕ) → from + m * w.den < w.count → q.position - p.position + m * w.num + w.n ≤ w.reach
  within m h =
      let here = ap (λ (x : Place). x.position) (member m) in
      let far = ahead_later (rate_with s 0) (from + m * w.den) (w.count - 1) p (omega arith) in
      omega (arith, here, far, last_window y f g, after_first)

  pub class_fits : {size out : ℕ} → from < w.den → 2048 ≤ size → w.count ≤ out → ClassFits w (q.position - p.position) from size (mem - p.position) out
  class_fits h size out =
      record {
        num_some = omega (arith, g.num, y.terms.num_from);
        den_to = omega (arith, g.den, y.terms.den_to);
        from_low = h;
        rows = omega (arith, g.rows);
        columns = g.columns;
        held = (layout_fits y f g).held;
        within = within;
        room = out;
      }

  pub class_value : (table line : List Float) {phase : Phase} → phase ≡ phase_of s q.phase → (m : ℕ)
      → step_of phase w.n s.oversample table (drop (q.position - p.position + m * w.num) (drop p.position line))
      ≡ output (weigh_of s table) (rate_with s 0) line (ahead (rate_with s 0) (from + m * w.den) p)
  class_value table line {phase} h m =
      let x : Place = record { position = q.position + m * w.num; phase = q.phase } in
      let shift : q.position - p.position + m * w.num ≡ x.position - p.position = omega (arith, after_first) in
      output_from s x p.position table line (omega (arith, after_first)) h
      (ap (λ (n : ℕ). step_of phase n s.oversample table (drop (q.position - p.position + m * w.num) (drop p.position line))) g.n
      ∙ ap (λ (k : ℕ). step_of phase s.filt_len s.oversample table (drop k (drop p.position line))) shift)
      ∙ ap (output (weigh_of s table) (rate_with s 0) line) (sym (member m))
