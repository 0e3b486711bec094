-- A run of outputs: before the first and over one; and the round that it leads to.
--     starts, goes_on                      the run
--     four_values, side_by_side            over outputs that were made side by side
--     numbered, run_fits                   what a run asks, from what a round asks
--     here, onward, later                  where its outputs stand
--     round_wrote                          the outputs are made, and the history moves down
-- Assumes nothing.
use mathlib.Core.Path.{◌≡◌, refl, sym, ap, subst, ◌∙◌}
use mathlib.Core.List.{List}
use Prim.Native.Nat.{ℕ, zero, suc, ◌+◌, ◌-◌, ◌≤◌, ◌<◌, min}
use native.Mathlib.Nat.{zero-add, not-suc-le-zero}
use native.Mathlib.Numerals.{add-one}
use native.Mathlib.Omega.{arith}
use lib.ListN.{length, drop, set, get_or}
use lib.Seq.{paste, paste-zero, paste-suc}
use borrow.Rule.Slice.PartMut.{put_mid}
use Rattle.std.proofs.lemmas.Slice.{put_mid-paste}
use lib.Ieee.{Float, nan}
use Rattle.history.proofs.Pasted as pasted
use Rattle.history.proofs.Pasted.{Pasted}
use Rattle.timeline.specs.Numbers.{Rate, Place, Turn, next, ahead, made, round}
use Rattle.timeline.specs.Samples.{output, outputs, play_round}
use Rattle.timeline.proofs.Places.{ahead_last, ahead_add, ahead_phase, made_below}
use Rattle.timeline.proofs.Outputs.{length_outputs}
use Rattle.rates.specs.Rated.{rate_with}
use Rattle.rates.specs.declared.Setting.{Setting}
use Rattle.rounds.specs.Output.{weigh_of}
use Rattle.rounds.specs.Rounds.{Playable, RoundFits, Wrote, Filled}
use Rattle.rounds.specs.Runs.{Numbered, Stands, RunFits, four_outputs, Ran}

-- output j of k
pub output_of : {A : Type 0} (weigh : ℕ → List A → A) (r : Rate) (mem : List A) (k j : ℕ) (p : Place) (z : A) → j < k
    → get_or (outputs weigh r mem k p) j z ≡ output weigh r mem (ahead r j p)
output_of weigh r mem zero j p z h = absurd (not-suc-le-zero h)
output_of weigh r mem (suc k) zero p z h = refl
output_of weigh r mem (suc k) (suc j) p z h = output_of weigh r mem k j (next r p) z (omega arith)

-- the place after one output more
pub one_on : (r : Rate) (i : ℕ) (p : Place) {q q' : Place} → q ≡ ahead r i p → q' ≡ next r q → q' ≡ ahead r (i + 1) p
one_on r i p e n = n ∙ ap (next r) e ∙ sym (ahead_last r i p) ∙ ap (λ (j : ℕ). ahead r j p) (sym (add-one i))

-- the numbers of a round's outputs
pub numbered : {s : Setting} {p : Place} {inn mem coefs : ℕ} (room : ℕ) {count : ℕ} → RoundFits s p inn mem coefs → count ≡ made (rate_with s 0) inn room p
    → Numbered s p count
numbered {s} {p} {inn} room f e =
    record {
      phase = f.phase;
      position = f.position;
      each = λ j h. omega (arith, made_below (rate_with s 0) inn room p j (omega arith), f.samples_to);
    }

-- and their windows
pub run_fits : {s : Setting} {p : Place} {inn mem coefs : ℕ} (room : ℕ) {count : ℕ} → RoundFits s p inn mem coefs → count ≡ made (rate_with s 0) inn room p
    → RunFits s p count mem
run_fits {s} {p} {inn} room f e =
    record {
      phase = f.phase;
      each = λ j h.
          let below = made_below (rate_with s 0) inn room p j (omega arith) in
          record {
            phase = ahead_phase (rate_with s 0) f.playable.terms.den_from j p f.phase;
            position = omega (arith, below, f.samples_to);
            window = omega (arith, below, f.samples, f.playable.n_some);
          };
    }

-- where output i of a run stands
pub here : {s : Setting} {p : Place} {count mem : ℕ} (i : ℕ) {q : Place} → RunFits s p count mem → q ≡ ahead (rate_with s 0) i p → i < count
    → Stands s q mem
here {s} {p} {count} {mem} i f e h = subst (λ (x : Place). Stands s x mem) (sym e) (f.each i h)

-- the outputs that are left of a run are a run
pub onward : {s : Setting} {p : Place} {count mem : ℕ} (i k : ℕ) {q : Place} → Playable s → RunFits s p count mem → q ≡ ahead (rate_with s 0) i p → i + k ≤ count
    → RunFits s q k mem
onward {s} {p} {count} {mem} i k g f e h =
    subst (λ (x : Place). RunFits s x k mem) (sym e)
    (record {
      phase = ahead_phase r g.terms.den_from i p f.phase;
      each = λ j l. subst (λ (x : Place). Stands s x mem) (ahead_add r i j p) (f.each (i + j) (omega arith));
    })
  where
    r : Rate
    r = rate_with s 0

-- the next output stands no earlier
pub later : (r : Rate) (p : Place) {q : Place} → q ≡ next r p → p.position ≤ q.position
later r p e = rw e (omega arith)

-- the first k of four outputs are those of k places, each from the one before
pub four_values : (s : Setting) (coefs mem : List Float) (k : ℕ) (a b c d : Place) {y : List Float} → k ≤ 4 → y ≡ four_outputs s coefs mem a b c d
    → b ≡ next (rate_with s 0) a → c ≡ next (rate_with s 0) b → (3 < k → d ≡ next (rate_with s 0) c)
    → (j : ℕ) → j < k → get_or y j nan ≡ output (weigh_of s coefs) (rate_with s 0) mem (ahead (rate_with s 0) j a)
four_values s coefs mem k a b c d f e eb ec ed zero h = ap (λ (z : List Float). get_or z 0 nan) e
four_values s coefs mem k a b c d f e eb ec ed (suc zero) h =
    ap (λ (z : List Float). get_or z 1 nan) e ∙ ap (output (weigh_of s coefs) (rate_with s 0) mem) eb
four_values s coefs mem k a b c d f e eb ec ed (suc (suc zero)) h =
    let r = rate_with s 0 in
    ap (λ (z : List Float). get_or z 2 nan) e ∙ ap (output (weigh_of s coefs) r mem) (ec ∙ ap (next r) eb)
four_values s coefs mem k a b c d f e eb ec ed (suc (suc (suc zero))) h =
    let r = rate_with s 0 in
    ap (λ (z : List Float). get_or z 3 nan) e ∙ ap (output (weigh_of s coefs) r mem) (ed (omega arith) ∙ ap (next r) (ec ∙ ap (next r) eb))
four_values s coefs mem k a b c d f e eb ec ed (suc (suc (suc (suc j)))) h = absurd (omega arith)

module _ (s : Setting) (coefs mem : List Float) (p : Place) (count : ℕ) (before : List Float) where
  pub starts : Ran s coefs mem p count 0 p before before
  starts = record { within = omega arith; place = refl; same = refl; out = paste-zero before 0 (outputs (weigh_of s coefs) (rate_with s 0) mem count p) }

  pub goes_on : (i : ℕ) {q q' : Place} {after : List Float} {v : Float} → Ran s coefs mem p count i q before after → i < count → count ≤ length before
      → v ≡ output (weigh_of s coefs) (rate_with s 0) mem q → q' ≡ next (rate_with s 0) q → Ran s coefs mem p count (i + 1) q' before (set after i v)
  goes_on i {q} {q'} {after} {v} f h l e n =
      let weigh = weigh_of s coefs in
      let r = rate_with s 0 in
      let all : List Float = outputs weigh r mem count p in
      let g = pasted.goes_on before 0 all count (record { within = f.within; same = f.same; so_far = f.out }) nan
      (e ∙ ap (output weigh r mem) f.place ∙ sym (output_of weigh r mem count i p nan h)) h (omega arith) (omega (arith, length_outputs weigh r mem count p)) in
      let g' : Pasted before 0 all count (set after i v) (i + 1) = rw (zero-add i) at g in
      record { within = omega arith; place = one_on r i p f.place n; same = g'.same; out = g'.so_far }

  pub recount : {k m : ℕ} {q : Place} {after : List Float} → k ≡ m → Ran s coefs mem p count k q before after → Ran s coefs mem p count m q before after
  recount {q = q} {after = after} e f = subst (λ (j : ℕ). Ran s coefs mem p count j q before after) e f

  -- k outputs more
  laid : (i k : ℕ) (part : List Float) {q q' : Place} {after : List Float} → Ran s coefs mem p count i q before after → i + k ≤ count → count ≤ length before → k ≤ length part
      → ((j : ℕ) → j < k → get_or part j nan ≡ output (weigh_of s coefs) (rate_with s 0) mem (ahead (rate_with s 0) j q)) → q' ≡ ahead (rate_with s 0) k q
      → Ran s coefs mem p count (i + k) q' before (paste after i part k)
  laid i zero part {after = after} f h l m v e =
      let none : i ≡ i + 0 = omega arith in
      rw (e, ← paste-zero after i part) (recount none f)
  laid i (suc k) part {q = q} {after = after} f h l m v e =
      let so_far = laid i k part f (omega arith) l (omega arith) (λ j b. v j (omega arith)) refl in
      let one = goes_on (i + k) so_far (omega arith) l (v k (omega arith)) (e ∙ ahead_last (rate_with s 0) k q) in
      let on : i + k + 1 ≡ i + suc k = omega arith in
      rw (← paste-suc after i part k nan (omega (arith, f.same)) (omega arith)) (recount on one)

  -- as they stand in the output once the part that was lent for them is back
  pub side_by_side : (i k : ℕ) (part : List Float) {q q' : Place} {after : List Float} → Ran s coefs mem p count i q before after → i + k ≤ count → count ≤ length before → k ≡ length part
      → ((j : ℕ) → j < k → get_or part j nan ≡ output (weigh_of s coefs) (rate_with s 0) mem (ahead (rate_with s 0) j q)) → q' ≡ ahead (rate_with s 0) k q
      → Ran s coefs mem p count (i + k) q' before (put_mid i (i + k - i) after part)
  side_by_side i k part {after = after} f h l m v e =
      rw (put_mid-paste i (i + k - i) after part part k refl (omega arith) m) (laid i k part f h l (omega arith) v e)

-- a round: its outputs are made, the smaller of position and samples in is consumed, and the history moves down by that
pub round_wrote : {A : Type 0} {weigh : ℕ → List A → A} {r : Rate} {i : ℕ} {p : Place} {mem : List A} {written : ℕ} {q : Place} {before after : List A}
    → Filled weigh r i p mem written q before after → {c : ℕ} {left : List A} → c ≡ min q.position i → left ≡ paste mem 0 (drop c mem) (r.n - 1)
    → Wrote (play_round weigh r i (length before) p mem) (record { consumed = c; written = written; place = record { position = q.position - c; phase = q.phase } }) left before after
round_wrote {A} {weigh} {r} {i} {p} {mem} {written} {q} {before} {after} f {c} {left} e moved =
    let t : Turn = record { consumed = c; written = written; place = record { position = q.position - c; phase = q.phase } } in
    let same : t ≡ round r i (length before) p = rw (e, ← f.count, ← f.place) in
    record {
      numbers = same;
      mem = moved ∙ ap (λ (u : Turn). paste mem 0 (drop u.consumed mem) (r.n - 1)) same;
      out = rw (← f.count, length_outputs weigh r mem written p) f.out;
    }
