-- Any list of calls plays one line, however its samples are cut up: each call takes the line up where the last one left it. Assumes nothing.
use mathlib.Core.Path.{◌≡◌, refl, sym, ◌∙◌, ap}
use mathlib.Core.Logic.{inr}
use mathlib.Core.List.{List, [], ◌∷◌, ◌++◌}
use Prim.Native.Nat.{ℕ, ◌+◌, ◌-◌, ◌≤◌}
use native.Mathlib.Nat.{not-suc-le-zero}
use native.Mathlib.Omega.{arith}
use lib.ListN.{length, take, drop, take-append-drop, length-take, length-drop}
use lib.Seq.{drop-drop}
use Rattle.timeline.specs.Numbers.{Rate, Place, Called, Fit, still}
use Rattle.timeline.specs.Samples.{Played, unplayed, play_call}
use Rattle.timeline.specs.Recording.{Offer, play_one_more, play_calls}
use Rattle.timeline.specs.Laws.{KeptFrom}
use Rattle.timeline.proofs.Places.{lifted, lifted_none}
use Rattle.timeline.proofs.History.{call_keeps, kept_both}
use Rattle.timeline.proofs.Lines.{Tells, tell_both, call_tells}

-- the last of a list of calls
pub play_calls_last : {A : Type 0} (weigh : ℕ → List A → A) (r : Rate) (xs : List A) (os : List Offer) (o : Offer) (h : Played Called A)
    → play_calls weigh r xs (os ++ (o ∷ [])) h ≡ play_one_more weigh r xs o (play_calls weigh r xs os h)
play_calls_last weigh r xs [] o h = refl
play_calls_last weigh r xs (x ∷ os) o h = play_calls_last weigh r xs os o (play_one_more weigh r xs x h)

module _ {A : Type 0} (weigh : ℕ → List A → A) (r : Rate) (fit : Fit r) where
  -- any calls of a recording of the samples xs, which follow the first n-1+m entries of the line
  pub record Plays (m : ℕ) (p : Place) (xs line before : List A) (h : Played Called A) : Type 0 where
    pub tells : Tells weigh r m (length xs) p line h
    pub kept : KeptFrom r.alloc before h.mem

  module _ (m : ℕ) (p : Place) (xs line before : List A)
      (h : r.alloc ≤ length before) (k : r.n - 1 + m ≤ r.alloc) (f : drop (r.n - 1 + m) line ≡ xs) where
    pub begins : take (r.n - 1 + m) before ≡ take (r.n - 1 + m) line
        → Plays m p xs line before (unplayed (record { turn = still p; magic = m }) before)
    begins e = record {
      tells = record {
        moved = record {
          consumed = omega arith;
          magic = omega arith;
          magic_first = inr refl;
          place = ap (λ (c : ℕ). lifted c p) from_start ∙ lifted_none p;
          below = λ j l. absurd (not-suc-le-zero l);
        };
        sound = refl;
        history = e ∙ ap (λ (c : ℕ). take (r.n - 1 + m) (drop c line)) (sym from_start);
      };
      kept = record { long = refl; excess = refl };
    }
      where
        from_start : m - m + 0 ≡ 0
        from_start = omega arith

    one_more_plays : (o : Offer) (g : Played Called A) → Plays m p xs line before g → Plays m p xs line before (play_one_more weigh r xs o g)
    one_more_plays o g a =
        let at = g.numbers.turn.place in
        let left = g.numbers.magic in
        let c = g.numbers.turn.consumed in
        let from = m - left + c in
        let given = take o.samples (drop c xs) in
        let rest = drop o.samples (drop c xs) in
        let sized : r.alloc ≤ length g.mem = rw a.kept.long h in
        let fits : r.n - 1 + left ≤ r.alloc = omega (arith, a.tells.moved.magic) in
        let unread : from + (r.n - 1 + left) ≡ r.n - 1 + m + c = omega (arith, a.tells.moved.magic) in
        let next : drop (r.n - 1 + left) (drop from line) ≡ given ++ rest =
        drop-drop (r.n - 1 + left) from line
        ∙ ap (λ (x : ℕ). drop x line) unread
        ∙ sym (drop-drop c (r.n - 1 + m) line)
        ∙ ap (drop c) f
        ∙ sym (take-append-drop o.samples (drop c xs)) in
        record {
          tells =
              tell_both weigh r g (play_call weigh r left given o.room at g.mem) a.tells
              (call_tells weigh r fit left (length xs - c) (drop from line) g.mem given rest o.room at
              (simp (length-take, length-drop) (omega arith)) sized fits a.tells.history next);
          kept = kept_both a.kept (call_keeps r weigh fit left given o.room at g.mem sized fits);
        }

    pub calls_play : (os : List Offer) (g : Played Called A) → Plays m p xs line before g
        → Plays m p xs line before (play_calls weigh r xs os g)
    calls_play [] g a = a
    calls_play (o ∷ os) g a = calls_play os (play_one_more weigh r xs o g) (one_more_plays o g a)
