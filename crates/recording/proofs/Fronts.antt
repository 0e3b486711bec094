-- The first calls of a recording are a recording, so whatever holds of every recording holds after each of its calls. Assumes nothing.
use mathlib.Core.Path.{◌≡◌}
use mathlib.Core.List.{List, [], ◌∷◌, ◌++◌}
use lib.Ieee.{Float}
use Rattle.quality.specs.declared.QualityMapping.{QualityMapping}
use Rattle.recording.specs.Recording.{Call, Recording, Progress, whole_input, opened, after, after_all, finished, Follows, AllFollow, MadeUnder, with_calls}

module _ (row : QualityMapping) (xs : List Float) where
  -- the calls of the front follow
  front_follows : (h : Progress) (cs ds : List Call) → AllFollow row xs h (cs ++ ds) → AllFollow row xs h cs
  front_follows h [] ds f = tt
  front_follows h (c ∷ cs) ds f = (f.0, front_follows (after h c) cs ds f.1)

  -- and so does the next one
  next_follows : (h : Progress) (cs : List Call) (c : Call) (ds : List Call) → AllFollow row xs h (cs ++ (c ∷ ds)) → Follows row xs (after_all h cs) c
  next_follows h [] c ds f = f.0
  next_follows h (b ∷ cs) c ds f = next_follows (after h b) cs c ds f.1

module _ (row : QualityMapping) (r : Recording) (m : MadeUnder row r) (cs : List Call) where
  pub every_front : (ds : List Call) → r.calls ≡ cs ++ ds → MadeUnder row (with_calls r cs)
  every_front ds e =
      record {
        source_in = m.source_in;
        target_in = m.target_in;
        history = m.history;
        coefficients = m.coefficients;
        new = m.new;
        rate = m.rate;
        calls = front_follows row (whole_input row r) (opened r) cs ds (rw e at m.calls);
      }

  pub every_call : (c : Call) (ds : List Call) → r.calls ≡ cs ++ (c ∷ ds) → Follows row (whole_input row r) (finished (with_calls r cs)) c
  every_call c ds e = next_follows row (whole_input row r) (opened r) cs c ds (rw e at m.calls)
