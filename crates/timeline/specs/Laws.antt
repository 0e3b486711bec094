-- "One output, one call" and demand 3: what is claimed of calls and recordings. Assumes nothing.
use Rattle.std.specs.Prelude.{◌≡◌, ◌⊎◌, List, ℕ, ◌+◌, ◌-◌, ◌*◌, ◌/◌, ◌≤◌, ◌<◌, length, take, drop}
use Rattle.timeline.specs.Numbers.{Rate, Place, Turn, Called}
use Rattle.timeline.specs.Samples.{Played}
use Rattle.timeline.specs.Recording.{stream_position}

-- one call with m magic samples, `inn` samples in and `room` outputs, from place p
pub record CallLaw (r : Rate) (m inn room : ℕ) (p : Place) (c : Called) : Type 0 where
  pub consumed : c.turn.consumed ≤ inn
  pub written : c.turn.written ≤ room
  pub magic : c.magic ≤ m
  pub magic_first : (c.magic ≡ 0) ⊎ (c.turn.consumed ≡ 0)
  pub law : r.den * (m - c.magic + c.turn.consumed + c.turn.place.position) + c.turn.place.phase
      ≡ r.den * p.position + p.phase + c.turn.written * r.num
  pub phase : c.turn.place.phase < r.den

-- a lent slice, before and after: it kept its length, and its entries from `from` on
pub record KeptFrom {A : Type 0} (from : ℕ) (before after : List A) : Type 0 where
  pub long : length after ≡ length before
  pub excess : drop from after ≡ drop from before

-- a recording, after T samples consumed and k outputs: den*(T+position)+phase is den*(n/2)+k*num
pub record Law (r : Rate) (t : Turn) : Type 0 where
  pub law : r.den * (t.consumed + t.place.position) + t.place.phase ≡ r.den * (r.n / 2) + t.written * r.num
  pub phase : t.place.phase < r.den

-- all samples are read
abbrev pub AllRead : {A : Type 0} → List A → Played Called A → Type 0
AllRead xs h = h.numbers.turn.consumed ≡ length xs

-- k is x/y rounded up, as the least number whose product with y reaches x
pub record Ceiling (x y k : ℕ) : Type 0 where
  pub enough : x ≤ k * y
  pub least : (j : ℕ) → j < k → j * y < x

-- the same as a quotient
abbrev pub upwards : ℕ → ℕ → ℕ
upwards x y = (x + y - 1) / y

-- two recordings that differ at most in samples a to b-1
pub record DifferWithin {A : Type 0} (a b : ℕ) (s t : List A) : Type 0 where
  pub long : length s ≡ length t
  pub early : take a s ≡ take a t
  pub late : drop b s ≡ drop b t

-- the window of output k misses samples a to b-1
abbrev pub Misses : Rate → ℕ → ℕ → ℕ → Type 0
Misses r a b k = (stream_position r k < a) ⊎ (b + r.n - 1 ≤ stream_position r k)
