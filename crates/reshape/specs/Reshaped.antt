-- "Setting a rate" of document 01, from "alloc becomes" on: the history and the number of magic samples after a change of the filter's length.
-- `paste d at s n` is the library's: d, where the n entries from `at` on take the first n of s. So every copy reads values as they were before it.
-- old and n are the filter's length before and after, m the magic samples before.
-- Assumes nothing.
use Rattle.std.specs.Prelude.{ℕ, ◌+◌, ◌-◌, ◌*◌, ◌/◌, ◌≤◌, ◌<◌, ◌≡◌, List, cond, ltb, eqb, drop, Float}
use Rattle.std.proofs.Math.Seq.{paste}
use Rattle.history.specs.Zeroed.{zeroed}
use Rattle.reshape.specs.declared.Change.{Change}

-- h, where entries by..by+count-1 take entries 0..count-1, and those below become 0.0
abbrev pub raised : List Float → ℕ → ℕ → List Float
raised h by count = zeroed (paste h by h count) 0 by

-- ---- n longer than old

-- the first of two copies: the old - 1 entries that the old filter kept go up by m, with 0.0 in the m entries below them
abbrev pub first_copy : List Float → ℕ → ℕ → List Float
first_copy h old m = raised h m (old - 1)

-- both copies. The second goes by e = old + 2m: where n is above e, the first e - 1 entries go up until they end at entry n - 2, with 0.0 below them;
-- where it is not, n - 1 + p entries go down by p = (e-n)/2
abbrev pub longer : List Float → ℕ → ℕ → ℕ → List Float
longer h old n m =
    let f = first_copy h old m in
    let e = old + 2 * m in
    let p = (e - n) / 2 in
    cond (ltb e n) (raised f (n - e) (e - 1)) (paste f 0 (drop p f) (n - 1 + p))

-- how many magic samples that leaves: none where n is above e, p where it is not
abbrev pub longer_magic : ℕ → ℕ → ℕ → ℕ
longer_magic old n m =
    let e = old + 2 * m in
    cond (ltb e n) 0 ((e - n) / 2)

-- ---- n shorter than old

-- down by s = (old-n)/2 go the n - 1 entries that the new filter keeps and the s + m magic samples after them
abbrev pub shorter : List Float → ℕ → ℕ → ℕ → List Float
shorter h old n m =
    let s = (old - n) / 2 in
    paste h 0 (drop s h) (n - 1 + s + m)

-- how many magic samples that leaves: to the m before come s that the new filter no longer keeps
abbrev pub shorter_magic : ℕ → ℕ → ℕ → ℕ
shorter_magic old n m = m + (old - n) / 2

-- ---- any change

-- the history, where it grew, is 0.0 from its old length on
abbrev pub grown : List Float → Change → List Float
grown h c = zeroed h c.old_alloc_size (c.mem_alloc_size - c.old_alloc_size)

-- the history after a change. Where no round has run yet it is 0.0 up to alloc; otherwise the greater of the two lengths decides, and equal ones
-- move nothing
abbrev pub reshaped_history : List Float → Change → List Float
reshaped_history h c =
    let old = c.old_length in
    let n = c.filt_len in
    let m = c.magic_samples in
    cond (eqb c.started 0) (zeroed (grown h c) 0 c.mem_alloc_size)
    (cond (ltb old n) (longer (grown h c) old n m)
    (cond (ltb n old) (shorter (grown h c) old n m) (grown h c)))

-- the magic samples after a change: as many as before where no round has run yet, or where the lengths are equal
abbrev pub reshaped_magic : Change → ℕ
reshaped_magic c =
    let old = c.old_length in
    let n = c.filt_len in
    let m = c.magic_samples in
    cond (eqb c.started 0) m
    (cond (ltb old n) (longer_magic old n m)
    (cond (ltb n old) (shorter_magic old n m) m))

-- what a change of rate knows of its numbers, `len` being the lent slice's length: alloc never shrinks and holds the new filter, and a state that was started has an old filter whose history and magic samples lie within the old alloc
pub record ChangeFits (len : ℕ) (c : Change) : Type 0 where
  pub grows : c.old_alloc_size ≤ c.mem_alloc_size
  pub lent : c.mem_alloc_size ≤ len
  pub holds : c.filt_len ≤ c.mem_alloc_size
  pub some : 0 < c.filt_len
  pub before : (c.started ≡ 0 → ⊥) → (0 < c.old_length) × (c.old_length + 2 * c.magic_samples ≤ c.old_alloc_size)
