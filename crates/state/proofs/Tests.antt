-- Lists of tests: what holds of all holds of each, and where the first fails all do. Assumes nothing.
use mathlib.Core.Path.{◌≡◌, refl, sym, ◌∙◌}
use mathlib.Core.Bool.{Bool, true, false, ◌&&◌, ◌||◌, true≢false}
use mathlib.Core.List.{List, [], ◌∷◌}
use Prim.Native.Nat.{ℕ, zero, suc}
use lib.ListN.{get_or}
use Rattle.sizes.proofs.Tests.{both}
use Rattle.state.specs.Belongs.{and_all, all_hold}

-- one of two tests, not the first
pub second : (a b : Bool) → a ≡ false → a || b ≡ true → b ≡ true
second true b z e = absurd (true≢false z)
second false b z e = e

pub by_test : {A : Type 0} (t : Bool) → (t ≡ true → A) → (t ≡ false → A) → A
by_test true f g = f refl
by_test false f g = g refl

-- ---- where the first fails
pub none_hold : (ts : List Bool) → and_all false ts ≡ false
none_hold [] = refl
none_hold (u ∷ us) = none_hold us

-- ---- a test and then a list of them
pub and_all_lem : (t : Bool) (us : List Bool) → and_all t us ≡ t && all_hold us
and_all_lem true us = refl
and_all_lem false us = none_hold us

-- ---- three tests and then a list of them, where the first holds, and where it fails
pub first_holds : (t u v : Bool) (ws : List Bool) → t ≡ true → and_all (t && u && v) ws ≡ u && v && all_hold ws
first_holds true u v ws e = and_all_lem (u && v) ws
first_holds false u v ws e = absurd (true≢false (sym e))

pub first_fails : (t u v : Bool) (ws : List Bool) → t ≡ false → and_all (t && u && v) ws ≡ false
first_fails true u v ws e = absurd (true≢false e)
first_fails false u v ws e = none_hold ws

-- ---- each test, by its place in the list
shift : (b : Bool) (bs : List Bool) → b ≡ true → ((i : ℕ) → get_or bs i true ≡ true) → (i : ℕ) → get_or (b ∷ bs) i true ≡ true
shift b bs h f zero = h
shift b bs h f (suc i) = f i

pub all_at : (ts : List Bool) (i : ℕ) → all_hold ts ≡ true → get_or ts i true ≡ true
all_at [] i e = refl
all_at (b ∷ bs) i e =
    let p = both b (all_hold bs) (sym (and_all_lem b bs) ∙ e) in
    shift b bs p.0 (λ j. all_at bs j p.1) i
