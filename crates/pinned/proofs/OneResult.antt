-- Two results that a contract allows for the same arguments are equal. Assumes nothing.
use mathlib.Core.Path.{◌≡◌, refl, sym, ◌∙◌, ap}
use mathlib.Core.List.{List}
use Prim.Native.Nat.{ℕ, zero, suc}
use lib.Ieee.{Float}
use Rattle.std.specs.Prelude.{Ok, Err}
use Rattle.quality.specs.declared.QualityMapping.{QualityMapping}
use Rattle.state.specs.declared.ResamplerState.{ResamplerState}
use Rattle.judge.specs.declared.Refusal.{Refusal}
use Rattle.judge.specs.declared.Refusal.TheVariants.{Rate, History, Coefficients, EmptyInput, TooLong, NoRate, State, Mark, Version}
use Rattle.resampler.specs.Answers.{Answer, Told, refused, told}
use Rattle.resampler.specs.Entries.{new_told, skip_told}
use Rattle.resampler.specs.Promises.{SetsRate, Processes, Resets}

-- ---- the answer, from what it tells

-- the refusal whose number is one more
abbrev pub refusal_after : ℕ → Refusal
refusal_after zero = Rate
refusal_after (suc zero) = History
refusal_after (suc (suc zero)) = Coefficients
refusal_after (suc (suc (suc zero))) = EmptyInput
refusal_after (suc (suc (suc (suc zero)))) = TooLong
refusal_after (suc (suc (suc (suc (suc zero))))) = NoRate
refusal_after (suc (suc (suc (suc (suc (suc zero)))))) = State
refusal_after (suc (suc (suc (suc (suc (suc (suc zero))))))) = Mark
refusal_after (suc (suc (suc (suc (suc (suc (suc (suc n)))))))) = Version

-- the answer of a number
abbrev answer_of : ℕ → Told → Answer
answer_of zero t = Ok (record { state = t.state; consumed = record { 0 = t.consumed }; written = record { 0 = t.written } })
answer_of (suc n) t = Err (record { refusal = refusal_after n; state = t.state })

abbrev answered : Told → Answer
answered t = answer_of t.number t

-- which undoes `told`
answered_refused : (r : Refusal) (s : ResamplerState) → answered (refused r s) ≡ Err (record { refusal = r; state = s })
answered_refused Rate s = refl
answered_refused History s = refl
answered_refused Coefficients s = refl
answered_refused EmptyInput s = refl
answered_refused TooLong s = refl
answered_refused NoRate s = refl
answered_refused State s = refl
answered_refused Mark s = refl
answered_refused Version s = refl

answered_told : (a : Answer) → answered (told a) ≡ a
answered_told (Ok a) = refl
answered_told (Err f) = answered_refused f.refusal f.state

told_apart : (a b : Answer) → told a ≡ told b → a ≡ b
told_apart a b e = sym (answered_told a) ∙ ap answered e ∙ answered_told b

-- ---- each call

pub new_pinned : (target : ℕ) (a b : Answer) → told a ≡ new_told target → told b ≡ new_told target → a ≡ b
new_pinned target a b p q = told_apart a b (p ∙ sym q)

pub rate_pinned : {row : QualityMapping} {s : ResamplerState} {source : ℕ} {mem coefs : List Float} {a b : Answer} {m m' c c' : List Float}
    → SetsRate row s source mem coefs a m c → SetsRate row s source mem coefs b m' c' → (a ≡ b) × (m ≡ m') × (c ≡ c')
rate_pinned {a = a} {b = b} p q = (told_apart a b (p.tells ∙ sym q.tells), p.history ∙ sym q.history, p.coefficients ∙ sym q.coefficients)

pub process_pinned : {row : QualityMapping} {s : ResamplerState} {mem coefs input out : List Float} {a b : Answer} {m m' o o' : List Float}
    → Processes row s mem coefs input out a m o → Processes row s mem coefs input out b m' o' → (a ≡ b) × (m ≡ m') × (o ≡ o')
process_pinned {a = a} {b = b} p q = (told_apart a b (p.tells ∙ sym q.tells), p.history ∙ sym q.history, p.output ∙ sym q.output)

pub reset_pinned : {row : QualityMapping} {s : ResamplerState} {mem : List Float} {a b : Answer} {m m' : List Float}
    → Resets row s mem a m → Resets row s mem b m' → (a ≡ b) × (m ≡ m')
reset_pinned {a = a} {b = b} p q = (told_apart a b (p.tells ∙ sym q.tells), p.history ∙ sym q.history)

pub skip_pinned : (row : QualityMapping) (s : ResamplerState) (a b : Answer) → told a ≡ skip_told row s → told b ≡ skip_told row s → a ≡ b
skip_pinned row s a b p q = told_apart a b (p ∙ sym q)
