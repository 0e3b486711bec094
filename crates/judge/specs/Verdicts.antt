-- Document 01, "Refusal numbers": what each call is told to do, by tests in 01's order of which the first that holds decides.
-- memLen, coefsLen, inn and room are the lengths of the history, the coefficients, the input and the output that are lent.
-- Assumes nothing.
use Rattle.std.specs.Prelude.{ℕ, max, Bool, cond, not, ◌||◌, eqb, ltb, Result, Ok, Err}
use Rattle.sizes.specs.Sizes.{in_limits, history_needed}
use Rattle.quality.specs.declared.QualityMapping.{QualityMapping}
use Rattle.rates.specs.Setting.{setting_of}
use Rattle.rates.specs.declared.Setting.{Setting}
use Rattle.state.specs.State.{setting_in}
use Rattle.state.specs.Belongs.{belongs_together}
use Rattle.state.specs.declared.ResamplerState.{ResamplerState}
use Rattle.judge.specs.Refusals.{max_call}
use Rattle.judge.specs.declared.Refusal.{Refusal}
use Rattle.judge.specs.declared.Refusal.TheVariants.{Rate, History, Coefficients, EmptyInput, TooLong, NoRate, State}

-- what becomes of a call: it is accepted, or refused for this reason
abbrev pub Verdict : Type 0
Verdict = Result (Unit {0}) Refusal

abbrev pub accept : Verdict
accept = Ok tt

-- if the test holds the call is refused so, else the rest decides
abbrev pub refuse_if : Bool → Refusal → Verdict → Verdict
refuse_if test refusal rest = cond test (Err refusal) rest

-- how long the history is once a setting is set: the larger of alloc and n+159
abbrev pub history_after : ResamplerState → Setting → ℕ
history_after s setting = max s.mem_alloc_size (history_needed setting.filt_len)

-- new state: 1
unfoldable pub new_verdict : ℕ → Verdict
new_verdict target = refuse_if (not (in_limits target)) Rate accept

-- set rate: 7, 1, the same rate again, 2, 3
unfoldable pub rate_verdict : QualityMapping → ResamplerState → ℕ → ℕ → ℕ → Verdict
rate_verdict row s source memLen coefsLen =
    let setting = setting_of row source s.target in
    refuse_if (not (belongs_together row s)) State
    (refuse_if (not (in_limits source)) Rate
    (cond (eqb s.source source) accept
    (refuse_if (ltb memLen (history_after s setting)) History
    (refuse_if (ltb coefsLen setting.coefs) Coefficients
    accept))))

-- process: 7, 6, 2, 3, 4, 5
unfoldable pub process_verdict : QualityMapping → ResamplerState → ℕ → ℕ → ℕ → ℕ → Verdict
process_verdict row s memLen coefsLen inn room =
    refuse_if (not (belongs_together row s)) State
    (refuse_if (eqb s.source 0) NoRate
    (refuse_if (ltb memLen s.mem_alloc_size) History
    (refuse_if (ltb coefsLen (setting_in s).coefs) Coefficients
    (refuse_if (eqb inn 0) EmptyInput
    (refuse_if (ltb max_call inn || ltb max_call room) TooLong
    accept)))))

-- reset: 7, 2
unfoldable pub reset_verdict : QualityMapping → ResamplerState → ℕ → Verdict
reset_verdict row s memLen =
    refuse_if (not (belongs_together row s)) State (refuse_if (ltb memLen s.mem_alloc_size) History accept)

-- skip: 7
unfoldable pub skip_verdict : QualityMapping → ResamplerState → Verdict
skip_verdict row s = refuse_if (not (belongs_together row s)) State accept
