-- `update::update_filter` meets its contract: what the verdict says gives what each callee asks for. Assumes nothing.
use mathlib.Core.Path.{ap}
use native.Mathlib.Omega.{arith}
use lib.ListN.{length}
use Rattle.rates.specs.declared.Setting.{Setting}
use Rattle.reshape.specs.declared.Change.{Change}
use Rattle.update.proofs.Updates.{RateReady, rate_ready}
use Rattle.update.proofs.update_filter.Goals as goal
use Rattle.update.proofs.update_filter.Goals.{Start}

-- what the verdict says
known : (c : Start) → RateReady c.args.row c.args.state c.args.source (length c.args.mem.now) (length c.args.coefs.now)
known c = rate_ready c.args.row c.requires.0 c.args.state c.args.source (length c.args.mem.now) (length c.args.coefs.now) c.requires.1 c.requires.2

pub new-setting-requires : goal.new-setting-requires
new-setting-requires c = let k = known (goal.at-new-setting-requires c).Start in (c.requires.0, k.source_in, k.standing.target)

pub change-change-requires : goal.change-change-requires
change-change-requires c = let k = known (goal.at-change-change-requires c).Start in rw c.new-setting.ensures (omega (arith, k.setting), k.setting.history_to)

pub reshape_history-magic-requires : goal.reshape_history-magic-requires
reshape_history-magic-requires c =
    let k = known (goal.at-reshape_history-magic-requires c).Start in
    rw (c.change-change.ensures, c.new-setting.ensures) k.change

pub fill_table-requires : goal.fill_table-requires
fill_table-requires c =
    let k = known (goal.at-fill_table-requires c).Start in
    rw c.new-setting.ensures k.table

pub overflow_cast-alloc : goal.overflow_cast-alloc
overflow_cast-alloc c =
    let k = known (goal.at-overflow_cast-alloc c).Start in
    let e = ap (λ (h : Change). h.mem_alloc_size) c.change-change.ensures in
    let f = ap (λ (t : Setting). t.filt_len) c.new-setting.ensures in
    omega (arith, k.alloc_to)

pub overflow_cast-magic : goal.overflow_cast-magic
overflow_cast-magic c =
    let k = known (goal.at-overflow_cast-magic c).Start in
    let e = c.reshape_history-magic.ensures.0 in
    let f = rw (c.change-change.ensures, c.new-setting.ensures) at e in
    omega (arith, k.magic_to)

pub with_setting-requires : goal.with_setting-requires
with_setting-requires c =
    let k = known (goal.at-with_setting-requires c).Start in
    (k.standing.den, rw c.new-setting.ensures k.setting.terms.den_from)

pub returns : goal.returns
returns c =
    let setting = c.new-setting.ensures in
    let change = c.change-change.ensures in
    let history = c.reshape_history-magic.ensures in
    record { value = rw (c.with_setting.ensures, history.0, change, setting); mem_after = rw (history.1, change, setting); coefs_after = rw (c.fill_table.ensures, setting) }
