-- `calls::Call::process_magic` plays the round over the magic samples. Assumes nothing.
use Prim.Native.Nat.{◌≤◌}
use native.Mathlib.Omega.{arith}
use lib.ListN.{length}
use Rattle.rates.specs.Rated.{rate_with}
use Rattle.rounds.specs.Output.{weigh_of}
use Rattle.rounds.specs.Rounds.{place_of}
use Rattle.calls.proofs.Magic.{none_wrote, consumes, some_wrote}
use Rattle.calls.proofs.Call.process_magic.Goals as goal
use Rattle.calls.proofs.Call.process_magic.Goals.{After-process_native-turn}

-- the round consumed at most the magic samples
within : (c : After-process_native-turn) → c.process_native-turn.result.consumed.0 ≤ c.args.magic
within c =
    let a = c.args in
    consumes (weigh_of a.self.now.setting a.self.now.coefs.now) (rate_with a.self.now.setting 0) a.magic
    (length a.out.now) (place_of a.place) a.mem.now
    (c.process_native-turn.ensures 0)

pub returns-then-magic-eq0 : goal.returns-then-magic-eq0
returns-then-magic-eq0 c alloc =
    let a = c.args in
    none_wrote (weigh_of a.self.now.setting a.self.now.coefs.now) (rate_with a.self.now.setting alloc) a.magic
    (length a.out.now) (place_of a.place) a.mem.now
    a.out.now c.if-magic-eq0.true

pub overflow_sub-left : goal.overflow_sub-left
overflow_sub-left c = within (goal.at-overflow_sub-left c).After-process_native-turn

pub overflow_add-at : goal.overflow_add-at
overflow_add-at c =
    omega (arith, within (goal.at-overflow_add-at c).After-process_native-turn, c.requires.samples_to, c.requires.playable.n_to)

pub move_within-requires : goal.move_within-requires
move_within-requires c =
    let w = within (goal.at-move_within-requires c).After-process_native-turn in
    (omega (arith, w, c.process_native-turn.auto, c.requires.samples), omega (arith, w, c.process_native-turn.auto, c.requires.samples))

pub returns : goal.returns
returns c alloc =
    let a = c.args in
    some_wrote (weigh_of a.self.now.setting a.self.now.coefs.now) (rate_with a.self.now.setting alloc) a.magic
    (length a.out.now) (place_of a.place) a.mem.now
    (omega (arith, c.if-magic-eq0.false)) (c.process_native-turn.ensures alloc) c.move_within.ensures
