-- `rounds::Player::make_classes` meets its contract: the layout is made from the first window on. Assumes nothing.
use Prim.Native.Nat.{◌+◌, ◌≤◌}
use native.Mathlib.Omega.{arith}
use lib.ListN.{length, length-drop}
use Rattle.kernel.proofs.Parts.{rest}
use Rattle.rounds.proofs.Classes.{layout_fits}
use Rattle.rounds.proofs.Player.make_classes.Goals as goal
use Rattle.rounds.proofs.Player.make_classes.Goals.{Start}

-- the first window lies within the history
first : (c : Start) → c.args.place.position + c.args.self.now.setting.filt_len ≤ length c.args.self.now.mem.now
first c = (c.requires.0.each 0 (omega (arith, c.requires.2.some))).window

pub offset_bounds-self-at : goal.offset_bounds-self-at
offset_bounds-self-at c = omega (arith, first (goal.at-offset_bounds-self-at c).Start)

pub slice_bounds-lay_out-count : goal.slice_bounds-lay_out-count
slice_bounds-lay_out-count c = omega (arith, first (goal.at-slice_bounds-lay_out-count c).Start)

pub slice_bounds-lay_out-start : goal.slice_bounds-lay_out-start
slice_bounds-lay_out-start c = omega (arith, first (goal.at-slice_bounds-lay_out-start c).Start)

pub lay_out-requires : goal.lay_out-requires
lay_out-requires c =
    rw (rest, length-drop) (layout_fits c.args.self.now.playable c.requires.0 c.requires.2)

pub fill_classes-requires : goal.fill_classes-requires
fill_classes-requires c =
    record { run_fits = (c.requires.0, c.requires.1, c.requires.2, omega (arith, c.lay_out.auto)); woven = simp rest at c.lay_out.ensures }
