-- `stages::feed` meets its contract, from what decoding, the call and the odd byte leave (`proofs/Laws.antt`). Assumes nothing.
use mathlib.Core.Path.{refl}
use Rattle.stages.proofs.Laws.{feeds}
use Rattle.stages.proofs.feed.Goals as goal

pub returns : goal.returns
returns c =
    let a = c.args in
    let odd = c.keep_odd-kept in
    feeds a.kept.now _ a.bytes.now odd.new.bytes c.requires.bytes_in_bounds c.decode-count.ensures c.pull-pulled.ensures (odd.ensures.bytes_after, odd.ensures.value) refl refl
