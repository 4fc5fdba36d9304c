-- `bytes_reader::window_at` meets its contract: what is left there stands at the front, and zeros after it.
use mathlib.Core.Path.{refl}
use Rattle.bytes_reader.proofs.Windows.{rest_is, window_filled, window_whole}
use Rattle.bytes_reader.proofs.window_at.Goals as goal

pub returns-then-rest-ge32 : goal.returns-then-rest-ge32
returns-then-rest-ge32 c =
    let a = c.args in
    window_whole a.s.now _ _ a.at (rest_is a.s.now a.at c.get.result _ _ c.get.ensures.lookup c.unwrap_or-rest.ensures refl) c.if-rest-ge32.true c.front.ensures

pub returns : goal.returns
returns c =
    let a = c.args in
    window_filled a.s.now _ _ a.at _ (rest_is a.s.now a.at c.get.result _ _ c.get.ensures.lookup c.unwrap_or-rest.ensures refl) c.min-n.ensures
    c.copy_from_slice.ensures.after
