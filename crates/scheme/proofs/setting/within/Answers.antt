-- The closure is the test of one threshold, so all pass it exactly where all are within.
use Rattle.std.proofs.Common.{ℕ, leb, ◌&&◌, rules, tests}
use Rattle.std.proofs.lemmas.Iterator.{YieldsList-from_slice}
use Rattle.std.proofs.lemmas.Iterator.Search.{all_from_yields_List}
use Rattle.scheme.proofs.setting.within.Goals as goal

pub returns : goal.returns
returns c = all_from_yields_List (λ (x : ℕ). leb 1 x && leb x c.args.d) _ _ c.all.result c.all.ensures.ran (YieldsList-from_slice c.args.thresholds.now cc) (λ x b q k. search (rules, tests))
