use Rattle.memory.proofs.Windows.{place_put}
use Rattle.memory.proofs.window.WindowMemory.put_within.Goals as goal

pub returns : goal.returns
returns g c = record { did = place_put _ _ (g.M.Memory.seen c.args.self.now.below) _ _ c.requires c.place-place.ensures _ c.args.w c.put_within.ensures.did }
