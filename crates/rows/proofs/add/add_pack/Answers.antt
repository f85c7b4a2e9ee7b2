-- The word, the planes out, the bits joined, and the planes back, as one promise.
use Rattle.rows.proofs.Adding.{pack_added}
use Rattle.rows.proofs.add.add_pack.Goals as goal

pub returns : goal.returns
returns g c =
    record { did = pack_added _ _ _ _ g.L.Lanes.add (g.L.Lanes.plane c.join.new.self) (g.L.Lanes.plane c.load-pack.result) _ _ _ g.L.Lanes.depth _ c.get_within-word.ensures.did c.get_within-word.ensures.value c.load-pack.ensures.did c.load-pack.ensures.planes c.join.ensures c.store.ensures.did c.store.ensures.planes }
