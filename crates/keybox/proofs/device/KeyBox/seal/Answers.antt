use Rattle.std.proofs.Common.{refl}
use Rattle.keybox.specs.Device.{state}
use Rattle.keybox.proofs.Sealing.{seal_effect, seal_seen}
use Rattle.keybox.proofs.device.KeyBox.seal.Goals as goal

pub returns : goal.returns
returns g c =
    let s = state g.M.Memory c.args.self.now in
    let ready = c.in_ok-ready.ensures.value in
    let clean = c.in_ok-check_errors.ensures.value in
    let checks = c.in_ok-check_errors.ensures.did in
    record {
      effect = seal_effect s (g.M.Memory.seen c.args.self.now.memory) _ _ _ refl _ _ ready clean checks c.publish_syndrome.ensures.value c.publish_syndrome.ensures.did;
      seen = seal_seen s (g.M.Memory.seen c.args.self.now.memory) _ _ _ refl _ _ ready clean checks c.publish_syndrome.ensures.value c.publish_syndrome.ensures.did;
    }
