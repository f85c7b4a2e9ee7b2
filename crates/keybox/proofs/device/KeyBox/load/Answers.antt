use Rattle.std.proofs.Common.{refl}
use Rattle.keybox.specs.Device.{state}
use Rattle.keybox.proofs.Keeping.{made_room, looked_room, load_effect, load_seen, refused_effect, refused_seen}
use Rattle.keybox.proofs.device.KeyBox.load.Goals as goal

pub is_unit-requires : goal.is_unit-requires
is_unit-requires g c =
    made_room c.args.self.now.profile (g.M.Memory.seen c.args.self.now.memory) _ _
    c.in_ok-ready.ensures.room c.in_ok-check_key.ensures.did c.make_products-count.ensures.did

pub keep_key-requires : goal.keep_key-requires
keep_key-requires g c =
    looked_room c.args.self.now.profile (g.M.Memory.seen c.args.self.now.memory) _ _
    c.in_ok-ready.ensures.room c.in_ok-check_key.ensures.did c.make_products-count.ensures.did _ c.is_unit.ensures.did

pub no_inverse-requires : goal.no_inverse-requires
no_inverse-requires g c =
    looked_room c.args.self.now.profile (g.M.Memory.seen c.args.self.now.memory) _ _
    c.in_ok-ready.ensures.room c.in_ok-check_key.ensures.did c.make_products-count.ensures.did _ c.is_unit.ensures.did

pub returns-then-is_unit : goal.returns-then-is_unit
returns-then-is_unit g c =
    let s = state g.M.Memory c.args.self.now in
    let m = g.M.Memory.seen c.args.self.now.memory in
    let room = c.in_ok-ready.ensures.room in
    let ready = c.in_ok-ready.ensures.value in
    let clean = c.in_ok-check_key.ensures.value in
    let checks = c.in_ok-check_key.ensures.did in
    let makes = c.make_products-count.ensures.did in
    let turns = c.make_products-count.ensures.value in
    let tests = c.is_unit.ensures.value in
    let looks = c.is_unit.ensures.did in
    record {
      effect = load_effect s m _ _ _ _ _ refl room _ _ ready clean checks makes tests looks _ turns c.if-is_unit.true c.keep_key.ensures;
      seen = load_seen s m _ _ _ _ _ refl room _ _ ready clean checks makes tests looks _ turns c.if-is_unit.true c.keep_key.ensures;
    }

pub returns-else-is_unit : goal.returns-else-is_unit
returns-else-is_unit g c =
    let s = state g.M.Memory c.args.self.now in
    let m = g.M.Memory.seen c.args.self.now.memory in
    let room = c.in_ok-ready.ensures.room in
    let ready = c.in_ok-ready.ensures.value in
    let clean = c.in_ok-check_key.ensures.value in
    let checks = c.in_ok-check_key.ensures.did in
    let makes = c.make_products-count.ensures.did in
    let tests = c.is_unit.ensures.value in
    let looks = c.is_unit.ensures.did in
    let at = c.no_inverse.ensures.value in
    record {
      effect = refused_effect s m _ _ _ _ _ refl room _ _ ready clean checks makes tests looks _ at c.if-is_unit.false c.no_inverse.ensures.did;
      seen = refused_seen s m _ _ _ _ _ refl room _ _ ready clean checks makes tests looks _ at c.if-is_unit.false c.no_inverse.ensures.did;
    }
