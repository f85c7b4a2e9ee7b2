-- The seal that is made after those that give is the last of one list.
use Rattle.keybox.specs.declared.call.Call.TheVariants.{Seal}
use Rattle.keybox.specs.Device.{rotation_count}
use Rattle.keybox.specs.Lent.{given_calls}
use Rattle.keybox.proofs.Driving.{drive_ends}
use Rattle.keybox.proofs.lent.give_and_seal.Goals as goal

pub returns : goal.returns
returns g c =
    let given = given_calls c.args.keybox.now.profile c.args.input.now in
    drive_ends g.M.Memory c.args.keybox.now c.give_input.new.keybox c.seal.new.self given Seal (rotation_count c.seal.result) c.in_ok-give_input.ensures c.seal.ensures
