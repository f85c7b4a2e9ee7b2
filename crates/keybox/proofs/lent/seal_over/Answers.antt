-- The loan comes back under its own name, so the lender knows what the box left.
use Rattle.std.proofs.Common.{[], ◌∷◌, ap, ◌∙◌, append_assoc, rules}
use Rattle.scheme.specs.Zones.{B}
use Rattle.keybox.specs.declared.call.Call.TheVariants.{Seal}
use Rattle.keybox.specs.Lent.{drive, gives_from, seal_calls}
use Rattle.keybox.proofs.Loans.{lent_end}
use Rattle.keybox.proofs.lent.seal_over.Goals as goal

pub returns : goal.returns
returns g c =
    let o = c.open-keybox.ensures in
    let ps = c.args.positions.now in let row = c.args.row.now in
    let p = c.open-keybox.result.profile in
    let did = c.give_and_seal.ensures ∙ ap (drive _) (append_assoc (gives_from 0 ps) (gives_from (B p) row) (Seal ∷ [])) in
    let ends = lent_end c.args.profile c.args.unit _ (g.M.Memory.seen c.args.memory.now) (λ q. seal_calls q ps row) _ _ (g.M.Memory.seen c.open-keybox.result.memory.now) o.state o.seen _ _ _ (g.M.Memory.seen c.give_and_seal.new.keybox.memory.now) did in
    record { result = ends.0; seen = search rules }
