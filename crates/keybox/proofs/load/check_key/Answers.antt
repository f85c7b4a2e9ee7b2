use Rattle.std.proofs.Common.{Some, None, refl, ◌∙◌}
use Rattle.keybox.proofs.KeyChecks.{key_value, pairs_did, key_did}
use Rattle.keybox.proofs.load.check_key.Goals as goal

pub returns-in-Some-outcome : goal.returns-in-Some-outcome
returns-in-Some-outcome g c =
    let p = c.args.profile.now in
    let range = c.in_default.ensures.value in
    let t = c.first_beyond.ensures.did in
    let u = c.note_again.ensures.did in
    let v = c.note_again-2.ensures.did in
    record {
      value = key_value p _ _ _ _ range t u v _ _ (Some _) _ c.none-twice.ensures c.note_again.ensures.noted (c.in-Some-outcome.ensures ∙ c.note_again-2.ensures.noted) refl;
      did = pairs_did p _ _ _ _ range t u v;
    }

pub returns-in-Some-tail_set : goal.returns-in-Some-tail_set
returns-in-Some-tail_set g c =
    let p = c.args.profile.now in
    let range = c.in_default.ensures.value in
    let t = c.first_beyond.ensures.did in
    let u = c.note_again.ensures.did in
    let v = c.note_again-2.ensures.did in
    record {
      value = key_value p _ _ _ _ range t u v _ _ None (Some _) c.none-twice.ensures c.note_again.ensures.noted (c.in_default-outcome.ensures ∙ c.note_again-2.ensures.noted) c.in-Some-tail_set.ensures.value;
      did = key_did p _ _ _ _ range t u v _ c.tail_set.ensures.did;
    }

pub returns : goal.returns
returns g c =
    let p = c.args.profile.now in
    let range = c.in_default.ensures.value in
    let t = c.first_beyond.ensures.did in
    let u = c.note_again.ensures.did in
    let v = c.note_again-2.ensures.did in
    record {
      value = key_value p _ _ _ _ range t u v _ _ None None c.none-twice.ensures c.note_again.ensures.noted (c.in_default-outcome.ensures ∙ c.note_again-2.ensures.noted) c.in_default-tail_set.ensures.value;
      did = key_did p _ _ _ _ range t u v _ c.tail_set.ensures.did;
    }
