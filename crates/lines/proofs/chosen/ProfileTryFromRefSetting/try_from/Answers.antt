-- A setting that is granted leaves a profile with the numbers asked for, and there is but one.
use Rattle.std.proofs.Common.{◌≡◌, true, sym, ap, ◌∙◌}
use Rattle.std.proofs.lemmas.Bool.{cond-true}
use Rattle.scheme.specs.Setting.{lawful, numbers, chosen_numbers}
use Rattle.lines.specs.Chosen.{profile_of}
use Rattle.lines.specs.Commands.{kept}
use Rattle.lines.proofs.Profiles.{profile_granted}
use Rattle.lines.proofs.chosen.ProfileTryFromRefSetting.try_from.Goals as goal

pub returns : goal.returns
returns c =
    let s = c.args.setting.now in
    let r = s.r in let d = s.d in let t = s.t in let ts = c.as_slice-thresholds.result.now in
    let same : ts ≡ kept s.thresholds = c.as_slice-thresholds.ensures.value in
    let h : lawful r d t ts ≡ true = sym c.in_ok-set.ensures.granted in
    let n = c.in_ok-set.ensures.numbers ∙ cond-true (lawful r d t ts) (chosen_numbers r d t ts) (numbers c.standard-profile.result) h in
    profile_granted r d t ts h c.set.new.self n ∙ ap (profile_of r d t) same
