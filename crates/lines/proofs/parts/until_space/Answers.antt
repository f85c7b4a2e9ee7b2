-- The search for a space ends at the first one, or at the end.
use Rattle.std.proofs.Common.{◌≡◌, ℕ, ◌≤◌, cond, ltb, length, None, Some, ap, ◌∙◌, arith, rules, tests, not}
use Rattle.std.specs.List.{position_or_len}
use Rattle.std.specs.Option.{unwrap_or}
use Rattle.std.proofs.lemmas.Iterator.{YieldsList-from_slice}
use Rattle.std.proofs.lemmas.Iterator.Search.{position_from_yields_List}
use Rattle.std.proofs.lemmas.List.Sums.{prefix_len-le-length}
use Rattle.lines.proofs.Pieces.{is_space, headed_first}
use Rattle.lines.proofs.parts.until_space.Goals as goal

found_or_end : (n m : ℕ) → n ≤ m → unwrap_or (cond (ltb n m) (Some n) None) m ≡ n
found_or_end n m h = grind arith

pub returns-clause-value : goal.returns-clause-value
returns-clause-value c =
    let xs = c.args.text.now in
    let n = position_or_len is_space xs in
    let found = position_from_yields_List is_space _ _ c.position.result c.position.ensures.ran (YieldsList-from_slice xs cc) (λ x b q k. search (rules, tests)) in
    let e : c.unwrap_or-end.result ≡ n =
    c.unwrap_or-end.ensures ∙ ap (λ o. unwrap_or o (length xs)) found ∙ found_or_end n (length xs) (prefix_len-le-length (λ x. not (is_space x)) xs) in
    rw (c.split_at.ensures.front, c.split_at.ensures.back, e) (headed_first xs)
