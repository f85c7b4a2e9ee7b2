-- The loan comes back under its own name, so the lender knows its words, those past the memory too.
use Rattle.std.proofs.Common.{◌≡◌, ℕ, List, ap, ◌∙◌, rules}
use Rattle.keybox.specs.Lent.{drive, newly_opened, lent_words, seal_calls}
use Rattle.keybox.proofs.Loans.{lent_words_end, lent_words_answer}
use Rattle.keybox.proofs.lent.seal_words.Goals as goal

pub returns : goal.returns
returns c =
    let p = c.args.profile in let u = c.args.unit in
    let cs = seal_calls p c.args.positions.now c.args.row.now in
    let before = c.over-memory.result.words in
    let same : before.now ≡ c.args.words.now = ap (λ x. x.now) c.over-memory.ensures in
    let ends = lent_words_end p u before.now cs c.seal_over.new.memory.words.ghost_name before.ghost_name c.seal_over.new.memory.words.now c.seal_over.ensures.seen in
    let loan = ends.0 in
    let front = ends.1 ∙ ap (λ (ws : List ℕ). (drive (newly_opened p u (lent_words ws)) cs).memory.words) same in
    let rest = ends.2 in
    record {
      result = c.seal_over.ensures.result ∙ lent_words_answer p u before.now cs before.ghost_name ∙ ap (λ (ws : List ℕ). (drive (newly_opened p u (lent_words ws)) cs).answer) same;
      front = search rules;
      rest = search rules;
    }
